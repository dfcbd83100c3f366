-- The words that the C interface has for a frame (RDS.md, section 6, "Words of a frame").
use Rattle.std.specs.Prelude.{ℕ, List, [], ◌∷◌, ◌++◌, is_some}
use Rattle.std.specs.Option.{unwrap_or}
use Rattle.base_lists.specs.Seq.{bit}
use Rattle.rds_frame.specs.declared.Kind.{Kind}
use Rattle.rds_frame.specs.declared.Kind.TheVariants as K
use Rattle.rds_frame.specs.declared.Head.{Head}
use Rattle.rds_entries.specs.declared.Entry.{Entry}
use Rattle.rds_body.specs.declared.Body.{Body}
use Rattle.rds_body.specs.declared.Body.TheVariants as B
use Rattle.rds_reading.specs.declared.Frame.{Frame}

-- section 6: "0: 1 I, 2 S, 3 UI, 4 U", "1; 2, 3: ADS; Source Port, Destination Port", "4; 5; 6; 7; 8: A; N(S); N(R); R; N(U)", "9, 10: M; 0 command, 1 response"; words that the frame hasn't are 0
unfoldable pub kind_words : Kind → ℕ → ℕ → ℕ → List ℕ
kind_words (K.I a ns nr r) ads s d = 1 ∷ ads ∷ s ∷ d ∷ bit a ∷ ns ∷ nr ∷ r ∷ 0 ∷ 0 ∷ 0 ∷ []
kind_words (K.S a nr r) ads s d = 2 ∷ ads ∷ s ∷ d ∷ bit a ∷ 0 ∷ nr ∷ r ∷ 0 ∷ 0 ∷ 0 ∷ []
kind_words (K.Ui nu) ads s d = 3 ∷ ads ∷ s ∷ d ∷ 0 ∷ 0 ∷ 0 ∷ 0 ∷ nu ∷ 0 ∷ 0 ∷ []
kind_words (K.U m response) ads s d = 4 ∷ ads ∷ s ∷ d ∷ 0 ∷ 0 ∷ 0 ∷ 0 ∷ 0 ∷ m ∷ bit response ∷ []

unfoldable pub head_words : Head → List ℕ
head_words h = kind_words h.kind (bit h.ads) h.source h.destination

-- section 6: "11, 12: start, length of the information", "13; 14: Action; Status", "15, 16, 17, 18; 19: Source Port, Destination Port of the body, start, length of the Application ID; Serialization Format", "20, 21; 22: 1 where the optional bitmap is there, the bitmap as a number; number of entries"; 23 is 0
unfoldable pub body_words : Body → List ℕ
body_words B.Empty = 0 ∷ 0 ∷ 0 ∷ 0 ∷ 0 ∷ 0 ∷ 0 ∷ 0 ∷ 0 ∷ 0 ∷ 0 ∷ 0 ∷ 0 ∷ []
body_words (B.Information a l) = a ∷ l ∷ 0 ∷ 0 ∷ 0 ∷ 0 ∷ 0 ∷ 0 ∷ 0 ∷ 0 ∷ 0 ∷ 0 ∷ 0 ∷ []
body_words (B.Asking n s d a l f) = 0 ∷ 0 ∷ n ∷ 0 ∷ s ∷ d ∷ a ∷ l ∷ f ∷ 0 ∷ 0 ∷ 0 ∷ 0 ∷ []
body_words (B.Answer n f t) = 0 ∷ 0 ∷ n ∷ t ∷ 0 ∷ 0 ∷ 0 ∷ 0 ∷ f ∷ 0 ∷ 0 ∷ 0 ∷ 0 ∷ []
body_words (B.Query n p) = 0 ∷ 0 ∷ n ∷ 0 ∷ 0 ∷ 0 ∷ 0 ∷ 0 ∷ 0 ∷ bit (is_some p) ∷ unwrap_or p 0 ∷ 0 ∷ 0 ∷ []
body_words (B.List n p c) = 0 ∷ 0 ∷ n ∷ 0 ∷ 0 ∷ 0 ∷ 0 ∷ 0 ∷ 0 ∷ bit (is_some p) ∷ unwrap_or p 0 ∷ c ∷ 0 ∷ []

-- section 6: "entry k: Source Port, Destination Port, start and length of its Application ID, Serialization Format"
unfoldable pub entry_words : Entry → List ℕ
entry_words e = e.source ∷ e.destination ∷ e.start ∷ e.len ∷ e.format ∷ []

-- section 6: "24 + 5k to 28 + 5k, k = 0 to 14"
unfoldable pub entries_words : List Entry → List ℕ
entries_words [] = []
entries_words (e ∷ l) = entry_words e ++ entries_words l

-- words 24 to 99; 99 is 0
unfoldable pub list_words : List Entry → List ℕ
list_words l = entries_words l ++ (0 ∷ [])

-- the words of a frame
unfoldable pub words_of : Frame → List ℕ
words_of f = head_words f.head ++ (body_words f.body ++ list_words f.list)

-- section 6, PART: "0 the kind; 1 start and 2 length of the information of I and UI, 0 and 0 for S and U; 3 ADS, 4 Source Port, 5 Destination Port of the header; 6 N(S) of an I, N(U) of a UI frame, else 0; 7 zero"
unfoldable pub part_by : Kind → ℕ → ℕ → ℕ → ℕ → ℕ → List ℕ
part_by (K.I a ns nr r) start len ads s d = 1 ∷ start ∷ len ∷ ads ∷ s ∷ d ∷ ns ∷ 0 ∷ []
part_by (K.S a nr r) start len ads s d = 2 ∷ 0 ∷ 0 ∷ ads ∷ s ∷ d ∷ 0 ∷ 0 ∷ []
part_by (K.Ui nu) start len ads s d = 3 ∷ start ∷ len ∷ ads ∷ s ∷ d ∷ nu ∷ 0 ∷ []
part_by (K.U m response) start len ads s d = 4 ∷ 0 ∷ 0 ∷ ads ∷ s ∷ d ∷ 0 ∷ 0 ∷ []

unfoldable pub part_words : Head → ℕ → List ℕ
part_words h len = part_by h.kind h.end len (bit h.ads) h.source h.destination
