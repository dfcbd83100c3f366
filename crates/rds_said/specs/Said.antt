-- The frame that 100 words say (RDS.md, section 6, "Words of a frame"), whatever is wrong with it: too wide a value is cut to its place, and a word that the frame hasn't is passed over.
use Rattle.std.specs.Prelude.{ℕ, ◌+◌, ◌*◌, ◌/◌, ◌%◌, List, Bool, true, false, get_or, ltb, eqb, Option, Some, None}
use Rattle.std.specs.Option.{option_map}
use Rattle.base_lists.specs.Seq.{pick, tab}
use Rattle.rds_frame.specs.declared.Kind.{Kind}
use Rattle.rds_frame.specs.declared.Kind.TheVariants as K
use Rattle.rds_frame.specs.declared.Head.{Head}
use Rattle.rds_frame.specs.Frame.{u_kind}
use Rattle.rds_entries.specs.declared.Entry.{Entry}
use Rattle.rds_entries.specs.Entries.{no_entry}
use Rattle.rds_body.specs.declared.Body.{Body}
use Rattle.rds_body.specs.declared.Body.TheVariants as B
use Rattle.rds_body.specs.declared.Form.{Form}
use Rattle.rds_body.specs.declared.Form.TheVariants as F
use Rattle.rds_body.specs.Body.{form_of}
use Rattle.rds_reading.specs.declared.Frame.{Frame}

-- section 6: the word i of a frame
abbrev pub word : List ℕ → ℕ → ℕ
word w i = get_or w i 0

-- a flag is set where its word is 1
abbrev pub set? : List ℕ → ℕ → Bool
set? w i = eqb (word w i) 1

-- section 6: "0: 1 I, 2 S, 3 UI, 4 U", "4; 5; 6; 7; 8: A; N(S); N(R); R; N(U)", "9, 10: M; 0 command, 1 response"; a U frame that the table of M and direction hasn't is none
unfoldable pub kind_said : List ℕ → Option Kind
kind_said w =
    pick (eqb (word w 0) 1) (Some (K.I (set? w 4) (word w 5 % 8) (word w 6 % 8) (word w 7 % 8)))
    (pick (eqb (word w 0) 2) (Some (K.S (set? w 4) (word w 6 % 8) (word w 7 % 8)))
    (pick (eqb (word w 0) 3) (Some (K.Ui (word w 8 % 8)))
    (pick (eqb (word w 0) 4) (u_kind (word w 9 % 16) (set? w 10)) None)))

-- section 6: "1; 2, 3: ADS; Source Port, Destination Port of the header", these where ADS is 1; where the header ends, the words don't say
abbrev pub head_by : List ℕ → Kind → Head
head_by w k =
    pick (set? w 1)
    (record { kind = k; ads = true; source = word w 2 % 16; destination = word w 3 % 16; end = 0 })
    (record { kind = k; ads = false; source = 0; destination = 0; end = 0 })

unfoldable pub head_said : List ℕ → Option Head
head_said w = option_map (head_by w) (kind_said w)

-- section 2: a Serialization Format is a number 0 to 7, where there is one
unfoldable pub format_said : ℕ → Bool → ℕ
format_said x there = pick there (x % 8) 0

-- section 2: a bitmap has the ports 1 to 15, where there is one
unfoldable pub ports_said : ℕ → Bool → Option ℕ
ports_said x there = pick there (Some (x % 65536 / 2 * 2)) None

-- section 6: "15, 16, 17, 18; 19: Source Port, Destination Port of the body, start, length of the Application ID; Serialization Format"
unfoldable pub asking_said : List ℕ → ℕ → Body
asking_said w a = B.Asking a (word w 15 % 16) (word w 16 % 16) (word w 17) (word w 18) (format_said (word w 19) (eqb a 5))

-- section 2: the body of an Action, by its form
abbrev pub form_said : List ℕ → ℕ → Form → Body
form_said w a F.Asking = asking_said w a
form_said w a F.Answer = B.Answer a (format_said (word w 19) (eqb a 5)) (word w 14 % 4)
form_said w a F.Query = B.Query a (ports_said (word w 21) (set? w 20))
form_said w a F.List = B.List a (ports_said (word w 21) (set? w 20)) (word w 22 % 16)

-- section 6: "13; 14: Action; Status", "20, 21; 22: the optional bitmap; number of entries"
unfoldable pub manage_said : List ℕ → Bool → Option Body
manage_said w response = option_map (form_said w (word w 13 % 16)) (form_of (word w 13 % 16) response)

-- section 6: "11, 12: start, length of the information"
abbrev pub information_said : List ℕ → Body
information_said w = B.Information (word w 11) (word w 12)

-- section 1, "M4..M1": the information of a U frame; of MANAGE_PORT "ADS is 0"
unfoldable pub u_said : List ℕ → ℕ → Bool → Bool → Option Body
u_said w m response ads =
    pick (eqb m 1) (Some B.Empty)
    (pick (eqb m 4) (Some B.Empty)
    (pick (eqb m 10) (pick ads None (manage_said w response)) (Some (information_said w))))

-- section 1, "Information": by the kind of the frame
unfoldable pub body_said : List ℕ → Bool → Kind → Option Body
body_said w ads (K.I a ns nr r) = Some (information_said w)
body_said w ads (K.S a nr r) = Some B.Empty
body_said w ads (K.Ui nu) = Some (information_said w)
body_said w ads (K.U m response) = u_said w m response ads

-- section 6: "24 + 5k to 28 + 5k, k = 0 to 14: entry k", of which there are `count`
unfoldable pub entry_said : List ℕ → Bool → ℕ → ℕ → Entry
entry_said w formats count k =
    pick (ltb k count)
    (record {
      source = word w (24 + 5 * k) % 16;
      destination = word w (24 + 5 * k + 1) % 16;
      start = word w (24 + 5 * k + 2);
      len = word w (24 + 5 * k + 3);
      format = format_said (word w (24 + 5 * k + 4)) formats;
    })
    no_entry

-- all 15 places
unfoldable pub list_said : List ℕ → Bool → ℕ → List Entry
list_said w formats count = tab (entry_said w formats count) 15 0

-- a list alone has entries, with Actions 6 and 7 each with its format
unfoldable pub entries_said : List ℕ → Body → List Entry
entries_said w B.Empty = list_said w false 0
entries_said w (B.Information a l) = list_said w false 0
entries_said w (B.Asking n s d a l f) = list_said w false 0
entries_said w (B.Answer n f t) = list_said w false 0
entries_said w (B.Query n p) = list_said w false 0
entries_said w (B.List n p c) = list_said w (ltb 5 n) c

-- a header, and the body that the words say after it
abbrev pub frame_with : List ℕ → Head → Option Body → Option Frame
frame_with w h (Some b) = Some (record { head = h; body = b; list = entries_said w b })
frame_with w h None = None

abbrev pub frame_after : List ℕ → Option Head → Option Frame
frame_after w (Some h) = frame_with w h (body_said w h.ads h.kind)
frame_after w None = None

-- the frame that words say
unfoldable pub frame_said : List ℕ → Option Frame
frame_said w = frame_after w (head_said w)
