-- Writing a frame from its words (RDS.md, section 6, `rds_write`).
use Rattle.std.specs.Prelude.{ℕ, List, Bool, false, length, get_or, ltb, leb, eqb, Option, Some, None, Ok, Err}
use Rattle.rds_lists.specs.Sizes.{information_most, frame_most, fields_least}
use Rattle.base_lists.specs.Seq.{pick, every, put}
use Rattle.base_numbers.specs.declared.Refusal.TheVariants.{WrongSize, WrongFrame}
use Rattle.rds_frame.specs.declared.Kind.{Kind}
use Rattle.rds_frame.specs.declared.Kind.TheVariants as K
use Rattle.rds_reading.specs.declared.Frame.{Frame}
use Rattle.rds_words.specs.Words.{words_of}
use Rattle.rds_size.specs.Size.{body_size}
use Rattle.rds_encoding.specs.Encoding.{octets_of}
use Rattle.rds_said.specs.Said.{frame_said}
use Rattle.rds_datagram.specs.Put.{Done, done}

-- the words are those of the frame f, each of the 100: section 6, 16 "for a word other than 0 that the frame hasn't, a value too wide for its place"
unfoldable pub same_words : List ℕ → Frame → Bool
same_words w f = every (λ i. eqb (get_or (words_of f) i 0) (get_or w i 0)) fields_least

-- section 1: the information of SET_PARAMETERS (M 11) is items
unfoldable pub is_items : Kind → Bool
is_items (K.I a ns nr r) = false
is_items (K.S a nr r) = false
is_items (K.Ui nu) = false
is_items (K.U m response) = eqb m 11

-- how long the information field of f would be; over 1,520 where no frame has it
abbrev pub size_of : List ℕ → Frame → ℕ
size_of s f = body_size s f.list (is_items f.head.kind) f.body

-- section 6: 16 else for "a part that runs past BYTES, an Application ID whose length isn't 17 + its own octet 16, and whatever of section 3 the frame would then be"
unfoldable pub accepts : List ℕ → List ℕ → Frame → Bool
accepts w s f = pick (same_words w f) (leb (size_of s f) information_most) false

-- what writing the frame that words say leaves, if they say one: 16, else the frame
abbrev pub write_said : List ℕ → List ℕ → Bool → List ℕ → Option Frame → Done
write_said w s network out (Some f) =
    pick (accepts w s f) (done (Ok (length (octets_of s f network))) (put out 0 (octets_of s f network)))
    (done (Err WrongFrame) out)
write_said w s network out None = done (Err WrongFrame) out

-- section 6, the lowest of 1 (fewer than 100 words, fewer than 1,523 octets of output) and 16, else the frame
unfoldable pub write_of : List ℕ → List ℕ → Bool → List ℕ → Done
write_of w s network out =
    pick (ltb (length w) fields_least) (done (Err WrongSize) out)
    (pick (ltb (length out) frame_most) (done (Err WrongSize) out)
    (write_said w s network out (frame_said w)))
