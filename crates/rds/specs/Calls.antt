-- What the calls of the C interface give back and leave (RDS.md, section 6).
use Rattle.std.specs.Prelude.{ℕ, ◌+◌, ◌-◌, ◌%◌, List, [], ◌∷◌, Bool, true, false, length, ltb, eqb, Option, Some, None, is_some, Result, Ok, Err}
use Rattle.rds_lists.specs.Sizes.{fields_least, part_least, answer_least}
use Rattle.base_lists.specs.Seq.{pick, put}
use Rattle.base_numbers.specs.declared.Refusal.{Refusal}
use Rattle.base_numbers.specs.declared.Refusal.TheVariants.{WrongSize, WrongFrame}
use Rattle.base_numbers.specs.Numbers.{number_of}
use Rattle.rds_reading.specs.Read.{frame_of}
use Rattle.rds_reading.specs.declared.Frame.{Frame}
use Rattle.rds_datagram.specs.Put.{put_of}
use Rattle.rds_writing.specs.Write.{write_of}
use Rattle.rds_words.specs.Words.{words_of, part_words}

-- section 6: "a flag is off with 0 and on with any other value"
abbrev pub is_on : ℕ → Bool
is_on x = pick (eqb x 0) false true

-- section 6: 1 for fewer than `least` words, then 16 for a malformed frame
unfoldable pub read_number_is : ℕ → List ℕ → ℕ → List ℕ → ℕ
read_number_is least s network words =
    pick (ltb (length words) least) (number_of WrongSize)
    (pick (is_some (frame_of s (is_on network))) 0 (number_of WrongFrame))

-- section 6: "an accepted call writes just the first so many"; a refused call changes no lent word
abbrev pub words_after : ℕ → List ℕ → (Frame → List ℕ) → Option Frame → List ℕ
words_after least words written (Some f) = pick (ltb (length words) least) words (put words 0 (written f))
words_after least words written None = words

unfoldable pub fields_after : List ℕ → ℕ → List ℕ → List ℕ
fields_after s network fields = words_after fields_least fields words_of (frame_of s (is_on network))

-- section 6, PART: what is taken of a frame, whose information is all that follows its header
abbrev pub taken_words : List ℕ → Frame → List ℕ
taken_words s f = part_words f.head (length s - f.head.end)

unfoldable pub part_after : List ℕ → ℕ → List ℕ → List ℕ
part_after s network part = words_after part_least part (taken_words s) (frame_of s (is_on network))

-- section 6, `rds_put`: "word 0 the length, word 12 the next number, (number + 1) modulo 8; else 0"
unfoldable pub put_words : ℕ → ℕ → List ℕ
put_words len number = len ∷ 0 ∷ 0 ∷ 0 ∷ 0 ∷ 0 ∷ 0 ∷ 0 ∷ 0 ∷ 0 ∷ 0 ∷ 0 ∷ (number % 8 + 1) % 8 ∷ 0 ∷ 0 ∷ 0 ∷ []

abbrev pub putting_number : Result ℕ Refusal → ℕ
putting_number (Ok n) = 0
putting_number (Err r) = number_of r

abbrev pub putting_words : Result ℕ Refusal → ℕ → List ℕ → List ℕ
putting_words (Ok n) number answer = put answer 0 (put_words n number)
putting_words (Err r) number answer = answer

-- section 6: 1 for an answer of fewer than 16 words; else what putting the datagram gives back
unfoldable pub put_number : List ℕ → ℕ → ℕ → ℕ → ℕ → List ℕ → List ℕ → ℕ
put_number t ports s d n out answer = pick (ltb (length answer) answer_least) (number_of WrongSize) (putting_number (put_of t (is_on ports) s d n out).answer)

unfoldable pub put_output : List ℕ → ℕ → ℕ → ℕ → ℕ → List ℕ → List ℕ → List ℕ
put_output t ports s d n out answer = pick (ltb (length answer) answer_least) out (put_of t (is_on ports) s d n out).output

unfoldable pub put_answer : List ℕ → ℕ → ℕ → ℕ → ℕ → List ℕ → List ℕ → List ℕ
put_answer t ports s d n out answer = pick (ltb (length answer) answer_least) answer (putting_words (put_of t (is_on ports) s d n out).answer n answer)

-- section 6, `rds_write`: "Word 0 of its answer is the frame's length, the other 15 are 0"
unfoldable pub written_words : ℕ → List ℕ
written_words len = len ∷ 0 ∷ 0 ∷ 0 ∷ 0 ∷ 0 ∷ 0 ∷ 0 ∷ 0 ∷ 0 ∷ 0 ∷ 0 ∷ 0 ∷ 0 ∷ 0 ∷ 0 ∷ []

abbrev pub writing_words : Result ℕ Refusal → List ℕ → List ℕ
writing_words (Ok n) answer = put answer 0 (written_words n)
writing_words (Err r) answer = answer

-- section 6: 1 for an answer of fewer than 16 words; else what writing the frame gives back
unfoldable pub write_number : List ℕ → List ℕ → ℕ → List ℕ → List ℕ → ℕ
write_number w s network out answer = pick (ltb (length answer) answer_least) (number_of WrongSize) (putting_number (write_of w s (is_on network) out).answer)

unfoldable pub write_output : List ℕ → List ℕ → ℕ → List ℕ → List ℕ → List ℕ
write_output w s network out answer = pick (ltb (length answer) answer_least) out (write_of w s (is_on network) out).output

unfoldable pub write_answer : List ℕ → List ℕ → ℕ → List ℕ → List ℕ → List ℕ
write_answer w s network out answer = pick (ltb (length answer) answer_least) answer (writing_words (write_of w s (is_on network) out).answer answer)
