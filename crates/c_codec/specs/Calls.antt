-- The C interface of the codec: results, and what the lent words and octets then hold.
use Rattle.std.specs.Prelude.{ℕ, ◌-◌, List, [], ◌∷◌, length, replicate, ltb, Result, Ok, Err}
use Rattle.base_layout.specs.Layout.{answer_size}
use Rattle.base_lists.specs.Seq.{pick, put}
use Rattle.base_numbers.specs.Numbers.{number_of, code_of}
use Rattle.base_numbers.specs.declared.Refusal.{Refusal}
use Rattle.base_numbers.specs.declared.Refusal.TheVariants.{WrongSize}
use Rattle.codec_pdu.specs.Pdu.{sound_of}
use Rattle.codec_pdu.specs.declared.Kind.{Kind}
use Rattle.codec_reading.specs.Read.{pdu_of}
use Rattle.codec_words.specs.Words.{words_of}
use Rattle.codec_writing.specs.Writing.{Written, fault_number, written_answer, output_after as written}
use Rattle.codec_separation.specs.Separate.{parts_of, answer_at}
use Rattle.codec_separation.specs.declared.Parts.{Parts}
use Rattle.codec_joining.specs.Join.{joined_answer, output_after as joined}

-- the C interface: "0 where the call was accepted, 1 to 16 a refusal with its number .. and 101 to 107 for D1 to D7"
abbrev pub kind_number : Kind → ℕ
kind_number (Kind.Invoke a b c v n u l) = 0
kind_number (Kind.Result a b c) = 0
kind_number (Kind.Ack a c) = 0
kind_number (Kind.Abort t r) = 0
kind_number (Kind.SegInvoke a b c p) = 0
kind_number (Kind.SegResult a b c p) = 0
kind_number (Kind.Nack c n l) = 0
kind_number (Kind.Wrong d) = code_of d
kind_number (Kind.Refused r) = number_of r

-- the C interface: "`answer` has at least 40 words, `fields` at least 88, `part` at least 3, else number 1": what a call gives with n words of `most`
abbrev pub or_size {ℓ} : {A : Type ℓ} → ℕ → ℕ → A → A → A
or_size most n refused else = pick (ltb n most) refused else

-- wtp_read: its result
unfoldable pub read_number_is : List ℕ → List ℕ → ℕ
read_number_is s fields = or_size 88 (length fields) (number_of WrongSize) (kind_number (pdu_of s).kind)

-- wtp_read: "An accepted call writes the first .. 88 .. words and leaves the rest"
unfoldable pub fields_after : List ℕ → List ℕ → List ℕ
fields_after s fields = or_size 88 (length fields) fields (pick (sound_of (pdu_of s).kind) (put fields 0 (words_of (pdu_of s))) fields)

-- "Word 0 of the answer is the .. length", the other 39 are 0
unfoldable pub length_answer : ℕ → List ℕ
length_answer n = n ∷ replicate (answer_size - 1) 0

-- wtp_write: its result, by the codec's answer, and the words of its answer
abbrev pub written_number : Written → ℕ
written_number (Ok n) = 0
written_number (Err fault) = fault_number fault

abbrev pub written_words : Written → List ℕ → List ℕ
written_words (Ok n) answer = put answer 0 (length_answer n)
written_words (Err fault) answer = answer

unfoldable pub write_number : List ℕ → List ℕ → List ℕ → List ℕ → ℕ
write_number fields bytes out answer = or_size answer_size (length answer) (number_of WrongSize) (written_number (written_answer fields bytes out))

unfoldable pub write_output : List ℕ → List ℕ → List ℕ → List ℕ → List ℕ
write_output fields bytes out answer = or_size answer_size (length answer) out (written fields bytes out)

unfoldable pub write_answer : List ℕ → List ℕ → List ℕ → List ℕ → List ℕ
write_answer fields bytes out answer = or_size answer_size (length answer) answer (written_words (written_answer fields bytes out) answer)

-- wtp_separate: its result, by the codec's answer
abbrev pub separation_number : Result Parts Refusal → ℕ
separation_number (Ok seen) = 0
separation_number (Err r) = number_of r

-- wtp_separate: "words of the part: start and length of the k-th PDU .. and how many PDUs there are"
abbrev pub part_by : Result Parts Refusal → List ℕ → List ℕ
part_by (Ok seen) words = put words 0 (seen.part.start ∷ seen.part.len ∷ seen.count ∷ [])
part_by (Err r) words = words

unfoldable pub separate_number : List ℕ → ℕ → List ℕ → ℕ
separate_number d k words = or_size 3 (length words) (number_of WrongSize) (separation_number (answer_at (parts_of d) k))

unfoldable pub part_after : List ℕ → ℕ → List ℕ → List ℕ
part_after d k words = or_size 3 (length words) words (part_by (answer_at (parts_of d) k) words)

-- wtp_join: its result, by the codec's answer, and the words of its answer
abbrev pub joining_number : Result ℕ Refusal → ℕ
joining_number (Ok n) = 0
joining_number (Err r) = number_of r

abbrev pub joining_answer : Result ℕ Refusal → List ℕ → List ℕ
joining_answer (Ok n) answer = put answer 0 (length_answer n)
joining_answer (Err r) answer = answer

unfoldable pub join_number : List ℕ → List ℕ → List ℕ → List ℕ → ℕ
join_number bytes lengths out answer = or_size answer_size (length answer) (number_of WrongSize) (joining_number (joined_answer bytes lengths out))

unfoldable pub join_output : List ℕ → List ℕ → List ℕ → List ℕ → List ℕ
join_output bytes lengths out answer = or_size answer_size (length answer) out (joined bytes lengths out)

unfoldable pub join_answer : List ℕ → List ℕ → List ℕ → List ℕ → List ℕ
join_answer bytes lengths out answer = or_size answer_size (length answer) answer (joining_answer (joined_answer bytes lengths out) answer)
