-- What writing from words gives back, and what it leaves in the output.
use Rattle.std.specs.Prelude.{ℕ, ◌<◌, List, ◌∷◌, ◌⊎◌, length, ltb, Result, Ok, Err}
use Rattle.base_layout.specs.Layout.{datagram_bound}
use Rattle.base_lists.specs.Seq.{pick, put}
use Rattle.base_numbers.specs.Numbers.{number_of, code_of}
use Rattle.base_numbers.specs.declared.Refusal.TheVariants.{WrongSize}
use Rattle.codec_pdu.specs.Pdu.{sound_of, blank_pdu}
use Rattle.codec_pdu.specs.declared.Kind.{Kind}
use Rattle.codec_pdu.specs.declared.Pdu.{Pdu}
use Rattle.codec_encoding.specs.Write.{octets_of}
use Rattle.codec_verdict.specs.Judge.{judged_of}
use Rattle.law_writing_order.specs.Order.{Reason, reason, reasons}
use Rattle.codec_writing.specs.declared.Fault.{Fault}

-- what is given back for a PDU that isn't written: 01, "Numbers given back"
abbrev pub fault_number : Fault → ℕ
fault_number (Fault.Malformed d) = code_of d
fault_number (Fault.Refused r) = number_of r

-- the length of the PDU that was written; or why none was
abbrev pub Written : Type 0
Written = Result ℕ Fault

-- 01: number 1 where the output has the wrong size, "1,500 for the PDU writer"; the C interface: "`fields` at least 88" words
unfoldable pub plan_of : List ℕ → ℕ → ℕ → Pdu
plan_of w n room =
    pick (ltb (length w) 88) (blank_pdu (Kind.Refused WrongSize))
    (pick (ltb room datagram_bound) (blank_pdu (Kind.Refused WrongSize))
    (judged_of w n))

-- the length of a PDU, or why there is none
unfoldable pub answer_of : ℕ → Kind → Written
answer_of len (Kind.Invoke a b c v n u l) = Ok len
answer_of len (Kind.Result a b c) = Ok len
answer_of len (Kind.Ack a c) = Ok len
answer_of len (Kind.Abort t r) = Ok len
answer_of len (Kind.SegInvoke a b c p) = Ok len
answer_of len (Kind.SegResult a b c p) = Ok len
answer_of len (Kind.Nack c n l) = Ok len
answer_of len (Kind.Wrong d) = Err (Fault.Malformed d)
answer_of len (Kind.Refused r) = Err (Fault.Refused r)

-- what is planned for words w, bytes s and output o
abbrev pub plan : List ℕ → List ℕ → List ℕ → Pdu
plan w s o = plan_of w (length s) (length o)

-- what is given back
unfoldable pub written_answer : List ℕ → List ℕ → List ℕ → Written
written_answer w s o = answer_of (length (octets_of s (plan w s o))) (plan w s o).kind

-- 01: "it then writes nothing"; "Output after the PDU is unchanged"
unfoldable pub output_after : List ℕ → List ℕ → List ℕ → List ℕ
output_after w s o = pick (sound_of (plan w s o).kind) (put o 0 (octets_of s (plan w s o))) o

-- the answer, and the output
pub record Done : Type 0 where
  pub answer : Written
  pub output : List ℕ

-- this answer and this output
abbrev pub done : Written → List ℕ → Done
done a o = record { answer = a; output = o }

-- what writing from words w, bytes s into output o gives back and leaves
unfoldable pub written : List ℕ → List ℕ → List ℕ → Done
written w s o = done (written_answer w s o) (output_after w s o)

-- 01: number 1 where a lent slice "has the wrong size": fewer than 88 words, or room for fewer than 1,500 octets
abbrev pub WrongSizes : List ℕ → ℕ → Type 0
WrongSizes w room = (length w < 88) ⊎ (room < datagram_bound)

-- the C interface: "In this order: 1 (sizes), D2, 11, D1, D5, D6, D3 and D4, D7"
abbrev pub all_reasons : List ℕ → ℕ → ℕ → List Reason
all_reasons w n room = reason (WrongSizes w room) (Kind.Refused WrongSize) ∷ reasons w n
