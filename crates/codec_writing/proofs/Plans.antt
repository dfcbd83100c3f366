-- What a plan allows, and what writing leaves by it. Assumes nothing.
use Prim.Native.Nat.{ℕ, ◌≤◌}
use mathlib.Core.Path.{◌≡◌, refl, sym}
use mathlib.Core.List.{List}
use mathlib.Core.Bool.{Bool, true, false}
use lib.ListN.{length}
use lib.Dec.{ltb}
use borrow.Author.Tests.{ltb-false}
use Rattle.base_lists.specs.Seq.{pick, put}
use Rattle.base_lists.proofs.StoresAndParts.{true_false}
use Rattle.base_numbers.specs.declared.Refusal.TheVariants.{WrongSize}
use Rattle.codec_pdu.specs.Pdu.{sound_of, blank_pdu}
use Rattle.codec_pdu.specs.declared.Kind.{Kind}
use Rattle.codec_pdu.specs.declared.Kind.TheVariants.{Invoke, Result, Ack, Abort, SegInvoke, SegResult, Nack, Wrong, Refused}
use Rattle.codec_pdu.specs.declared.Pdu.{Pdu}
use Rattle.codec_said.specs.Said.{pdu_said}
use Rattle.codec_encoding.specs.Write.{octets_of}
use Rattle.codec_verdict.specs.Judge.{judged_of, Writable}
use Rattle.codec_verdict.proofs.Passed.{passed, given}
use Rattle.codec_verdict.proofs.Accepted.{accepted}
use Rattle.codec_writing.specs.Writing.{Written, plan_of, plan, answer_of, done, written_answer, output_after, written}

-- words that give a PDU: it is the one that they say, it can be written, and the output has room for any
pub record Planned (w s : List ℕ) (room : ℕ) : Type 0 where
  pub said : plan_of w (length s) room ≡ pdu_said w
  pub writable : Writable s (pdu_said w)
  pub whole : 88 ≤ length w
  pub room_enough : 1500 ≤ room

pub planned : (w s : List ℕ) (room : ℕ) → sound_of (plan_of w (length s) room).kind ≡ true → Planned w s room
unfolding plan_of sound_of blank_pdu
planned w s room t = go (ltb (length w) 88) refl (ltb room 1500) refl t
  where
    go : (a : Bool) → ltb (length w) 88 ≡ a → (b : Bool) → ltb room 1500 ≡ b → sound_of (pick a (blank_pdu (Refused WrongSize)) (pick b (blank_pdu (Refused WrongSize)) (judged_of w (length s)))).kind ≡ true → Planned w s room
    go true e b h q = true_false (sym q)
    go false e true h q = true_false (sym q)
    go false e false h q =
        let is : judged_of w (length s) ≡ pdu_said w = given w (length s) (passed w (length s) q) in
        record {
          said = rw (e, h) is;
          writable = accepted w s (pdu_said w) is (rw is at q);
          whole = ltb-false (length w) 88 e;
          room_enough = ltb-false room 1500 h;
        }

-- where there is no PDU the length doesn't matter
refused_same : (k : Kind) (a b : ℕ) → sound_of k ≡ false → answer_of a k ≡ answer_of b k
unfolding sound_of answer_of
refused_same (Invoke x y z v n u l) a b e = true_false e
refused_same (Result x y z) a b e = true_false e
refused_same (Ack x z) a b e = true_false e
refused_same (Abort t r) a b e = true_false e
refused_same (SegInvoke x y z p) a b e = true_false e
refused_same (SegResult x y z p) a b e = true_false e
refused_same (Nack z n l) a b e = true_false e
refused_same (Wrong d) a b e = refl
refused_same (Refused r) a b e = refl

module _ (w s o : List ℕ) (p : Pdu) (is : p ≡ plan w s o) (r : Written) where
  pub wrote : (len : ℕ) (out : List ℕ) → sound_of p.kind ≡ true → len ≡ length (octets_of s p) → out ≡ put o 0 (octets_of s p) → r ≡ answer_of len p.kind → done r out ≡ written w s o
  unfolding written written_answer output_after
  wrote len out t l e a = rw (a, e, l, ← is, t)

  pub wrote_nothing : sound_of p.kind ≡ false → r ≡ answer_of 0 p.kind → done r o ≡ written w s o
  unfolding written written_answer output_after
  wrote_nothing t a = rw (a, ← is, t, refused_same p.kind 0 (length (octets_of s p)) t)
