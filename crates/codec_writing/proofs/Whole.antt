-- The order of all reasons, sizes first; and what was read is written again as it was. Assumes nothing.
use Prim.Native.Nat.{ℕ, ◌≤◌}
use native.Mathlib.Omega.{arith}
use mathlib.Core.Path.{◌≡◌, refl, sym}
use mathlib.Core.List.{List, ◌++◌}
use mathlib.Core.Bool.{true, false}
use mathlib.Core.Logic.{◌⊎◌, inl, inr}
use Rattle.std.specs.Prelude.{Ok}
use lib.ListN.{length, length-append}
use lib.Dec.{ltb}
use borrow.Author.Tests.{ltb-true, ltb-false, le-ltb}
use Rattle.base_lists.specs.Seq.{put}
use Rattle.base_lists.proofs.StoresAndParts.{told}
use Rattle.codec_pdu.specs.Pdu.{sound_of}
use Rattle.codec_pdu.specs.declared.Kind.{Kind}
use Rattle.codec_pdu.specs.declared.Kind.TheVariants.{Invoke, Result, Ack, Abort, SegInvoke, SegResult, Nack, Wrong, Refused}
use Rattle.codec_pdu.specs.declared.Pdu.{Pdu}
use Rattle.codec_words.specs.Words.{words_of}
use Rattle.codec_said.specs.Said.{pdu_said, NarrowKind}
use Rattle.codec_said.proofs.Stored.{length_words_holds}
use Rattle.codec_encoding.specs.Write.{octets_of}
use Rattle.codec_verdict.specs.Judge.{AsRead}
use Rattle.law_writing_order.specs.Order.{FirstOf}
use Rattle.law_writing_order.proofs.InOrder.{in_order}
use Rattle.codec_verdict.proofs.Again.{again}
use Rattle.codec_writing.specs.Writing.{plan_of, answer_of, plan, done, written, WrongSizes, all_reasons}
use Rattle.codec_writing.proofs.Plans.{wrote}

-- THE FIRST REASON IS GIVEN BACK, sizes before all
pub plan_in_order : (w : List ℕ) (n room : ℕ) → FirstOf (all_reasons w n room) (pdu_said w) (plan_of w n room)
unfolding plan_of
plan_in_order w n room = go (told (ltb (length w) 88)) (told (ltb room 1500))
  where
    go : (ltb (length w) 88 ≡ true) ⊎ (ltb (length w) 88 ≡ false) → (ltb room 1500 ≡ true) ⊎ (ltb room 1500 ≡ false) → FirstOf (all_reasons w n room) (pdu_said w) (plan_of w n room)
    go (inl a) b = inl (inl (ltb-true (length w) 88 a), rw a)
    go (inr a) (inl b) = inl (inr (ltb-true room 1500 b), rw (a, b))
    go (inr a) (inr b) = rw (a, b) (inr (right_sizes, in_order w n))
      where
        right_sizes : WrongSizes w room → ⊥
        right_sizes (inl x) = omega (arith, ltb-false (length w) 88 a)
        right_sizes (inr x) = omega (arith, ltb-false room 1500 b)

-- a kind that has words is one of a PDU, and its answer is a length
narrow_answer : (k : Kind) (len : ℕ) → NarrowKind k → (sound_of k ≡ true) × (answer_of len k ≡ Ok len)
unfolding NarrowKind sound_of answer_of
narrow_answer (Invoke a b c v n u l) len h = (refl, refl)
narrow_answer (Result a b c) len h = (refl, refl)
narrow_answer (Ack a c) len h = (refl, refl)
narrow_answer (Abort t r) len h = (refl, refl)
narrow_answer (SegInvoke a b c p) len h = (refl, refl)
narrow_answer (SegResult a b c p) len h = (refl, refl)
narrow_answer (Nack c n l) len h = (refl, refl)
narrow_answer (Wrong d) len h = absurd h
narrow_answer (Refused r) len h = absurd h

-- WHAT WAS READ IS WRITTEN AGAIN: the words of a PDU, with its source, give its octets
pub written_again : (s o rest : List ℕ) (p : Pdu) → AsRead s p → 1500 ≤ length o → written (words_of p ++ rest) s o ≡ done (Ok (length (octets_of s p))) (put o 0 (octets_of s p))
unfolding plan_of
written_again s o rest p r room =
    let w : List ℕ = words_of p ++ rest in
    let long : 88 ≤ length w = omega (arith, length_words_holds p r.writable.fit.list_full, length-append (words_of p) rest) in
    let is : p ≡ plan w s o = sym (rw (le-ltb (length w) 88 long, le-ltb (length o) 1500 room) (again s p rest r)) in
    let a = narrow_answer p.kind (length (octets_of s p)) r.octets in
    sym (wrote w s o p is (Ok (length (octets_of s p))) (length (octets_of s p)) (put o 0 (octets_of s p)) a.0 refl refl (sym a.1))
