-- The reader answers the first of D2, D1, D5, D6, D3, D4, D7 whose condition holds, and 11 before them. Assumes nothing.
use Prim.Native.Nat.{ℕ, ◌<◌}
use native.Mathlib.Omega.{arith}
use borrow.Author.Tests.{le-ltb, lt-ltb, ne_eqb, eq-eqb}
use mathlib.Core.Path.{◌≡◌, refl, sym, ap, ◌∙◌}
use mathlib.Core.List.{List}
use mathlib.Core.Bool.{true, false}
use mathlib.Core.Logic.{inl, inr}
use lib.ListN.{length}
use Rattle.base_lists.proofs.StoresAndParts.{true_false}
use Rattle.base_numbers.specs.declared.Malformed.{Malformed}
use Rattle.base_numbers.specs.declared.Refusal.TheVariants.{WrongLength}
use Rattle.codec_items.specs.Items.{Verdict}
use Rattle.std.specs.Prelude.{Ok, Err}
use Rattle.codec_pdu.specs.declared.Kind.{Kind}
use Rattle.codec_pdu.specs.declared.Kind.TheVariants.{Wrong, Refused}
use Rattle.codec_pdu.specs.declared.Pdu.{Pdu}
use Rattle.codec_pdu.specs.Pdu.{sound_of, blank_pdu}
use Rattle.codec_reading.specs.Read.{head_of, after_head, pdu_of}
use Rattle.law_reading_order.specs.Order.{conditions, OutsideLength, InOrder}
use Rattle.law_reading_order.proofs.Judged.{Judged, Answers, Answered, first_of, of_first, none_of, of_none}
use Rattle.law_reading_order.proofs.Decided.{Decided, under, either}
use Rattle.law_reading_order.proofs.Verdicts.{judged}

module _ (p : Pdu) where
  -- a sound PDU is of no kind that tells why there is none
  blank_sound : {A : Type 0} (k : Kind) → sound_of k ≡ false → p ≡ blank_pdu k → sound_of p.kind ≡ true → A
  unfolding blank_pdu
  blank_sound k n e t = true_false (sym t ∙ (ap (λ (p : Pdu). sound_of p.kind) e ∙ n))

  wrong_refused : {A : Type 0} (d : Malformed) → p ≡ blank_pdu (Wrong d) → p ≡ blank_pdu (Refused WrongLength) → A
  unfolding blank_pdu
  wrong_refused d e f =
      let k : Wrong d ≡ Refused WrongLength = ap (λ (p : Pdu). p.kind) (sym e ∙ f) in
      let z : ◌≡◌ {A = ℕ} 0 1 = cc in
      absurd (omega arith)

  -- from what the reader answers to the verdict
  told_bad : (v : Verdict) (d : Malformed) → Answers v p → p ≡ blank_pdu (Wrong d) → v ≡ Err d
  unfolding blank_pdu sound_of
  told_bad (Err c) d a e = let k : Wrong c ≡ Wrong d = ap (λ (p : Pdu). p.kind) (sym a ∙ e) in cc
  told_bad (Ok tt) d a e = blank_sound (Wrong d) refl e a

  told_sound : (v : Verdict) → Answers v p → sound_of p.kind ≡ true → v ≡ Ok tt
  unfolding sound_of
  told_sound (Err c) a t = blank_sound (Wrong c) refl a t
  told_sound (Ok tt) a t = refl

  not_refused : (v : Verdict) → Answers v p → p ≡ blank_pdu (Refused WrongLength) → ⊥
  unfolding sound_of
  not_refused (Err c) a e = wrong_refused c a e
  not_refused (Ok tt) a e = blank_sound (Refused WrongLength) refl e a

module _ (s : List ℕ) where
  pdu_outside : OutsideLength s → pdu_of s ≡ blank_pdu (Refused WrongLength)
  unfolding pdu_of
  pdu_outside (inl l) = rw (eq-eqb (length s) 0 (omega arith))
  pdu_outside (inr l) = rw (ne_eqb (length s) 0 (λ e. omega arith), lt-ltb 1500 (length s) l)

  pub pdu_inside : (OutsideLength s → ⊥) → pdu_of s ≡ after_head s (head_of s)
  unfolding pdu_of
  pdu_inside n =
      let a : length s < 1 → ⊥ = λ l. n (inl l) in
      let b : 1500 < length s → ⊥ = λ l. n (inr l) in
      rw (ne_eqb (length s) 0 (λ e. omega arith), le-ltb 1500 (length s) (omega arith))

  outside : OutsideLength s → InOrder s
  unfolding sound_of
  outside o =
      let e = pdu_outside o in
      record {
        refused = (λ p. o, λ q. e);
        malformed = λ d. (λ p. wrong_refused (pdu_of s) d p e, λ q. absurd (q.0 o));
        sound = (λ t. blank_sound (pdu_of s) (Refused WrongLength) refl e t, λ q. absurd (q.0 o));
      }

  inside : (OutsideLength s → ⊥) → (v : Verdict) → Judged (conditions s) v → Answers v (pdu_of s) → InOrder s
  inside n v j a = record {
    refused = (λ p. absurd (not_refused (pdu_of s) v a p), λ o. absurd (n o));
    malformed = λ d. (λ p. (n, first_of v (conditions s) d j (told_bad (pdu_of s) v d a p)), λ q. rw (of_first v (conditions s) d j q.1) at a);
    sound = (λ t. (n, none_of v (conditions s) j (told_sound (pdu_of s) v a t)), λ q. rw (of_none v (conditions s) j q.1) at a);
  }

  -- 01: "Malformed, in this order"
  pub first_that_holds : InOrder s
  first_that_holds = go (either (under (length s) 1) (under 1500 (length s)))
    where
      go : Decided (OutsideLength s) → InOrder s
      go (inl o) = outside o
      go (inr n) = let a : Answered (conditions s) (pdu_of s) = rw (pdu_inside n) (judged s) in inside n a.verdict a.judged a.answers
