-- Where neither D2, 11, D1 nor D3 holds, the PDU said fits, and the verdict on it is the one of a PDU that fits. Assumes nothing.
use Prim.Native.Nat.{ℕ}
use mathlib.Core.Path.{◌≡◌, refl}
use mathlib.Core.List.{List}
use mathlib.Core.Bool.{Bool, true, false}
use mathlib.Core.Logic.{inl, inr}
use lib.ListN.{length}
use lib.Dec.{ltb, eqb}
use borrow.Author.Tests.{ltb-true, ltb-false, eqb-true, eqb-false}
use Rattle.codec_said.specs.Said.{word, items_said, pdu_said}
use Rattle.codec_encoding.specs.Write.{Fit, fault_of}
use Rattle.codec_verdict.specs.Length.{length_said}
use Rattle.codec_verdict.specs.Widths.{fits}
use Rattle.codec_verdict.specs.Judge.{items_inside, fault_in, ruled, judged_of}
use Rattle.law_writing_order.specs.Order.{WrongType, OverLong, TooWide, ItemPast}
use Rattle.codec_verdict.proofs.Bounds.{fits_tell}
use Rattle.codec_verdict.proofs.Types.{typed}
use Rattle.codec_verdict.proofs.Accepted.{said_fits}
use Rattle.law_writing_order.proofs.InOrder.{wide_told, past_told}

-- THE WRITER'S VERDICT IS THAT OF A PDU THAT FITS
pub verdict_of_fit : (w s : List ℕ) → (WrongType w → ⊥) → (OverLong w → ⊥) → (TooWide w (length s) → ⊥) → (ItemPast w (length s) → ⊥)
    → Fit s (pdu_said w) × (judged_of w (length s) ≡ ruled (fault_of (pdu_said w)) (pdu_said w))
unfolding judged_of fault_in fault_of pdu_said
verdict_of_fit w s no-type no_length no-width no_item =
    go (eqb (word w 0) 0) refl (ltb 7 (word w 0)) refl (ltb 1500 (length_said w)) refl (fits w (length s)) refl (items_inside (length s) (items_said w) (word w 15)) refl
  where
    go : (a : Bool) → eqb (word w 0) 0 ≡ a → (b : Bool) → ltb 7 (word w 0) ≡ b → (c : Bool) → ltb 1500 (length_said w) ≡ c → (d : Bool) → fits w (length s) ≡ d → (i : Bool) → items_inside (length s) (items_said w) (word w 15) ≡ i
        → Fit s (pdu_said w) × (judged_of w (length s) ≡ ruled (fault_of (pdu_said w)) (pdu_said w))
    go true p b q c r d t i u = absurd (no-type (inl (eqb-true (word w 0) 0 p)))
    go false p true q c r d t i u = absurd (no-type (inr (ltb-true 7 (word w 0) q)))
    go false p false q true r d t i u = absurd (no_length (ltb-true 1500 (length_said w) r))
    go false p false q false r false t i u = absurd (no-width (wide_told w (length s) t))
    go false p false q false r true t false u = absurd (no_item (past_told w (length s) u))
    go false p false q false r true t true u =
        (said_fits s w (fits_tell w (length s) t) u (typed (word w 0) (eqb-false (word w 0) 0 p) (ltb-false 7 (word w 0) q)), rw (p, q, r, t, u) refl)
