-- The refusal of a received PDU is exact: the lowest number whose condition holds, and none without it. Assumes nothing.
use Prim.Native.Nat.{ℕ, ◌≤◌}
use native.Mathlib.Omega.{arith}
use borrow.Author.Tests.{ltb-true, ltb-false, eqb-true, eqb-false}
use mathlib.Core.Path.{◌≡◌, refl}
use mathlib.Core.List.{List}
use mathlib.Core.Bool.{Bool, true, false}
use mathlib.Core.Logic.{inl, inr}
use lib.Dec.{ltb, eqb}
use Rattle.base_layout.specs.Layout.{peers}
use Rattle.base_lists.specs.Seq.{pick}
use Rattle.base_lists.proofs.StoresAndParts.{true_false}
use Rattle.base_numbers.specs.declared.Refusal.TheVariants.{PeerTooLarge, WrongLength}
use Rattle.call_refusal.specs.Judging.{test, lowest, condition, Lowest}
use Rattle.call_refusal.specs.Told.{Tells}
use Rattle.call_refusal.proofs.LowestExact.{lowest_exact, tells_unfit, tells_late}
use Rattle.call_receive.specs.Receives.{receive_tests}
use Rattle.law_refusals.specs.Receives.{OutsideLength, receive_conditions}

tells_peer : (peer : ℕ) → Tells (test PeerTooLarge (ltb 255 peer)) (condition PeerTooLarge (peers ≤ peer))
tells_peer peer = (refl, λ e. omega (arith, ltb-true 255 peer e), λ e h. absurd (omega (arith, ltb-false 255 peer e, h)))

tells_length : (len : ℕ) → Tells (test WrongLength (pick (eqb len 0) true (ltb 1500 len))) (condition WrongLength (OutsideLength len))
tells_length len = (refl, yes (eqb len 0) refl, no (eqb len 0) refl)
  where
    yes : (b : Bool) → eqb len 0 ≡ b → pick (eqb len 0) true (ltb 1500 len) ≡ true → OutsideLength len
    yes true e h = inl (eqb-true len 0 e)
    yes false e h = inr (ltb-true 1500 len (rw e at h))

    no : (b : Bool) → eqb len 0 ≡ b → pick (eqb len 0) true (ltb 1500 len) ≡ false → OutsideLength len → ⊥
    no true e h k = true_false (rw e at h)
    no false e h (inl k) = eqb-false len 0 e k
    no false e h (inr k) = absurd (omega (arith, ltb-false 1500 len (rw e at h), k))

pub receive_exact : (t : List ℕ) (store output time peer len : ℕ) → Lowest (receive_conditions t store output time peer len) (lowest (receive_tests t store output time peer len))
receive_exact t store output time peer len =
    lowest_exact
    (receive_tests t store output time peer len)
    (receive_conditions t store output time peer len)
    (tells_unfit t store output, (tells_late t time, (tells_peer peer, (tells_length len, tt))))
