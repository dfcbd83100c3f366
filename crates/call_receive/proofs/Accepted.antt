-- What an accepted PDU knows: its step, its table, its time, its peer and its length. Assumes nothing.
use Prim.Native.Nat.{ℕ, ◌%◌, ◌≤◌, ◌<◌}
use native.Mathlib.Omega.{arith}
use borrow.Author.Tests.{ltb-false, eqb-false}
use mathlib.Core.Path.{◌≡◌, refl, ap, ◌∙◌}
use mathlib.Core.List.{List}
use mathlib.Core.Bool.{Bool, true, false}
use lib.ListN.{length}
use lib.Dec.{ltb, eqb}
use Rattle.std.specs.Prelude.{Ok}
use Rattle.base_layout.specs.Layout.{peers}
use Rattle.base_lists.specs.Seq.{pick}
use Rattle.base_lists.proofs.StoresAndParts.{true_false}
use Rattle.step_plan.specs.declared.Step.{Step}
use Rattle.call_refusal.proofs.Fits.{accepted}
use Rattle.call_refusal.proofs.Going.{goes, Entered, entered}
use Rattle.call_receive.specs.Receives.{receive_tests, receive_step, receive_plan}

length_allowed : (len : ℕ) → pick (eqb len 0) true (ltb 1500 len) ≡ false → (1 ≤ len) × (len ≤ 1500)
length_allowed len h = go (eqb len 0) refl
  where
    go : (b : Bool) → eqb len 0 ≡ b → (1 ≤ len) × (len ≤ 1500)
    go true e = true_false (rw e at h)
    go false e = (over_zero len (eqb-false len 0 e), ltb-false 1500 len (rw e at h))
      where
        over_zero : (n : ℕ) → (n ≡ 0 → ⊥) → 1 ≤ n
        over_zero n f = omega (arith, f)

-- an accepted PDU does its step, for its own peer, over a table that fits, at a time in range; numbers 3 and 11 aren't given
pub record Accepted (t : List ℕ) (store output time peer : ℕ) (s : List ℕ) (step : Step) : Type 0 where
  pub step_is : step ≡ receive_step t time peer s
  pub enters : Entered t store output time
  pub known : peer < peers
  pub some : 1 ≤ length s
  pub most : length s ≤ 1500

pub receive_accepted : (t : List ℕ) (store output time peer : ℕ) (s : List ℕ) (step : Step) → receive_plan t store output time peer s ≡ Ok step → Accepted t store output time peer s step
unfolding receive_plan
receive_accepted t store output time peer s step e =
    let g = goes (receive_tests t store output time peer (length s)) (receive_step t time (peer % peers) s) step e in
    let none = accepted (receive_tests t store output time peer (length s)) g.0 in
    let below : peer ≤ 255 = ltb-false 255 peer none.1.1.0 in
    let sized = length_allowed (length s) none.1.1.1.0 in
    let own : peer % peers ≡ peer = omega (arith, below) in
    record {
      step_is = g.1 ∙ ap (λ (n : ℕ). receive_step t time n s) own;
      enters = entered t store output time _ g.0;
      known = omega (arith, below);
      some = sized.0;
      most = sized.1;
    }
