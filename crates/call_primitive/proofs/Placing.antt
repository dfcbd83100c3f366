-- The place and the step of a primitive, as the code takes them. Assumes nothing.
use Prim.Native.Nat.{ℕ, ◌≤◌}
use mathlib.Core.Path.{◌≡◌, refl}
use mathlib.Core.List.{List}
use Rattle.std.specs.Prelude.{Ok, Err}
use Rattle.base_layout.specs.Layout.{time_bound, exit_bound, cell_size}
use Rattle.base_numbers.specs.declared.Refusal.{Refusal}
use Rattle.step_opening.specs.Opens.{place_for}
use Rattle.step_live.specs.Turning.{row_at}
use Rattle.step_carrying.specs.Coming.{coming_step, InRange}
use Rattle.step_carrying.proofs.Steps.{live_is, live_in_range}
use Rattle.law_places.proofs.Whole.{Whole, live_whole}
use Rattle.call_refusal.specs.Judging.{lowest}
use Rattle.call_refusal.proofs.Going.{goes}
use Rattle.call_refusal.proofs.Stages.{both_stages}
use Rattle.call_refusal.proofs.Placing.{place_at, goes_at, refuses_so}
use Rattle.call_primitive.specs.Primitives.{entry_tests, found_tests, found_for, primitive_tests, primitive_given, primitive_call, primitive_step, primitive_plan, primitive_place, primitive_row}
use Rattle.call_primitive.specs.declared.Primitive.{Primitive}
use Rattle.call_primitive.proofs.Named.{named_live}
use Rattle.call_primitive.proofs.Accepted.{entered, ready}

-- what is known of a primitive that is placed
pub record Placing (t : List ℕ) (p : Primitive) (place : ℕ) : Type 0 where
  pub whole : Whole t place
  pub time : p.time ≤ time_bound
  pub message : p.len ≤ cell_size
  pub exit : p.exit_len ≤ exit_bound

module _ (t : List ℕ) (store output : ℕ) (p : Primitive) where
  pub plan_goes : (place : ℕ) → Ok place ≡ primitive_place t store output p → primitive_plan t store output p ≡ Ok (primitive_step t place p)
  unfolding primitive_place primitive_plan
  plan_goes place e = goes_at (lowest (primitive_tests t store output p)) (place_for (found_for t p)) place (λ i. primitive_step t i p) e

  pub plan_refuses : (r : Refusal) → Err r ≡ primitive_place t store output p → primitive_plan t store output p ≡ Err r
  unfolding primitive_place primitive_plan
  plan_refuses r e = refuses_so (lowest (primitive_tests t store output p)) (place_for (found_for t p)) r (primitive_step t (place_for (found_for t p)) p) e

  pub placed : (place : ℕ) → Ok place ≡ primitive_place t store output p → Placing t p place
  unfolding primitive_place primitive_plan
  placed place e =
      let both = goes (primitive_tests t store output p) (primitive_step t (place_for (found_for t p)) p) (primitive_step t place p) (plan_goes place e) in
      let stages = both_stages (entry_tests t store output p) (found_tests t (found_for t p) p) both.0 in
      let enters = entered t store output p stages.0 in
      let fit = ready t p (found_for t p) refl stages.1 in
      record {
        whole = rw (place_at (lowest (primitive_tests t store output p)) (place_for (found_for t p)) place e) (live_whole t enters.fitting.formed (place_for (found_for t p)) (named_live t p (place_for (found_for t p)) fit.names));
        time = enters.bound;
        message = fit.message;
        exit = fit.exit;
      }

module _ (t : List ℕ) (place : ℕ) (p : Primitive) where
  pub step_is : primitive_step t place p ≡ coming_step t (primitive_row t place p) (primitive_given p) (primitive_call p)
  unfolding primitive_step primitive_row
  step_is = live_is t place p.event (primitive_given p) (primitive_call p)

  pub in_range_holds : Placing t p place → InRange t (primitive_row t place p) (primitive_given p)
  unfolding primitive_row primitive_given
  in_range_holds k = live_in_range t place (row_at t place p.event) (primitive_given p) k.whole.tid k.whole.small k.time
