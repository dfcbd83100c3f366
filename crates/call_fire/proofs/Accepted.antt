-- What an accepted firing knows: its step, its table and its time, and that the record which it names is due. Assumes nothing.
use Prim.Native.Nat.{ℕ}
use mathlib.Core.Path.{◌≡◌, refl, ap, ◌∙◌}
use mathlib.Core.List.{List}
use borrow.Author.Tests.{not-false}
use Rattle.std.specs.Prelude.{Ok, Option, Some, None}
use Rattle.base_lists.proofs.StoresAndParts.{true_false}
use Rattle.table_layout.specs.Table.{record_at}
use Rattle.table_finding.specs.Searched.{Due}
use Rattle.table_finding.proofs.Tests.{tells_due}
use Rattle.law_places.specs.Places.{LiveAt}
use Rattle.step_plan.specs.declared.Step.{Step}
use Rattle.call_refusal.specs.Judging.{lowest, peer_tests}
use Rattle.call_refusal.proofs.Fits.{accepted}
use Rattle.call_refusal.proofs.Going.{goes, Entered, entered}
use Rattle.call_refusal.proofs.Stages.{both_stages}
use Rattle.call_primitive.specs.Primitives.{Named, found_for}
use Rattle.call_primitive.specs.declared.Primitive.{Primitive}
use Rattle.call_primitive.proofs.Named.{found_named, named_live}
use Rattle.call_timer.specs.Timers.{step_by}
use Rattle.call_fire.specs.Fires.{not_due, named_tests, fire_tests, fire_plan}

-- neither 8 nor 9 is given: what was found is the record at a place, named and due
pub record Ready (t : List ℕ) (p : Primitive) (found : Option ℕ) : Type 0 where
  pub place : ℕ
  pub found_is : found ≡ Some place
  pub names : Named t p place
  pub due : Due p.time (record_at t place)

module _ (t : List ℕ) (p : Primitive) where
  pub ready : (found : Option ℕ) → found_for t p ≡ found → lowest (named_tests t p.time found) ≡ Ok tt → Ready t p found
  unfolding not_due
  ready (Some i) e h =
      let none = accepted (named_tests t p.time (Some i)) h in
      record { place = i; found_is = refl; names = found_named t p i e; due = (tells_due (record_at t i) p.time).0 (not-false _ none.1.0) }
  ready None e h = true_false (accepted (named_tests t p.time None) h).0

-- an accepted firing does the named record's step, over a table that fits, at a time in range
pub record Accepted (t : List ℕ) (store output : ℕ) (p : Primitive) (step : Step) : Type 0 where
  pub place : ℕ
  pub step_is : step ≡ step_by (Some place) t p.time
  pub enters : Entered t store output p.time
  pub names : Named t p place
  pub due : Due p.time (record_at t place)
  pub live : LiveAt t place

pub fire_accepted : (t : List ℕ) (store output : ℕ) (p : Primitive) (step : Step) → fire_plan t store output p ≡ Ok step → Accepted t store output p step
unfolding fire_plan
fire_accepted t store output p step e =
    let g = goes (fire_tests t store output p) (step_by (found_for t p) t p.time) step e in
    let stages = both_stages (peer_tests t store output p.time p.peer) (named_tests t p.time (found_for t p)) g.0 in
    let r = ready t p (found_for t p) refl stages.1 in
    record {
      place = r.place;
      step_is = g.1 ∙ ap (λ (f : Option ℕ). step_by f t p.time) r.found_is;
      enters = entered t store output p.time _ stages.0;
      names = r.names;
      due = r.due;
      live = named_live t p r.place r.names;
    }
