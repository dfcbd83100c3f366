-- What an accepted primitive knows of its table, its record and its bounds. Assumes nothing.
use Prim.Native.Nat.{ℕ, ◌≤◌, ◌<◌}
use native.Mathlib.Omega.{arith}
use borrow.Author.Tests.{ltb-false}
use mathlib.Core.Path.{◌≡◌, refl}
use mathlib.Core.List.{List}
use Rattle.std.specs.Prelude.{Ok, Option, Some, None}
use Rattle.base_layout.specs.Layout.{time_bound, peers, exit_bound, cell_size}
use Rattle.base_lists.proofs.StoresAndParts.{true_false}
use Rattle.table_layout.specs.Table.{clock_of}
use Rattle.table_well_formed.specs.WellFormed.{Fitting}
use Rattle.row_events.specs.declared.Row.TheVariants as Row
use Rattle.step_opening.specs.Opens.{place_for}
use Rattle.law_places.specs.Places.{LiveAt}
use Rattle.step_live.specs.Turning.{row_at}
use Rattle.step_plan.specs.declared.Step.{Step}
use Rattle.call_refusal.specs.Judging.{lowest}
use Rattle.call_refusal.proofs.Fits.{accepted, fits, in_time}
use Rattle.call_refusal.proofs.Going.{goes}
use Rattle.call_refusal.proofs.Stages.{both_stages}
use Rattle.call_primitive.specs.Primitives.{Named, ExitRefused, not_allowed, entry_tests, found_tests, found_for, primitive_tests, primitive_step, primitive_plan}
use Rattle.call_primitive.specs.declared.Primitive.{Primitive}
use Rattle.call_primitive.proofs.Named.{found_named, named_live}
use Rattle.call_primitive.proofs.PrimitiveTests.{exit_not_refused, not_too_much, row_allows}

-- none of the numbers 1 to 3 is given
pub record Entered (t : List ℕ) (store output : ℕ) (p : Primitive) : Type 0 where
  pub fitting : Fitting t store output
  pub clock : clock_of t ≤ p.time
  pub bound : p.time ≤ time_bound
  pub peer : p.peer < peers

pub entered : (t : List ℕ) (store output : ℕ) (p : Primitive) → lowest (entry_tests t store output p) ≡ Ok tt → Entered t store output p
entered t store output p e =
    let none = accepted (entry_tests t store output p) e in
    record {
      fitting = fits t store output none.0;
      clock = (in_time t p.time none.1.0).0;
      bound = (in_time t p.time none.1.0).1;
      peer = omega (arith, ltb-false 255 p.peer none.1.1.0);
    }

-- none of the numbers 4, 8, 9 is given: the record at the place is the one that is named
pub record Ready (t : List ℕ) (p : Primitive) (place : ℕ) : Type 0 where
  pub names : Named t p place
  pub message : p.len ≤ cell_size
  pub exit : p.exit_len ≤ exit_bound
  pub exit_taken : ExitRefused t p place → ⊥
  pub row : row_at t place p.event ≡ Row.NotAllowed → ⊥

module _ (t : List ℕ) (p : Primitive) where
  pub ready : (found : Option ℕ) → found_for t p ≡ found → lowest (found_tests t found p) ≡ Ok tt → Ready t p (place_for found)
  unfolding place_for not_allowed
  ready (Some i) e h =
      let none = accepted (found_tests t (Some i) p) h in
      let short = not_too_much t p (Some i) none.0 in
      record {
        names = found_named t p i e;
        message = short.message;
        exit = short.exit;
        exit_taken = λ x. exit_not_refused t i (short.allowed x.some) x.class x.responder;
        row = row_allows (row_at t i p.event) none.1.1.0;
      }
  ready None e h = true_false (accepted (found_tests t None p) h).1.0

-- what is known of a primitive whose plan is this step
pub record Accepted (t : List ℕ) (store output : ℕ) (p : Primitive) (step : Step) : Type 0 where
  pub place : ℕ
  pub is_step : step ≡ primitive_step t place p
  pub enters : Entered t store output p
  pub record_ready : Ready t p place
  pub live : LiveAt t place

pub primitive_accepted : (t : List ℕ) (store output : ℕ) (p : Primitive) (step : Step) → primitive_plan t store output p ≡ Ok step → Accepted t store output p step
unfolding primitive_plan
primitive_accepted t store output p step e =
    let both = goes (primitive_tests t store output p) (primitive_step t (place_for (found_for t p)) p) step e in
    let stages = both_stages (entry_tests t store output p) (found_tests t (found_for t p) p) both.0 in
    let fit = ready t p (found_for t p) refl stages.1 in
    record {
      place = place_for (found_for t p);
      is_step = both.1;
      enters = entered t store output p stages.0;
      record_ready = fit;
      live = named_live t p (place_for (found_for t p)) fit.names;
    }
