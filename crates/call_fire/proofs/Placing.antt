-- The place of the record that is fired, and the plan of its step. Assumes nothing.
use Prim.Native.Nat.{ℕ, ◌≤◌}
use mathlib.Core.Path.{◌≡◌, refl, sym, ap, subst, ◌∙◌}
use mathlib.Core.List.{List}
use mathlib.Core.Bool.{Bool, true, false}
use Rattle.std.specs.Prelude.{Result, Ok, Err, Option, Some, None, is_some}
use Rattle.base_layout.specs.Layout.{time_bound}
use Rattle.base_lists.proofs.StoresAndParts.{true_false}
use Rattle.base_numbers.specs.declared.Refusal.{Refusal}
use Rattle.base_numbers.specs.declared.Refusal.TheVariants.{NoRecord, NotAllowed}
use Rattle.table_layout.specs.Table.{record_at}
use Rattle.table_finding.specs.Finding.{is_due}
use Rattle.step_opening.specs.Opens.{place_for}
use Rattle.law_places.proofs.Whole.{Whole, live_whole}
use Rattle.call_refusal.specs.Judging.{lowest, plan_by, placed_by, peer_tests}
use Rattle.call_refusal.proofs.Placing.{place_at, goes_at, refuses_so}
use Rattle.call_refusal.proofs.Going.{entered}
use Rattle.call_refusal.proofs.Stages.{both_stages}
use Rattle.call_primitive.specs.Primitives.{found_for}
use Rattle.call_primitive.specs.declared.Primitive.{Primitive}
use Rattle.call_primitive.proofs.Named.{named_live}
use Rattle.call_timer.specs.Timers.{step_by}
use Rattle.call_fire.specs.Fires.{not_due, named_tests, fire_tests, fire_plan, named_place, fire_place}
use Rattle.call_fire.proofs.Accepted.{Ready, ready}

-- what is done with the record that was found, case by case
module _ (t : List ℕ) (time : ℕ) (found : Option ℕ) where
  pub gives_nine : (i : ℕ) → found ≡ Some i → is_due time (record_at t i) ≡ false → Err NotAllowed ≡ named_place t time found
  unfolding named_place lowest not_due place_for
  gives_nine i e d = rw (e, d) refl

  pub is_placed : (i : ℕ) → found ≡ Some i → is_due time (record_at t i) ≡ true → Ok i ≡ named_place t time found
  unfolding named_place lowest not_due place_for
  is_placed i e d = rw (e, d) refl

  pub gives_eight : found ≡ None → Err NoRecord ≡ named_place t time found
  unfolding named_place lowest place_for
  gives_eight e = rw e refl

abbrev is_at : Result ℕ Refusal → Bool
is_at (Ok i) = true
is_at (Err r) = false

placed_accepts : (j : Result Unit Refusal) (i place : ℕ) → Ok place ≡ placed_by j i → j ≡ Ok tt
placed_accepts (Ok a) i place e = refl
placed_accepts (Err r) i place e = true_false (ap is_at e)

-- the plan is the step of the record at the place that is given, or the same refusal
module _ (t : List ℕ) (store output : ℕ) (p : Primitive) where
  pub fire_goes : (place : ℕ) → Ok place ≡ fire_place t store output p → fire_plan t store output p ≡ Ok (step_by (Some place) t p.time)
  unfolding fire_place fire_plan place_for
  fire_goes place e = go (found_for t p) refl e
    where
      none : Ready t p (found_for t p) → found_for t p ≡ None → ⊥
      none r q = true_false (ap is_some (sym r.found_is ∙ q))

      go : (f : Option ℕ) → found_for t p ≡ f → Ok place ≡ placed_by (lowest (fire_tests t store output p)) (place_for f) → plan_by (lowest (fire_tests t store output p)) (step_by f t p.time) ≡ Ok (step_by (Some place) t p.time)
      go (Some i) q h = goes_at (lowest (fire_tests t store output p)) i place (λ (k : ℕ). step_by (Some k) t p.time) h
      go None q h =
          let a = placed_accepts (lowest (fire_tests t store output p)) 0 place h in
          let stages = both_stages (peer_tests t store output p.time p.peer) (named_tests t p.time (found_for t p)) a in
          absurd (none (ready t p (found_for t p) refl stages.1) q)

  -- that record is whole, and the time in range
  pub fire_known : (place : ℕ) → Ok place ≡ fire_place t store output p → Whole t place × (p.time ≤ time_bound)
  unfolding fire_place place_for
  fire_known place e =
      let a = placed_accepts (lowest (fire_tests t store output p)) (place_for (found_for t p)) place e in
      let stages = both_stages (peer_tests t store output p.time p.peer) (named_tests t p.time (found_for t p)) a in
      let r = ready t p (found_for t p) refl stages.1 in
      let at : place ≡ r.place = place_at (lowest (fire_tests t store output p)) (place_for (found_for t p)) place e ∙ ap place_for r.found_is in
      let may = entered t store output p.time _ stages.0 in
      (subst (Whole t) (sym at) (live_whole t may.fitting.formed r.place (named_live t p r.place r.names)), may.bounded)

  pub fire_refuses : (r : Refusal) → Err r ≡ fire_place t store output p → fire_plan t store output p ≡ Err r
  unfolding fire_place fire_plan
  fire_refuses r e = refuses_so (lowest (fire_tests t store output p)) (place_for (found_for t p)) r (step_by (found_for t p) t p.time) e
