-- GenTID after an accepted request is one more, modulo 32,768, and after any other call the same. Assumes nothing.
use Prim.Native.Nat.{ℕ, ◌+◌, ◌%◌}
use mathlib.Core.Path.{◌≡◌, refl, sym, ap, ◌∙◌}
use mathlib.Core.Bool.{Bool, true, false}
use mathlib.Core.Logic.{inl, inr}
use Rattle.std.specs.Prelude.{Ok, Err}
use Rattle.base_lists.specs.Seq.{pick}
use Rattle.base_lists.proofs.StoresAndParts.{true_false}
use Rattle.table_layout.specs.Table.{gen_tid_of}
use Rattle.step_plan.specs.Steps.{step_of, Plan}
use Rattle.step_plan.specs.declared.Step.{Step}
use Rattle.step_opening.specs.Opens.{opening_changes, opening_step}
use Rattle.call_request.specs.Requests.{request_step, counted_by}
use Rattle.step_outcome.specs.Carry.{Lent, Done, table_then, carried_out, outcome}
use Rattle.call_plans.specs.Calls.{Call, Lends, promised, plan_for, is_request}
use Rattle.law_ways.proofs.Ways.{Way}
use Rattle.law_ways.proofs.CallWays.{call_ways}
use Rattle.law_plans_sound.proofs.CallSound.{way_sound}
use Rattle.law_calls.proofs.GenTid.{step_leaves}
use Rattle.law_afterwards.specs.GenTid.{gen_tid_after}
use Rattle.law_commit.proofs.Left.{gen_tid_then, gen_tid_left}

module _ (c : Call) (l : Lent) (lends : Lends c l) where
  -- the column of an accepted call: a request's sets it one higher, any other's keeps it
  column : (step : Step) → Way c l step → (b : Bool) → is_request c ≡ b → gen_tid_then step.changes.gen_tid (gen_tid_of l.table) ≡ pick b ((gen_tid_of l.table + 1) % 32768) (gen_tid_of l.table)
  unfolding request_step counted_by opening_step opening_changes step_of
  column step w false e = rw (step_leaves c l step e w) refl
  column step (inl i) true e = true_false (sym e ∙ i.no_request)
  column step (inr (inl k)) true e = true_false (sym e ∙ k.no_request)
  column step (inr (inr (inl q))) true e = rw q.accepted.step_is refl
  column step (inr (inr (inr u))) true e = true_false (sym e ∙ ap is_request u.call_is)

  counted : (p : Plan) → plan_for c l ≡ p → gen_tid_of (outcome l p).table ≡ gen_tid_after c (outcome l p).answer (gen_tid_of l.table)
  unfolding outcome carried_out table_then
  counted (Err r) e = refl
  counted (Ok step) e =
      let a = call_ways c l step e in
      gen_tid_left l.table step.changes l.exit a.fits.formed (way_sound c l step lends a).allowed ∙ column step a.way (is_request c) refl

-- "GenTID counts modulo 32,768, also for class 0; a refused request doesn't count"
pub gen_tid_counts : (c : Call) (l : Lent) → Lends c l → gen_tid_of (promised c l).table ≡ gen_tid_after c (promised c l).answer (gen_tid_of l.table)
unfolding promised
gen_tid_counts c l k = counted c l k (plan_for c l) refl
