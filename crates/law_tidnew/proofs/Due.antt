-- Whether TIDnew is due after a call: a request takes it or makes it due, any other call leaves it. Assumes nothing.
use Prim.Native.Nat.{ℕ, ◌%◌}
use native.Mathlib.Omega.{arith}
use mathlib.Core.Path.{◌≡◌, refl, sym, ap, ◌∙◌}
use mathlib.Core.Bool.{Bool, true, false}
use mathlib.Core.List.{List}
use mathlib.Core.Logic.{inl, inr}
use lib.Dec.{eqb}
use Rattle.std.specs.Prelude.{Ok, Err}
use Rattle.base_lists.specs.Seq.{pick}
use Rattle.base_lists.proofs.StoresAndParts.{true_false}
use Rattle.table_layout.specs.Table.{gen_tid_of, tidnew_due_of}
use Rattle.table_tids.specs.Tids.{due_after}
use Rattle.step_plan.specs.Steps.{step_of, Plan}
use Rattle.step_plan.specs.declared.Step.{Step}
use Rattle.step_opening.specs.Opens.{opening_changes, opening_step}
use Rattle.call_request.specs.Requests.{request_step, counted_by}
use Rattle.step_outcome.specs.Carry.{Lent, table_then, carried_out, outcome}
use Rattle.call_plans.specs.Calls.{Call, Lends, promised, plan_for, is_request}
use Rattle.law_ways.proofs.Ways.{Way, Requested}
use Rattle.law_ways.proofs.CallWays.{call_ways}
use Rattle.law_plans_sound.proofs.CallSound.{way_sound}
use Rattle.law_calls.proofs.GenTid.{step_leaves}
use Rattle.law_commit.proofs.Left.{gen_tid_then, due_then, gen_tid_left, tidnew_due_left}
use Rattle.law_tidnew.specs.TidNew.{class_in, due_by}

module _ (c : Call) (l : Lent) where
  abbrev t : List ℕ
  t = l.table

  -- the column of an accepted call, for the GenTID that it leaves
  abbrev Column : Step → Bool → Type 0
  Column step b = due_then step.changes.gen_tid (tidnew_due_of t) ≡ pick b (pick (eqb (gen_tid_then step.changes.gen_tid (gen_tid_of t)) 0) true (pick (eqb (class_in c) 0) (tidnew_due_of t) false)) (tidnew_due_of t)

  by_request : (step : Step) → Requested c l step → Column step true
  unfolding request_step counted_by opening_step opening_changes step_of due_after
  by_request step q =
      let small : q.class % 256 ≡ q.class = omega (arith, q.accepted.admits.class_known) in
      rw (q.accepted.step_is, small, q.call_is) refl

  column : (step : Step) → Way c l step → (b : Bool) → is_request c ≡ b → Column step b
  column step w false e = rw (step_leaves c l step e w) refl
  column step (inl i) true e = true_false (sym e ∙ i.no_request)
  column step (inr (inl k)) true e = true_false (sym e ∙ k.no_request)
  column step (inr (inr (inl q))) true e = by_request step q
  column step (inr (inr (inr u))) true e = true_false (sym e ∙ ap is_request u.call_is)

  of_plan : Lends c l → (p : Plan) → plan_for c l ≡ p → tidnew_due_of (outcome l p).table ≡ due_by c (outcome l p).answer (gen_tid_of (outcome l p).table) (tidnew_due_of t)
  unfolding outcome carried_out table_then
  of_plan lends (Err r) e = refl
  of_plan lends (Ok step) e =
      let a = call_ways c l step e in
      let ok = (way_sound c l step lends a).allowed in
      let counted = gen_tid_left t step.changes l.exit a.fits.formed ok in
      tidnew_due_left t step.changes l.exit a.fits.formed ok ∙ (column step a.way (is_request c) refl ∙ rw counted refl)

  pub due_after_call : Lends c l → tidnew_due_of (promised c l).table ≡ due_by c (promised c l).answer (gen_tid_of (promised c l).table) (tidnew_due_of t)
  unfolding promised
  due_after_call lends = of_plan lends (plan_for c l) refl
