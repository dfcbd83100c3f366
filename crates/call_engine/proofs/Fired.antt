-- An accepted timer call: the due record's step, or the time alone. Assumes nothing.
use Prim.Native.Nat.{ℕ, ◌≤◌, ◌<◌}
use mathlib.Core.Path.{◌≡◌, refl, sym, ◌∙◌}
use mathlib.Core.List.{List, []}
use Rattle.std.specs.Prelude.{Result, Ok, Err, Option, Some, None}
use Rattle.base_layout.specs.Layout.{time_bound, tid_bound, records_bound}
use Rattle.base_numbers.specs.declared.Refusal.{Refusal}
use Rattle.row_turns.specs.declared.Given.{Given}
use Rattle.table_layout.specs.Table.{count, record_at}
use Rattle.table_finding.specs.Finding.{due_of}
use Rattle.step_plan.specs.Steps.{idle_step}
use Rattle.step_plan.specs.declared.Call.{Call}
use Rattle.step_outcome.specs.Carry.{Lent, Ready}
use Rattle.c_answers.specs.Handed.{Called, handed_by}
use Rattle.step_carrying.specs.Coming.{coming_step, InRange}
use Rattle.step_carrying.specs.declared.Coming.{Coming}
use Rattle.law_places.proofs.Whole.{Whole, due_whole}
use Rattle.call_refusal.specs.Judging.{lowest}
use Rattle.call_refusal.proofs.Going.{Entered, entered}
use Rattle.call_timer.specs.Timers.{timer_tests, timer_step, timer_plan, fired_given, fired_call, fired_row, fired_step}
use Rattle.call_timer.proofs.Firing.{step_is, in_range_holds}

module _ (t : List ℕ) (store output time : ℕ) (j : Result Unit Refusal) (e : j ≡ lowest (timer_tests t store output time)) where
  pub refuses : (r : Refusal) → j ≡ Err r → timer_plan t store output time ≡ Err r
  unfolding timer_plan
  refuses r k = rw (sym e ∙ k) refl

  module _ (k : j ≡ Ok tt) where
    pub enters : Entered t store output time
    enters = entered t store output time [] (sym e ∙ k)

    module _ (n : ℕ) (f : Option ℕ) (ne : n ≡ count t) (fe : f ≡ due_of t n time) where
      pub fires : (place : ℕ) → f ≡ Some place → timer_plan t store output time ≡ Ok (fired_step t place time)
      unfolding timer_plan timer_step fired_step
      fires place h = rw (sym e ∙ k, ← ne, ← fe, h) refl

      pub rests : f ≡ None → timer_plan t store output time ≡ Ok (idle_step time)
      unfolding timer_plan timer_step
      rests h = rw (sym e ∙ k, ← ne, ← fe, h) refl

      pub whole : (place : ℕ) → f ≡ Some place → Whole t place
      whole place h = due_whole t enters.fitting.formed time n place f ne fe h

-- what the code carries out
module _ (l : Lent) (place time : ℕ) (coming : Coming) (g : Given) (c : Call) (ce : coming ≡ fired_row l.table place) (ge : g ≡ fired_given time) (ke : c ≡ fired_call) where
  is : fired_step l.table place time ≡ coming_step l.table coming g c
  is = rw (ce, ge, ke) (step_is l.table place time)

  pub ready : Ready l (fired_step l.table place time) → Ready l (coming_step l.table coming g c)
  ready k = rw is at k

  pub ranged : (record_at l.table place).tid ≤ tid_bound → place < records_bound → time ≤ time_bound → InRange l.table coming g
  ranged tid small bound = rw (ce, ge) (in_range_holds l.table place time tid small bound)

  pub so : (d : Called) (words : List ℕ) → d ≡ handed_by l (Ok (coming_step l.table coming g c)) words → d ≡ handed_by l (Ok (fired_step l.table place time)) words
  so d words k = k ∙ rw is refl
