-- An accepted primitive, as the code carries it out. Assumes nothing.
use Prim.Native.Nat.{ℕ}
use mathlib.Core.Path.{◌≡◌}
use mathlib.Core.List.{List}
use lib.ListN.{length}
use Rattle.std.specs.Prelude.{Ok}
use Rattle.row_turns.specs.declared.Given.{Given}
use Rattle.step_plan.specs.declared.Call.{Call}
use Rattle.step_outcome.specs.Carry.{Lent, Ready}
use Rattle.c_answers.specs.Handed.{Called, handed_by}
use Rattle.step_carrying.specs.Coming.{coming_step, InRange}
use Rattle.step_carrying.specs.declared.Coming.{Coming}
use Rattle.call_primitive.specs.Primitives.{primitive_step, primitive_plan, primitive_place, primitive_row, primitive_given, primitive_call}
use Rattle.call_primitive.specs.declared.Primitive.{Primitive}
use Rattle.call_primitive.proofs.Placing.{Placing, plan_goes, placed, step_is, in_range_holds}
use Rattle.call_engine.specs.Calls.{PlanReady}
use Rattle.call_engine.proofs.Carrying.{ready_coming, gone_coming}

module _ (l : Lent) (p : Primitive) (place : ℕ) (e : Ok place ≡ primitive_place l.table (length l.store) (length l.output) p) where
  pub placing : Placing l.table p place
  placing = placed l.table (length l.store) (length l.output) p place e

  module _ (coming : Coming) (g : Given) (c : Call) (ce : coming ≡ primitive_row l.table place p) (ge : g ≡ primitive_given p) (ke : c ≡ primitive_call p) where
    is : primitive_step l.table place p ≡ coming_step l.table coming g c
    is = rw (ce, ge, ke) (step_is l.table place p)

    pub ready : PlanReady l (primitive_plan l.table (length l.store) (length l.output) p) → Ready l (coming_step l.table coming g c)
    ready = ready_coming l (primitive_plan l.table (length l.store) (length l.output) p) (primitive_step l.table place p) (plan_goes l.table (length l.store) (length l.output) p place e) coming g c is

    pub ranged : InRange l.table coming g
    ranged = rw (ce, ge) (in_range_holds l.table place p placing)

    pub so : (d : Called) (words : List ℕ) → d ≡ handed_by l (Ok (coming_step l.table coming g c)) words → d ≡ handed_by l (primitive_plan l.table (length l.store) (length l.output) p) words
    so = gone_coming l (primitive_plan l.table (length l.store) (length l.output) p) (primitive_step l.table place p) (plan_goes l.table (length l.store) (length l.output) p place e) coming g c is
