-- An accepted request, as the code carries it out. Assumes nothing.
use Prim.Native.Nat.{ℕ, ◌≤◌}
use mathlib.Core.Path.{◌≡◌}
use mathlib.Core.List.{List}
use lib.ListN.{length}
use Rattle.std.specs.Prelude.{Ok}
use Rattle.base_layout.specs.Layout.{header_size, cell_size}
use Rattle.row_turns.specs.declared.Given.{Given}
use Rattle.step_plan.specs.declared.Call.{Call}
use Rattle.step_outcome.specs.Carry.{Lent, Ready}
use Rattle.c_answers.specs.Handed.{Called, handed_by}
use Rattle.step_carrying.specs.Coming.{coming_step, InRange}
use Rattle.step_carrying.specs.declared.Coming.{Coming}
use Rattle.call_request.specs.Requests.{request_step, request_plan, request_place, request_opens, request_given, request_call}
use Rattle.call_request.specs.declared.Request.{Request}
use Rattle.call_request.proofs.Passed.{has_header}
use Rattle.call_request.proofs.Staged.{plan_goes}
use Rattle.call_request.proofs.Accepted.{ready_at}
use Rattle.call_request.proofs.Opening.{step_is, in_range_holds}
use Rattle.call_engine.specs.Calls.{PlanReady}
use Rattle.call_engine.proofs.Carrying.{ready_coming, gone_coming}

module _ (l : Lent) (q : Request) (place : ℕ) (e : Ok place ≡ request_place l.table (length l.store) (length l.output) q) where
  pub header : header_size ≤ length l.table
  header = has_header l.table (ready_at l.table (length l.store) (length l.output) q place e).0

  pub data_fits : q.len ≤ cell_size
  data_fits = (ready_at l.table (length l.store) (length l.output) q place e).1.1.1

  module _ (coming : Coming) (g : Given) (c : Call) (ce : coming ≡ request_opens l.table place q) (ge : g ≡ request_given q) (ke : c ≡ request_call q) where
    is : request_step l.table place q ≡ coming_step l.table coming g c
    is = rw (ce, ge, ke) (step_is l.table place q)

    pub ready : PlanReady l (request_plan l.table (length l.store) (length l.output) q) → Ready l (coming_step l.table coming g c)
    ready = ready_coming l (request_plan l.table (length l.store) (length l.output) q) (request_step l.table place q) (plan_goes l.table (length l.store) (length l.output) q place e) coming g c is

    pub ranged : InRange l.table coming g
    ranged =
        let k = ready_at l.table (length l.store) (length l.output) q place e in
        rw (ce, ge) (in_range_holds l.table place q k.0 k.1.0 k.1.1.0)

    pub so : (d : Called) (words : List ℕ) → d ≡ handed_by l (Ok (coming_step l.table coming g c)) words → d ≡ handed_by l (request_plan l.table (length l.store) (length l.output) q) words
    so = gone_coming l (request_plan l.table (length l.store) (length l.output) q) (request_step l.table place q) (plan_goes l.table (length l.store) (length l.output) q place e) coming g c is
