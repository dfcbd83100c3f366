-- Every accepted call goes one of the ways, over a well-formed table. Assumes nothing.
use Prim.Native.Nat.{ℕ, ◌%◌}
use mathlib.Core.Path.{◌≡◌, refl, sym, ap, ◌∙◌}
use mathlib.Core.Logic.{inl, inr}
use lib.ListN.{length}
use Rattle.std.specs.Prelude.{None, Ok}
use Rattle.codec_reading.specs.Read.{pdu_of}
use Rattle.table_layout.specs.Table.{count}
use Rattle.table_finding.specs.Finding.{free_of}
use Rattle.table_well_formed.specs.WellFormed.{WellFormed}
use Rattle.row_choice.specs.Rows.{requested_of}
use Rattle.step_opening.specs.Opens.{place_for}
use Rattle.step_plan.specs.declared.Step.{Step}
use Rattle.call_request.specs.Requests.{requester, counted_by, request_given, request_call, request_step}
use Rattle.call_request.specs.declared.Request.{Request}
use Rattle.call_request.proofs.Accepted.{place_of}
use Rattle.call_receive.specs.Receives.{arriver_of, opened_given, opened_call, opened_step, arrival_opening, unmatched_step}
use Rattle.step_outcome.specs.Carry.{Lent}
use Rattle.call_plans.specs.Calls.{Call, as_request, plan_for, time_of}
use Rattle.law_ways.proofs.Ways as Ways
use Rattle.law_ways.proofs.CallWays.{call_ways}
use Rattle.law_afterwards.specs.Ways.{ComesAlone, Way}

module _ (c : Call) (l : Lent) (step : Step) where
  requested : Ways.Requested c l step → ComesAlone c l step
  unfolding request_step request_given
  requested q =
      let ask : Request = as_request q.time q.peer q.class q.user_ack (length l.given) in
      record {
        opening = requested_of (q.class % 256);
        holder = requester l.table (place_of l.table) ask;
        given = request_given ask;
        gen_tid = counted_by l.table ask;
        asked = request_call ask;
        step_is = q.accepted.step_is;
        time = ap time_of (sym q.call_is);
      }

  arrived : Ways.Arrived c l step → ComesAlone c l step
  unfolding unmatched_step opened_step opened_given
  arrived a = record {
    opening = arrival_opening l.table a.peer a.unmatched.tid l.given (pdu_of l.given);
    holder = arriver_of (place_for (free_of l.table (count l.table))) a.unmatched.role a.peer a.unmatched.tid (pdu_of l.given).kind;
    given = opened_given a.time (pdu_of l.given);
    gen_tid = None;
    asked = opened_call (pdu_of l.given);
    step_is = a.step_is;
    time = ap time_of (sym a.call_is);
  }

  of_way : Ways.Way c l step → Way c l step
  of_way (inl i) = inl i.step_is
  of_way (inr (inl k)) = inr (inl record { place = k.place; event = k.event; given = k.given; asked = k.asked; step_is = k.step_is; time = k.time_is; received = k.aborted })
  of_way (inr (inr (inl q))) = inr (inr (requested q))
  of_way (inr (inr (inr a))) = inr (inr (arrived a))

-- the way of any accepted call, and that its table is well formed
pub call_way : (c : Call) (l : Lent) (step : Step) → plan_for c l ≡ Ok step → Way c l step × WellFormed l.table
call_way c l step e = let a = call_ways c l step e in (of_way c l step a.way, a.fits.formed)
