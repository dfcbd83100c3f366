-- The ways of an accepted call: an event that a live record takes, something that comes without one, or nothing but the time.
use Rattle.std.specs.Prelude.{ℕ, ◌≡◌, List, ◌⊎◌, Option}
use Rattle.codec_pdu.specs.declared.Kind.TheVariants as Kind
use Rattle.codec_reading.specs.Read.{pdu_of}
use Rattle.row_events.specs.declared.Event.{Event}
use Rattle.row_events.specs.declared.Event.TheVariants as Event
use Rattle.row_events.specs.declared.Opening.{Opening}
use Rattle.row_turns.specs.declared.Given.{Given}
use Rattle.step_commit.specs.declared.GenTid.{GenTid}
use Rattle.step_plan.specs.Steps.{idle_step}
use Rattle.step_plan.specs.declared.Holder.{Holder}
use Rattle.step_plan.specs.declared.Call.{Call as Asked}
use Rattle.step_plan.specs.declared.Step.{Step}
use Rattle.step_live.specs.Turning.{live_step}
use Rattle.step_opening.specs.Opens.{opening_step}
use Rattle.step_outcome.specs.Carry.{Lent}
use Rattle.call_plans.specs.Calls.{Call, promised, time_of}

-- an event that the live record at a place takes, at the call's time; a received Abort is the PDU that was lent
pub record TakenBy (call : Call) (l : Lent) (step : Step) : Type 0 where
  pub place : ℕ
  pub event : Event
  pub given : Given
  pub asked : Asked
  pub step_is : step ≡ live_step l.table place event given asked
  pub time : given.time ≡ time_of call
  pub received : event ≡ Event.ReceivedAbort → (pdu_of l.given).kind ≡ Kind.Abort given.kind given.reason

-- a request, or a PDU without a live record, at the call's time
pub record ComesAlone (call : Call) (l : Lent) (step : Step) : Type 0 where
  pub opening : Opening
  pub holder : Holder
  pub given : Given
  pub gen_tid : Option GenTid
  pub asked : Asked
  pub step_is : step ≡ opening_step l.table opening holder given gen_tid asked
  pub time : given.time ≡ time_of call

-- one of these, or "An accepted call stores its time" and no more
abbrev pub Way : Call → Lent → Step → Type 0
Way call l step = (step ≡ idle_step (time_of call)) ⊎ (TakenBy call l step ⊎ ComesAlone call l step)

-- the table that a call leaves
abbrev pub table_left : Call → Lent → List ℕ
table_left call l = (promised call l).table
