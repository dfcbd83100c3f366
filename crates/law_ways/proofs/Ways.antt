-- The four ways of an accepted call: it does nothing but store its time, it is the turn of a live record, a request's opening, or that of a PDU without a live record. What is proved of all calls is proved over these. Assumes nothing.
use Prim.Native.Nat.{ℕ, ◌≤◌}
use mathlib.Core.Path.{◌≡◌}
use mathlib.Core.Bool.{Bool, true, false, ◌||◌}
use mathlib.Core.Logic.{◌⊎◌}
use lib.ListN.{length}
use lib.Dec.{eqb}
use Rattle.base_layout.specs.Layout.{cell_size, time_bound, exit_bound}
use Rattle.codec_pdu.specs.declared.Kind.TheVariants as Kind
use Rattle.codec_reading.specs.Read.{pdu_of}
use Rattle.table_layout.specs.Table.{record_at}
use Rattle.row_events.specs.Events.{event_number}
use Rattle.row_events.specs.declared.Event.{Event}
use Rattle.row_events.specs.declared.Event.TheVariants as Event
use Rattle.row_turns.specs.declared.Given.{Given}
use Rattle.step_arrivals.specs.Arrivals.{event_of}
use Rattle.step_plan.specs.Steps.{idle_step}
use Rattle.step_plan.specs.declared.Call.{Call as Asked}
use Rattle.step_plan.specs.declared.Step.{Step}
use Rattle.step_plan.specs.declared.Tells.{Tells}
use Rattle.step_plan.specs.declared.Tells.TheVariants as Tells
use Rattle.step_live.specs.Turning.{live_step}
use Rattle.law_places.specs.Places.{LiveAt}
use Rattle.call_request.proofs.Accepted as Requests
use Rattle.call_receive.specs.Receives.{taken_call, unmatched_step}
use Rattle.call_receive.proofs.Accepted as Receives
use Rattle.call_receive.proofs.Ways.{Unmatched}
use Rattle.step_outcome.specs.Carry.{Lent}
use Rattle.law_steps_sound.specs.Sound.{Fits, GivenOk, LentOk}
use Rattle.call_plans.specs.Calls.{Call, as_request, Lends, time_of, peer_in, is_request, is_primitive}
use Rattle.call_plans.specs.Concerns.{Concerns, Comes, fires}

-- a Result, TTR set
abbrev pub is_result_event : Event → Bool
is_result_event e = eqb (event_number e) (event_number Event.Result) || eqb (event_number e) (event_number Event.ResultRid)

-- the event is the PDU that was received from the record's peer
pub record Came (c : Call) (l : Lent) (place : ℕ) (event : Event) (asked : Asked) : Type 0 where
  pub time : ℕ
  pub peer : ℕ
  pub call_is : c ≡ Call.Receive time peer
  pub of_peer : (record_at l.table place).peer ≡ peer
  pub event_is : event ≡ event_of (pdu_of l.given).kind
  pub asked_is : asked ≡ taken_call (pdu_of l.given)

-- a call that fires a record tells it; any other tells none and has named the record's peer
abbrev pub ToldOrNamed : Call → Lent → ℕ → Tells → Type 0
ToldOrNamed c l place tells = ((fires c ≡ true) × (tells ≡ Tells.Record)) ⊎ ((fires c ≡ false) × ((tells ≡ Tells.Nothing) × (peer_in c ≡ (record_at l.table place).peer)))

-- a PDU is ignored, or none is due
pub record Idle (c : Call) (step : Step) : Type 0 where
  pub step_is : step ≡ idle_step (time_of c)
  pub bounded : time_of c ≤ time_bound
  pub no_request : is_request c ≡ false
  pub no_primitive : is_primitive c ≡ false

-- the live record that the call concerns takes a PDU, or a primitive or firing, which is no Result
pub record Lived (c : Call) (l : Lent) (step : Step) : Type 0 where
  pub place : ℕ
  pub event : Event
  pub given : Given
  pub asked : Asked
  pub step_is : step ≡ live_step l.table place event given asked
  pub live : LiveAt l.table place
  pub concerns : Concerns c l place
  pub comes : Comes c l place event given
  pub time_is : given.time ≡ time_of c
  pub aborted : event ≡ Event.ReceivedAbort → (pdu_of l.given).kind ≡ Kind.Abort given.kind given.reason
  pub given_ok : GivenOk given
  pub lent_ok : Lends c l → LentOk l asked
  pub no_request : is_request c ≡ false
  pub known : ToldOrNamed c l place asked.tells
  pub came : Came c l place event asked ⊎ (is_result_event event ≡ false)

-- a request is accepted
pub record Requested (c : Call) (l : Lent) (step : Step) : Type 0 where
  pub time : ℕ
  pub peer : ℕ
  pub class : ℕ
  pub user_ack : Bool
  pub call_is : c ≡ Call.Request time peer class user_ack
  pub accepted : Requests.Accepted l.table (length l.store) (length l.output) (as_request time peer class user_ack (length l.given)) step

-- a PDU comes without a live record
pub record Arrived (c : Call) (l : Lent) (step : Step) : Type 0 where
  pub time : ℕ
  pub peer : ℕ
  pub call_is : c ≡ Call.Receive time peer
  pub accepted : Receives.Accepted l.table (length l.store) (length l.output) time peer l.given step
  pub unmatched : Unmatched l.table time peer l.given
  pub step_is : step ≡ unmatched_step l.table unmatched.role peer unmatched.tid time l.given (pdu_of l.given)

abbrev pub Way : Call → Lent → Step → Type 0
Way c l step = Idle c step ⊎ (Lived c l step ⊎ (Requested c l step ⊎ Arrived c l step))

-- what is known of an accepted call: what is lent fits, a message has room in a cell and exit information in a record, and the step goes one of these ways
pub record Accepted (c : Call) (l : Lent) (step : Step) : Type 0 where
  pub fits : Fits l
  pub small : step.message.len ≤ cell_size
  pub exit_fits : Lends c l → length l.exit ≤ exit_bound
  pub way : Way c l step
