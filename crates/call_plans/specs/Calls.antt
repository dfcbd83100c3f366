-- The engine's calls as one type (01, "Events"; 02, L3), and what each promises as one equation: its answer, and what table, store and output then hold. A further call is one more case of each definition here.
use Rattle.std.specs.Prelude.{ℕ, ◌≡◌, Bool, true, false, [], length}
use Rattle.row_events.specs.declared.Event.TheVariants.{UserAnswer, UserResult, UserAbort}
use Rattle.step_plan.specs.Steps.{Plan}
use Rattle.call_request.specs.Requests.{request_plan}
use Rattle.call_request.specs.declared.Request.{Request as Requesting}
use Rattle.call_primitive.specs.Primitives.{primitive_plan}
use Rattle.call_primitive.specs.declared.Primitive.{Primitive}
use Rattle.call_receive.specs.Receives.{receive_plan}
use Rattle.call_timer.specs.Timers.{timer_plan}
use Rattle.call_fire.specs.Fires.{as_fire, fire_plan}
use Rattle.step_outcome.specs.Carry.{Lent, Done, outcome}

-- one of the calls, with the numbers that it was given
pub data Call : Type 0 where
  Request : (time peer class : ℕ) (user_ack : Bool) → Call
  Answer : (time role peer tid : ℕ) → Call
  Result : (time role peer tid : ℕ) → Call
  Abort : (time role peer tid reason : ℕ) → Call
  Receive : (time peer : ℕ) → Call
  Timer : (time : ℕ) → Call
  Fire : (time role peer tid : ℕ) → Call

-- what is asked: a request, a user's answer with exit information, a result with its data, an abort with its reason
abbrev pub as_request : ℕ → ℕ → ℕ → Bool → ℕ → Requesting
as_request time peer class user_ack len = record { time = time; peer = peer; class = class; user_ack = user_ack; len = len }

abbrev pub as_answer : ℕ → ℕ → ℕ → ℕ → ℕ → Primitive
as_answer time role peer tid exit_len = record { event = UserAnswer; time = time; role = role; peer = peer; tid = tid; reason = 0; len = 0; exit_len = exit_len }

abbrev pub as_result : ℕ → ℕ → ℕ → ℕ → ℕ → Primitive
as_result time role peer tid len = record { event = UserResult; time = time; role = role; peer = peer; tid = tid; reason = 0; len = len; exit_len = 0 }

abbrev pub as_abort : ℕ → ℕ → ℕ → ℕ → ℕ → Primitive
as_abort time role peer tid reason = record { event = UserAbort; time = time; role = role; peer = peer; tid = tid; reason = reason; len = 0; exit_len = 0 }

-- what is lent decides number 1
abbrev pub store_size : Lent → ℕ
store_size l = length l.store

abbrev pub output_size : Lent → ℕ
output_size l = length l.output

-- its plan: a refusal, or a step
abbrev pub plan_for : Call → Lent → Plan
plan_for (Call.Request time peer class user_ack) l = request_plan l.table (store_size l) (output_size l) (as_request time peer class user_ack (length l.given))
plan_for (Call.Answer time role peer tid) l = primitive_plan l.table (store_size l) (output_size l) (as_answer time role peer tid (length l.exit))
plan_for (Call.Result time role peer tid) l = primitive_plan l.table (store_size l) (output_size l) (as_result time role peer tid (length l.given))
plan_for (Call.Abort time role peer tid reason) l = primitive_plan l.table (store_size l) (output_size l) (as_abort time role peer tid reason)
plan_for (Call.Receive time peer) l = receive_plan l.table (store_size l) (output_size l) time peer l.given
plan_for (Call.Timer time) l = timer_plan l.table (store_size l) (output_size l) time
plan_for (Call.Fire time role peer tid) l = fire_plan l.table (store_size l) (output_size l) (as_fire time role peer tid)

-- what it promises: its plan, carried out
unfoldable pub promised : Call → Lent → Done
promised c l = outcome l (plan_for c l)

-- a call that takes no data, or no exit information, is lent none
abbrev pub Lends : Call → Lent → Type 0
Lends (Call.Request time peer class user_ack) l = l.exit ≡ []
Lends (Call.Answer time role peer tid) l = l.given ≡ []
Lends (Call.Result time role peer tid) l = l.exit ≡ []
Lends (Call.Abort time role peer tid reason) l = (l.given ≡ []) × (l.exit ≡ [])
Lends (Call.Receive time peer) l = l.exit ≡ []
Lends (Call.Timer time) l = (l.given ≡ []) × (l.exit ≡ [])
Lends (Call.Fire time role peer tid) l = (l.given ≡ []) × (l.exit ≡ [])

-- the time that it was given
abbrev pub time_of : Call → ℕ
time_of (Call.Request time peer class user_ack) = time
time_of (Call.Answer time role peer tid) = time
time_of (Call.Result time role peer tid) = time
time_of (Call.Abort time role peer tid reason) = time
time_of (Call.Receive time peer) = time
time_of (Call.Timer time) = time
time_of (Call.Fire time role peer tid) = time

-- the peer that it names; a timer call names none
abbrev pub peer_in : Call → ℕ
peer_in (Call.Request time peer class user_ack) = peer
peer_in (Call.Answer time role peer tid) = peer
peer_in (Call.Result time role peer tid) = peer
peer_in (Call.Abort time role peer tid reason) = peer
peer_in (Call.Receive time peer) = peer
peer_in (Call.Timer time) = 0
peer_in (Call.Fire time role peer tid) = peer

-- a request, which alone is given a new TID
abbrev pub is_request : Call → Bool
is_request (Call.Request time peer class user_ack) = true
is_request (Call.Answer time role peer tid) = false
is_request (Call.Result time role peer tid) = false
is_request (Call.Abort time role peer tid reason) = false
is_request (Call.Receive time peer) = false
is_request (Call.Timer time) = false
is_request (Call.Fire time role peer tid) = false

-- a user's answer, result or abort, which names a live record
abbrev pub is_primitive : Call → Bool
is_primitive (Call.Request time peer class user_ack) = false
is_primitive (Call.Answer time role peer tid) = true
is_primitive (Call.Result time role peer tid) = true
is_primitive (Call.Abort time role peer tid reason) = true
is_primitive (Call.Receive time peer) = false
is_primitive (Call.Timer time) = false
is_primitive (Call.Fire time role peer tid) = false
