-- Which live record a call concerns (demand 3: "the one it names, opens or fires"): a primitive names it, a PDU is addressed to it, the timer call fires the one that is due, a firing the due one that it names (02, L3).
use Rattle.std.specs.Prelude.{ℕ, ◌≡◌, Bool, true, false, List, Some}
use Rattle.table_record.specs.Record.{role_number, role_of}
use Rattle.table_record.specs.declared.Record.{Record}
use Rattle.table_layout.specs.Table.{count, record_at}
use Rattle.table_finding.specs.Finding.{due_of}
use Rattle.table_finding.specs.Searched.{Due}
use Rattle.codec_reading.specs.Read.{pdu_of}
use Rattle.row_events.specs.declared.Event.{Event}
use Rattle.row_events.specs.declared.Row.TheVariants as Row
use Rattle.row_turns.specs.declared.Given.{Given}
use Rattle.step_live.specs.Turning.{row_at}
use Rattle.step_arrivals.specs.Arrivals.{name_of, event_of}
use Rattle.step_outcome.specs.Carry.{Lent}
use Rattle.call_plans.specs.Calls.{Call}

-- a primitive gives the record's role (0 the initiator's, 1 the responder's), peer and TID
pub record NamedBy (role peer tid : ℕ) (r : Record) : Type 0 where
  pub role_is : role_number (role_of r.state) ≡ role
  pub peer_is : r.peer ≡ peer
  pub tid_is : r.tid ≡ tid

-- a PDU from the record's peer has its TID, and the role that its type and the TID's top bit say
pub record Addressed (octets : List ℕ) (peer : ℕ) (r : Record) : Type 0 where
  pub name_is : name_of octets ≡ Some (role_of r.state, r.tid)
  pub peer_is : r.peer ≡ peer

-- a firing gives the record's name, and the record is due
pub record FiredBy (time role peer tid : ℕ) (r : Record) : Type 0 where
  pub named : NamedBy role peer tid r
  pub due : Due time r

-- a call that fires a record, which its answer tells (02, L3: demand 3's "fires" is the second of the two calls, and the old one stays)
abbrev pub fires : Call → Bool
fires (Call.Request time peer class user_ack) = false
fires (Call.Answer time role peer tid) = false
fires (Call.Result time role peer tid) = false
fires (Call.Abort time role peer tid reason) = false
fires (Call.Receive time peer) = false
fires (Call.Timer time) = true
fires (Call.Fire time role peer tid) = true

-- the live record at this place is the one that the call names or fires; a request names none
abbrev pub Concerns : Call → Lent → ℕ → Type 0
Concerns (Call.Request time peer class user_ack) l place = ⊥
Concerns (Call.Answer time role peer tid) l place = NamedBy role peer tid (record_at l.table place)
Concerns (Call.Result time role peer tid) l place = NamedBy role peer tid (record_at l.table place)
Concerns (Call.Abort time role peer tid reason) l place = NamedBy role peer tid (record_at l.table place)
Concerns (Call.Receive time peer) l place = Addressed l.given peer (record_at l.table place)
Concerns (Call.Timer time) l place = due_of l.table (count l.table) time ≡ Some place
Concerns (Call.Fire time role peer tid) l place = FiredBy time role peer tid (record_at l.table place)

-- a primitive that its state allows (01: "a primitive without [a row] gets 9")
abbrev pub StateAllows : Lent → ℕ → Event → Type 0
StateAllows l place event = row_at l.table place event ≡ Row.NotAllowed → ⊥

-- what comes to that record: the user's primitive, the PDU, the timer
abbrev pub Comes : Call → Lent → ℕ → Event → Given → Type 0
Comes (Call.Request time peer class user_ack) l place event given = ⊥
Comes (Call.Answer time role peer tid) l place event given = (event ≡ Event.UserAnswer) × StateAllows l place event
Comes (Call.Result time role peer tid) l place event given = (event ≡ Event.UserResult) × StateAllows l place event
Comes (Call.Abort time role peer tid reason) l place event given = (event ≡ Event.UserAbort) × (StateAllows l place event × (given.reason ≡ reason))
Comes (Call.Receive time peer) l place event given = event ≡ event_of (pdu_of l.given).kind
Comes (Call.Timer time) l place event given = event ≡ Event.Timer
Comes (Call.Fire time role peer tid) l place event given = event ≡ Event.Timer
