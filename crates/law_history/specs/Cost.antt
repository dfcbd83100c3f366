-- What a call costs, tells and means (02, L11): "the bytes it sent", "the Abort PDU aside"; what is promised of them is crates/law_cost's `Costs`.
use Rattle.std.specs.Prelude.{ℕ, ◌%◌, ◌≡◌, List, length, eqb, Some}
use Rattle.base_layout.specs.Layout.{tid_count}
use Rattle.base_lists.specs.Seq.{pick}
use Rattle.table_record.specs.Record.{role_number}
use Rattle.table_record.specs.declared.Role.TheVariants.{Initiator}
use Rattle.codec_reading.specs.Read.{type_of}
use Rattle.step_arrivals.specs.Arrivals.{tid_of, name_of}
use Rattle.step_plan.specs.declared.Told.TheVariants as Told
use Rattle.step_outcome.specs.Carry.{Lent, Answer}
use Rattle.c_answers.specs.Handed.{plan_cost}
use Rattle.c_answers.specs.declared.Cost.{Cost}
use Rattle.call_plans.specs.Calls.{Call, plan_for}
use Rattle.law_history.specs.Trace.{Entry}
use Rattle.law_history.specs.Tally.{Name, is_named, sent_of, told_of_is, peer_of, sender_role}

-- the octets of a PDU, "the Abort PDU aside" (type 4)
abbrev pub weight : List ℕ → ℕ
weight s = pick (eqb (type_of s) 4) 0 (length s)

-- of octets that are sent to a peer those under a name, which the low 15 TID bits give
unfoldable pub length_for : Name → (peer : ℕ) → List ℕ → ℕ
length_for n peer s = pick (is_named n (sender_role s) peer (tid_of s % tid_count)) (weight s) 0

-- the bytes that a call sent under a name
unfoldable pub charged : Entry → Name → ℕ
charged e n = length_for n (peer_of e.call e.done.answer) (sent_of e.done.answer e.done.output)

-- the class of a request
abbrev pub class_asked : Call → ℕ
class_asked (Call.Request time peer class user_ack) = class
class_asked (Call.Answer time role peer tid) = 0
class_asked (Call.Result time role peer tid) = 0
class_asked (Call.Abort time role peer tid reason) = 0
class_asked (Call.Receive time peer) = 0
class_asked (Call.Timer time) = 0
class_asked (Call.Fire time role peer tid) = 0

-- what a call tells: words 32 and 33 of its answer
unfoldable pub cost_told : Entry → Cost
cost_told e = plan_cost e.lent.table (plan_for e.call e.lent)

-- a name as a user gives it
pub record GivenAs (role peer tid : ℕ) (n : Name) : Type 0 where
  pub role_is : role_number n.role ≡ role
  pub peer_is : n.peer ≡ peer
  pub tid_is : n.tid ≡ tid

-- the name that a call opens (a request), that it is given (a user's answer, result or abort), that its PDU bears, or that it fires
abbrev pub MeantBy : Call → Lent → Answer → Name → Type 0
MeantBy (Call.Request time peer class user_ack) l a n = (n.role ≡ Initiator) × ((n.peer ≡ peer) × (told_of_is a ≡ Told.Tid n.tid))
MeantBy (Call.Answer time role peer tid) l a n = GivenAs role peer tid n
MeantBy (Call.Result time role peer tid) l a n = GivenAs role peer tid n
MeantBy (Call.Abort time role peer tid reason) l a n = GivenAs role peer tid n
MeantBy (Call.Receive time peer) l a n = (name_of l.given ≡ Some (n.role, n.tid)) × (n.peer ≡ peer)
MeantBy (Call.Timer time) l a n = told_of_is a ≡ Told.Fired n.role n.peer n.tid
MeantBy (Call.Fire time role peer tid) l a n = told_of_is a ≡ Told.Fired n.role n.peer n.tid

abbrev pub Meant : Entry → Name → Type 0
Meant e n = MeantBy e.call e.lent e.done.answer n
