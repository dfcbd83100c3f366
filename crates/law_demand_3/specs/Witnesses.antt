-- Seven entries that each break a sentence of the letter: six as an audit wrote them down, and a refusal that changes something. No history has one.
use Rattle.std.specs.Prelude.{ℕ, ◌+◌, ◌≤◌, ◌<◌, ◌≡◌, Bool, true, false, List, [], get_or, Some}
use Rattle.base_layout.specs.Layout.{record_size, base}
use Rattle.table_record.specs.declared.Role.TheVariants.{Initiator}
use Rattle.table_layout.specs.Table.{record_at}
use Rattle.step_arrivals.specs.Arrivals.{name_of}
use Rattle.step_shown.specs.declared.Place.{Place}
use Rattle.step_shown.specs.declared.Shown.TheVariants as Shown
use Rattle.call_plans.specs.Calls.{Call}
use Rattle.call_plans.specs.Concerns.{NamedBy, fires}
use Rattle.law_history.specs.Trace.{Entry}
use Rattle.law_history.specs.Tally.{sent_of, accepted}
use Rattle.law_history.specs.Moves.{before, after}
use Rattle.law_history.specs.Demand.{Shows}

-- an octet of the record at a place changes, its exit information among them
pub record Touched (e : Entry) (place : ℕ) : Type 0 where
  pub octet : ℕ
  pub from : base place ≤ octet
  pub to : octet < base place + record_size
  pub changed : get_or (after e) octet 0 ≡ get_or (before e) octet 0 → ⊥

-- W1: a call that changes an octet of two records
pub record TwoRecords (e : Entry) : Type 0 where
  pub one : ℕ
  pub other : ℕ
  pub apart : one ≡ other → ⊥
  pub first : Touched e one
  pub second : Touched e other

-- W2: a user's abort that changes a record which it doesn't name
pub record WrongRecord (e : Entry) : Type 0 where
  pub time : ℕ
  pub role : ℕ
  pub peer : ℕ
  pub tid : ℕ
  pub reason : ℕ
  pub call_is : e.call ≡ Call.Abort time role peer tid reason
  pub place : ℕ
  pub unnamed : NamedBy role peer tid (record_at (before e) place) → ⊥
  pub touched : Touched e place

-- W3: a call that shows an abort and a confirmation of one request
pub record AbortAndConfirm (e : Entry) : Type 0 where
  pub peer : ℕ
  pub tid : ℕ
  pub type : ℕ
  pub reason : ℕ
  pub place : Place
  pub abort : Shows e (Shown.Abort Initiator peer tid type reason)
  pub confirm : Shows e (Shown.Confirm Initiator peer tid place)

-- W4: a result shown for a request that the PDU doesn't name
pub record OthersResult (e : Entry) : Type 0 where
  pub peer : ℕ
  pub tid : ℕ
  pub place : Place
  pub result : Shows e (Shown.Result peer tid place)
  pub unnamed : name_of e.lent.given ≡ Some (Initiator, tid) → ⊥

-- W5: a user's abort that is accepted and sends nothing
pub record AbortUnsent (e : Entry) : Type 0 where
  pub time : ℕ
  pub role : ℕ
  pub peer : ℕ
  pub tid : ℕ
  pub reason : ℕ
  pub call_is : e.call ≡ Call.Abort time role peer tid reason
  pub taken : accepted e.done.answer ≡ true
  pub unsent : sent_of e.done.answer e.done.output ≡ []

-- W6: an Invoke shown again as one of class 0, by a call that fires a record
pub record InvokeByTimer (e : Entry) : Type 0 where
  pub by_firing : fires e.call ≡ true
  pub peer : ℕ
  pub tid : ℕ
  pub up : Bool
  pub place : Place
  pub invoke : Shows e (Shown.Invoke peer tid 0 up place)

-- W7: a refused call that changes an octet of the table, GenTID's among them
pub record RefusedChange (e : Entry) : Type 0 where
  pub refused : accepted e.done.answer ≡ false
  pub octet : ℕ
  pub changed : get_or (after e) octet 0 ≡ get_or (before e) octet 0 → ⊥

-- an entry that is like none of them
pub record Unlike (e : Entry) (h : List Entry) : Type 0 where
  pub w1 : TwoRecords e → ⊥
  pub w2 : WrongRecord e → ⊥
  pub w3 : AbortAndConfirm e → ⊥
  pub w4 : OthersResult e → ⊥
  pub w5 : AbortUnsent e → ⊥
  pub w6 : InvokeByTimer e → ⊥
  pub w7 : RefusedChange e → ⊥
