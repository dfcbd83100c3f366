-- Demand 3, sentence by sentence, over the history.
use Rattle.std.specs.Prelude.{ℕ, ◌+◌, ◌/◌, ◌%◌, ◌≤◌, ◌<◌, ◌≡◌, Bool, true, false, List, [], ◌∷◌, ◌⊎◌, Some, Ok, Err}
use Rattle.base_lists.specs.Seq.{part}
use Rattle.table_record.specs.Record.{role_number, send_tid}
use Rattle.table_record.specs.declared.Role.TheVariants.{Initiator, Responder}
use Rattle.table_record.specs.declared.State.TheVariants.{IResultWait2}
use Rattle.table_record.specs.declared.Record.{Record}
use Rattle.codec_pdu.specs.declared.Kind.TheVariants as Kind
use Rattle.codec_reading.specs.Read.{pdu_of}
use Rattle.table_layout.specs.Table.{count, record_at}
use Rattle.table_names_ok.specs.Names.{Unique}
use Rattle.step_arrivals.specs.Arrivals.{name_of}
use Rattle.law_counting.specs.Counting.{Counts, Limits}
use Rattle.step_shown.specs.Parts.{data_of}
use Rattle.step_shown.specs.declared.Place.{Place}
use Rattle.step_shown.specs.declared.Shown.{Shown}
use Rattle.step_shown.specs.declared.Shown.TheVariants as Shown
use Rattle.step_outcome.specs.Carry.{Answer}
use Rattle.call_plans.specs.Calls.{Call}
use Rattle.law_history.specs.Trace.{Entry, Throughout}
use Rattle.law_history.specs.Tally.{Name, sent_of, accepted, adds, lives, opens, tally}
use Rattle.law_history.specs.Start.{Start}
use Rattle.law_history.specs.Moves.{before}
use Rattle.law_history.specs.Changed.{IsInvoke, CallFramed}

-- a call shows this to its user
abbrev pub ShownIn : Answer → Shown → Type 0
ShownIn (Err r) s = ⊥
ShownIn (Ok a) s = (a.first ≡ s) ⊎ (a.second ≡ s)

abbrev pub Shows : Entry → Shown → Type 0
Shows e s = ShownIn e.done.answer s

-- confirmations, results and aborts that a call brings under a name, the user's own abort among them
abbrev pub brings : Counts → ℕ
brings c = c.confirms + c.results + c.aborts

-- "nothing after the user's own abort or one shown to it"
abbrev pub Calm : Start → Entry → List Entry → Type 0
Calm start e h = (n : Name) → opens e n ≡ false → 1 ≤ brings (adds e n) → (tally start.counts h n).aborts ≡ 0

-- the user data of a PDU
abbrev pub user_data : List ℕ → List ℕ
user_data s = part s (pdu_of s).start (pdu_of s).len

-- a Result PDU, TTR set, came in this very call from the request's peer with its TID, to the record that waited for it, and its data is what is shown
pub record ResultTaken (e : Entry) (peer tid : ℕ) (place : Place) : Type 0 where
  pub time : ℕ
  pub received : e.call ≡ Call.Receive time peer
  pub gtr : Bool
  pub rid : Bool
  pub pdu : (pdu_of e.lent.given).kind ≡ Kind.Result gtr true rid
  pub waiting : ℕ
  pub inside : waiting < count (before e)
  pub waited : (record_at (before e) waiting).state ≡ IResultWait2
  pub peer_is : (record_at (before e) waiting).peer ≡ peer
  pub tid_is : (record_at (before e) waiting).tid ≡ tid
  pub names : name_of e.lent.given ≡ Some (Initiator, tid)
  pub exact : data_of e.lent.given e.done.store place ≡ user_data e.lent.given

-- "a result only with the exact data of a Result PDU taken while that request waited for it"
abbrev pub ResultExact : Entry → List Entry → Type 0
ResultExact e h = (peer tid : ℕ) (place : Place) → Shows e (Shown.Result peer tid place) → ResultTaken e peer tid place

-- the call that opened a name last
unfoldable pub OpenedBy : Name → Entry → List Entry → Type 0
OpenedBy n o [] = ⊥
OpenedBy n o (e ∷ h) = ((opens e n ≡ true) × (o ≡ e)) ⊎ ((opens e n ≡ false) × OpenedBy n o h)

-- no call opened a name
unfoldable pub Unopened : Name → List Entry → Type 0
Unopened n [] = Unit
Unopened n (e ∷ h) = (opens e n ≡ false) × Unopened n h

-- the name of a responder's record
abbrev pub responder : ℕ → ℕ → Name
responder peer tid = record { role = Responder; peer = peer; tid = tid }

-- an Invoke is that of the received PDU that opened its record: peer, TID, class, U/P and data
pub record Received (h : List Entry) (peer tid class : ℕ) (up : Bool) (octets : List ℕ) : Type 0 where
  pub opener : Entry
  pub opened : OpenedBy (responder peer tid) opener h
  pub time : ℕ
  pub received : opener.call ≡ Call.Receive time peer
  pub names : name_of opener.lent.given ≡ Some (Responder, tid)
  pub invoke : IsInvoke opener.lent.given class up
  pub exact : octets ≡ user_data opener.lent.given

-- or, where no call opened its record, one that was there at the start
pub record AtStart (start : Start) (h : List Entry) (peer tid class : ℕ) (up : Bool) (octets : List ℕ) : Type 0 where
  pub unopened : Unopened (responder peer tid) h
  pub kept : start.keeps peer tid class up octets

abbrev pub InvokeFrom : Start → List Entry → ℕ → ℕ → ℕ → Bool → List ℕ → Type 0
InvokeFrom start h peer tid class up octets = Received h peer tid class up octets ⊎ AtStart start h peer tid class up octets

-- an Invoke of class 1 or 2 is so, also after verification
abbrev pub InvokeExact : Start → Entry → List Entry → Type 0
InvokeExact start e h = (peer tid class : ℕ) (up : Bool) (place : Place) → Shows e (Shown.Invoke peer tid class up place) → 1 ≤ class
    → InvokeFrom start (e ∷ h) peer tid class up (data_of e.lent.given e.done.store place)

-- an Invoke of class 0 is that of a PDU received in this very call, for which no record lives
pub record Invoke0Taken (e : Entry) (peer tid : ℕ) (up : Bool) (place : Place) : Type 0 where
  pub time : ℕ
  pub received : e.call ≡ Call.Receive time peer
  pub names : name_of e.lent.given ≡ Some (Responder, tid)
  pub invoke : IsInvoke e.lent.given 0 up
  pub none_lives : lives (before e) (record { role = Responder; peer = peer; tid = tid }) ≡ false
  pub exact : data_of e.lent.given e.done.store place ≡ user_data e.lent.given

abbrev pub Invoke0Exact : Entry → List Entry → Type 0
Invoke0Exact e h = (peer tid : ℕ) (up : Bool) (place : Place) → Shows e (Shown.Invoke peer tid 0 up place) → Invoke0Taken e peer tid up place

-- a call that brings an abort under a name, the user's own among them, brings no confirmation and no result under it, before or after it
abbrev pub AbortAlone : Entry → List Entry → Type 0
AbortAlone e h = (n : Name) → 1 ≤ (adds e n).aborts → ((adds e n).confirms ≡ 0) × ((adds e n).results ≡ 0)

-- the user's Abort PDU (type 4, flags 1) with the record's TID and the user's reason, and it is counted under the name that the call gives
pub record OwnAbort (e : Entry) (role peer tid reason : ℕ) : Type 0 where
  pub name : Name
  pub role_is : role_number name.role ≡ role
  pub peer_is : name.peer ≡ peer
  pub tid_is : name.tid ≡ tid
  pub pdu : sent_of e.done.answer e.done.output ≡ 0x21 ∷ send_tid name.role tid / 256 ∷ send_tid name.role tid % 256 ∷ reason ∷ []
  pub counted : (adds e name).aborts ≡ 1

-- "the user's own abort" is counted by its acceptance: the PDU that an accepted abort call sends
abbrev pub OwnAborts : Entry → List Entry → Type 0
OwnAborts e h = (time role peer tid reason : ℕ) → e.call ≡ Call.Abort time role peer tid reason → accepted e.done.answer ≡ true → OwnAbort e role peer tid reason

-- within the limits after this call: so for every request and every record of the history, and not only for the last under its name
abbrev pub Limited : Start → ℕ → Entry → List Entry → Type 0
Limited start max e h = (n : Name) → Limits max (tally start.counts (e ∷ h) n)

-- demand 3 of a table and its history, with where it began and RCR_MAX
pub record Demand3 (start : Start) (max : ℕ) (t : List ℕ) (h : List Entry) : Type 0 where
  -- "No two live records ever share role, peer and TID"
  pub unique : Unique t (count t)
  -- "at most one confirmation, one result and one abort"; "Its Invoke PDUs and TIDok answers number at most 1 + RCR_MAX together"; "shows that Invoke to its user at most once"
  pub limits : Throughout (Limited start max) h
  -- "nothing after the user's own abort or one shown to it": in no later call, nor in the same one
  pub calm : Throughout (Calm start) h
  pub alone : Throughout AbortAlone h
  pub own_aborts : Throughout OwnAborts h
  -- "a result only with the exact data of a Result PDU taken while that request waited for it"
  pub results : Throughout ResultExact h
  -- "A record opened by a received Invoke shows that Invoke"
  pub invokes : Throughout (InvokeExact start) h
  pub invokes_0 : Throughout Invoke0Exact h
  -- "A call changes no record but the one it names, opens or fires"
  pub framed : Throughout CallFramed h
