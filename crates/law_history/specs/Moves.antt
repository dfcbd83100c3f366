-- What an accepted call does to one record, and to no other name.
use Rattle.std.specs.Prelude.{ℕ, ◌<◌, ◌≡◌, Bool, true, false, List, ◌⊎◌, length}
use Rattle.table_record.specs.Record.{role_of, class_of}
use Rattle.table_record.specs.declared.Role.TheVariants.{Initiator}
use Rattle.table_record.specs.declared.Record.{Record}
use Rattle.table_record.specs.declared.State.TheVariants.{Free}
use Rattle.table_layout.specs.Table.{count, record_at, settings_of, intervals_of}
use Rattle.table_record_ok.specs.OneRecord.{Live}
use Rattle.row_events.specs.declared.Event.{Event}
use Rattle.row_events.specs.declared.Opening.{Opening}
use Rattle.row_columns.specs.declared.Send.{Send}
use Rattle.row_columns.specs.declared.Send.TheVariants as Send
use Rattle.row_turns.specs.Turns.{new_record, opening_turn, cost_of}
use Rattle.row_turns.specs.declared.Given.{Given}
use Rattle.row_turns.specs.declared.Turn.{Turn}
use Rattle.step_commit.specs.declared.Change.TheVariants as Change
use Rattle.step_changes.specs.Changes.{change_of}
use Rattle.step_live.specs.Turning.{live_turn}
use Rattle.c_answers.specs.Answers.{no_cost, change_cost}
use Rattle.law_counting.specs.Counting.{Counts, none, requested, of_turn}
use Rattle.law_steps_sound.specs.Sound.{GivenOk}
use Rattle.law_history.specs.Trace.{Entry}
use Rattle.law_history.specs.Tally.{Name, accepted, adds, lives, opens}
use Rattle.law_history.specs.Cost.{charged, class_asked, cost_told, Meant}

-- the name of a record
abbrev pub name_of : Record → Name
name_of r = record { role = role_of r.state; peer = r.peer; tid = r.tid }

-- what a turn sends and shows, counted
abbrev pub turn_adds : Turn → Counts
turn_adds turn = of_turn turn.send turn.first turn.second

-- the table before and after a call
abbrev pub before : Entry → List ℕ
before e = e.lent.table

abbrev pub after : Entry → List ℕ
after e = e.done.table

-- no record changes
abbrev pub SameRecords : Entry → Type 0
SameRecords e = (j : ℕ) → record_at (after e) j ≡ record_at (before e) j

-- no record changes but the one at this place
abbrev pub OthersSame : Entry → ℕ → Type 0
OthersSame e place = (j : ℕ) → (j ≡ place → ⊥) → record_at (after e) j ≡ record_at (before e) j

-- a name at which nothing is counted, nothing opened and nothing sent but an Abort
pub record Silent (e : Entry) (n : Name) : Type 0 where
  pub adds_none : adds e n ≡ none
  pub not_opened : opens e n ≡ false
  pub uncharged : charged e n ≡ 0

-- an ignored PDU, none due, an Abort without a record, an Invoke of class 0 shown
pub record Quiet (e : Entry) : Type 0 where
  pub silent : (n : Name) → Silent e n
  pub same : SameRecords e
  pub unmeant : accepted e.done.answer ≡ true → (n : Name) → Meant e n → lives (before e) n ≡ false
  pub untold : cost_told e ≡ no_cost

-- a PDU whose octets are what it costs: no Ack, and no Result
abbrev pub is_plain : Send → Bool
is_plain Send.Nothing = true
is_plain (Send.Invoke again) = true
is_plain (Send.Tidok again) = true
is_plain (Send.LastAck again) = false
is_plain (Send.HoldOn again) = false
is_plain (Send.Tidve again) = false
is_plain (Send.Result again) = false
is_plain (Send.Abort kind reason) = true

-- a live record's turn: it is left as the turn leaves it, or freed
pub record Turned (e : Entry) : Type 0 where
  pub place : ℕ
  pub event : Event
  pub given : Given
  pub given_ok : GivenOk given
  pub inside : place < count (before e)
  pub live : Live (record_at (before e) place)
  pub own : adds e (name_of (record_at (before e) place)) ≡ turn_adds (live_turn (before e) place event given)
  pub not_opened : opens e (name_of (record_at (before e) place)) ≡ false
  pub others : (n : Name) → (n ≡ name_of (record_at (before e) place) → ⊥) → Silent e n
  pub put : Live (live_turn (before e) place event given).after → record_at (after e) place ≡ (live_turn (before e) place event given).after
  pub freed : (Live (live_turn (before e) place event given).after → ⊥) → (record_at (after e) place).state ≡ Free
  pub rest : OthersSame e place
  pub meant : Meant e (name_of (record_at (before e) place))
  pub weighs : is_plain (live_turn (before e) place event given).send ≡ true → charged e (name_of (record_at (before e) place)) ≡ cost_of (live_turn (before e) place event given).send (record_at (before e) place).len
  pub told : cost_told e ≡ change_cost (change_of (live_turn (before e) place event given).after Change.Clear) (record_at (before e) place)

-- the turn of a record that is opened under a name
abbrev pub opened_turn : Entry → Opening → Name → Bool → Bool → Given → Turn
opened_turn e opening name user_ack tidnew given = opening_turn opening (new_record name.peer name.tid user_ack tidnew) given (settings_of (before e)) (intervals_of (before e))

-- a request's first turn: its class, its data, and its Invoke
pub record Asks (e : Entry) (turn : Turn) (given : Given) (name : Name) : Type 0 where
  pub class : class_of turn.after.state ≡ class_asked e.call
  pub data_len : given.len ≡ length e.lent.given
  pub weighs : charged e name ≡ cost_of turn.send given.len

-- a record is opened at a free place under a name that no live record had
pub record Opened (e : Entry) : Type 0 where
  pub name : Name
  pub place : ℕ
  pub opening : Opening
  pub user_ack : Bool
  pub tidnew : Bool
  pub given : Given
  pub given_ok : GivenOk given
  pub inside : place < count (before e)
  pub was_free : (record_at (before e) place).state ≡ Free
  pub unused : lives (before e) name ≡ false
  pub live : Live (opened_turn e opening name user_ack tidnew given).after
  pub named : name_of (opened_turn e opening name user_ack tidnew given).after ≡ name
  pub opened : opens e name ≡ true
  pub own : adds e name ≡ turn_adds (opened_turn e opening name user_ack tidnew given)
  pub others : (n : Name) → (n ≡ name → ⊥) → Silent e n
  pub put : record_at (after e) place ≡ (opened_turn e opening name user_ack tidnew given).after
  pub rest : OthersSame e place
  pub meant : Meant e name
  pub asks : name.role ≡ Initiator → Asks e (opened_turn e opening name user_ack tidnew given) given name
  pub told : cost_told e ≡ change_cost (Change.Put (opened_turn e opening name user_ack tidnew given).after) (record_at (before e) place)

-- a request of class 0: one Invoke, no record
pub record Once (e : Entry) : Type 0 where
  pub name : Name
  pub unused : lives (before e) name ≡ false
  pub opened : opens e name ≡ true
  pub own : adds e name ≡ requested 1 0 0
  pub others : (n : Name) → (n ≡ name → ⊥) → Silent e n
  pub same : SameRecords e
  pub meant : Meant e name
  pub class_0 : class_asked e.call ≡ 0
  pub untold : cost_told e ≡ no_cost

-- what an accepted call is
abbrev pub Move : Entry → Type 0
Move e = Quiet e ⊎ (Turned e ⊎ (Opened e ⊎ Once e))
