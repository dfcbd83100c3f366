-- The step of an event that comes to a live record (01, "Events").
use Rattle.std.specs.Prelude.{ℕ, List}
use Rattle.table_record.specs.Record.{role_of, class_of}
use Rattle.table_record.specs.declared.Record.{Record}
use Rattle.table_layout.specs.Table.{settings_of, intervals_of, cached_of, record_at}
use Rattle.table_layout.specs.declared.Settings.{Settings}
use Rattle.row_events.specs.declared.Event.{Event}
use Rattle.row_events.specs.declared.Row.{Row}
use Rattle.row_choice.specs.Rows.{row_of}
use Rattle.row_conditions.specs.Conditions.{conditions_of}
use Rattle.row_turns.specs.Turns.{row_turn}
use Rattle.row_turns.specs.declared.Given.{Given}
use Rattle.row_turns.specs.declared.Turn.{Turn}
use Rattle.step_changes.specs.Changes.{turn_changes}
use Rattle.step_plan.specs.Steps.{step_of}
use Rattle.step_plan.specs.declared.Holder.{Holder}
use Rattle.step_plan.specs.declared.Call.{Call}
use Rattle.step_plan.specs.declared.Step.{Step}

-- the row that an event meets in a record, by its state and its conditions
abbrev pub row_in : Record → Settings → Event → Row
row_in r s event = row_of r.state event (conditions_of s r)

-- the row that an event meets in the record at a place
unfoldable pub row_at : List ℕ → ℕ → Event → Row
row_at t place event = row_in (record_at t place) (settings_of t) event

-- the record's name, class, U/P and TIDnew; the message that lies in its cell
unfoldable pub holder_of : Record → ℕ → Holder
holder_of r place = record {
  place = place;
  role = role_of r.state;
  peer = r.peer;
  tid = r.tid;
  class = class_of r.state;
  up = r.user_ack;
  tidnew = r.tidnew;
  len = r.len;
}

-- the record's turn under that row
unfoldable pub live_turn : List ℕ → ℕ → Event → Given → Turn
live_turn t place event g = row_turn (row_at t place event) (record_at t place) g (settings_of t) (intervals_of t)

-- the whole step of the record at a place
unfoldable pub live_step : List ℕ → ℕ → Event → Given → Call → Step
live_step t place event g c =
    step_of
    (live_turn t place event g)
    (turn_changes (live_turn t place event g) place (record_at t place).peer (record_at t place).tid (cached_of t (record_at t place).peer) g.time)
    (holder_of (record_at t place) place)
    c
