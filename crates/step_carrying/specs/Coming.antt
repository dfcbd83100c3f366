-- What an accepted call brings, as one turn (01, "Events"): a live record under its row, or a new one that an opening starts.
use Rattle.std.specs.Prelude.{ℕ, ◌≤◌, ◌<◌, List}
use Rattle.base_layout.specs.Layout.{time_bound, tid_bound, records_bound}
use Rattle.table_record.specs.declared.Record.{Record}
use Rattle.table_layout.specs.Table.{settings_of, intervals_of, cached_of, record_at}
use Rattle.row_columns.specs.declared.Act.{Act}
use Rattle.row_entries.specs.Acts.{act_of, opening_act}
use Rattle.row_turns.specs.Turns.{new_record, turn_of}
use Rattle.row_turns.specs.declared.Given.{Given}
use Rattle.row_turns.specs.declared.Turn.{Turn}
use Rattle.step_commit.specs.declared.Changes.{Changes}
use Rattle.step_changes.specs.Changes.{turn_changes}
use Rattle.step_plan.specs.Steps.{step_of}
use Rattle.step_plan.specs.declared.Holder.{Holder}
use Rattle.step_plan.specs.declared.Call.{Call}
use Rattle.step_plan.specs.declared.Step.{Step}
use Rattle.step_live.specs.Turning.{holder_of}
use Rattle.step_opening.specs.Opens.{opening_changes}
use Rattle.step_carrying.specs.declared.Coming.{Coming}
use Rattle.step_carrying.specs.declared.Coming.TheVariants.{Live, Opens}

-- the place of the record
abbrev pub place_of : Coming → ℕ
place_of (Live place row) = place
place_of (Opens opening h gen_tid) = h.place

-- the record that turns: the live one, or a new one
abbrev pub record_for : List ℕ → Coming → Record
record_for t (Live place row) = record_at t place
record_for t (Opens opening h gen_tid) = new_record h.peer h.tid h.up h.tidnew

-- what its row does
abbrev pub act_for : Coming → Record → Given → Act
act_for (Live place row) r g = act_of row r.tidok_sent g.kind g.reason
act_for (Opens opening h gen_tid) r g = opening_act opening

unfoldable pub turn_for : List ℕ → Coming → Record → Given → Turn
turn_for t coming r g = turn_of (act_for coming r g) r g (settings_of t) (intervals_of t)

-- whose turn it is
abbrev pub holder_for : Coming → Record → Holder
holder_for (Live place row) r = holder_of r place
holder_for (Opens opening h gen_tid) r = h

-- the changes of the table
unfoldable pub changes_for : List ℕ → Coming → Turn → Holder → ℕ → Changes
changes_for t (Live place row) turn h time = turn_changes turn h.place h.peer h.tid (cached_of t h.peer) time
changes_for t (Opens opening own gen_tid) turn h time = opening_changes turn h (cached_of t h.peer) gen_tid time

-- the whole step
abbrev pub step_by : List ℕ → Coming → Record → Given → Call → Step
step_by t coming r g c = step_of (turn_for t coming r g) (changes_for t coming (turn_for t coming r g) (holder_for coming r) g.time) (holder_for coming r) c

unfoldable pub coming_step : List ℕ → Coming → Given → Call → Step
coming_step t coming g c = step_by t coming (record_for t coming) g c

-- the time, the TID and the place that a turn may have
pub record InRange (t : List ℕ) (coming : Coming) (g : Given) : Type 0 where
  pub time : g.time ≤ time_bound
  pub tid : (holder_for coming (record_for t coming)).tid ≤ tid_bound
  pub place : place_of coming < records_bound
