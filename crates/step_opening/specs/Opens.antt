-- The step of what comes without a live record (01, "Events").
use Rattle.std.specs.Prelude.{ℕ, List, false, Option, Some, None}
use Rattle.table_layout.specs.Table.{settings_of, intervals_of, cached_of}
use Rattle.row_events.specs.declared.Opening.{Opening}
use Rattle.row_turns.specs.Turns.{new_record, opening_turn}
use Rattle.row_turns.specs.declared.Given.{Given}
use Rattle.row_turns.specs.declared.Turn.{Turn}
use Rattle.step_commit.specs.declared.Change.TheVariants as Change
use Rattle.step_commit.specs.declared.GenTid.{GenTid}
use Rattle.step_commit.specs.declared.Changes.{Changes}
use Rattle.step_changes.specs.Changes.{change_of, cached_after}
use Rattle.step_plan.specs.Steps.{step_of}
use Rattle.step_plan.specs.declared.Holder.{Holder}
use Rattle.step_plan.specs.declared.Call.{Call}
use Rattle.step_plan.specs.declared.Step.{Step}

-- the record that is opened, GenTID where a request counts it, and the cached TID
unfoldable pub opening_changes : Turn → Holder → ℕ → Option GenTid → ℕ → Changes
opening_changes turn h cached gen_tid time = record {
  place = h.place;
  change = change_of turn.after Change.Nothing;
  exit = false;
  gen_tid = gen_tid;
  peer = h.peer;
  cached = cached_after turn.cache cached h.tid;
  time = time;
}

-- 01: "takes the lowest free record when it opens one"
unfoldable pub place_for : Option ℕ → ℕ
place_for (Some i) = i
place_for None = 0

-- the new record's turn
unfoldable pub opened_turn : List ℕ → Opening → Holder → Given → Turn
opened_turn t opening h g = opening_turn opening (new_record h.peer h.tid h.up h.tidnew) g (settings_of t) (intervals_of t)

-- the whole step of an opening
unfoldable pub opening_step : List ℕ → Opening → Holder → Given → Option GenTid → Call → Step
opening_step t opening h g gen_tid c =
    step_of (opened_turn t opening h g) (opening_changes (opened_turn t opening h g) h (cached_of t h.peer) gen_tid g.time) h c
