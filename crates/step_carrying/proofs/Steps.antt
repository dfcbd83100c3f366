-- The step of a live record's event, and of an opening, as what comes. Assumes nothing.
use Prim.Native.Nat.{ℕ, ◌≤◌, ◌<◌}
use mathlib.Core.Path.{◌≡◌, refl}
use mathlib.Core.List.{List}
use Rattle.std.specs.Prelude.{Option}
use Rattle.base_layout.specs.Layout.{time_bound, tid_bound, records_bound}
use Rattle.table_layout.specs.Table.{record_at}
use Rattle.row_events.specs.declared.Event.{Event}
use Rattle.row_events.specs.declared.Row.{Row}
use Rattle.row_events.specs.declared.Opening.{Opening}
use Rattle.row_turns.specs.Turns.{row_turn, opening_turn}
use Rattle.row_turns.specs.declared.Given.{Given}
use Rattle.step_commit.specs.declared.GenTid.{GenTid}
use Rattle.step_plan.specs.declared.Holder.{Holder}
use Rattle.step_plan.specs.declared.Call.{Call}
use Rattle.step_live.specs.Turning.{row_at, holder_of, live_turn, live_step}
use Rattle.step_opening.specs.Opens.{opened_turn, opening_step}
use Rattle.step_carrying.specs.Coming.{turn_for, changes_for, coming_step, InRange}
use Rattle.step_carrying.specs.declared.Coming.TheVariants.{Live, Opens}

pub live_is : (t : List ℕ) (place : ℕ) (event : Event) (g : Given) (c : Call) → live_step t place event g c ≡ coming_step t (Live place (row_at t place event)) g c
unfolding live_step live_turn row_turn holder_of coming_step turn_for changes_for
live_is t place event g c = refl

pub opens_is : (t : List ℕ) (opening : Opening) (h : Holder) (g : Given) (gen_tid : Option GenTid) (c : Call) → opening_step t opening h g gen_tid c ≡ coming_step t (Opens opening h gen_tid) g c
unfolding opening_step opened_turn opening_turn coming_step turn_for changes_for
opens_is t opening h g gen_tid c = refl

pub live_in_range : (t : List ℕ) (place : ℕ) (row : Row) (g : Given) → (record_at t place).tid ≤ tid_bound → place < records_bound → g.time ≤ time_bound → InRange t (Live place row) g
unfolding holder_of
live_in_range t place row g tid small time = record { time = time; tid = tid; place = small }

pub opens_in_range : (t : List ℕ) (opening : Opening) (h : Holder) (gen_tid : Option GenTid) (g : Given) → h.tid ≤ tid_bound → h.place < records_bound → g.time ≤ time_bound → InRange t (Opens opening h gen_tid) g
opens_in_range t opening h gen_tid g tid small time = record { time = time; tid = tid; place = small }
