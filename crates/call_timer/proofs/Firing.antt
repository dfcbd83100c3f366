-- The step of a firing as the row that the code takes. Assumes nothing.
use Prim.Native.Nat.{ℕ, ◌≤◌, ◌<◌}
use mathlib.Core.Path.{◌≡◌}
use mathlib.Core.List.{List}
use Rattle.base_layout.specs.Layout.{time_bound, tid_bound, records_bound}
use Rattle.table_layout.specs.Table.{record_at}
use Rattle.row_events.specs.declared.Event.TheVariants as Event
use Rattle.step_live.specs.Turning.{row_at}
use Rattle.step_carrying.specs.Coming.{coming_step, InRange}
use Rattle.step_carrying.proofs.Steps.{live_is, live_in_range}
use Rattle.call_timer.specs.Timers.{fired_given, fired_call, fired_row, fired_step}

module _ (t : List ℕ) (place time : ℕ) where
  pub step_is : fired_step t place time ≡ coming_step t (fired_row t place) (fired_given time) fired_call
  unfolding fired_step fired_row
  step_is = live_is t place Event.Timer (fired_given time) fired_call

  pub in_range_holds : (record_at t place).tid ≤ tid_bound → place < records_bound → time ≤ time_bound → InRange t (fired_row t place) (fired_given time)
  unfolding fired_row fired_given
  in_range_holds tid small bound = live_in_range t place (row_at t place Event.Timer) (fired_given time) tid small bound
