-- The timer call (01, "Events"): "fires the due record (deadline not after now) with the earliest deadline, lowest place on ties, or says none is due".
use Rattle.std.specs.Prelude.{ℕ, List, Option, Some, None}
use Rattle.table_layout.specs.Table.{count}
use Rattle.table_finding.specs.Finding.{due_of}
use Rattle.row_events.specs.declared.Event.TheVariants as Event
use Rattle.row_turns.specs.declared.Given.{Given}
use Rattle.call_refusal.specs.Judging.{Test, lowest, plan_by, first_tests}
use Rattle.step_plan.specs.Steps.{no_part, idle_step, Plan}
use Rattle.step_plan.specs.declared.Call.{Call}
use Rattle.step_plan.specs.declared.Tells.TheVariants as Tells
use Rattle.step_plan.specs.declared.Step.{Step}
use Rattle.step_live.specs.Turning.{row_at, live_step}
use Rattle.step_carrying.specs.declared.Coming.{Coming}
use Rattle.step_carrying.specs.declared.Coming.TheVariants.{Live}

-- the tests of its refusals, numbers 1 and 2; document 01's conditions are in crates/law_refusals
abbrev pub timer_tests : List ℕ → ℕ → ℕ → ℕ → List Test
timer_tests t store output time = first_tests t store output time

-- a firing brings its time alone
unfoldable pub fired_given : ℕ → Given
fired_given time = record { time = time; kind = 0; reason = 0; len = 0; exit_len = 0; unknown = 0 }

-- the answer names the record, since the caller must know to whom the PDU goes
unfoldable pub fired_call : Call
fired_call = record { message = no_part; info = no_part; user = no_part; tells = Tells.Record }

-- the due record's step; "or says none is due"
abbrev pub step_by : Option ℕ → List ℕ → ℕ → Step
step_by (Some i) t time = live_step t i Event.Timer (fired_given time) fired_call
step_by None t time = idle_step time

unfoldable pub timer_step : List ℕ → ℕ → Step
timer_step t time = step_by (due_of t (count t) time) t time

unfoldable pub timer_plan : List ℕ → ℕ → ℕ → ℕ → Plan
timer_plan t store output time = plan_by (lowest (timer_tests t store output time)) (timer_step t time)

-- what the code takes apart: the row that the timer meets in the record at a place
unfoldable pub fired_row : List ℕ → ℕ → Coming
fired_row t place = Live place (row_at t place Event.Timer)

-- the step of the record at a place that is fired
unfoldable pub fired_step : List ℕ → ℕ → ℕ → Step
fired_step t place time = live_step t place Event.Timer (fired_given time) fired_call
