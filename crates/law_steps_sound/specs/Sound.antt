-- What holds of a step before it is carried out.
use Rattle.std.specs.Prelude.{◌+◌, ◌≤◌, length}
use Rattle.base_layout.specs.Layout.{time_bound, exit_bound, cell_size}
use Rattle.table_ranges.specs.Ranges.{UnknownOk}
use Rattle.table_well_formed.specs.WellFormed.{Fitting}
use Rattle.row_turns.specs.declared.Given.{Given}
use Rattle.step_plan.specs.declared.Call.{Call}
use Rattle.step_plan.specs.declared.Step.{Step}
use Rattle.step_outcome.specs.Carry.{Lent, Ready}
use Rattle.law_commit.specs.Allowed.{Allowed}

-- number 1 isn't given
abbrev pub Fits : Lent → Type 0
Fits l = Fitting l.table (length l.store) (length l.output)

-- the message lies in what was given and has room in a cell; the exit information has room in a record
pub record LentOk (l : Lent) (c : Call) : Type 0 where
  pub message_inside : c.message.start + c.message.len ≤ length l.given
  pub message_fits : c.message.len ≤ cell_size
  pub exit_fits : length l.exit ≤ exit_bound

-- what came with the event is in range
pub record GivenOk (g : Given) : Type 0 where
  pub time : g.time ≤ time_bound
  pub len : g.len ≤ cell_size
  pub exit_len : g.exit_len ≤ exit_bound
  -- 02, L4: the identity of an unknown item, or none
  pub unknown : UnknownOk g.unknown

-- the changes keep the table well formed, and the step can be carried out
pub record Sound (l : Lent) (step : Step) : Type 0 where
  pub allowed : Allowed l.table step.changes l.exit
  pub ready : Ready l step
