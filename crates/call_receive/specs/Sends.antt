-- What an unmatched PDU is answered where it opens no record (01, "Events").
use Rattle.std.specs.Prelude.{ℕ, ◌≡◌, false, None}
use Rattle.table_record.specs.declared.Role.{Role}
use Rattle.row_columns.specs.declared.Send.{Send}
use Rattle.step_commit.specs.declared.Change.TheVariants as Change
use Rattle.step_shown.specs.declared.Shown.TheVariants as Shown
use Rattle.step_plan.specs.declared.Step.{Step}
use Rattle.step_plan.specs.declared.Told.TheVariants as Told

-- a step for no record: it sends this PDU, stores its time, and leaves all else of the table, the cells and the user alone
pub record OnlySends (step : Step) (time : ℕ) (send : Send) (role : Role) (tid : ℕ) : Type 0 where
  pub sends : step.send ≡ send
  pub by_role : step.by.role ≡ role
  pub by_tid : step.by.tid ≡ tid
  pub at_time : step.changes.time ≡ time
  pub no_record : step.changes.change ≡ Change.Nothing
  pub no_exit : step.changes.exit ≡ false
  pub same_gen_tid : step.changes.gen_tid ≡ None
  pub same_cached : step.changes.cached ≡ None
  pub no_cell : step.cell ≡ false
  pub none_first : step.first ≡ Shown.Nothing
  pub none_second : step.second ≡ Shown.Nothing
  pub none_told : step.told ≡ Told.Nothing
