-- Two entries that break what counts as the start after salvage (02, L12): a second result, and an Invoke shown a second time, of a record that was live then.
use Rattle.std.specs.Prelude.{ℕ, ◌≤◌, ◌<◌, ◌≡◌, Bool, List, ◌∷◌}
use Rattle.table_record.specs.declared.State.TheVariants.{IResultRespWait, RInvokeRespWait2}
use Rattle.table_layout.specs.Table.{count, record_at}
use Rattle.step_shown.specs.declared.Place.{Place}
use Rattle.step_shown.specs.declared.Shown.TheVariants as Shown
use Rattle.law_history.specs.Trace.{Entry}
use Rattle.law_history.specs.Moves.{name_of}
use Rattle.law_history.specs.Demand.{Shows, Unopened}

-- the record at a place of the table that the history began with said that its result was shown; its name wasn't opened anew, and a result is shown for it
pub record ResultAgain (t : List ℕ) (e : Entry) (h : List Entry) : Type 0 where
  pub place : ℕ
  pub inside : place < count t
  pub said : (record_at t place).state ≡ IResultRespWait
  pub unopened : Unopened (name_of (record_at t place)) (e ∷ h)
  pub at : Place
  pub again : Shows e (Shown.Result (record_at t place).peer (record_at t place).tid at)

-- the same of an Invoke that a record said was shown
pub record InvokeAgain (t : List ℕ) (e : Entry) (h : List Entry) : Type 0 where
  pub place : ℕ
  pub inside : place < count t
  pub said : (record_at t place).state ≡ RInvokeRespWait2
  pub unopened : Unopened (name_of (record_at t place)) (e ∷ h)
  pub class : ℕ
  pub counted : 1 ≤ class
  pub up : Bool
  pub at : Place
  pub again : Shows e (Shown.Invoke (record_at t place).peer (record_at t place).tid class up at)
