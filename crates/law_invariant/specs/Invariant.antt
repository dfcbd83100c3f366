-- What is so after every call: each live record says what was counted under its name, and every count is within its limits.
use Rattle.std.specs.Prelude.{ℕ, ◌*◌, ◌≤◌, ◌<◌, ◌≡◌, List, length, Ok, Err}
use Rattle.base_layout.specs.Layout.{cell_size, output_least}
use Rattle.base_numbers.specs.declared.Refusal.TheVariants.{WrongSize}
use Rattle.table_layout.specs.Table.{count, record_at, settings_of}
use Rattle.table_record_ok.specs.OneRecord.{Live}
use Rattle.table_well_formed.specs.WellFormed.{WellFormed}
use Rattle.law_counting.specs.Counting.{Fits, Limits}
use Rattle.step_plan.specs.declared.Step.{Step}
use Rattle.call_plans.specs.Calls.{plan_for}
use Rattle.law_history.specs.Trace.{Entry, Promise, Throughout}
use Rattle.law_history.specs.Tally.{Name, tally}
use Rattle.law_history.specs.Start.{Start}
use Rattle.law_history.specs.Moves.{name_of, Move}
use Rattle.law_history.specs.Demand.{Limited, Calm, AbortAlone}

-- the record at a place says what was counted under its name since it was opened
abbrev pub Says : Start → List ℕ → List Entry → ℕ → Type 0
Says start t h i = Fits (record_at t i) (tally start.counts h (name_of (record_at t i)))

-- a table, its history, where that began, and RCR_MAX
pub record Inv (start : Start) (max : ℕ) (t : List ℕ) (h : List Entry) : Type 0 where
  pub formed : WellFormed t
  pub rcr_max : (settings_of t).rcr_max ≡ max
  pub says : (i : ℕ) → i < count t → Live (record_at t i) → Says start t h i
  pub limits : (n : Name) → Limits max (tally start.counts h n)

-- every accepted call is a move
abbrev pub Moves : Type 0
Moves = (e : Entry) → Promise e → (step : Step) → plan_for e.call e.lent ≡ Ok step → Move e

-- a table and a store that fit each other
pub record Sizes (t s : List ℕ) : Type 0 where
  pub formed : WellFormed t
  pub cells : length s ≡ count t * cell_size

-- 01, number 1: a call that is lent an output of the right size isn't refused for a size
abbrev pub NotForSize : Entry → List Entry → Type 0
NotForSize e h = output_least ≤ length e.lent.output → plan_for e.call e.lent ≡ Err WrongSize → ⊥

-- what is so after any calls: the invariant, and the sentences of demand 3 about each call that need no data
pub record Held (start : Start) (max : ℕ) (t : List ℕ) (h : List Entry) : Type 0 where
  pub inv : Inv start max t h
  pub limits : Throughout (Limited start max) h
  pub calm : Throughout (Calm start) h
  pub alone : Throughout AbortAlone h
