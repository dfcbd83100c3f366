-- What holds of a plan, and of what a call leaves (01, "Numbers given back"; demand 3: "A call changes no record but the one it names, opens or fires").
use Rattle.std.specs.Prelude.{ℕ, ◌+◌, ◌*◌, ◌≤◌, ◌<◌, ◌≡◌, false, ◌⊎◌, length, get_or, Ok, Err}
use Rattle.base_layout.specs.Layout.{cell_size}
use Rattle.table_well_formed.specs.WellFormed.{Fitting}
use Rattle.law_commit.specs.Allowed.{Framed}
use Rattle.step_plan.specs.declared.Step.{Step}
use Rattle.step_plan.specs.Steps.{Plan}
use Rattle.step_outcome.specs.Carry.{Lent, Done, sent_then}
use Rattle.law_steps_sound.specs.Sound.{Fits, Sound}

-- a plan's step, if it has one, is sound
unfoldable pub PlanSound : Lent → Plan → Type 0
PlanSound l (Err r) = Unit
PlanSound l (Ok step) = Sound l step

-- a refusal leaves every lent octet
pub record Untouched (l : Lent) (d : Done) : Type 0 where
  pub table : d.table ≡ l.table
  pub store : d.store ≡ l.store
  pub output : d.output ≡ l.output

-- an octet of the store lies outside the message's place in the cell; where no cell is written every octet does
abbrev pub OutsideMessage : Step → ℕ → Type 0
OutsideMessage step k = (step.cell ≡ false) ⊎ ((k < step.changes.place * cell_size) ⊎ (step.changes.place * cell_size + step.message.len ≤ k))

-- what an accepted call leaves as it was: every other record, the settings, the other peers' cached TIDs; the store but for the message; the output past the PDU
pub record RestUnchanged (l : Lent) (d : Done) (step : Step) : Type 0 where
  pub table : Framed l.table d.table step.changes
  pub store : (k : ℕ) → OutsideMessage step k → get_or d.store k 0 ≡ get_or l.store k 0
  pub output : (k : ℕ) → length (sent_then l step) ≤ k → get_or d.output k 0 ≡ get_or l.output k 0

-- what a call leaves fits the next one
abbrev pub StillFits : Lent → Done → Type 0
StillFits l d = Fitting d.table (length d.store) (length d.output)
