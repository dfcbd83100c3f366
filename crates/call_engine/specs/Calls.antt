-- What the engine's calls share: what each gives, and a plan whose step can be carried out.
use Rattle.std.specs.Prelude.{ℕ, List, Ok, Err}
use Rattle.step_plan.specs.Steps.{Plan}
use Rattle.step_outcome.specs.Carry.{Lent, Ready}
use Rattle.c_answers.specs.Handed.{Called, handed_by}
use Rattle.call_plans.specs.Calls.{Call, plan_for}

-- what a call gives and leaves, its words 0 to 33 among it: its plan, carried out and handed over
abbrev pub gives : Call → Lent → List ℕ → Called
gives c l words = handed_by l (plan_for c l) words

-- a plan's step can be carried out
unfoldable pub PlanReady : Lent → Plan → Type 0
PlanReady l (Err r) = Unit
PlanReady l (Ok step) = Ready l step
