-- When the timer call is refused, as document 01's table of numbers says it.
use Rattle.std.specs.Prelude.{ℕ, List, [], ◌∷◌}
use Rattle.call_refusal.specs.Judging.{Condition, Unfit, Late}

-- numbers 1 and 2
abbrev pub timer_conditions : List ℕ → ℕ → ℕ → ℕ → List Condition
timer_conditions t store output time = Unfit t store output ∷ Late t time ∷ []
