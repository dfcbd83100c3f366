-- When a user's answer, result or abort is refused, as document 01's table of numbers says it.
use Rattle.std.specs.Prelude.{ℕ, ◌≤◌, ◌<◌, ◌≡◌, List, [], ◌∷◌, ◌⊎◌}
use Rattle.base_layout.specs.Layout.{peers, exit_bound, cell_size}
use Rattle.base_numbers.specs.declared.Refusal.TheVariants.{PeerTooLarge, TooLong, NoRecord, NotAllowed}
use Rattle.row_events.specs.declared.Row.TheVariants as Row
use Rattle.call_refusal.specs.Judging.{Condition, condition, Unfit, Late}
use Rattle.step_live.specs.Turning.{row_at}
use Rattle.call_primitive.specs.Primitives.{Named, ExitRefused, NoneNamed}
use Rattle.call_primitive.specs.declared.Primitive.{Primitive}

-- 4: "a primitive's data or exit information too long, or exit information with an answer naming a live class 2 responder record"
abbrev pub TooMuch : List ℕ → Primitive → Type 0
TooMuch t p = (cell_size < p.len) ⊎ (exit_bound < p.exit_len) ⊎ ((i : ℕ) × ExitRefused t p i)

-- 9: "the primitive isn't allowed in that state": "a primitive without [a row] gets 9"
pub record NoRow (t : List ℕ) (p : Primitive) (i : ℕ) : Type 0 where
  pub names : Named t p i
  pub row : row_at t i p.event ≡ Row.NotAllowed

-- numbers 1, 2, 3, 4, 8, 9
abbrev pub primitive_conditions : List ℕ → ℕ → ℕ → Primitive → List Condition
primitive_conditions t store output p =
    Unfit t store output
    ∷ Late t p.time
    ∷ condition PeerTooLarge (peers ≤ p.peer)
    ∷ condition TooLong (TooMuch t p)
    ∷ condition NoRecord (NoneNamed t p)
    ∷ condition NotAllowed ((i : ℕ) × NoRow t p i)
    ∷ []
