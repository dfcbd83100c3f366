-- When a firing is refused, as document 02 (L3) and document 01's table of numbers say it.
use Rattle.std.specs.Prelude.{ℕ, ◌≤◌, List, [], ◌∷◌}
use Rattle.base_layout.specs.Layout.{peers}
use Rattle.base_numbers.specs.declared.Refusal.TheVariants.{PeerTooLarge, NoRecord, NotAllowed}
use Rattle.table_layout.specs.Table.{record_at}
use Rattle.table_finding.specs.Searched.{Due}
use Rattle.call_refusal.specs.Judging.{Condition, condition, Unfit, Late}
use Rattle.call_primitive.specs.Primitives.{Named, NoneNamed}
use Rattle.call_primitive.specs.declared.Primitive.{Primitive}

-- 9: "firing a live record that isn't due"
pub record NotDue (t : List ℕ) (p : Primitive) (i : ℕ) : Type 0 where
  pub names : Named t p i
  pub not_due : Due p.time (record_at t i) → ⊥

-- numbers 1, 2, 3, 8 ("an unknown one"), 9
abbrev pub fire_conditions : List ℕ → ℕ → ℕ → Primitive → List Condition
fire_conditions t store output p =
    Unfit t store output
    ∷ Late t p.time
    ∷ condition PeerTooLarge (peers ≤ p.peer)
    ∷ condition NoRecord (NoneNamed t p)
    ∷ condition NotAllowed ((i : ℕ) × NotDue t p i)
    ∷ []
