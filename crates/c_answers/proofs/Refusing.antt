-- A refusal hands over its number alone. Assumes nothing.
use mathlib.Core.Path.{◌≡◌, refl}
use Prim.Native.Nat.{ℕ}
use mathlib.Core.List.{List}
use Rattle.std.specs.Prelude.{Err}
use Rattle.base_numbers.specs.Numbers.{number_of}
use Rattle.base_numbers.specs.declared.Refusal.{Refusal}
use Rattle.step_outcome.specs.Carry.{Lent, outcome}
use Rattle.c_answers.specs.Answers.{answer_number, answer_after}
use Rattle.c_answers.specs.Handed.{called, handed, costed, handed_by}

pub refused_handed : (l : Lent) (r : Refusal) (words : List ℕ) → handed_by l (Err r) words ≡ called (number_of r) l.table l.store l.output words
unfolding handed_by costed outcome handed answer_number answer_after
refused_handed l r words = refl
