-- The words of an answer that stand before its second indication. Assumes nothing.
use Prim.Native.Nat.{ℕ}
use mathlib.Core.Path.{◌≡◌, refl}
use mathlib.Core.List.{List, ◌++◌}
use Rattle.step_shown.specs.declared.Shown.{Shown}
use Rattle.step_shown.specs.declared.Shown.TheVariants as Shown
use Rattle.step_shown.specs.Words.{front_words, own_words, shown_words}
use Rattle.step_plan.specs.declared.Told.{Told}
use Rattle.c_answers.specs.Answers.{head_words}
use Rattle.c_parts.specs.Parts.{place_said, words_from}

module _ (sent : ℕ) (told : Told) (first second : Shown) where
  -- four words come first, and twelve of the first indication
  pub past_first : (s : Shown) (rest : List ℕ) → place_said (head_words sent told first second ++ (shown_words s ++ rest)) (words_from 1) ≡ place_said rest 0
  unfolding place_said head_words shown_words front_words own_words
  past_first Shown.Nothing rest = refl
  past_first (Shown.Invoke peer tid class up place) rest = refl
  past_first (Shown.Confirm role peer tid place) rest = refl
  past_first (Shown.Result peer tid place) rest = refl
  past_first (Shown.Abort role peer tid type reason) rest = refl
