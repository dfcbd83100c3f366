-- The words of the engine's own answer say where the data that it shows lies, so that wtp_data copies that data. Assumes nothing.
use Prim.Native.Nat.{ℕ}
use mathlib.Core.Path.{◌≡◌, refl, ap, ◌∙◌}
use mathlib.Core.List.{List, ◌++◌}
use Rattle.step_shown.specs.declared.Source.{Source}
use Rattle.step_shown.specs.declared.Source.TheVariants.{Datagram, Store}
use Rattle.step_shown.specs.declared.Place.{Place}
use Rattle.step_shown.specs.declared.Shown.{Shown}
use Rattle.step_shown.specs.declared.Shown.TheVariants as Shown
use Rattle.step_shown.specs.Shows.{place_of}
use Rattle.step_shown.specs.Words.{front_words, own_words, source_number, shown_words}
use Rattle.step_plan.specs.declared.Told.{Told}
use Rattle.c_answers.specs.Answers.{head_words, record_words, answer_words}
use Rattle.c_parts.specs.Parts.{source_said, place_said, words_from}
use Rattle.law_exported.proofs.PastFirst.{past_first}

-- a source's number names it
source_back : (s : Source) → source_said (source_number s) ≡ s
source_back Datagram = refl
source_back Store = refl

place_back_holds : (p : Place) → record { source = source_said (source_number p.source); start = p.start; len = p.len } ≡ p
place_back_holds p = ap (λ (s : Source). record { source = s; start = p.start; len = p.len }) (source_back p.source)

-- the twelve words of an indication say its place
said_by_holds : (s : Shown) (rest : List ℕ) → place_said (shown_words s ++ rest) 0 ≡ place_of s
unfolding place_said shown_words front_words own_words
said_by_holds Shown.Nothing rest = place_back_holds (place_of Shown.Nothing)
said_by_holds (Shown.Invoke peer tid class up place) rest = place_back_holds (place_of (Shown.Invoke peer tid class up place))
said_by_holds (Shown.Confirm role peer tid place) rest = place_back_holds (place_of (Shown.Confirm role peer tid place))
said_by_holds (Shown.Result peer tid place) rest = place_back_holds (place_of (Shown.Result peer tid place))
said_by_holds (Shown.Abort role peer tid type reason) rest = place_back_holds (place_of (Shown.Abort role peer tid type reason))

module _ (sent : ℕ) (told : Told) (first second : Shown) where
  -- four words come first
  past_head : (rest : List ℕ) → place_said (head_words sent told first second ++ rest) (words_from 0) ≡ place_said rest 0
  unfolding place_said head_words
  past_head rest = refl

  pub first_said : place_said (answer_words sent told first second) (words_from 0) ≡ place_of first
  unfolding answer_words
  first_said = past_head _ ∙ said_by_holds first (shown_words second ++ record_words told)

  pub second_said : place_said (answer_words sent told first second) (words_from 1) ≡ place_of second
  unfolding answer_words
  second_said = past_first sent told first second first (shown_words second ++ record_words told) ∙ said_by_holds second (record_words told)
