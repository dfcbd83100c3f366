-- `step_shown::words_of` meets its contract, word by word. Assumes nothing.
use mathlib.Core.Path.{◌≡◌, refl}
use mathlib.Core.List.{◌∷◌}
use lib.ListN.{get_or}
use Rattle.step_shown.specs.declared.Shown.{Shown}
use Rattle.step_shown.specs.declared.Shown.TheVariants.{Nothing, Invoke, Confirm, Result, Abort}
use Rattle.step_shown.specs.Shows.{place_of}
use Rattle.step_shown.specs.Words.{front_words, own_words, place_words, shown_words}
use borrow.Author.Rules.{rules}
use Rattle.step_shown.proofs.words_of.Statement.{statement}
use Rattle.step_shown.proofs.words_of.Tie as tie

-- the words read one by one are the words
one_by_one : (s : Shown)
    → get_or (front_words s) 0 0
    ∷ get_or (front_words s) 1 0
    ∷ get_or (front_words s) 2 0
    ∷ get_or (front_words s) 3 0
    ∷ get_or (own_words s) 0 0
    ∷ get_or (own_words s) 1 0
    ∷ get_or (own_words s) 2 0
    ∷ get_or (own_words s) 3 0
    ∷ place_words (place_of s)
    ≡ shown_words s
unfolding front_words own_words shown_words
one_by_one Nothing = refl
one_by_one (Invoke peer tid class up place) = refl
one_by_one (Confirm role peer tid place) = refl
one_by_one (Result peer tid place) = refl
one_by_one (Abort role peer tid type reason) = refl

returns : tie.Need-returns
returns c =
    simp (c.source_number-source.ensures, c.before.place_of-place.ensures, c.before.before.own_words-own.ensures, c.before.before.before.front_words-front.ensures)
    (one_by_one _)

pub words_of_spec : {M : Type 1} → statement M
words_of_spec =
    tie.close (tie.spec
    (λ c κs. search rules) (λ c κs. search rules) (λ c κs. search rules) (λ c κs. search rules) (λ c. search rules)
    (λ c. search rules) (λ c. search rules) (λ c. search rules) (λ c. search rules) (λ c. search rules)
    (λ c. search rules) (λ c. search rules) returns)
