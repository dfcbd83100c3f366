-- What each engine call gives: number 1 where the answer has too few words, else the engine's answer, handed over with its last words. Assumes nothing.
use Prim.Native.Nat.{ℕ, ◌≤◌}
use mathlib.Core.Path.{◌≡◌, refl, sym, ap, ◌∙◌}
use mathlib.Core.Bool.{Bool, true, false}
use mathlib.Core.List.{List}
use lib.ListN.{length}
use lib.Dec.{ltb}
use borrow.Author.Tests.{ltb-false}
use Rattle.base_layout.specs.Layout.{answer_size}
use Rattle.base_numbers.specs.Numbers.{number_of}
use Rattle.base_numbers.specs.declared.Refusal.TheVariants.{WrongSize}
use Rattle.step_outcome.specs.Carry.{Lent}
use Rattle.c_answers.specs.Answers.{told_after}
use Rattle.wtp.specs.Engine.{Called, called, told, or_small}

module _ (words : List ℕ) (few : Bool) (size : few ≡ ltb (length words) answer_size) where
  pub enough : few ≡ false → answer_size ≤ length words
  enough f = ltb-false (length words) answer_size (sym size ∙ f)

  module _ (l : Lent) (c : Called) (more : List ℕ) where
    pub refused_small : few ≡ true → (r : ℕ) → r ≡ number_of WrongSize → called r l.table l.store l.output words ≡ or_small l words c more
    unfolding or_small
    refused_small t r e = rw (sym size ∙ t, e) refl

    -- words 34 to 39 are told after the engine's own
    pub told_over : few ≡ false → (n : ℕ) (t s o a : List ℕ) → called n t s o a ≡ c → (r : ℕ) (w : List ℕ) → (r ≡ n) × (w ≡ told_after n a more) → called r t s o w ≡ or_small l words c more
    unfolding or_small told
    told_over f n t s o a k r w q =
        let here : called r t s o w ≡ told (called n t s o a) more = rw (q.0, q.1) refl in
        let over : or_small l words c more ≡ told c more = rw (sym size ∙ f) refl in
        here ∙ ap (λ (x : Called). told x more) k ∙ sym over
