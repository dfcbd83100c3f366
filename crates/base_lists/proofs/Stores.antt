-- What a loop that stores one list into another keeps, over the element. Assumes nothing.
use Prim.Native.Nat.{ℕ, ◌+◌, ◌≤◌, ◌<◌}
use native.Mathlib.Omega.{arith}
use native.Mathlib.Numerals.{add-one}
use mathlib.Core.Path.{◌≡◌, refl, sym, ap, ◌∙◌}
use mathlib.Core.List.{List}
use lib.ListN.{length, get_or, set, length-set}
use lib.Seq.{paste, paste-zero, paste-suc, take-length, sets-eq}
use Rattle.base_lists.specs.Seq.{put}

-- after j turns the first j elements of w stand in t from `at` on
abbrev pub Stored : {A : Type 0} → List A → ℕ → List A → List A → ℕ → Type 0
Stored t₀ at w t j = (j ≤ length w) × ((t ≡ paste t₀ at w j) × (length t ≡ length t₀))

module _ {A : Type 0} (t₀ : List A) (at : ℕ) (w : List A) (room : at + length w ≤ length t₀) where
  pub stored_none : Stored t₀ at w t₀ 0
  stored_none = (omega arith, (paste-zero t₀ at w, refl))

  pub stored_more : (t : List A) (j : ℕ) (x : A) → j < length w → x ≡ get_or w j x → Stored t₀ at w t j → Stored t₀ at w (set t (at + j) x) (j + 1)
  stored_more t j x h e s = (
    omega arith,
    (ap (λ (l : List A). set l (at + j) x) s.1.0 ∙ ap (λ (y : A). set (paste t₀ at w j) (at + j) y) e ∙ rw add-one (paste-suc t₀ at w j x (omega arith) h), length-set t (at + j) x ∙ s.1.1),
  )

  pub stored_all : (t : List A) (j : ℕ) → length w ≤ j → Stored t₀ at w t j → t ≡ put t₀ at w
  unfolding put
  stored_all t j h s =
      let e : j ≡ length w = omega arith in
      s.1.0 ∙ rw e (rw take-length (sym (sets-eq w t₀ at room)))
