-- Each answer of the fresh-table call is given exactly when its condition holds. Assumes nothing.
use mathlib.Core.Path.{◌≡◌, refl, sym, ap, ◌∙◌}
use mathlib.Core.Bool.{Bool, true, false}
use mathlib.Core.List.{List}
use mathlib.Core.Logic.{◌⊎◌, inl, inr}
use Prim.Native.Nat.{ℕ}
use native.Mathlib.Omega.{arith}
use Rattle.base_numbers.specs.declared.Refusal.TheVariants.{WrongSize, WrongSetting}
use Rattle.base_lists.specs.Seq.{pick}
use Rattle.base_lists.proofs.StoresAndParts.{told, not_so, true_false}
use Rattle.table_fresh.specs.Fresh.{right_size, in_range, fresh_answer, fresh_number}
use Rattle.base_numbers.specs.declared.Refusal.{Refusal}
use Rattle.std.specs.Prelude.{Result, Ok, Err}
use Rattle.table_fresh.proofs.Sizes.{size_told, size_right}
use Rattle.table_fresh.specs.Conditions.{OutOfRange, AllInRange, SomeSize}
use Rattle.table_fresh.proofs.Ranges.{in_range_holds, out_of_range, refused_range, never_both}

-- the answer by its two tests
abbrev chosen : Bool → Bool → Result Unit Refusal
chosen a b = pick a (pick b (Ok tt) (Err WrongSetting)) (Err WrongSize)

chosen_0 : (a b : Bool) → fresh_number (chosen a b) ≡ 0 → (a ≡ true) × (b ≡ true)
chosen_0 true true e = (refl, refl)
chosen_0 true false e = absurd (omega arith)
chosen_0 false b e = absurd (omega arith)

chosen_1 : (a b : Bool) → fresh_number (chosen a b) ≡ 1 → a ≡ false
chosen_1 true true e = absurd (omega arith)
chosen_1 true false e = absurd (omega arith)
chosen_1 false b e = refl

chosen_10 : (a b : Bool) → fresh_number (chosen a b) ≡ 10 → (a ≡ true) × (b ≡ false)
chosen_10 true true e = absurd (omega arith)
chosen_10 true false e = (refl, refl)
chosen_10 false b e = absurd (omega arith)

wrong_size : (len : ℕ) → right_size len ≡ false → SomeSize len → ⊥
wrong_size len e s = true_false (sym (size_right len s.0 s.1) ∙ e)

module _ (len : ℕ) (ws : List ℕ) (first : ℕ) where
  abbrev answered : ℕ
  answered = fresh_number (fresh_answer len ws first)

  -- number 1: the size is not that of 1 to 48 records
  pub number_1 : (answered ≡ 1 → SomeSize len → ⊥) × ((SomeSize len → ⊥) → answered ≡ 1)
  unfolding fresh_answer
  number_1 = (
    λ e. wrong_size len (chosen_1 (right_size len) (in_range ws first) e),
    λ h. rw (not_so (right_size len) (λ e. h ((_, size_told len e)))) refl,
  )

  -- number 10: the size is right and a setting or the first GenTID is out of range
  pub number_10 : (answered ≡ 10 → SomeSize len × OutOfRange ws first) × (SomeSize len × OutOfRange ws first → answered ≡ 10)
  unfolding fresh_answer
  number_10 = (there, λ h. rw (size_right len h.0.0 h.0.1, refused_range ws first h.1) refl)
    where
      there : fresh_number (chosen (right_size len) (in_range ws first)) ≡ 10 → SomeSize len × OutOfRange ws first
      there e =
          let c = chosen_10 (right_size len) (in_range ws first) e in
          ((_, size_told len c.0), out_of_range ws first c.1)

  -- accepted: the size is right and all is in range
  pub number_0 : (answered ≡ 0 → SomeSize len × AllInRange ws first) × (SomeSize len × AllInRange ws first → answered ≡ 0)
  unfolding fresh_answer
  number_0 = (there, back)
    where
      there : fresh_number (chosen (right_size len) (in_range ws first)) ≡ 0 → SomeSize len × AllInRange ws first
      there e =
          let c = chosen_0 (right_size len) (in_range ws first) e in
          ((_, size_told len c.0), in_range_holds ws first c.1)

      back : SomeSize len × AllInRange ws first → fresh_number (chosen (right_size len) (in_range ws first)) ≡ 0
      back h = go (told (in_range ws first))
        where
          go : (in_range ws first ≡ true) ⊎ (in_range ws first ≡ false) → fresh_number (chosen (right_size len) (in_range ws first)) ≡ 0
          go (inl r) = rw (size_right len h.0.0 h.0.1, r) refl
          go (inr r) = absurd (never_both ws first h.1 (out_of_range ws first r))

module _ (len : ℕ) (ws : List ℕ) (first : ℕ) (e : fresh_answer len ws first ≡ Ok tt) where
  pub accepted : (right_size len ≡ true) × (in_range ws first ≡ true)
  unfolding fresh_answer
  accepted = chosen_0 (right_size len) (in_range ws first) (ap fresh_number e)
