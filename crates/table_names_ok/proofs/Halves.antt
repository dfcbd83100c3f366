-- The tests against both halves are the test of the names. Assumes nothing.
use mathlib.Core.Path.{◌≡◌, sym, ap, ◌∙◌}
use mathlib.Core.List.{List}
use mathlib.Core.Bool.{true, false, not}
use mathlib.Core.Logic.{◌⊎◌, inl, inr}
use Prim.Native.Nat.{ℕ, ◌+◌, ◌-◌, ◌≤◌, ◌<◌}
use native.Mathlib.Omega.{arith}
use lib.Dec.{ltb}
use borrow.Author.Tests.{ltb-true, lt-ltb, not-true}
use Rattle.base_layout.specs.Layout.{records_bound}
use Rattle.base_lists.specs.Seq.{pick, every}
use Rattle.base_lists.proofs.StoresAndParts.{both, both_fst, both_snd, not_so, true_false, every_all, every_at, lt_or_le}
use Rattle.base_lists.proofs.Every.{same_test}
use Rattle.table_layout.specs.Table.{record_at}
use Rattle.table_names_ok.specs.Names.{clash, new_name, names_ok, half, new_in_half, half_ok}
use Rattle.table_names_ok.proofs.Keys.{unless, unlessed}

module _ (t : List ℕ) (n : ℕ) (few : n ≤ records_bound) where
  -- no place of the half before i shares its name with it
  half_says : (from i j : ℕ) → half_ok t from n ≡ true → i < n → from ≤ j → j < i → j < from + half → clash (record_at t j) (record_at t i) ≡ true → ⊥
  unfolding half_ok new_in_half
  half_says from i j e a b c d =
      let p : from + (j - from) ≡ j = omega arith in
      let q : from + (i - from) ≡ i = omega arith in
      let f = every_at (new_in_half t from) (n - from) e (i - from) (omega arith) in
      let g = every_at (λ k. not (pick (ltb k (i - from)) (clash (record_at t (from + k)) (record_at t (from + (i - from)))) false)) half f (j - from) (omega arith) in
      rw (p, q) at (unlessed _ _ g (lt-ltb (j - from) (i - from) (omega arith)))

  names_say : names_ok t n ≡ true → (i j : ℕ) → i < n → j < i → not (clash (record_at t j) (record_at t i)) ≡ true
  unfolding names_ok new_name
  names_say e i j a b = every_at (λ j. not (clash (record_at t j) (record_at t i))) i (every_at (new_name t) n e i a) j b

  half_holds : names_ok t n ≡ true → (from : ℕ) → half_ok t from n ≡ true
  unfolding half_ok new_in_half
  half_holds e from = every_all (new_in_half t from) (n - from) (λ m a. every_all _ half (λ j b. unless _ _ (λ c d. true_false (sym d ∙ not-true _ (names_say e (from + m) (from + j) (omega arith) (below m j (ltb-true j m c)))))))
    where
      below : (m j : ℕ) → j < m → from + j < from + m
      below m j c = omega arith

  -- THE TESTS AGAINST BOTH HALVES ARE THE TEST OF THE NAMES
  pub halves : pick (half_ok t 0 n) (half_ok t half n) false ≡ names_ok t n
  unfolding names_ok new_name
  halves = same_test _ _ to (λ e. both _ _ (half_holds e 0) (half_holds e half)) where
    to : pick (half_ok t 0 n) (half_ok t half n) false ≡ true → every (new_name t) n ≡ true
    to e = every_all (new_name t) n (λ i a. every_all (λ j. not (clash (record_at t j) (record_at t i))) i (λ j b. ap not (not_so _ (λ c. apart i j a b c (lt_or_le j half))))) where
      apart : (i j : ℕ) → i < n → j < i → clash (record_at t j) (record_at t i) ≡ true → (j < half) ⊎ (half ≤ j) → ⊥
      apart i j a b c (inl l) = half_says 0 i j (both_fst (half_ok t 0 n) (half_ok t half n) e) a (omega arith) b (omega arith) c
      apart i j a b c (inr l) = half_says half i j (both_snd (half_ok t 0 n) (half_ok t half n) e) a l b (omega arith) c
