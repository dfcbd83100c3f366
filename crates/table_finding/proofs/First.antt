-- The search: what is found or not. Assumes nothing.
use Rattle.std.specs.Prelude.{Option, Some, None, is_some, MatchOption}
use Rattle.std.specs.Bool.{MatchBool}
use mathlib.Core.Path.{◌≡◌, refl, sym, ap, ◌∙◌}
use mathlib.Core.Bool.{Bool, true, false}
use mathlib.Core.Logic.{◌⊎◌, inl, inr}
use Prim.Native.Nat.{ℕ, zero, suc, ◌+◌, ◌≤◌, ◌<◌}
use native.Mathlib.Omega.{arith}
use Rattle.base_lists.specs.Seq.{pick}
use Rattle.base_lists.proofs.StoresAndParts.{told, lt_or_le, true_false}
use Rattle.table_finding.specs.Finding.{first}

-- p holds of none of the places from i to j
abbrev pub NoneBelow : (ℕ → Bool) → ℕ → ℕ → Type 0
NoneBelow p i j = (m : ℕ) → i ≤ m → m < j → p m ≡ false

-- j is the lowest of the k places from i on that p holds of
pub record Lowest (p : ℕ → Bool) (i k j : ℕ) : Type 0 where
  pub from : i ≤ j
  pub below : j < i + k
  pub holds : p j ≡ true
  pub before : NoneBelow p i j

-- what a search says is so
abbrev pub Told : (ℕ → Bool) → ℕ → ℕ → Option ℕ → Type 0
Told p i k (Some j) = Lowest p i k j
Told p i k None = NoneBelow p i (i + k)

module _ (p : ℕ → Bool) where
  -- a place that fails, and then none
  none_more : (i j : ℕ) → p i ≡ false → NoneBelow p (i + 1) j → NoneBelow p i j
  none_more i j q f m l h = go (lt_or_le i m)
    where
      go : (i < m) ⊎ (m ≤ i) → p m ≡ false
      go (inl d) = f m (omega arith) h
      go (inr d) =
          let e : m ≡ i = omega arith in
          ap p e ∙ q

  told_more : (i k : ℕ) (r : Option ℕ) → p i ≡ false → Told p (i + 1) k r → Told p i (suc k) r
  told_more i k (Some j) q t = record { from = omega (arith, t.from); below = omega (arith, t.below); holds = t.holds; before = none_more i j q t.before }
  told_more i k None q t = none_more i (i + suc k) q (λ m l h. t m l (omega arith))

  pub first_told : (k i : ℕ) → Told p i k (first p k i)
  unfolding first
  first_told zero i = λ m l h. absurd (omega arith)
  first_told (suc k) i = go (told (p i)) (first_told k (i + 1))
    where
      go : (p i ≡ true) ⊎ (p i ≡ false) → Told p (i + 1) k (first p k (i + 1)) → Told p i (suc k) (pick (p i) (Some i) (first p k (i + 1)))
      go (inl q) t = rw q (record { from = omega arith; below = omega arith; holds = q; before = λ m l h. absurd (omega arith) })
      go (inr q) t = rw q (told_more i k (first p k (i + 1)) q t)

  -- what a search over the places below n found is what `first` is
  pub first_is : (n : ℕ) (r : Option ℕ) → MatchOption r ((k : ℕ) → 0 ≤ k → k < n → p k ≡ false) (λ i. (0 ≤ i) × (i < n) × (p i ≡ true) × ((k : ℕ) → 0 ≤ k → k < i → p k ≡ false)) → r ≡ first p n 0
  first_is n r h = same r (first p n 0) h (first_told n 0)
    where
      same : (r s : Option ℕ) → MatchOption r ((k : ℕ) → 0 ≤ k → k < n → p k ≡ false) (λ i. (0 ≤ i) × (i < n) × (p i ≡ true) × ((k : ℕ) → 0 ≤ k → k < i → p k ≡ false)) → Told p 0 n s → r ≡ s
      same None None h t = refl
      same None (Some j) h t = true_false (sym t.holds ∙ h j (omega arith) (omega (arith, t.below)))
      same (Some i) None h t = true_false (sym h.2 ∙ t i (omega arith) (omega (arith, h.1)))
      same (Some i) (Some j) h t = ap Some (level (lt_or_le i j) (lt_or_le j i))
        where
          level : (i < j) ⊎ (j ≤ i) → (j < i) ⊎ (i ≤ j) → i ≡ j
          level (inl a) b = true_false (sym h.2 ∙ t.before i (omega arith) a)
          level (inr a) (inl b) = true_false (sym t.holds ∙ h.3 j (omega arith) b)
          level (inr a) (inr b) = omega arith

  -- whether a place below n was found
  pub some_is : (n : ℕ) (b : Bool) → MatchBool b ((k : ℕ) × (k < n) × (p k ≡ true)) ((k : ℕ) → k < n → p k ≡ false) → b ≡ is_some (first p n 0)
  some_is n b h = same b (first p n 0) h (first_told n 0)
    where
      same : (b : Bool) (s : Option ℕ) → MatchBool b ((k : ℕ) × (k < n) × (p k ≡ true)) ((k : ℕ) → k < n → p k ≡ false) → Told p 0 n s → b ≡ is_some s
      same true None h t = true_false (sym h.2 ∙ t h.0 (omega arith) (omega (arith, h.1)))
      same true (Some j) h t = refl
      same false None h t = refl
      same false (Some j) h t = true_false (sym t.holds ∙ h j (omega (arith, t.below)))
