-- Conditions on numbers hold or do not. Assumes nothing.
use Prim.Native.Nat.{ℕ, ◌<◌}
use native.Mathlib.Omega.{arith}
use borrow.Author.Tests.{ltb-true, ltb-false, eqb-true, eqb-false}
use mathlib.Core.Path.{◌≡◌}
use mathlib.Core.Bool.{true, false}
use mathlib.Core.Logic.{◌⊎◌, inl, inr}
use lib.Dec.{ltb, eqb}
use Rattle.base_lists.proofs.StoresAndParts.{told}

-- A holds or does not
abbrev pub Decided : Type 0 → Type 0
Decided A = A ⊎ (A → ⊥)

pub equal : (a b : ℕ) → Decided (a ≡ b)
equal a b = go (told (eqb a b))
  where
    go : (eqb a b ≡ true) ⊎ (eqb a b ≡ false) → Decided (a ≡ b)
    go (inl e) = inl (eqb-true a b e)
    go (inr e) = inr (eqb-false a b e)

pub under : (a b : ℕ) → Decided (a < b)
under a b = go (told (ltb a b))
  where
    go : (ltb a b ≡ true) ⊎ (ltb a b ≡ false) → Decided (a < b)
    go (inl e) = inl (ltb-true a b e)
    go (inr e) = inr (λ l. omega (arith, ltb-false a b e))

pub both : {A B : Type 0} → Decided A → Decided B → Decided (A × B)
both (inl a) (inl b) = inl (a, b)
both (inl a) (inr n) = inr (λ p. n p.1)
both (inr n) b = inr (λ p. n p.0)

pub neither : {A B : Type 0} → (A → ⊥) → (B → ⊥) → A ⊎ B → ⊥
neither n m (inl a) = n a
neither n m (inr b) = m b

pub either : {A B : Type 0} → Decided A → Decided B → Decided (A ⊎ B)
either (inl a) b = inl (inl a)
either (inr n) (inl b) = inl (inr b)
either (inr n) (inr m) = inr (neither n m)
