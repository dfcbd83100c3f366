-- The mode and the waiting limit: the test holds exactly when the sentence does. Assumes nothing.
use mathlib.Core.Path.{◌≡◌, refl, sym, ◌∙◌}
use mathlib.Core.Bool.{true, false}
use mathlib.Core.Logic.{◌⊎◌, inl, inr}
use Prim.Native.Nat.{ℕ, ◌≤◌}
use native.Mathlib.Omega.{arith}
use lib.Dec.{eqb}
use borrow.Author.Tests.{eqb-true}
use Rattle.base_layout.specs.Layout.{interval_bound}
use Rattle.base_lists.proofs.StoresAndParts.{told, true_false}
use Rattle.table_ranges.specs.Ranges.{ModesOk, off, on, modes_ok}
use Rattle.table_ranges.proofs.Tests.{interval_to, interval_from}

pub modes_to : (modes limit : ℕ) → modes_ok modes limit ≡ true → ModesOk modes limit
unfolding modes_ok
modes_to modes limit h = go (told (eqb modes 0)) (told (eqb modes 1)) where
  go : (eqb modes 0 ≡ true) ⊎ (eqb modes 0 ≡ false) → (eqb modes 1 ≡ true) ⊎ (eqb modes 1 ≡ false) → ModesOk modes limit
  go (inl a) b = off (eqb-true modes 0 a) (eqb-true limit 0 (rw a at h))
  go (inr a) (inl b) = on (eqb-true modes 1 b) (interval_to limit (rw (a, b) at h))
  go (inr a) (inr b) = true_false (sym h ∙ rw (a, b) refl)

pub modes_from : (modes limit : ℕ) → ModesOk modes limit → modes_ok modes limit ≡ true
unfolding modes_ok
modes_from modes limit (off a b) = rw (a, b) refl
modes_from modes limit (on a b) = rw a (interval_from limit b)

pub limit_most : {modes limit : ℕ} → ModesOk modes limit → limit ≤ interval_bound
limit_most (off a b) = omega arith
limit_most (on a b) = b.most
