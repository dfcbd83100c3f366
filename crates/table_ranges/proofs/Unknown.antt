-- The identity of an unknown item: the test holds exactly when the sentence does. Assumes nothing.
use mathlib.Core.Path.{◌≡◌, refl}
use mathlib.Core.Bool.{true, false}
use mathlib.Core.Logic.{◌⊎◌, inl, inr}
use Prim.Native.Nat.{ℕ}
use native.Mathlib.Omega.{arith}
use lib.Dec.{leb, eqb}
use borrow.Author.Tests.{eqb-true, ne_eqb, leb-true, le-leb}
use Rattle.base_layout.specs.Layout.{unknown_least, identity_bound}
use Rattle.base_lists.specs.Seq.{pick}
use Rattle.base_lists.proofs.StoresAndParts.{told, both, both_fst, both_snd}
use Rattle.table_ranges.specs.Ranges.{UnknownOk, none, some, unknown_ok}

pub unknown_to : (k : ℕ) → unknown_ok k ≡ true → UnknownOk k
unfolding unknown_ok
unknown_to k h = go (told (eqb k 0)) where
  go : (eqb k 0 ≡ true) ⊎ (eqb k 0 ≡ false) → UnknownOk k
  go (inl a) = none (eqb-true k 0 a)
  go (inr a) =
      let b : pick (leb unknown_least k) (leb k identity_bound) false ≡ true = rw a at h in
      some (leb-true _ _ (both_fst (leb unknown_least k) (leb k identity_bound) b)) (leb-true _ _ (both_snd (leb unknown_least k) (leb k identity_bound) b))

pub unknown_from_holds : (k : ℕ) → UnknownOk k → unknown_ok k ≡ true
unfolding unknown_ok
unknown_from_holds k (none e) = rw e refl
unknown_from_holds k (some l m) =
    rw (ne_eqb k 0 (λ (e : k ≡ 0). omega (arith, l))) (both (leb unknown_least k) (leb k identity_bound) (le-leb _ _ l) (le-leb _ _ m))
