-- What doesn't fit is refused with 1 whatever else is asked, so that the other tests need tell their conditions only of what fits. Assumes nothing.
use Prim.Native.Nat.{ℕ}
use mathlib.Core.Path.{◌≡◌, refl, sym, ◌∙◌}
use mathlib.Core.List.{List, ◌∷◌}
use mathlib.Core.Bool.{true, false}
use mathlib.Core.Logic.{◌⊎◌, inl, inr}
use Rattle.base_lists.proofs.StoresAndParts.{true_false, told}
use Rattle.table_well_formed.specs.WellFormed.{Fitting, fitting}
use Rattle.table_well_formed.proofs.TableTest.{to_fitting, from_fitting}
use Rattle.call_refusal.specs.Judging.{Test, Condition, lowest, Lowest, unfit, Unfit}
use Rattle.call_refusal.specs.Told.{AllTell}
use Rattle.call_refusal.proofs.LowestExact.{lowest_exact, tells_unfit}

module _ (t : List ℕ) (store output : ℕ) (ts : List Test) (cs : List Condition) where
  where_unfit : fitting t store output ≡ false → Lowest (Unfit t store output ∷ cs) (lowest (unfit t store output ∷ ts))
  unfolding lowest Lowest
  where_unfit e = rw e (inl (λ fit. true_false (sym (from_fitting t store output fit) ∙ e), refl))

  pub exact_where_fitting : (Fitting t store output → AllTell ts cs) → Lowest (Unfit t store output ∷ cs) (lowest (unfit t store output ∷ ts))
  exact_where_fitting tell = go (told (fitting t store output))
    where
      go : (fitting t store output ≡ true) ⊎ (fitting t store output ≡ false) → Lowest (Unfit t store output ∷ cs) (lowest (unfit t store output ∷ ts))
      go (inl e) = lowest_exact (unfit t store output ∷ ts) (Unfit t store output ∷ cs) (tells_unfit t store output, tell (to_fitting t store output e))
      go (inr e) = where_unfit e
