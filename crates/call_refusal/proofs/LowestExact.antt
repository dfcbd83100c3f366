-- The refusal is exact: tests that tell their conditions give the lowest number whose condition holds, and none without it. Assumes nothing.
use Prim.Native.Nat.{ℕ, ◌<◌}
use native.Mathlib.Omega.{arith}
use borrow.Author.Tests.{ltb-true, ltb-false}
use mathlib.Core.Path.{◌≡◌, refl, sym}
use mathlib.Core.List.{List, [], ◌∷◌}
use mathlib.Core.Bool.{Bool, true, false, not}
use mathlib.Core.Logic.{◌⊎◌, inl, inr}
use lib.Dec.{ltb}
use Rattle.base_layout.specs.Layout.{time_bound}
use Rattle.base_lists.specs.Seq.{pick}
use Rattle.base_lists.proofs.StoresAndParts.{true_false}
use Rattle.table_layout.specs.Table.{clock_of}
use Rattle.table_well_formed.specs.WellFormed.{fitting}
use Rattle.table_well_formed.proofs.TableTest.{to_fitting, from_fitting}
use Rattle.call_refusal.specs.Judging.{Test, lowest, Condition, Lowest, late_of, unfit, Unfit, too_late, Late}
use Rattle.call_refusal.specs.Told.{Tells, AllTell}

first_exact : (t : Test) (ts : List Test) (c : Condition) (cs : List Condition) (b : Bool) → t.holds ≡ b → Tells t c → Lowest cs (lowest ts) → Lowest (c ∷ cs) (lowest (t ∷ ts))
unfolding lowest Lowest
first_exact t ts c cs true e tells rest = rw (e, tells.0) (inl (tells.1 e, refl))
first_exact t ts c cs false e tells rest = rw e (inr (tells.2 e, rest))

pub lowest_exact : (ts : List Test) (cs : List Condition) → AllTell ts cs → Lowest cs (lowest ts)
unfolding lowest Lowest
lowest_exact [] [] h = refl
lowest_exact [] (c ∷ cs) h = absurd h
lowest_exact (t ∷ ts) [] h = absurd h
lowest_exact (t ∷ ts) (c ∷ cs) h = first_exact t ts c cs t.holds refl h.0 (lowest_exact ts cs h.1)

-- numbers 1 and 2, which every call has
pub tells_unfit : (t : List ℕ) (store output : ℕ) → Tells (unfit t store output) (Unfit t store output)
tells_unfit t store output = (refl, λ e f. true_false (sym (rw (from_fitting t store output f) at e)), λ e u. u (to_fitting t store output (not_not (fitting t store output) e)))
  where
    not_not : (b : Bool) → not b ≡ false → b ≡ true
    not_not true e = refl
    not_not false e = true_false e

pub tells_late : (t : List ℕ) (time : ℕ) → Tells (too_late t time) (Late t time)
unfolding late_of
tells_late t time = (refl, yes (ltb time (clock_of t)) refl, no (ltb time (clock_of t)) refl)
  where
    yes : (b : Bool) → ltb time (clock_of t) ≡ b → pick (ltb time (clock_of t)) true (ltb time_bound time) ≡ true → (time < clock_of t) ⊎ (time_bound < time)
    yes true e h = inl (ltb-true time (clock_of t) e)
    yes false e h = inr (ltb-true time_bound time (rw e at h))

    no : (b : Bool) → ltb time (clock_of t) ≡ b → pick (ltb time (clock_of t)) true (ltb time_bound time) ≡ false → (time < clock_of t) ⊎ (time_bound < time) → ⊥
    no true e h k = true_false (rw e at h)
    no false e h (inl k) = absurd (omega (arith, ltb-false time (clock_of t) e, k))
    no false e h (inr k) = absurd (omega (arith, ltb-false time_bound time (rw e at h), k))
