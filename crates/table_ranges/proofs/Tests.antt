-- A list of tests holds exactly when each of them does. Assumes nothing.
use mathlib.Core.Path.{◌≡◌, refl}
use mathlib.Core.List.{List, [], ◌∷◌}
use mathlib.Core.Bool.{Bool, true}
use Prim.Native.Nat.{ℕ}
use native.Mathlib.Omega.{arith}
use borrow.Author.Tests.{leb-true, le-leb}
use Rattle.base_lists.proofs.StoresAndParts.{both, both_fst, both_snd}
use Rattle.table_ranges.specs.Ranges.{all_of, Interval, interval, interval_tests}

-- each of them holds
abbrev pub Each : List Bool → Type 0
Each [] = Unit
Each (b ∷ []) = b ≡ true
Each (b ∷ c ∷ bs) = (b ≡ true) × Each (c ∷ bs)

pub each : (bs : List Bool) → all_of bs ≡ true → Each bs
each [] h = tt
each (b ∷ []) h = h
each (b ∷ c ∷ bs) h = (both_fst b (all_of (c ∷ bs)) h, each (c ∷ bs) (both_snd b (all_of (c ∷ bs)) h))

pub all : (bs : List Bool) → Each bs → all_of bs ≡ true
all [] h = refl
all (b ∷ []) h = h
all (b ∷ c ∷ bs) h = both b (all_of (c ∷ bs)) h.0 (all (c ∷ bs) h.1)

pub interval_to : (v : ℕ) → interval v ≡ true → Interval v
unfolding interval
interval_to v h =
    let e : Each (interval_tests v) = each (interval_tests v) h in
    omega (arith, leb-true)

pub interval_from : (v : ℕ) → Interval v → interval v ≡ true
unfolding interval
interval_from v h =
    let e : Each (interval_tests v) = omega (arith, le-leb) in
    all (interval_tests v) e
