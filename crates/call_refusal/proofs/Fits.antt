-- What an accepted call knows: none of its tests holds, its table is well formed, its time is in range. Assumes nothing.
use Prim.Native.Nat.{ℕ, ◌+◌, ◌*◌, ◌≤◌, ◌<◌}
use native.Mathlib.Omega.{arith}
use borrow.Author.Tests.{ltb-false}
use mathlib.Core.Path.{◌≡◌, refl, sym}
use mathlib.Core.List.{List, [], ◌∷◌}
use mathlib.Core.Bool.{Bool, true, false, not}
use lib.Dec.{ltb}
use lib.ListN.{length}
use Rattle.std.specs.Prelude.{Result, Ok, Err}
use Rattle.base_numbers.specs.declared.Refusal.{Refusal}
use Rattle.base_layout.specs.Layout.{header_size, record_size, base, time_bound}
use Rattle.base_lists.specs.Seq.{pick}
use Rattle.base_lists.proofs.StoresAndParts.{true_false}
use Rattle.table_layout.specs.Table.{count, clock_of}
use Rattle.table_well_formed.specs.WellFormed.{WellFormed, Fitting, fitting}
use Rattle.table_well_formed.proofs.TableTest.{to_fitting}
use Rattle.call_refusal.specs.Judging.{Test, lowest, late_of}

-- none of the tests holds
abbrev pub NoneHolds : List Test → Type 0
NoneHolds [] = Unit
NoneHolds (t ∷ ts) = (t.holds ≡ false) × NoneHolds ts

-- whether a call is accepted
abbrev pub is_accept : Result Unit Refusal → Bool
is_accept (Ok a) = true
is_accept (Err r) = false

accepted_first : (t : Test) (rest : Result Unit Refusal) (b : Bool) → t.holds ≡ b → is_accept (pick t.holds (Err t.number) rest) ≡ true → (t.holds ≡ false) × (is_accept rest ≡ true)
accepted_first t rest true e h = true_false (sym (rw e at h))
accepted_first t rest false e h = (e, rw e at h)

none_holds : (ts : List Test) → is_accept (lowest ts) ≡ true → NoneHolds ts
unfolding lowest
none_holds [] h = tt
none_holds (t ∷ ts) h = ((accepted_first t (lowest ts) t.holds refl h).0, none_holds ts (accepted_first t (lowest ts) t.holds refl h).1)

-- an accepted call met none of its tests
pub accepted : (ts : List Test) → lowest ts ≡ Ok tt → NoneHolds ts
accepted ts e = none_holds ts (rw e refl)

-- number 1 isn't given
pub fits : (t : List ℕ) (store output : ℕ) → not (fitting t store output) ≡ false → Fitting t store output
fits t store output e = to_fitting t store output (go (fitting t store output) e)
  where
    go : (b : Bool) → not b ≡ false → b ≡ true
    go true h = refl
    go false h = true_false h

-- number 2 isn't given
pub in_time : (t : List ℕ) (time : ℕ) → late_of t time ≡ false → (clock_of t ≤ time) × (time ≤ time_bound)
unfolding late_of
in_time t time h = go (ltb time (clock_of t)) refl
  where
    go : (b : Bool) → ltb time (clock_of t) ≡ b → (clock_of t ≤ time) × (time ≤ time_bound)
    go true e = true_false (rw e at h)
    go false e = (ltb-false time (clock_of t) e, ltb-false time_bound time (rw e at h))

-- a table that fits has its header and all its records
pub header_there : (t : List ℕ) (store output : ℕ) → fitting t store output ≡ true → header_size ≤ length t
header_there t store output e = omega (arith, (to_fitting t store output e).formed.sized.whole)

pub records_there : (t : List ℕ) → WellFormed t → header_size + count t * record_size ≤ length t
records_there t w = omega (arith, w.sized.whole)

pub record_there : (t : List ℕ) (i : ℕ) → WellFormed t → i < count t → base i + record_size ≤ length t
record_there t i w h = omega (arith, w.sized.whole)
