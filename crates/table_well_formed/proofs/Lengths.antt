-- The test of a table's length holds exactly when it has its header and 1 to 48 records. Assumes nothing.
use mathlib.Core.Path.{◌≡◌}
use mathlib.Core.List.{List}
use mathlib.Core.Bool.{true}
use Prim.Native.Nat.{ℕ, ◌+◌, ◌-◌, ◌/◌, ◌≤◌, ◌<◌}
use native.Mathlib.Omega.{arith}
use lib.ListN.{length}
use borrow.Author.Tests.{leb-true, eqb-true, le-leb, eq-eqb}
use Rattle.base_layout.specs.Layout.{header_size, record_size, base, records_bound}
use Rattle.table_layout.specs.Table.{count}
use Rattle.table_ranges.proofs.Tests.{Each, each, all}
use Rattle.table_well_formed.specs.WellFormed.{Sized, length_tests, length_ok}

-- a length that is good is that of the header and of a number of records
pub record Whole (n : ℕ) : Type 0 where
  pub least : 1 ≤ (n - header_size) / record_size
  pub most : (n - header_size) / record_size ≤ records_bound
  pub whole : n ≡ base ((n - header_size) / record_size)

pub length_to : (n : ℕ) → length_ok n ≡ true → Whole n
unfolding length_ok
length_to n h =
    let e : Each (length_tests n) = each (length_tests n) h in
    omega (arith, leb-true, eqb-true)

pub length_from : (n : ℕ) → Whole n → length_ok n ≡ true
unfolding length_ok
length_from n h =
    let e : Each (length_tests n) = omega (arith, le-leb, eq-eqb) in
    all (length_tests n) e

pub sized_to : (t : List ℕ) → length_ok (length t) ≡ true → Sized t
sized_to t h =
    let e : Whole (length t) = length_to (length t) h in
    record { least = e.least; most = e.most; whole = e.whole }

pub sized_from : (t : List ℕ) → Sized t → length_ok (length t) ≡ true
sized_from t h = length_from (length t) (record { least = h.least; most = h.most; whole = h.whole })

-- a record of the table lies within it
pub room : (t : List ℕ) → Sized t → (i : ℕ) → i < count t → base i + record_size ≤ length t
room t s i l = omega (arith, s.whole)
