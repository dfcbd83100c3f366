-- The size is right exactly where it is that of 1 to 48 records. Assumes nothing.
use mathlib.Core.Path.{◌≡◌}
use mathlib.Core.Bool.{true}
use mathlib.Core.Logic.{◌⊎◌, inl, inr}
use Prim.Native.Nat.{ℕ, ◌-◌, ◌/◌, ◌%◌, ◌≤◌, ◌<◌}
use native.Mathlib.Omega.{arith}
use lib.Dec.{leb}
use borrow.Author.Tests.{leb-true, le-leb, lt-leb, eqb-true, eq-eqb}
use Rattle.base_layout.specs.Layout.{header_size, record_size, base, records_bound}
use Rattle.base_lists.proofs.StoresAndParts.{both, both_fst, both_snd}
use Rattle.table_fresh.specs.Fresh.{table_bytes, right_size}
use Rattle.table_fresh.specs.Conditions.{Sized}

pub size_told : (len : ℕ) → right_size len ≡ true → Sized len ((len - header_size) / record_size)
unfolding right_size
size_told len e =
    let a = leb-true (base 1) len (both_fst _ _ e) in
    let r = both_snd (leb (base 1) len) _ e in
    let b = leb-true len (base records_bound) (both_fst _ _ r) in
    let c = eqb-true ((len - header_size) % record_size) 0 (both_snd (leb len (base records_bound)) _ r) in
    record { some = omega arith; most = omega arith; exact = omega arith }

pub size_right : (len n : ℕ) → Sized len n → right_size len ≡ true
unfolding right_size
size_right len n s =
    let a : base 1 ≤ len = omega (arith, s.some, s.exact) in
    let b : len ≤ base records_bound = omega (arith, s.most, s.exact) in
    let c : (len - header_size) % record_size ≡ 0 = omega (arith, s.exact) in
    both _ _ (le-leb (base 1) len a) (both _ _ (le-leb len (base records_bound) b) (eq-eqb _ _ c))

pub bytes_right : (n : ℕ) → 1 ≤ n → n ≤ 48 → table_bytes n ≡ base n
unfolding table_bytes
bytes_right n a b = simp (le-leb 1 n a, le-leb n 48 b) (omega arith)

pub bytes_sized : (n : ℕ) → 1 ≤ n → n ≤ 48 → Sized (table_bytes n) n
bytes_sized n a b = record { some = a; most = b; exact = bytes_right n a b }

pub bytes_none : (n : ℕ) → (n < 1) ⊎ (48 < n) → table_bytes n ≡ 0
unfolding table_bytes
bytes_none n (inl h) = simp (lt-leb 1 n h)
bytes_none n (inr h) =
    let a : 1 ≤ n = omega arith in
    simp (le-leb 1 n a, lt-leb n 48 h)
