-- A store that does not meet a field leaves it. Assumes nothing.
use mathlib.Core.Path.{◌≡◌, refl, ap}
use mathlib.Core.List.{List}
use mathlib.Core.Logic.{inl, inr}
use Prim.Native.Nat.{ℕ, zero, suc, ◌+◌, ◌*◌, ◌≤◌}
use native.Mathlib.Omega.{arith}
use lib.ListN.{length, get_or}
use lib.Dec.{eqb}
use Rattle.base_layout.specs.Layout.{fields_size, tidnew_due_at, cached_at, base}
use Rattle.base_lists.specs.Seq.{put}
use Rattle.base_octets.specs.Octets.{num, Apart}
use Rattle.base_octets.proofs.StoredAndRead.{gets_apart, get_before, get_d_after}
use Rattle.table_record.specs.Record.{decoded}
use Rattle.table_layout.specs.Table.{clock_of, gen_tid_of, fours, settings_of, intervals_of, cached_of, record_at, tidnew_due_of}

pub clock_apart : (t : List ℕ) (b : ℕ) (w : List ℕ) → 8 ≤ b → clock_of (put t b w) ≡ clock_of t
unfolding clock_of
clock_apart t b w h = ap num (gets_apart 8 0 t b w (inl h))

pub gen_tid_apart : (t : List ℕ) (b : ℕ) (w : List ℕ) → Apart 8 2 b (length w) → gen_tid_of (put t b w) ≡ gen_tid_of t
unfolding gen_tid_of
gen_tid_apart t b w h = ap num (gets_apart 2 8 t b w h)

pub octet_apart : (t : List ℕ) (b : ℕ) (w : List ℕ) (k : ℕ) → Apart k 1 b (length w) → get_or (put t b w) k 0 ≡ get_or t k 0
octet_apart t b w k (inl h) = get_before w t b k (omega arith)
octet_apart t b w k (inr h) = get_d_after w t b k h

pub tidnew_due_apart : (t : List ℕ) (b : ℕ) (w : List ℕ) → Apart tidnew_due_at 1 b (length w) → tidnew_due_of (put t b w) ≡ tidnew_due_of t
unfolding tidnew_due_of
tidnew_due_apart t b w h = ap (λ (n : ℕ). eqb n 1) (octet_apart t b w tidnew_due_at h)

-- the settings lie from 10 to 97
pub settings_apart : (t : List ℕ) (b : ℕ) (w : List ℕ) → Apart 10 87 b (length w) → settings_of (put t b w) ≡ settings_of t
unfolding settings_of
settings_apart t b w (inl h) = rw (octet_apart t b w 10 (inl (omega arith)), octet_apart t b w 11 (inl (omega arith)), gets_apart 4 12 t b w (inl (omega arith)), gets_apart 4 16 t b w (inl (omega arith)), gets_apart 4 92 t b w (inl (omega arith)))
settings_apart t b w (inr h) = rw (octet_apart t b w 10 (inr (omega arith)), octet_apart t b w 11 (inr (omega arith)), gets_apart 4 12 t b w (inr (omega arith)), gets_apart 4 16 t b w (inr (omega arith)), gets_apart 4 92 t b w (inr (omega arith)))

pub fours_apart : (n at : ℕ) (t : List ℕ) (b : ℕ) (w : List ℕ) → Apart at (n * 4) b (length w) → fours n at (put t b w) ≡ fours n at t
unfolding fours
fours_apart zero at t b w h = refl
fours_apart (suc n) at t b w (inl h) = rw (gets_apart 4 at t b w (inl (omega arith)), fours_apart n (at + 4) t b w (inl (omega arith)))
fours_apart (suc n) at t b w (inr h) = rw (gets_apart 4 at t b w (inr (omega arith)), fours_apart n (at + 4) t b w (inr (omega arith)))

pub rows_apart : (t : List ℕ) (b : ℕ) (w : List ℕ) → Apart 10 87 b (length w) → intervals_of (put t b w) ≡ intervals_of t
unfolding intervals_of
rows_apart t b w (inl h) = rw (fours_apart 9 20 t b w (inl (omega arith)), fours_apart 9 56 t b w (inl (omega arith)))
rows_apart t b w (inr h) = rw (fours_apart 9 20 t b w (inr (omega arith)), fours_apart 9 56 t b w (inr (omega arith)))

pub cached_apart : (t : List ℕ) (b : ℕ) (w : List ℕ) (p : ℕ) → Apart (cached_at + p * 2) 2 b (length w) → cached_of (put t b w) p ≡ cached_of t p
unfolding cached_of
cached_apart t b w p h = ap num (gets_apart 2 (cached_at + p * 2) t b w h)

pub record_apart : (t : List ℕ) (b : ℕ) (w : List ℕ) (i : ℕ) → Apart (base i) fields_size b (length w) → record_at (put t b w) i ≡ record_at t i
unfolding record_at
record_apart t b w i h = ap decoded (gets_apart fields_size (base i) t b w h)
