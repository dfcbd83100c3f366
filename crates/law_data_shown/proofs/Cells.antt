-- A stretch of the store that no octet is written to is as it was, and what is written is read. Assumes nothing.
use Prim.Native.Nat.{ℕ, zero, suc, ◌+◌, ◌≤◌, ◌<◌}
use native.Mathlib.Omega.{arith}
use mathlib.Core.Path.{◌≡◌, refl, sym, ◌∙◌}
use mathlib.Core.List.{List}
use lib.ListN.{length, get_or}
use Rattle.base_lists.specs.Seq.{put, part}
use Rattle.base_lists.proofs.StoresAndParts.{length_put}
use Rattle.base_octets.specs.Octets.{gets}
use Rattle.base_octets.proofs.StoredAndRead.{gets_part, gets_same}

gets_equal : (n at : ℕ) (s u : List ℕ) → ((k : ℕ) → at ≤ k → k < at + n → get_or u k 0 ≡ get_or s k 0) → gets n at u ≡ gets n at s
unfolding gets
gets_equal zero at s u same = refl
gets_equal (suc n) at s u same = rw (same at (omega arith) (omega arith), gets_equal n (at + 1) s u (λ k a b. same k (omega arith) (omega arith))) refl

pub part_same : (s u : List ℕ) (at n : ℕ) → at + n ≤ length s → length u ≡ length s → ((k : ℕ) → at ≤ k → k < at + n → get_or u k 0 ≡ get_or s k 0) → part u at n ≡ part s at n
part_same s u at n fits long same = gets_part n at u (omega (arith, long)) ∙ gets_equal n at s u same ∙ sym (gets_part n at s fits)

pub part_written : (s : List ℕ) (at : ℕ) (w : List ℕ) → at + length w ≤ length s → part (put s at w) at (length w) ≡ w
part_written s at w fits = gets_part (length w) at (put s at w) (omega (arith, length_put s at w)) ∙ gets_same s at w fits
