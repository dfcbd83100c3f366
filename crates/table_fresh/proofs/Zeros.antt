-- Octets of zero, and the loop that clears a table. Assumes nothing.
use mathlib.Core.Path.{◌≡◌, refl, sym, ◌∙◌}
use mathlib.Core.List.{List, append-nil}
use Prim.Native.Nat.{ℕ, zero, suc, ◌+◌, ◌≤◌, ◌<◌}
use native.Mathlib.Omega.{arith}
use lib.ListN.{length, get_or, set, length-replicate}
use lib.Seq.{drop-length}
use Rattle.base_lists.proofs.StoresAndParts.{put_front}
use Rattle.base_lists.proofs.Stores.{Stored, stored_more, stored_all}
use Rattle.table_fresh.specs.Fresh.{zeros}

pub length_zeros : (n : ℕ) → length (zeros n) ≡ n
unfolding zeros
length_zeros n = length-replicate n 0

pub get_zeros : (n k : ℕ) → get_or (zeros n) k 0 ≡ 0
unfolding zeros
get_zeros zero k = refl
get_zeros (suc n) zero = refl
get_zeros (suc n) (suc k) = get_zeros n k

-- after i turns of the loop that clears, the first i octets are zero
pub clear_more : (t₀ t : List ℕ) (i : ℕ) → i < length t₀ → Stored t₀ 0 (zeros (length t₀)) t i → Stored t₀ 0 (zeros (length t₀)) (set t i 0) (i + 1)
clear_more t₀ t i h s =
    let e : length (zeros (length t₀)) ≡ length t₀ = length_zeros (length t₀) in
    let a : 0 + i ≡ i = omega arith in
    rw a at (stored_more t₀ 0 (zeros (length t₀)) (omega arith) t i 0 (omega arith) (sym (get_zeros (length t₀) i)) s)

pub clear_all : (t₀ t : List ℕ) (i : ℕ) → length t₀ ≤ i → Stored t₀ 0 (zeros (length t₀)) t i → t ≡ zeros (length t₀)
clear_all t₀ t i h s =
    let e : length (zeros (length t₀)) ≡ length t₀ = length_zeros (length t₀) in
    stored_all t₀ 0 (zeros (length t₀)) (omega arith) t i (omega arith) s ∙ put_front t₀ (zeros (length t₀)) (omega arith) ∙ rw (e, drop-length) (append-nil (zeros (length t₀)))
