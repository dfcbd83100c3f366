-- Two lists that are equal are the same octets, and no others are. Assumes nothing.
use mathlib.Core.Path.{◌≡◌, refl}
use mathlib.Core.List.{List}
use mathlib.Core.Bool.{true}
use Prim.Native.Nat.{ℕ}
use native.Mathlib.Omega.{arith}
use lib.Dec.{eqb}
use lib.ListN.{length, get_or}
use borrow.Author.Tests.{eqb-true, eq-eqb}
use Rattle.std.proofs.lemmas.List.{ext_get_or}
use Rattle.base_lists.specs.Seq.{every}
use Rattle.base_lists.proofs.StoresAndParts.{both, both_fst, both_snd, every_at, every_all}
use Rattle.rds_book.specs.Book.{same}

pub equal_same : (s : List ℕ) → same s s ≡ true
unfolding same
equal_same s = both (eqb (length s) (length s)) (every (λ k. eqb (get_or s k 0) (get_or s k 0)) (length s)) (eq-eqb _ _ refl) (every_all (λ k. eqb (get_or s k 0) (get_or s k 0)) (length s) (λ i h. eq-eqb _ _ refl))

pub same_equal : (s t : List ℕ) → same s t ≡ true → s ≡ t
unfolding same
same_equal s t e =
    let full : length s ≡ length t = eqb-true _ _ (both_fst (eqb (length s) (length t)) (every (λ k. eqb (get_or s k 0) (get_or t k 0)) (length t)) e) in
    ext_get_or 0 s t full
    (λ i h. eqb-true _ _ (every_at (λ k. eqb (get_or s k 0) (get_or t k 0)) (length t) (both_snd (eqb (length s) (length t)) (every (λ k. eqb (get_or s k 0) (get_or t k 0)) (length t)) e) i (omega (arith, h, full))))
