-- Octets that are zero: the test says the sentence, stretch joins to stretch, and a word is zero when its octets are. Assumes nothing.
use mathlib.Core.Path.{◌≡◌, refl, ◌∙◌}
use mathlib.Core.List.{List}
use mathlib.Core.Bool.{true, false}
use mathlib.Core.Logic.{◌⊎◌, inl, inr}
use Prim.Native.Nat.{ℕ, zero, suc, ◌+◌, ◌-◌, ◌*◌, ◌≤◌, ◌<◌}
use native.Mathlib.Omega.{arith}
use native.Mathlib.Nat.{add-zero}
use lib.ListN.{length, get_or, take, drop}
use lib.Seq.{drop-cons}
use Rattle.std.specs.List.{fold}
use lib.Bits.{bit_or}
use lib.Dec.{eqb}
use borrow.Author.Tests.{eqb-true, eq-eqb}
use Rattle.base_lists.specs.Seq.{pick, every}
use Rattle.base_lists.proofs.StoresAndParts.{both, both_fst, both_snd, every_all, every_at, lt_or_le}
use Rattle.base_lists.proofs.Ranges.{up_to, kept_by_fold}
use Rattle.base_lists.proofs.Every.{same_test, or_none}
use Rattle.base_octets.specs.Octets.{num, gets}
use Rattle.table_ranges.specs.Ranges.{Zeros, zeros}

pub zeros_to : (t : List ℕ) (at n : ℕ) → zeros t at n ≡ true → Zeros t at n
unfolding zeros
zeros_to t at n h k l = eqb-true _ _ (every_at (λ k. eqb (get_or t (at + k) 0) 0) n h k l)

pub zeros_from : (t : List ℕ) (at n : ℕ) → Zeros t at n → zeros t at n ≡ true
unfolding zeros
zeros_from t at n h = every_all (λ k. eqb (get_or t (at + k) 0) 0) n (λ k l. eq-eqb _ _ (h k l))

-- two stretches that cover a third, the second from m octets on
pub zeros_cover : (t : List ℕ) (at l m n : ℕ) → m ≤ l → l ≤ m + n → pick (zeros t at l) (zeros t (at + m) n) false ≡ zeros t at (m + n)
zeros_cover t at l m n low high = same_test _ _
    (λ h. zeros_from t at (m + n) (joined (zeros_to t at l (both_fst (zeros t at l) (zeros t (at + m) n) h)) (zeros_to t (at + m) n (both_snd (zeros t at l) (zeros t (at + m) n) h))))
    (λ h. both (zeros t at l) (zeros t (at + m) n) (zeros_from t at l (λ k b. zeros_to t at (m + n) h k (omega arith))) (zeros_from t (at + m) n (second (zeros_to t at (m + n) h)))) where
      joined : Zeros t at l → Zeros t (at + m) n → Zeros t at (m + n)
      joined a b k c = go (lt_or_le k l) where
        go : (k < l) ⊎ (l ≤ k) → get_or t (at + k) 0 ≡ 0
        go (inl h) = a k h
        go (inr h) =
            let e : at + k ≡ at + m + (k - m) = omega arith in
            rw e (b (k - m) (omega arith))

      second : Zeros t at (m + n) → Zeros t (at + m) n
      second a k c =
          let e : at + m + k ≡ at + (m + k) = omega arith in
          rw e (a (m + k) (omega arith))

-- two stretches, one after the other
zeros_join : (t : List ℕ) (at m n : ℕ) → pick (zeros t at m) (zeros t (at + m) n) false ≡ zeros t at (m + n)
zeros_join t at m n = zeros_cover t at m m n (omega arith) (omega arith)

num_to : (n at : ℕ) (t : List ℕ) → num (gets n at t) ≡ 0 → Zeros t at n
unfolding num gets
num_to zero at t h k l = absurd (omega arith)
num_to (suc n) at t h zero l = rw add-zero (omega arith)
num_to (suc n) at t h (suc k) l =
    let e : at + suc k ≡ at + 1 + k = omega arith in
    rw e (num_to n (at + 1) t (omega arith) k (omega arith))

num_from : (n at : ℕ) (t : List ℕ) → Zeros t at n → num (gets n at t) ≡ 0
unfolding num gets
num_from zero at t h = refl
num_from (suc n) at t h =
    let first : get_or t at 0 ≡ 0 = rw add-zero at (h 0 (omega arith)) in
    let rest : num (gets n (at + 1) t) ≡ 0 = num_from n (at + 1) t (next h) in
    omega arith where
      next : Zeros t at (suc n) → Zeros t (at + 1) n
      next h k l =
          let e : at + 1 + k ≡ at + suc k = omega arith in
          rw e (h (suc k) (omega arith))

-- a number is 0 exactly when its octets are zero, over its width
pub num_zeros : (n at : ℕ) (t : List ℕ) → eqb (num (gets n at t)) 0 ≡ zeros t at n
num_zeros n at t = same_test _ _
    (λ h. zeros_from t at n (num_to n at t (eqb-true _ _ h)))
    (λ h. eq-eqb _ _ (num_from n at t (zeros_to t at n h)))

-- a loop that gathers words: one more, over its width
pub zeros_more : (t : List ℕ) (at m n c : ℕ) → eqb c 0 ≡ zeros t at m → eqb (bit_or c (num (gets n (at + m) t))) 0 ≡ zeros t at (m + n)
zeros_more t at m n c e = or_none c (num (gets n (at + m) t)) ∙ rw (e, num_zeros n (at + m) t) (zeros_join t at m n)

-- and a loop that gathers octets
pub zeros_one_more : (t : List ℕ) (at m c : ℕ) → eqb c 0 ≡ zeros t at m → eqb (bit_or c (get_or t (at + m) 0)) 0 ≡ zeros t at (m + 1)
unfolding num gets
zeros_one_more t at m c e =
    let octet : num (gets 1 (at + m) t) ≡ get_or t (at + m) 0 = omega arith in
    rw octet at (zeros_more t at m 1 c e)

-- octets gathered from the k-th on
octets_gathered : (t : List ℕ) (at n k c : ℕ) → at + (k + n) ≤ length t → eqb c 0 ≡ zeros t at k → eqb (fold bit_or c (take n (drop (at + k) t))) 0 ≡ zeros t at (k + n)
octets_gathered t at zero k c h e = rw add-zero e
octets_gathered t at (suc n) k c h e =
    let m : k + 1 + n ≡ k + suc n = omega arith in
    let o : at + (k + 1) ≡ suc (at + k) = omega arith in
    rw (drop-cons t (at + k) 0 (omega arith)) (rw (m, o) at (octets_gathered t at n (k + 1) (bit_or c (get_or t (at + k) 0)) (omega arith) (zeros_one_more t at k c e)))

none_yet : (t : List ℕ) (at : ℕ) → eqb 0 0 ≡ zeros t at 0
unfolding zeros every
none_yet t at = refl

-- what a fold over n words gathers is 0 exactly when their octets are
pub words_zero : (t : List ℕ) (at n r : ℕ) → r ≡ fold (λ a i. bit_or a (num (gets 8 (at + i * 8) t))) 0 (up_to n) → eqb r 0 ≡ zeros t at (n * 8)
words_zero t at n r e = kept_by_fold (λ a i. bit_or a (num (gets 8 (at + i * 8) t))) (λ k c. eqb c 0 ≡ zeros t at (k * 8)) more n 0 r e (none_yet t at)
  where
    more : (k c : ℕ) → eqb c 0 ≡ zeros t at (k * 8) → eqb (bit_or c (num (gets 8 (at + k * 8) t))) 0 ≡ zeros t at ((k + 1) * 8)
    more k c e =
        let o : k * 8 + 8 ≡ (k + 1) * 8 = omega arith in
        rw o at (zeros_more t at (k * 8) 8 c e)

-- and over n octets
pub octets_zero : (t : List ℕ) (at n r : ℕ) → at + n ≤ length t → r ≡ fold bit_or 0 (take (at + n - at) (drop at t)) → eqb r 0 ≡ zeros t at n
octets_zero t at n r h e =
    let a : at + n - at ≡ n = omega arith in
    let b : 0 + n ≡ n = omega arith in
    let d : at + 0 ≡ at = omega arith in
    rw e (rw a (rw (b, d) at (octets_gathered t at n 0 0 (omega arith) (none_yet t at))))
