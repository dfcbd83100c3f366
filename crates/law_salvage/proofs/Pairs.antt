-- The pairs: place and reason of each place that has one, in rising order. Assumes nothing.
use Prim.Native.Nat.{ℕ, zero, suc, ◌+◌, ◌*◌, ◌<◌}
use native.Mathlib.Omega.{arith}
use mathlib.Core.Path.{◌≡◌, refl, sym, ◌∙◌}
use mathlib.Core.Bool.{true, false}
use mathlib.Core.List.{List, [], ◌∷◌, ◌++◌, append-nil}
use mathlib.Core.Logic.{◌⊎◌, inl, inr}
use lib.ListN.{length, get_or, length-append, get_or-append}
use lib.Seq.{get_or-append_seam, get_or-append-add}
use lib.Dec.{eqb}
use Rattle.base_lists.proofs.StoresAndParts.{told, true_false, below_or_last}
use Rattle.table_salvage.specs.Salvage.{pair_for, pairs_to}
use Rattle.law_salvage.proofs.Octets.{reasonFor}

-- the k-th pair is a place below n that has a reason, and that reason
pub record PairAt (f : ℕ → ℕ) (n : ℕ) (ps : List ℕ) (k : ℕ) : Type 0 where
  pub below : get_or ps (k * 2) 0 < n
  pub reason : get_or ps (k * 2 + 1) 0 ≡ f (get_or ps (k * 2) 0)
  pub some : eqb (f (get_or ps (k * 2) 0)) 0 ≡ false

-- the pairs of the first n places, where f gives the reason of each
pub record Pairs (f : ℕ → ℕ) (n : ℕ) (ps : List ℕ) : Type 0 where
  pub half : ℕ
  pub long : length ps ≡ half * 2
  pub each : (k : ℕ) → k < half → PairAt f n ps k
  pub rising : (k m : ℕ) → k < m → m < half → get_or ps (k * 2) 0 < get_or ps (m * 2) 0
  pub found : (i : ℕ) → i < n → eqb (f i) 0 ≡ false → (k : ℕ) × (k < half) × (get_or ps (k * 2) 0 ≡ i)

module _ (f : ℕ → ℕ) (n : ℕ) (ps : List ℕ) (p : Pairs f n ps) where
  -- a place without a reason
  none_more : eqb (f n) 0 ≡ true → Pairs f (suc n) ps
  none_more e = record {
    half = p.half;
    long = p.long;
    each = λ k l. record { below = omega (arith, (p.each k l).below); reason = (p.each k l).reason; some = (p.each k l).some };
    rising = p.rising;
    found = λ i h q. at i q (below_or_last i n h);
  }
    where
      at : (i : ℕ) → eqb (f i) 0 ≡ false → (i < n) ⊎ (i ≡ n) → (k : ℕ) × (k < p.half) × (get_or ps (k * 2) 0 ≡ i)
      at i q (inl h) = p.found i h q
      at i q (inr h) = true_false (sym e ∙ (rw h at q))

  -- and one with a reason
  abbrev pair : List ℕ
  pair = n ∷ f n ∷ []

  old_word : (k : ℕ) → k < p.half * 2 → get_or (ps ++ pair) k 0 ≡ get_or ps k 0
  old_word k l = get_or-append ps pair 0 k (omega (arith, p.long))

  new_place : get_or (ps ++ pair) (p.half * 2) 0 ≡ n
  new_place = rw p.long at (get_or-append_seam ps n (f n ∷ []) 0)

  new_reason : get_or (ps ++ pair) (p.half * 2 + 1) 0 ≡ f n
  new_reason = rw p.long at (get_or-append-add ps pair 1 0)

  one_more : eqb (f n) 0 ≡ false → Pairs f (suc n) (ps ++ pair)
  one_more e = record {
    half = p.half + 1;
    long = length-append ps pair ∙ omega (arith, p.long);
    each = λ k l. pair_at k (below_or_last k p.half (omega arith));
    rising = λ k m l h. rises k m l (below_or_last m p.half (omega arith));
    found = λ i h q. at i q (below_or_last i n h);
  }
    where
      old_at : (k : ℕ) → k < p.half → PairAt f (suc n) (ps ++ pair) k
      old_at k l =
          let was = p.each k l in
          let one : get_or (ps ++ pair) (k * 2) 0 ≡ get_or ps (k * 2) 0 = old_word (k * 2) (omega arith) in
          let two : get_or (ps ++ pair) (k * 2 + 1) 0 ≡ get_or ps (k * 2 + 1) 0 = old_word (k * 2 + 1) (omega arith) in
          record { below = omega (arith, was.below, one); reason = rw (one, two) was.reason; some = rw one was.some }

      new_at : PairAt f (suc n) (ps ++ pair) p.half
      new_at = record { below = omega (arith, new_place); reason = rw (new_place, new_reason) refl; some = rw new_place e }

      pair_at : (k : ℕ) → (k < p.half) ⊎ (k ≡ p.half) → PairAt f (suc n) (ps ++ pair) k
      pair_at k (inl l) = old_at k l
      pair_at k (inr q) = rw q new_at

      rises : (k m : ℕ) → k < m → (m < p.half) ⊎ (m ≡ p.half) → get_or (ps ++ pair) (k * 2) 0 < get_or (ps ++ pair) (m * 2) 0
      rises k m l (inl h) = omega (arith, p.rising k m l h, old_word (k * 2) (omega arith), old_word (m * 2) (omega arith))
      rises k m l (inr q) =
          let old : get_or (ps ++ pair) (k * 2) 0 ≡ get_or ps (k * 2) 0 = old_word (k * 2) (omega arith) in
          rw q (omega (arith, (p.each k (omega arith)).below, old, new_place))

      at : (i : ℕ) → eqb (f i) 0 ≡ false → (i < n) ⊎ (i ≡ n) → (k : ℕ) × (k < p.half + 1) × (get_or (ps ++ pair) (k * 2) 0 ≡ i)
      at i q (inl h) =
          let w = p.found i h q in
          (w.0, omega (arith, w.1), old_word (w.0 * 2) (omega (arith, w.1)) ∙ w.2)
      at i q (inr h) = (p.half, omega arith, new_place ∙ sym h)

pub pairs : (t : List ℕ) (n : ℕ) → Pairs (reasonFor t) n (pairs_to t n)
unfolding pairs_to
pairs t zero = record {
  half = 0;
  long = refl;
  each = λ k l. absurd (omega arith);
  rising = λ k m l h. absurd (omega arith);
  found = λ i h. absurd (omega arith);
}
pairs t (suc n) = go (told (eqb (reasonFor t n) 0)) (pairs t n)
  where
    go : (eqb (reasonFor t n) 0 ≡ true) ⊎ (eqb (reasonFor t n) 0 ≡ false) → Pairs (reasonFor t) n (pairs_to t n) → Pairs (reasonFor t) (suc n) (pairs_to t n ++ pair_for n (reasonFor t n))
    go (inl e) p = rw e (rw append-nil (none_more (reasonFor t) n (pairs_to t n) p e))
    go (inr e) p = rw e (one_more (reasonFor t) n (pairs_to t n) p e)
