-- The test `joinable` as facts about sums. Assumes nothing.
use Prim.Native.Nat.{ℕ, ◌≤◌}
use native.Mathlib.Omega.{arith}
use borrow.Author.Tests.{leb-true, le-leb, eqb-false, eqb-true, eq-eqb, ne_eqb}
use mathlib.Core.Path.{◌≡◌, refl, sym}
use mathlib.Core.List.{List, [], ◌∷◌}
use mathlib.Core.Bool.{Bool, true, false}
use lib.ListN.{length, drop, length-append, length-drop}
use lib.Seq.{length-take-le}
use lib.Dec.{leb, eqb}
use Rattle.base_lists.specs.Seq.{pick}
use Rattle.base_lists.proofs.StoresAndParts.{true_false, both_fst, both_snd}
use Rattle.codec_joining.specs.Join.{listed, joined_octets, each_in_range, sum, joinable}
use Rattle.codec_joining.specs.Joinable.{size, Joinable}

pub length_listed : (ns bytes : List ℕ) → sum ns ≤ length bytes → length (listed bytes ns) ≡ size ns
unfolding listed sum
length_listed [] bytes h = refl
length_listed (n ∷ ns) bytes h =
    let ih = length_listed ns (drop n bytes) (rw length-drop (omega arith)) in
    rw (length-append, length-append, length-take-le n bytes (omega arith), ih) (omega arith)

-- the first PDU's length is in range where all are
pub range_first : (n : ℕ) (ns : List ℕ) → each_in_range (n ∷ ns) ≡ true → (1 ≤ n) × (n ≤ 1500)
unfolding each_in_range
range_first n ns e =
    (leb-true 1 n (both_fst (leb 1 n) _ e), leb-true n 1500 (both_fst (leb n 1500) _ (both_snd (leb 1 n) _ e)))

pub range_rest : (n : ℕ) (ns : List ℕ) → 1 ≤ n → n ≤ 1500 → each_in_range (n ∷ ns) ≡ each_in_range ns
unfolding each_in_range
range_rest n ns a b = rw (le-leb 1 n a, le-leb n 1500 b)

module _ (bytes lengths : List ℕ) where
  pub joinable_facts : joinable bytes lengths ≡ true → Joinable bytes lengths
  unfolding joinable
  joinable_facts e = go (eqb (length lengths) 0) refl e
    where
      go : (b : Bool) → eqb (length lengths) 0 ≡ b
          → pick b false (pick (each_in_range lengths) (pick (eqb (sum lengths) (length bytes)) (leb (length (joined_octets bytes lengths)) 1500) false) false) ≡ true → Joinable bytes lengths
      go true q e = true_false (sym e)
      go false q e =
          let r = both_snd (each_in_range lengths) _ e in
          let a = eqb-true (sum lengths) (length bytes) (both_fst (eqb (sum lengths) (length bytes)) _ r) in
          let n = eqb-false (length lengths) 0 q in
          record {
            some = omega arith;
            each = both_fst (each_in_range lengths) _ e;
            adds = a;
            short = omega (arith, leb-true (length (joined_octets bytes lengths)) 1500 (both_snd (eqb (sum lengths) (length bytes)) _ r), length_listed lengths bytes (omega arith));
          }

  pub facts_joinable : Joinable bytes lengths → joinable bytes lengths ≡ true
  unfolding joinable
  facts_joinable j =
      let n = ne_eqb (length lengths) 0 (λ e. omega (arith, j.some)) in
      let l = length_listed lengths bytes (omega (arith, j.adds)) in
      simp (n, j.each, eq-eqb _ _ j.adds, le-leb (length (joined_octets bytes lengths)) 1500 (omega (arith, j.short)))
