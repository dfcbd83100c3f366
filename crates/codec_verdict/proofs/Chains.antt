-- What a chain over numbers or over two lists tests is a test of every place. Assumes nothing.
use Prim.Native.Nat.{ℕ, zero, suc, ◌+◌, ◌<◌, ◌≤◌}
use native.Mathlib.Omega.{arith}
use mathlib.Core.Path.{◌≡◌, refl, ap, ◌∙◌}
use mathlib.Core.List.{List, [], ◌∷◌}
use mathlib.Core.Bool.{Bool, true, false, ◌&&◌}
use lib.ListN.{length, get_or, drop, length-drop}
use lib.Dec.{leb}
use Rattle.std.proofs.lemmas.List.{get_or-drop}
use Rattle.std.specs.List.{list_all, range_with_len, zip}
use Rattle.base_lists.specs.Seq.{pick, every}
use Rattle.codec_said.specs.Said.{word}
use Rattle.codec_verdict.specs.Widths.{row_narrow}

pub every_same : (p q : ℕ → Bool) (n : ℕ) → ((i : ℕ) → i < n → p i ≡ q i) → every p n ≡ every q n
unfolding every
every_same p q zero h = refl
every_same p q (suc n) h = rw (h n (omega arith), every_same p q n (λ i l. h i (omega arith)))

every_first : (p : ℕ → Bool) (n : ℕ) → every p (suc n) ≡ (p 0 && every (λ i. p (suc i)) n)
unfolding every
every_first p zero = go (p 0)
  where
    go : (b : Bool) → pick b true false ≡ (b && true)
    go true = refl
    go false = refl
every_first p (suc n) = ap (λ (x : Bool). pick (p (suc n)) x false) (every_first p n) ∙ go (p (suc n)) (p 0) (every (λ i. p (suc i)) n)
  where
    go : (a b c : Bool) → pick a (b && c) false ≡ (b && pick a c false)
    go true b c = refl
    go false true c = refl
    go false false c = refl

listed_from : (p : ℕ → Bool) (n a : ℕ) → list_all p (range_with_len a n) ≡ every (λ i. p (a + i)) n
unfolding every
listed_from p zero a = refl
listed_from p (suc n) a =
    let first : a + 0 ≡ a = omega arith in
    rw (listed_from p n (a + 1), every_first (λ i. p (a + i)) n, first)
    (ap (λ (x : Bool). p a && x) (every_same (λ i. p (a + 1 + i)) (λ i. p (a + suc i)) n (λ i l. let on : a + 1 + i ≡ a + suc i = omega arith in ap p on)))

-- numbers from 0 on
pub listed : (p : ℕ → Bool) (n : ℕ) → list_all p (range_with_len 0 n) ≡ every p n
listed p n = listed_from p n 0 ∙ every_same (λ i. p (0 + i)) p n (λ i l. let on : 0 + i ≡ i = omega arith in ap p on)

zipped : (xs ys : List ℕ) → length ys ≤ length xs → list_all (λ x. leb x.0 x.1) (zip xs ys) ≡ every (λ j. leb (get_or xs j 0) (get_or ys j 0)) (length ys)
unfolding every
zipped [] [] h = refl
zipped (x ∷ xs) [] h = refl
zipped [] (y ∷ ys) h = absurd (omega arith)
zipped (x ∷ xs) (y ∷ ys) h = rw (every_first (λ j. leb (get_or (x ∷ xs) j 0) (get_or (y ∷ ys) j 0)) (length ys), zipped xs ys (omega arith))

-- the words from `at` on beside their bounds
pub rows : (w : List ℕ) (at : ℕ) (most : List ℕ) → at + length most ≤ length w → list_all (λ x. leb x.0 x.1) (zip (drop at w) most) ≡ row_narrow w at most
unfolding row_narrow
rows w at most h =
    zipped (drop at w) most (omega (arith, length-drop at w))
    ∙ every_same (λ j. leb (get_or (drop at w) j 0) (get_or most j 0)) (λ j. leb (word w (at + j)) (get_or most j 0)) (length most) (λ j l. rw (get_or-drop at w j 0))
