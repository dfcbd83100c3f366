-- Laws of stores, parts, tests of every place and sums. Assumes nothing.
use mathlib.Core.Path.{◌≡◌, refl, sym, ap, ◌∙◌}
use mathlib.Core.List.{List, [], ◌∷◌, ◌++◌}
use mathlib.Core.Bool.{Bool, true, false}
use mathlib.Core.Logic.{◌⊎◌, inl, inr}
use Prim.Native.Nat.{ℕ, zero, suc, ◌+◌, ◌≤◌, ◌<◌}
use native.Mathlib.Omega.{arith}
use native.Mathlib.Numerals.{add-one}
use native.Mathlib.Nat.{add-zero, add-suc, suc-add}
use lib.ListN.{length, get_or, drop, set, length-drop}
use lib.Dec.{ltb}
use borrow.Author.Tests.{ltb-true, ltb-false}
use borrow.Rule.Slice.PartMut.{put_mid}
use Rattle.std.proofs.lemmas.Slice.{put_mid-paste}
use lib.Seq.{length-sets, length-take-le, sets-eq, take-length}
use Rattle.base_lists.specs.Seq.{pick, bit, part, put, every, total, tab}

pub length_put {ℓ} : {A : Type ℓ} (t : List A) (at : ℕ) (w : List A) → length (put t at w) ≡ length t
unfolding put
length_put t at w = length-sets t at w

pub put_append {ℓ} : {A : Type ℓ} (xs ys l : List A) (i : ℕ) → put l i (xs ++ ys) ≡ put (put l i xs) (i + length xs) ys
unfolding put
put_append [] ys l i = rw add-zero
put_append (x ∷ xs) ys l i = put_append xs ys (set l i x) (suc i) ∙ rw (add-suc, suc-add)

pub put_nil {ℓ} : {A : Type ℓ} (l : List A) (i : ℕ) → put l i [] ≡ l
unfolding put
put_nil l i = refl

set_swap {ℓ} : {A : Type ℓ} (l : List A) (i j : ℕ) (x y : A) → i < j → set (set l j y) i x ≡ set (set l i x) j y
set_swap [] i j x y h = refl
set_swap (a ∷ l) zero zero x y h = absurd (omega arith)
set_swap (a ∷ l) zero (suc j) x y h = refl
set_swap (a ∷ l) (suc i) zero x y h = absurd (omega arith)
set_swap (a ∷ l) (suc i) (suc j) x y h = ap (λ k. a ∷ k) (set_swap l i j x y (omega arith))

set_put {ℓ} : {A : Type ℓ} (ys l : List A) (i j : ℕ) (x : A) → i < j → set (put l j ys) i x ≡ put (set l i x) j ys
unfolding put
set_put [] l i j x h = refl
set_put (y ∷ ys) l i j x h = set_put ys (set l j y) i (suc j) x (omega arith) ∙ ap (λ k. put k (suc j) ys) (set_swap l i j x y h)

-- of two stores apart from each other either may come first
pub put_swap {ℓ} : {A : Type ℓ} (xs ys l : List A) (i j : ℕ) → i + length xs ≤ j → put (put l j ys) i xs ≡ put (put l i xs) j ys
unfolding put
put_swap [] ys l i j h = refl
put_swap (x ∷ xs) ys l i j h =
    ap (λ k. put k (suc i) xs) (set_put ys l i j x (omega arith)) ∙ put_swap xs ys (set l i x) (suc i) j (omega arith)

-- what is written from the start stands there, and the rest is as it was
pub put_front {ℓ} : {A : Type ℓ} (l w : List A) → length w ≤ length l → put l 0 w ≡ w ++ drop (length w) l
unfolding put
put_front l w h = sets-eq w l 0 (omega arith) ∙ rw add_zero_left
  where
    add_zero_left : 0 + length w ≡ length w
    add_zero_left = omega arith

-- what a part of t is overwritten with is put there
pub put_mid_put : {A : Type 0} (t w : List A) (at k : ℕ) → at + length w ≤ length t → k ≡ length w → put_mid at k t w ≡ put t at w
unfolding put
put_mid_put t w at k h e = put_mid-paste at k t w w (length w) refl (sym e) refl ∙ rw take-length (sym (sets-eq w t at h))

pub length_part {ℓ} : {A : Type ℓ} (s : List A) (a n : ℕ) → a + n ≤ length s → length (part s a n) ≡ n
length_part s a n h = length-take-le n (drop a s) (rw length-drop (omega arith))

pub bit_le : (b : Bool) → bit b ≤ 1
bit_le true = omega arith
bit_le false = omega arith

pub true_false {ℓ} : {A : Type ℓ} → true ≡ false → A
true_false q = let z : ◌≡◌ {A = ℕ} 0 1 = cc in absurd (omega arith)

-- a Bool is one or the other
pub told : (b : Bool) → (b ≡ true) ⊎ (b ≡ false)
told true = inl refl
told false = inr refl

pub both : (a b : Bool) → a ≡ true → b ≡ true → pick a b false ≡ true
both true b p q = q
both false b p q = p

pub both_fst : (a b : Bool) → pick a b false ≡ true → a ≡ true
both_fst true b p = refl
both_fst false b p = p

pub both_snd : (a b : Bool) → pick a b false ≡ true → b ≡ true
both_snd true b p = p
both_snd false b p = true_false (sym p)

pub not_so : (b : Bool) → (b ≡ true → ⊥) → b ≡ false
not_so true f = absurd (f refl)
not_so false f = refl

pub lt_or_le : (a b : ℕ) → (a < b) ⊎ (b ≤ a)
lt_or_le a b = go (told (ltb a b))
  where
    go : (ltb a b ≡ true) ⊎ (ltb a b ≡ false) → (a < b) ⊎ (b ≤ a)
    go (inl e) = inl (ltb-true a b e)
    go (inr e) = inr (ltb-false a b e)

pub below_or_last : (a b : ℕ) → a < suc b → (a < b) ⊎ (a ≡ b)
below_or_last a b l = go (lt_or_le a b)
  where
    go : (a < b) ⊎ (b ≤ a) → (a < b) ⊎ (a ≡ b)
    go (inl e) = inl e
    go (inr e) = inr (omega arith)

module _ (p : ℕ → Bool) where
  pub every_none : every p 0 ≡ true
  unfolding every
  every_none = refl

  pub every_more : (n : ℕ) → p n ≡ true → every p n ≡ true → every p (n + 1) ≡ true
  unfolding every
  every_more n a b = rw add-one (both (p n) (every p n) a b)

  pub every_at : (n : ℕ) → every p n ≡ true → (i : ℕ) → i < n → p i ≡ true
  unfolding every
  every_at zero e i h = absurd (omega arith)
  every_at (suc n) e i h = last (below_or_last i n h) (λ k. every_at n (both_snd (p n) (every p n) e) i k)
    where
      last : (i < n) ⊎ (i ≡ n) → (i < n → p i ≡ true) → p i ≡ true
      last (inl k) f = f k
      last (inr k) f = rw k (both_fst (p n) (every p n) e)

  pub every_all : (n : ℕ) → ((i : ℕ) → i < n → p i ≡ true) → every p n ≡ true
  unfolding every
  every_all zero h = refl
  every_all (suc n) h = both (p n) (every p n) (h n (omega arith)) (every_all n (λ i l. h i (omega arith)))

  -- one place that fails is enough
  pub every_fails : (n i : ℕ) → i < n → p i ≡ false → every p n ≡ false
  every_fails n i l e = not_so (every p n) (λ (q : every p n ≡ true). true_false (sym (every_at n q i l) ∙ e))

  -- where not every place passes, one fails
  pub some_fails : (n : ℕ) → every p n ≡ false → (i : ℕ) × (i < n) × (p i ≡ false)
  unfolding every
  some_fails zero e = true_false e
  some_fails (suc n) e = go (told (p n)) (λ q. some_fails n q)
    where
      go : (p n ≡ true) ⊎ (p n ≡ false) → (every p n ≡ false → (i : ℕ) × (i < n) × (p i ≡ false)) → (i : ℕ) × (i < suc n) × (p i ≡ false)
      go (inr q) f = (n, omega arith, q)
      go (inl q) f =
          let r = f (rw q at e) in
          (r.0, omega (arith, r.1), r.2)

pub total_more : (f : ℕ → ℕ) (n : ℕ) → total f (n + 1) ≡ total f n + f n
unfolding total
total_more f n = rw add-one

pub total_same : (f g : ℕ → ℕ) (n : ℕ) → ((i : ℕ) → i < n → f i ≡ g i) → total f n ≡ total g n
unfolding total
total_same f g zero h = refl
total_same f g (suc n) h = omega (arith, h n (omega arith), total_same f g n (λ i l. h i (omega arith)))

pub total_first : (f : ℕ → ℕ) (n : ℕ) → total f (suc n) ≡ f 0 + total (λ i. f (suc i)) n
unfolding total
total_first f zero = omega arith
total_first f (suc n) = omega (arith, total_first f n)

module _ {ℓ} {A : Type ℓ} (f : ℕ → A) where
  pub length_tab : (n k : ℕ) → length (tab f n k) ≡ n
  unfolding tab
  length_tab zero k = refl
  length_tab (suc n) k = ap suc (length_tab n (k + 1))

  pub get_tab : (n k i : ℕ) (d : A) → i < n → get_or (tab f n k) i d ≡ f (k + i)
  unfolding tab
  get_tab zero k i d h = absurd (omega arith)
  get_tab (suc n) k zero d h = ap f (sym (add-zero k))
  get_tab (suc n) k (suc i) d h =
      let e : k + 1 + i ≡ k + suc i = omega arith in
      get_tab n (k + 1) i d (omega arith) ∙ ap f e

  pub tab_last : (n k : ℕ) → tab f (n + 1) k ≡ tab f n k ++ (f (k + n) ∷ [])
  unfolding tab
  tab_last n k = rw add-one (go n k)
    where
      go : (n k : ℕ) → tab f (suc n) k ≡ tab f n k ++ (f (k + n) ∷ [])
      go zero k = ap (λ (x : A). x ∷ []) (ap f (sym (add-zero k)))
      go (suc n) k =
          let e : k + 1 + n ≡ k + suc n = omega arith in
          ap (λ (l : List A). f k ∷ l) (go n (k + 1) ∙ ap (λ (i : ℕ). tab f n (k + 1) ++ (f i ∷ [])) e)
