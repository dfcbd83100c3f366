-- Octets that are stored and read, and stretches that do not meet. Assumes nothing.
use mathlib.Core.Path.{◌≡◌, refl, sym, ap, ◌∙◌}
use mathlib.Core.List.{List, [], ◌∷◌}
use mathlib.Core.Logic.{◌⊎◌, inl, inr}
use Prim.Native.Nat.{ℕ, zero, suc, ◌+◌, ◌*◌, ◌/◌, ◌^◌, ◌≤◌, ◌<◌}
use native.Mathlib.Omega.{arith}
use native.Mathlib.Nat.{div-lt_iff_lt-mul, pow-suc, add-zero, zero-add, mul-le-mul_right}
use lib.ListN.{length, get_or, take, drop, set, length-set, length-drop}
use lib.Seq.{get_or-take, get_or-drop, length-take-le, get_or-set_same, get_or-set_other, ext_get_or}
use Rattle.base_lists.specs.Seq.{put}
use Rattle.base_lists.proofs.StoresAndParts.{lt_or_le}
use Rattle.base_octets.specs.Octets.{num, enc, gets, Apart}

pub get_before : (w t : List ℕ) (at k : ℕ) → k < at → get_or (put t at w) k 0 ≡ get_or t k 0
unfolding put
get_before [] t at k h = refl
get_before (a ∷ w) t at k h = get_before w (set t at a) (suc at) k (omega arith) ∙ get_or-set_other t at k a 0 (omega arith)

pub get_d_after : (w t : List ℕ) (at k : ℕ) → at + length w ≤ k → get_or (put t at w) k 0 ≡ get_or t k 0
unfolding put
get_d_after [] t at k h = refl
get_d_after (a ∷ w) t at k h = get_d_after w (set t at a) (suc at) k (omega arith) ∙ get_or-set_other t at k a 0 (omega arith)

pub get_same : (w t : List ℕ) (at k : ℕ) → at + length w ≤ length t → k < length w → get_or (put t at w) (at + k) 0 ≡ get_or w k 0
unfolding put
get_same [] t at k g h = omega arith
get_same (a ∷ w) t at zero g h =
    rw add-zero (get_before w (set t at a) (suc at) at (omega arith) ∙ get_or-set_same t at a 0 (omega arith))
get_same (a ∷ w) t at (suc k) g h =
    let e : at + suc k ≡ suc at + k = omega arith in
    rw e (get_same w (set t at a) (suc at) k (rw length-set (omega arith)) (omega arith))

-- octets that a store does not meet are as they were
pub gets_apart : (n a : ℕ) (t : List ℕ) (b : ℕ) (w : List ℕ) → Apart a n b (length w) → gets n a (put t b w) ≡ gets n a t
unfolding gets
gets_apart zero a t b w h = refl
gets_apart (suc n) a t b w (inl h) = rw (get_before w t b a (omega arith), gets_apart n (a + 1) t b w (inl (omega arith)))
gets_apart (suc n) a t b w (inr h) = rw (get_d_after w t b a (omega arith), gets_apart n (a + 1) t b w (inr (omega arith)))

-- a part of what was written
pub gets_inside : (n k : ℕ) (t : List ℕ) (at : ℕ) (w : List ℕ) → at + length w ≤ length t → k + n ≤ length w → gets n (at + k) (put t at w) ≡ gets n k w
unfolding gets
gets_inside zero k t at w g h = refl
gets_inside (suc n) k t at w g h =
    let e : at + k + 1 ≡ at + (k + 1) = omega arith in
    rw (get_same w t at k g (omega arith), e, gets_inside n (k + 1) t at w g (omega arith))

pub length_gets : (n k : ℕ) (t : List ℕ) → length (gets n k t) ≡ n
unfolding gets
length_gets zero k t = refl
length_gets (suc n) k t = ap suc (length_gets n (k + 1) t)

pub get_gets : (n k : ℕ) (t : List ℕ) (i : ℕ) → i < n → get_or (gets n k t) i 0 ≡ get_or t (k + i) 0
unfolding gets
get_gets zero k t i h = omega arith
get_gets (suc n) k t zero h = rw add-zero refl
get_gets (suc n) k t (suc i) h =
    let e : k + suc i ≡ k + 1 + i = omega arith in
    rw e (get_gets n (k + 1) t i (omega arith))

pub gets_all : (w : List ℕ) → gets (length w) 0 w ≡ w
gets_all w = ext_get_or 0 _ _ (length_gets (length w) 0 w) (λ (i : ℕ) (h : i < length (gets (length w) 0 w)). get_gets (length w) 0 w i (rw (length_gets (length w) 0 w) at h) ∙ ap (λ (k : ℕ). get_or w k 0) (zero-add i))

-- what was written is read
pub gets_same : (t : List ℕ) (at : ℕ) (w : List ℕ) → at + length w ≤ length t → gets (length w) at (put t at w) ≡ w
gets_same t at w g =
    ap (λ (a : ℕ). gets (length w) a (put t at w)) (sym (add-zero at)) ∙ gets_inside (length w) 0 t at w g (omega arith) ∙ gets_all w

pub num_enc : (w v : ℕ) → v < 256 ^ w → num (enc w v) ≡ v
unfolding num enc
num_enc zero v h = omega arith
num_enc (suc w) v h =
    let k : v < 256 ^ w * 256 = rw pow-suc at h in
    let e : num (enc w (v / 256)) ≡ v / 256 = num_enc w (v / 256) ((div-lt_iff_lt-mul (omega arith)).1 k) in
    rw e (omega arith)

pub length_enc : (w v : ℕ) → length (enc w v) ≡ w
unfolding enc
length_enc zero v = refl
length_enc (suc w) v = ap suc (length_enc w (v / 256))

pub two_sides : (i j : ℕ) → (i ≡ j → ⊥) → (i < j) ⊎ (j < i)
two_sides i j n = go (lt_or_le i j) where
  go : (i < j) ⊎ (j ≤ i) → (i < j) ⊎ (j < i)
  go (inl e) = inl e
  go (inr e) = inr (omega arith)

-- stretches of one width at different places do not meet
pub apart_rows : (base w i j : ℕ) → (i ≡ j → ⊥) → Apart (base + i * w) w (base + j * w) w
apart_rows base w i j n = go (two_sides i j n) where
  go : (i < j) ⊎ (j < i) → Apart (base + i * w) w (base + j * w) w
  go (inl h) = inl (omega (arith, mul-le-mul_right w h))
  go (inr h) = inr (omega (arith, mul-le-mul_right w h))

-- a part that is lent is the octets that are read there
pub gets_part : (n at : ℕ) (t : List ℕ) → at + n ≤ length t → take n (drop at t) ≡ gets n at t
gets_part n at t h =
    let e : length (take n (drop at t)) ≡ n = length-take-le n (drop at t) (rw length-drop (omega arith)) in
    ext_get_or 0 _ _ (e ∙ sym (length_gets n at t))
    (λ (i : ℕ) (l : i < length (take n (drop at t))).
    let k : i < n = rw e at l in
    get_or-take n (drop at t) i 0 k ∙ get_or-drop at t i 0 ∙ sym (get_gets n at t i k))

-- a number that was written is read back, over its width
pub number_same : (w : ℕ) (t : List ℕ) (at v : ℕ) → at + w ≤ length t → v < 256 ^ w → num (gets w at (put t at (enc w v))) ≡ v
number_same w t at v h g =
    let e : length (enc w v) ≡ w = length_enc w v in
    ap num (ap (λ (n : ℕ). gets n at (put t at (enc w v))) (sym e) ∙ gets_same t at (enc w v) (omega arith)) ∙ num_enc w v g
