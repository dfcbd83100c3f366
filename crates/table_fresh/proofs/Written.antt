-- What the fresh-table call writes, one field after the other, is the fresh table. Assumes nothing.
use mathlib.Core.Path.{◌≡◌, refl, sym, ap, ◌∙◌}
use mathlib.Core.List.{List, ◌∷◌, ◌++◌, append_assoc}
use Prim.Native.Nat.{ℕ, zero, suc, ◌+◌, ◌*◌, ◌-◌, ◌/◌, ◌%◌, ◌≤◌, ◌<◌}
use native.Mathlib.Omega.{arith}
use lib.ListN.{length, get_or, take, replicate, length-append, replicate-append-replicate}
use lib.Seq.{sets-eq, take-append_seam, drop-append-add, drop-append_seam}
use Rattle.base_layout.specs.Layout.{record_size, base}
use Rattle.base_lists.specs.Seq.{put}
use Rattle.base_lists.proofs.StoresAndParts.{put_append, put_nil}
use Rattle.base_octets.specs.Octets.{enc}
use Rattle.base_octets.proofs.StoredAndRead.{length_enc}
use Rattle.table_fresh.specs.Fresh.{zeros, four_each, fields_of, put_requests, fresh_table}
use Rattle.table_fresh.proofs.Zeros.{length_zeros}

-- the low octets of a number
pub take_enc : (k w v : ℕ) → k ≤ w → take k (enc w v) ≡ enc k v
unfolding enc
take_enc zero w v h = refl
take_enc (suc k) zero v h = absurd (omega arith)
take_enc (suc k) (suc w) v h = ap (λ (l : List ℕ). v % 256 ∷ l) (take_enc k w (v / 256) (omega arith))

-- the turns of the loop that stores the intervals
module _ (ws t : List ℕ) (k : ℕ) where
  pub four_turn : k < 20 → put t (12 + k * 4) (four_each (20 - k) (2 + k) ws) ≡ put (put t (12 + k * 4) (enc 4 (get_or ws (2 + k) 0))) (12 + (k + 1) * 4) (four_each (20 - (k + 1)) (2 + (k + 1)) ws)
  unfolding four_each
  four_turn h =
      let e : 20 - k ≡ suc (20 - (k + 1)) = omega arith in
      let a : 12 + k * 4 + 4 ≡ 12 + (k + 1) * 4 = omega arith in
      let b : 2 + k + 1 ≡ 2 + (k + 1) = omega arith in
      rw e (put_append (enc 4 (get_or ws (2 + k) 0)) (four_each (20 - (k + 1)) (2 + k + 1) ws) t (12 + k * 4) ∙ rw (length_enc 4 (get_or ws (2 + k) 0), a, b) refl)

  pub four_over : 20 ≤ k → put t (12 + k * 4) (four_each (20 - k) (2 + k) ws) ≡ t
  unfolding four_each
  four_over h =
      let e : 20 - k ≡ 0 = omega arith in
      rw e (put_nil t (12 + k * 4))

-- what is written in the middle stands there, and the rest is as it was
put_inside : (p q r w : List ℕ) → length w ≡ length q → put (p ++ (q ++ r)) (length p) w ≡ p ++ (w ++ r)
unfolding put
put_inside p q r w e =
    let room : length p + length w ≤ length (p ++ (q ++ r)) = simp length-append (omega arith) in
    sets-eq w (p ++ (q ++ r)) (length p) room ∙ rw (take-append_seam p (q ++ r), drop-append-add p (q ++ r) (length w), e, drop-append_seam q r) (append_assoc p w r)

zeros_split : (n : ℕ) → zeros (base n) ≡ zeros 8 ++ (zeros 90 ++ zeros (526 + n * record_size))
unfolding zeros
zeros_split n =
    let e : base n ≡ 8 + (90 + (526 + n * record_size)) = omega arith in
    ap (λ (m : ℕ). replicate m 0) e
    ∙ sym (ap (λ (l : List ℕ). replicate 8 0 ++ l) (replicate-append-replicate 90 (526 + n * record_size) 0) ∙ replicate-append-replicate 8 (90 + (526 + n * record_size)) 0)

module _ (ws : List ℕ) (first : ℕ) where
  pub length_fields : length (fields_of ws first) ≡ 90
  unfolding fields_of four_each enc
  length_fields = refl

  -- what the call writes, one field after the other
  abbrev written : List ℕ → List ℕ
  written z = put_requests (put (put (put (put z 8 (enc 2 first)) 10 (enc 1 (get_or ws 0 0))) 11 (enc 1 (get_or ws 1 0))) 12 (four_each 20 2 ws)) ws

  -- is written as one
  fields_joined : (z : List ℕ) → put z 8 (fields_of ws first) ≡ written z
  unfolding fields_of put_requests enc four_each
  fields_joined z =
      let g = enc 2 first in
      let r = enc 1 (get_or ws 0 0) in
      let a = enc 1 (get_or ws 1 0) in
      let i = four_each 20 2 ws in
      let l = enc 4 (get_or ws 23 0) in
      let m = enc 1 (get_or ws 22 0) in
      let d = enc 1 1 in
      put_append g (r ++ (a ++ (i ++ (l ++ (m ++ d))))) z 8
      ∙ put_append r (a ++ (i ++ (l ++ (m ++ d)))) (put z 8 g) 10
      ∙ put_append a (i ++ (l ++ (m ++ d))) (put (put z 8 g) 10 r) 11
      ∙ put_append i (l ++ (m ++ d)) (put (put (put z 8 g) 10 r) 11 a) 12
      ∙ put_append l (m ++ d) (put (put (put (put z 8 g) 10 r) 11 a) 12 i) 92
      ∙ put_append m d (put (put (put (put (put z 8 g) 10 r) 11 a) 12 i) 92 l) 96

  -- in a table of zeros it is the fresh table
  pub fresh_written : (len n : ℕ) → len ≡ base n → written (zeros len) ≡ fresh_table n ws first
  unfolding fresh_table
  fresh_written len n e =
      let rest = zeros (526 + n * record_size) in
      sym (fields_joined (zeros len))
      ∙ ap (λ (z : List ℕ). put z 8 (fields_of ws first)) (ap zeros e ∙ zeros_split n)
      ∙ ap (λ (k : ℕ). put (zeros 8 ++ (zeros 90 ++ rest)) k (fields_of ws first)) (sym (length_zeros 8))
      ∙ put_inside (zeros 8) (zeros 90) rest (fields_of ws first) (length_fields ∙ sym (length_zeros 90))
