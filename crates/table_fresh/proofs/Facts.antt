-- What lies in a fresh table: the words that were lent, and zeros. Assumes nothing.
use mathlib.Core.Path.{◌≡◌, refl, sym, ap, ◌∙◌}
use mathlib.Core.List.{List, [], ◌∷◌, ◌++◌, append_assoc}
use Prim.Native.Nat.{ℕ, zero, suc, ◌+◌, ◌*◌, ◌-◌, ◌%◌, ◌^◌, ◌≤◌, ◌<◌}
use native.Mathlib.Omega.{arith}
use lib.ListN.{length, get_or, take, drop, length-append}
use lib.Seq.{take_at, drop_at, get_or-append-add}
use Rattle.base_layout.specs.Layout.{record_size, cached_at, modes_at, tidnew_due_at, header_spare_at, base}
use Rattle.base_lists.specs.Seq.{tab}
use Rattle.base_octets.specs.Octets.{num, enc, gets}
use Rattle.base_octets.proofs.StoredAndRead.{gets_part, num_enc, length_enc}
use Rattle.table_record.specs.Record.{state_of, decoded}
use Rattle.table_record.specs.declared.State.TheVariants.{Free}
use Rattle.table_layout.specs.Table.{clock_of, gen_tid_of, settings_of, fours, intervals_of, cached_of, record_at}
use Rattle.table_ranges.specs.Ranges.{ModesOk, off, on}
use Rattle.table_ranges.proofs.Modes.{limit_most}
use Rattle.table_fresh.specs.Fresh.{zeros, four_each, fields_of, fresh_table}
use Rattle.table_fresh.specs.Conditions.{word, AllInRange}
use Rattle.table_fresh.proofs.Zeros.{length_zeros, get_zeros}
use Rattle.table_fresh.proofs.Written.{length_fields}

-- ---- numbers of four octets, one after the other
gets_inside : (p w r : List ℕ) → gets (length w) (length p) (p ++ (w ++ r)) ≡ w
gets_inside p w r =
    let room : length p + length w ≤ length (p ++ (w ++ r)) = simp length-append (omega arith) in
    sym (gets_part (length w) (length p) (p ++ (w ++ r)) room) ∙ rw (drop_at p (w ++ r) (length p) refl) (take_at w r (length w) refl)

-- where the octets w stand after p, they are read, and the rest is read after them
module _ (p w x : List ℕ) (e : length w ≡ 4) where
  four_here : gets 4 (length p) (p ++ (w ++ x)) ≡ w
  four_here = rw e at (gets_inside p w x)

  after_four : (n : ℕ) → fours n (length p + 4) (p ++ (w ++ x)) ≡ fours n (length (p ++ w)) ((p ++ w) ++ x)
  after_four n =
      let m : length (p ++ w) ≡ length p + 4 = length-append p w ∙ ap (λ (k : ℕ). length p + k) e in
      rw (m, append_assoc p w x) refl

fours_inside : (n k : ℕ) (p r ws : List ℕ) → ((j : ℕ) → k ≤ j → j < k + n → word ws j < 2 ^ 32) → fours n (length p) (p ++ (four_each n k ws ++ r)) ≡ tab (word ws) n k
unfolding fours four_each tab
fours_inside zero k p r ws h = refl
fours_inside (suc n) k p r ws h =
    let e = length_enc 4 (word ws k) in
    let x = four_each n (k + 1) ws ++ r in
    rw (append_assoc (enc 4 (word ws k)) (four_each n (k + 1) ws) r, four_here p (enc 4 (word ws k)) x e, num_enc 4 (word ws k) (h k (omega arith) (omega arith)), after_four p (enc 4 (word ws k)) x e n)
    (ap (λ (l : List ℕ). word ws k ∷ l) (fours_inside n (k + 1) (p ++ enc 4 (word ws k)) r ws (λ j a b. h j (omega arith) (omega arith))))

-- ---- a number, or a stretch of octets, where all is zero
num_zero : (n k : ℕ) (t : List ℕ) → ((j : ℕ) → k ≤ j → get_or t j 0 ≡ 0) → num (gets n k t) ≡ 0
unfolding num gets
num_zero zero k t h = refl
num_zero (suc n) k t h = rw (h k (omega arith), num_zero n (k + 1) t (λ j l. h j (omega arith))) refl

-- a fresh table of the settings ws and the first GenTID
pub record FreshFacts (t ws : List ℕ) (first : ℕ) : Type 0 where
  pub clock : clock_of t ≡ 0
  pub gen_tid : gen_tid_of t ≡ first
  pub settings : settings_of t ≡ record { rcr_max = word ws 0; aec_max = word ws 1; a = word ws 2; w = word ws 3; limit = word ws 23 }
  pub rows : intervals_of t ≡ tab (word ws) 9 4 ∷ tab (word ws) 9 13 ∷ []
  pub modes : get_or t modes_at 0 ≡ word ws 22
  pub tidnew_due : get_or t tidnew_due_at 0 ≡ 1
  pub spare : (k : ℕ) → header_spare_at ≤ k → get_or t k 0 ≡ 0
  pub cached : (peer : ℕ) → cached_of t peer ≡ 0
  pub free : (i : ℕ) → (record_at t i).state ≡ Free
  pub record_zero : (i k : ℕ) → get_or t (base i + k) 0 ≡ 0

module _ (n : ℕ) (ws : List ℕ) (first : ℕ) where
  pub fresh_length : length (fresh_table n ws first) ≡ base n
  unfolding fresh_table
  fresh_length = simp (length-append, length_zeros, length_fields) (omega arith)

  -- after the fields all is zero
  rest_zero : (k : ℕ) → 98 ≤ k → get_or (fresh_table n ws first) k 0 ≡ 0
  unfolding fresh_table
  rest_zero k h =
      let p = zeros 8 ++ fields_of ws first in
      let z = zeros (526 + n * record_size) in
      let e : length p ≡ 98 = simp (length-append, length_zeros, length_fields) in
      let m : k ≡ length p + (k - 98) = omega (arith, e) in
      rw (← append_assoc (zeros 8) (fields_of ws first) z, m) (get_or-append-add p z (k - 98) 0 ∙ get_zeros (526 + n * record_size) (k - 98))

  -- A, W and the 18 R are words 2 to 21
  intervals_read : AllInRange ws first → fours 20 12 (fresh_table n ws first) ≡ tab (word ws) 20 2
  unfolding fresh_table fields_of zeros enc four_each
  intervals_read a =
      let r = (enc 4 (word ws 23) ++ (enc 1 (word ws 22) ++ enc 1 1)) ++ zeros (526 + n * record_size) in
      fours_inside 20 2 (zeros 8 ++ (enc 2 first ++ (enc 1 (word ws 0) ++ enc 1 (word ws 1)))) r ws (λ j l h. omega (arith, (a.intervals j l h).1))

  clock_read : clock_of (fresh_table n ws first) ≡ 0
  unfolding clock_of fresh_table zeros gets num
  clock_read = refl

  gen_tid_read : first < 65536 → gen_tid_of (fresh_table n ws first) ≡ first
  unfolding gen_tid_of fresh_table zeros fields_of enc gets
  gen_tid_read h = num_enc 2 first h

  -- the octets of RCR_MAX and AEC_MAX
  maxima_read : (get_or (fresh_table n ws first) 10 0 ≡ word ws 0 % 256) × (get_or (fresh_table n ws first) 11 0 ≡ word ws 1 % 256)
  unfolding fresh_table zeros fields_of enc
  maxima_read = (refl, refl)

  -- the waiting limit, its mode, and TIDnew
  limit_read : word ws 23 < 2 ^ 32 → num (gets 4 92 (fresh_table n ws first)) ≡ word ws 23
  unfolding fresh_table zeros fields_of four_each enc gets
  limit_read h = num_enc 4 (word ws 23) h

  flags_read : (get_or (fresh_table n ws first) 96 0 ≡ word ws 22 % 256) × (get_or (fresh_table n ws first) 97 0 ≡ 1)
  unfolding fresh_table zeros fields_of four_each enc
  flags_read = (refl, refl)

  settings_read : AllInRange ws first → settings_of (fresh_table n ws first) ≡ record { rcr_max = word ws 0; aec_max = word ws 1; a = word ws 2; w = word ws 3; limit = word ws 23 }
  unfolding settings_of fours tab
  settings_read a =
      let r : word ws 0 % 256 ≡ word ws 0 = omega (arith, a.rcr_max) in
      let c : word ws 1 % 256 ≡ word ws 1 = omega (arith, a.aec_max) in
      let i : num (gets 4 12 (fresh_table n ws first)) ≡ word ws 2 = ap (λ (l : List ℕ). get_or l 0 0) (intervals_read a) in
      let j : num (gets 4 16 (fresh_table n ws first)) ≡ word ws 3 = ap (λ (l : List ℕ). get_or l 1 0) (intervals_read a) in
      rw (maxima_read.0, maxima_read.1, r, c, i, j, limit_read (omega (arith, limit_most a.modes))) refl

  rows_read : AllInRange ws first → intervals_of (fresh_table n ws first) ≡ tab (word ws) 9 4 ∷ tab (word ws) 9 13 ∷ []
  unfolding intervals_of fours tab
  rows_read a = ap (λ (l : List ℕ). take 9 (drop 2 l) ∷ take 9 (drop 11 l) ∷ []) (intervals_read a)

  free_read : (i : ℕ) → (record_at (fresh_table n ws first) i).state ≡ Free
  unfolding record_at decoded gets state_of
  free_read i = rw (rest_zero (base i) (omega arith)) refl

  -- the mode has room in its octet
  small : ModesOk (word ws 22) (word ws 23) → word ws 22 % 256 ≡ word ws 22
  small (off e z) = omega arith
  small (on e i) = omega arith

  pub fresh_facts : AllInRange ws first → FreshFacts (fresh_table n ws first) ws first
  unfolding cached_of
  fresh_facts a =
      record {
        clock = clock_read;
        gen_tid = gen_tid_read (omega (arith, a.gen_tid));
        settings = settings_read a;
        rows = rows_read a;
        modes = flags_read.0 ∙ small a.modes;
        tidnew_due = flags_read.1;
        spare = rest_zero;
        cached = λ peer. num_zero 2 (cached_at + peer * 2) (fresh_table n ws first) (λ j l. rest_zero j (omega arith));
        free = free_read;
        record_zero = λ i k. rest_zero (base i + k) (omega arith);
      }
