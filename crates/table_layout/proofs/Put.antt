-- What was put is read back, and every other record reads as before. Assumes nothing.
use mathlib.Core.Path.{◌≡◌, refl, sym, ap, ◌∙◌}
use mathlib.Core.List.{List, [], ◌∷◌}
use mathlib.Core.Bool.{Bool, true, false}
use mathlib.Core.Logic.{inl, inr}
use Prim.Native.Nat.{ℕ, ◌+◌, ◌*◌, ◌^◌, ◌≤◌, ◌<◌}
use native.Mathlib.Omega.{arith}
use lib.ListN.{length, get_or, replicate}
use lib.Dec.{eqb}
use Rattle.base_layout.specs.Layout.{header_size, record_size, fields_size, tidnew_due_at, cached_at, base}
use Rattle.base_lists.specs.Seq.{bit, put}
use Rattle.base_octets.specs.Octets.{gets, Apart}
use Rattle.base_octets.proofs.StoredAndRead.{gets_same, apart_rows, number_same}
use Rattle.table_record.specs.Record.{decoded, octets_of, Fits}
use Rattle.table_record.specs.declared.Record.{Record}
use Rattle.table_record.proofs.Back.{length_octets_holds, decoded_back}
use Rattle.table_layout.specs.Table.{clock_of, gen_tid_of, cached_of, record_at, tidnew_due_of, put_record, clear_record, put_clock, put_gen_tid, put_tidnew_due, put_cached}
use Rattle.table_layout.proofs.Apart.{record_apart}

pub record_same : (t : List ℕ) (i : ℕ) (r : Record) → base i + record_size ≤ length t → Fits r → record_at (put_record t i r) i ≡ r
unfolding record_at put_record
record_same t i r h g =
    let e : length (octets_of r) ≡ fields_size = length_octets_holds r in
    ap decoded (ap (λ (n : ℕ). gets n (base i) (put t (base i) (octets_of r))) (sym e) ∙ gets_same t (base i) (octets_of r) (omega arith)) ∙ decoded_back r g

-- stretches within two different records do not meet
pub apart_records : (i j k n l m : ℕ) → (i ≡ j → ⊥) → k + n ≤ record_size → l + m ≤ record_size → Apart (base i + k) n (base j + l) m
apart_records i j k n l m d a b = go (apart_rows header_size record_size i j d) where
  go : Apart (base i) record_size (base j) record_size → Apart (base i + k) n (base j + l) m
  go (inl h) = inl (omega arith)
  go (inr h) = inr (omega arith)

pub record_other : (t : List ℕ) (i j : ℕ) (r : Record) → (j ≡ i → ⊥) → record_at (put_record t i r) j ≡ record_at t j
unfolding put_record
record_other t i j r d =
    let e : length (octets_of r) ≡ fields_size = length_octets_holds r in
    record_apart t (base i) (octets_of r) j (go (apart_rows header_size record_size j i d) e) where
      go : Apart (base j) record_size (base i) record_size → length (octets_of r) ≡ fields_size → Apart (base j) fields_size (base i) (length (octets_of r))
      go (inl h) e = inl (omega arith)
      go (inr h) e = inr (omega arith)

pub clear_other : (t : List ℕ) (i j : ℕ) → (j ≡ i → ⊥) → record_at (clear_record t i) j ≡ record_at t j
unfolding clear_record
clear_other t i j d = record_apart t (base i) (replicate record_size 0) j (go (apart_rows header_size record_size j i d)) where
  go : Apart (base j) record_size (base i) record_size → Apart (base j) fields_size (base i) record_size
  go (inl h) = inl (omega arith)
  go (inr h) = inr (omega arith)

pub clock_same : (t : List ℕ) (v : ℕ) → header_size ≤ length t → v < 2 ^ 64 → clock_of (put_clock t v) ≡ v
unfolding clock_of put_clock
clock_same t v h g = number_same 8 t 0 v (omega arith) g

pub gen_tid_same : (t : List ℕ) (v : ℕ) → header_size ≤ length t → v < 65536 → gen_tid_of (put_gen_tid t v) ≡ v
unfolding gen_tid_of put_gen_tid
gen_tid_same t v h g = number_same 2 t 8 v (omega arith) g

pub tidnew_due_octet : (t : List ℕ) (due : Bool) → header_size ≤ length t → get_or (put_tidnew_due t due) tidnew_due_at 0 ≡ bit due
unfolding put_tidnew_due gets
tidnew_due_octet t due h = ap (λ (w : List ℕ). get_or w 0 0) (gets_same t tidnew_due_at (bit due ∷ []) (omega arith))

pub tidnew_due_same : (t : List ℕ) (due : Bool) → header_size ≤ length t → tidnew_due_of (put_tidnew_due t due) ≡ due
unfolding tidnew_due_of
tidnew_due_same t due h = rw (tidnew_due_octet t due h) (is_due_holds due) where
  is_due_holds : (due : Bool) → eqb (bit due) 1 ≡ due
  is_due_holds true = refl
  is_due_holds false = refl

pub cached_same : (t : List ℕ) (p v : ℕ) → header_size ≤ length t → p < 256 → v < 65536 → cached_of (put_cached t p v) p ≡ v
unfolding cached_of put_cached
cached_same t p v h k g = number_same 2 t (cached_at + p * 2) v (omega arith) g
