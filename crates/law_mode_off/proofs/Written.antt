-- With the mode off a record is written as the base writes it: the four octets after the first 20 zero as they were. Assumes nothing.
use Prim.Native.Nat.{ℕ, zero, suc, ◌+◌, ◌≤◌, ◌<◌}
use native.Mathlib.Omega.{arith}
use native.Mathlib.Nat.{add-zero}
use mathlib.Core.Path.{◌≡◌, refl, sym, ap, ◌∙◌}
use mathlib.Core.Bool.{true, false}
use mathlib.Core.List.{List, ◌++◌}
use mathlib.Core.Logic.{◌⊎◌, inl, inr}
use lib.ListN.{length, get_or, replicate, set, length-set}
use lib.Seq.{get_or-set_same, get_or-set_other, ext_get_or}
use lib.Dec.{eqb}
use borrow.Author.Tests.{eqb-true, eqb-false}
use Rattle.base_layout.specs.Layout.{record_size, limit_offset, unknown_offset, base}
use Rattle.base_lists.specs.Seq.{put}
use Rattle.base_lists.proofs.StoresAndParts.{length_put, put_append, told}
use Rattle.base_octets.specs.Octets.{enc}
use Rattle.base_octets.proofs.StoredAndRead.{get_d_after}
use Rattle.table_record.specs.Record.{octets_of}
use Rattle.table_record.specs.declared.Record.{Record}
use Rattle.table_layout.specs.Table.{put_record}
use Rattle.table_ranges.specs.Ranges.{Zeros}
use Rattle.law_mode_off.specs.BaseFormed.{base_octets, later_octets, base_put}
use Rattle.law_mode_off.proofs.Formed.{same_octet}

-- zeros stored where zeros are
set_zero : (u : List ℕ) (p : ℕ) → p < length u → get_or u p 0 ≡ 0 → set u p 0 ≡ u
set_zero u p room z = ext_get_or 0 (set u p 0) u (length-set u p 0) at_each
  where
    at_each : (k : ℕ) → k < length (set u p 0) → get_or (set u p 0) k 0 ≡ get_or u k 0
    at_each k h = go (told (eqb k p))
      where
        go : (eqb k p ≡ true) ⊎ (eqb k p ≡ false) → get_or (set u p 0) k 0 ≡ get_or u k 0
        go (inl e) = rw (eqb-true k p e) (get_or-set_same u p 0 0 room ∙ sym z)
        go (inr e) = get_or-set_other u p k 0 0 (eqb-false k p e)

put_zeros : (n : ℕ) (u : List ℕ) (p : ℕ) → p + n ≤ length u → Zeros u p n → put u p (replicate n 0) ≡ u
unfolding put
put_zeros zero u p room z = refl
put_zeros (suc n) u p room z =
    let first : set u p 0 ≡ u = set_zero u p (omega arith) (rw add-zero at (z 0 (omega arith))) in
    ap (λ (v : List ℕ). put v (suc p) (replicate n 0)) first
    ∙ put_zeros n u (suc p) (omega arith) (λ k h. same_octet u (suc p + k) (p + (k + 1)) (omega arith) ∙ z (k + 1) (omega arith))

-- the octets of a record with no waiting limit in force
octets_then : (r : Record) → r.limit ≡ 0 → octets_of r ≡ base_octets r ++ (replicate 4 0 ++ later_octets r)
unfolding octets_of base_octets enc
octets_then r e = rw e refl

length_then : (r : Record) → length (base_octets r) ≡ limit_offset
unfolding base_octets enc
length_then r = refl

module _ (t : List ℕ) (i : ℕ) (room : base i + record_size ≤ length t) (z : Zeros t (base i + limit_offset) 4) where
  pub put_as_before : (r : Record) → r.limit ≡ 0 → put_record t i r ≡ base_put t i r
  unfolding put_record base_put
  put_as_before r e =
      let n : length (base_octets r) ≡ limit_offset = length_then r in
      let u : List ℕ = put t (base i) (base_octets r) in
      let same : (k : ℕ) → k < 4 → get_or u (base i + limit_offset + k) 0 ≡ 0 = λ k h. get_d_after (base_octets r) t (base i) (base i + limit_offset + k) (omega (arith, n)) ∙ z k h in
      let next : base i + limit_offset + 4 ≡ base i + unknown_offset = omega arith in
      ap (put t (base i)) (octets_then r e) ∙ put_append (base_octets r) (replicate 4 0 ++ later_octets r) t (base i)
      ∙ ap (λ (k : ℕ). put u (base i + k) (replicate 4 0 ++ later_octets r)) n
      ∙ put_append (replicate 4 0) (later_octets r) u (base i + limit_offset)
      ∙ ap (λ (v : List ℕ). put v (base i + limit_offset + 4) (later_octets r)) (put_zeros 4 u (base i + limit_offset) (rw (length_put t (base i) (base_octets r)) (omega (arith, room))) same)
      ∙ ap (λ (k : ℕ). put u k (later_octets r)) next
