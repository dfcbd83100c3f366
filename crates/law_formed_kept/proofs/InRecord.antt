-- A store within one record leaves the table well formed, if it leaves that record in order and its name unused. Assumes nothing.
use mathlib.Core.Path.{◌≡◌, sym, ◌∙◌}
use mathlib.Core.List.{List}
use mathlib.Core.Bool.{true, false}
use mathlib.Core.Logic.{◌⊎◌, inl, inr}
use Prim.Native.Nat.{ℕ, ◌+◌, ◌≤◌, ◌<◌}
use native.Mathlib.Omega.{arith}
use lib.ListN.{length, get_or}
use lib.Dec.{eqb}
use borrow.Author.Tests.{eqb-true, eqb-false}
use Rattle.base_layout.specs.Layout.{header_size, record_size, fields_size, modes_at, tidnew_due_at, header_spare_at, base, spare_base}
use Rattle.base_lists.specs.Seq.{put}
use Rattle.base_lists.proofs.StoresAndParts.{told, length_put}
use Rattle.base_octets.specs.Octets.{Apart}
use Rattle.base_octets.proofs.StoredAndRead.{get_before, get_d_after, apart_rows}
use Rattle.table_layout.specs.Table.{count, settings_of, record_at}
use Rattle.table_layout.proofs.Apart.{clock_apart, gen_tid_apart, settings_apart, rows_apart, cached_apart, record_apart}
use Rattle.table_header_ok.specs.Header.{HeaderOk}
use Rattle.table_record_ok.specs.OneRecord.{Live, LiveOk, FreeOk, RecordOk}
use Rattle.table_record_ok.proofs.RecordTest.{free_state}
use Rattle.table_names_ok.specs.Names.{SameName}
use Rattle.table_names_ok.proofs.NamesTest.{name_turned}
use Rattle.table_well_formed.specs.WellFormed.{Sized, WellFormed}
use Rattle.law_formed_kept.specs.UnusedName.{Unused}

pub equal_or : (i j : ℕ) → (i ≡ j) ⊎ (i ≡ j → ⊥)
equal_or i j = go (told (eqb i j)) where
  go : (eqb i j ≡ true) ⊎ (eqb i j ≡ false) → (i ≡ j) ⊎ (i ≡ j → ⊥)
  go (inl e) = inl (eqb-true i j e)
  go (inr e) = inr (eqb-false i j e)

pub sized_same : (t u : List ℕ) → length u ≡ length t → Sized t → Sized u
sized_same t u e s = record { least = rw e s.least; most = rw e s.most; whole = rw e s.whole }

-- record j of u is in order where its octets and its fields are those of t
pub record_same : (t u : List ℕ) (j : ℕ) → settings_of u ≡ settings_of t → record_at u j ≡ record_at t j
    → ((k : ℕ) → base j ≤ k → k < base j + record_size → get_or u k 0 ≡ get_or t k 0) → RecordOk t (settings_of t) j → RecordOk u (settings_of u) j
record_same t u j s r o (inl f) = inl (λ k l. o (base j + k) (omega arith) (omega arith) ∙ f k l)
record_same t u j s r o (inr f) = inr (record {
  range = rw (s, r) f.range;
  flags = rw (o (base j + 6) (omega arith) (omega arith)) f.flags;
  spare = λ k l. o (spare_base j + k) (omega arith) (omega arith) ∙ f.spare k l;
})

module _ (t : List ℕ) (i at : ℕ) (w : List ℕ) (low : base i ≤ at) (high : at + length w ≤ base i + record_size) where
  abbrev after : List ℕ
  after = put t at w

  pub settings_stand : settings_of after ≡ settings_of t
  settings_stand = settings_apart t at w (inl (omega arith))

  pub header_stands : HeaderOk t → HeaderOk after
  header_stands h = record {
    clock = rw (clock_apart t at w (omega arith)) h.clock;
    gen_tid = rw (gen_tid_apart t at w (inl (omega arith))) h.gen_tid;
    settings = rw settings_stand h.settings;
    tidnew_due = rw (get_before w t at tidnew_due_at (omega arith)) h.tidnew_due;
    modes = rw (settings_stand, get_before w t at modes_at (omega arith)) h.modes;
    spare = λ k l. get_before w t at (header_spare_at + k) (omega arith) ∙ h.spare k l;
    rows = rw (rows_apart t at w (inl (omega arith))) h.rows;
    cached = λ p l. rw (cached_apart t at w p (inl (omega arith))) (h.cached p l);
  }

  octets_stand : (j : ℕ) → (j ≡ i → ⊥) → (k : ℕ) → base j ≤ k → k < base j + record_size → get_or after k 0 ≡ get_or t k 0
  octets_stand j d k a b = go (apart_rows header_size record_size j i d) where
    go : Apart (base j) record_size (base i) record_size → get_or after k 0 ≡ get_or t k 0
    go (inl h) = get_before w t at k (omega arith)
    go (inr h) = get_d_after w t at k (omega arith)

  pub fields_stand : (j : ℕ) → (j ≡ i → ⊥) → record_at after j ≡ record_at t j
  fields_stand j d = record_apart t at w j (go (apart_rows header_size record_size j i d)) where
    go : Apart (base j) record_size (base i) record_size → Apart (base j) fields_size at (length w)
    go (inl h) = inl (omega arith)
    go (inr h) = inr (omega arith)

  -- RECORD CHANGED: it is free, or in range under a name that no other live record has
  pub store_keeps : WellFormed t → FreeOk after i ⊎ (LiveOk after (settings_of t) i × Unused t i (record_at after i)) → WellFormed after
  store_keeps f new = record {
    sized = sized_same t after long f.sized;
    header = header_stands f.header;
    records = λ j l. at_record j (rw long at l) (equal_or j i);
    unique = λ a b l m d p q s. distinct a b (rw long at l) (rw long at m) d p q s (equal_or a i) (equal_or b i);
  } where
    long : length after ≡ length t
    long = length_put t at w

    changed : FreeOk after i ⊎ (LiveOk after (settings_of t) i × Unused t i (record_at after i)) → RecordOk after (settings_of after) i
    changed (inl x) = inl x
    changed (inr x) = inr (rw settings_stand x.0)

    at_record : (j : ℕ) → j < count t → (j ≡ i) ⊎ (j ≡ i → ⊥) → RecordOk after (settings_of after) j
    at_record j l (inl e) = rw e (changed new)
    at_record j l (inr d) = record_same t after j settings_stand (fields_stand j d) (octets_stand j d) (f.records j l)

    apart : FreeOk after i ⊎ (LiveOk after (settings_of t) i × Unused t i (record_at after i)) → Live (record_at after i)
        → (j : ℕ) → j < count t → (j ≡ i → ⊥) → Live (record_at after j) → SameName (record_at after i) (record_at after j) → ⊥
    apart (inl x) p j l d q s = omega (arith, free_state after i x)
    apart (inr x) p j l d q s = x.1 j l d (rw (fields_stand j d) at q) (rw (fields_stand j d) at s)

    distinct : (a b : ℕ) → a < count t → b < count t → (a ≡ b → ⊥) → Live (record_at after a) → Live (record_at after b) → SameName (record_at after a) (record_at after b)
        → (a ≡ i) ⊎ (a ≡ i → ⊥) → (b ≡ i) ⊎ (b ≡ i → ⊥) → ⊥
    distinct a b l m d p q s (inl e) (inl g) = d (e ∙ sym g)
    distinct a b l m d p q s (inl e) (inr g) = apart new (rw e at p) b m g q (rw e at s)
    distinct a b l m d p q s (inr e) (inl g) = apart new (rw g at q) a l e p (rw g at (name_turned (record_at after a) (record_at after b) s))
    distinct a b l m d p q s (inr e) (inr g) =
        f.unique a b l m d (rw (fields_stand a e) at p) (rw (fields_stand b g) at q) (rw (fields_stand a e, fields_stand b g) at s)
