-- The test of one record holds exactly when its sentence does. Assumes nothing.
use mathlib.Core.Path.{◌≡◌, ◌∙◌}
use mathlib.Core.List.{List}
use mathlib.Core.Bool.{true, false}
use mathlib.Core.Logic.{◌⊎◌, inl, inr}
use Prim.Native.Nat.{ℕ, ◌≤◌}
use native.Mathlib.Omega.{arith}
use native.Mathlib.Nat.{add-zero}
use lib.ListN.{get_or}
use lib.Dec.{eqb}
use borrow.Author.Tests.{leb-true, le-leb, eqb-false, eq-eqb, ne_eqb}
use Rattle.base_layout.specs.Layout.{record_size, spare_size, base, spare_base, peer_bound}
use Rattle.base_lists.proofs.StoresAndParts.{told}
use Rattle.table_record.specs.Record.{state_number}
use Rattle.table_record.specs.declared.Record.{Record}
use Rattle.table_layout.specs.Table.{record_at}
use Rattle.table_layout.specs.declared.Settings.{Settings}
use Rattle.table_ranges.proofs.Tests.{Each, each, all}
use Rattle.table_ranges.proofs.Unknown.{unknown_to, unknown_from_holds}
use Rattle.table_ranges.proofs.Zeros.{zeros_to, zeros_from}
use Rattle.table_record_ok.specs.OneRecord.{Live, Bounded, LiveOk, FreeOk, RecordOk, range_tests, in_range, live_tests, live_ok, record_ok}
use Rattle.table_record_ok.proofs.States.{octet_known, octet_live}

bounds_to : (s : Settings) (r : Record) → in_range s r ≡ true → Bounded s r
unfolding in_range
bounds_to s r h =
    let e : Each (range_tests s r) = each (range_tests s r) h in
    record {
      tid = leb-true _ _ e.0;
      rcr = leb-true _ _ e.1.0;
      aec = leb-true _ _ e.1.1.0;
      exit = leb-true _ _ e.1.1.1.0;
      deadline = leb-true _ _ e.1.1.1.1.0;
      message = leb-true _ _ e.1.1.1.1.1.0;
      tidnew = leb-true _ _ e.1.1.1.1.1.1.0;
      limit = leb-true _ _ e.1.1.1.1.1.1.1.0;
      unknown = unknown_to _ e.1.1.1.1.1.1.1.1.0;
      sent = leb-true _ _ e.1.1.1.1.1.1.1.1.1.0;
      peer = omega (arith, leb-true r.peer peer_bound e.1.1.1.1.1.1.1.1.1.1);
    }

bounds_from : (s : Settings) (r : Record) → Bounded s r → in_range s r ≡ true
unfolding in_range
bounds_from s r h =
    all (range_tests s r) (le-leb _ _ h.tid, (le-leb _ _ h.rcr, (le-leb _ _ h.aec, (le-leb _ _ h.exit, (le-leb _ _ h.deadline, (le-leb _ _ h.message, (le-leb _ _ h.tidnew, (le-leb _ _ h.limit, (unknown_from_holds _ h.unknown, (le-leb _ _ h.sent, le-leb r.peer peer_bound (omega (arith, h.peer))))))))))))

live_to : (t : List ℕ) (s : Settings) (i : ℕ) → 1 ≤ get_or t (base i) 0 → live_ok t s i ≡ true → LiveOk t s i
unfolding live_ok
live_to t s i l h =
    let e : Each (live_tests t s i) = each (live_tests t s i) h in
    let n : state_number (record_at t i).state ≡ get_or t (base i) 0 = octet_known t i (leb-true _ _ e.0) in
    record {
      range = record { live = omega arith; bounds = bounds_to s (record_at t i) e.1.1.0 };
      flags = leb-true _ _ e.1.0;
      spare = zeros_to t (spare_base i) spare_size e.1.1.1;
    }

live_from : (t : List ℕ) (s : Settings) (i : ℕ) → LiveOk t s i → live_ok t s i ≡ true
unfolding live_ok
live_from t s i h =
    all (live_tests t s i) (
      le-leb _ _ (octet_live t i h.range.live).1,
      (le-leb _ _ h.flags, (bounds_from s (record_at t i) h.range.bounds, zeros_from t (spare_base i) spare_size h.spare)),
    )

-- the first octet of a free record
free_octet : (t : List ℕ) (i : ℕ) → FreeOk t i → get_or t (base i) 0 ≡ 0
free_octet t i h = rw add-zero at (h 0 (omega arith))

-- a free record's state
pub free_state : (t : List ℕ) (i : ℕ) → FreeOk t i → state_number (record_at t i).state ≡ 0
free_state t i h =
    let z : get_or t (base i) 0 ≡ 0 = free_octet t i h in
    octet_known t i (omega arith) ∙ z

-- THE TEST OF ONE RECORD HOLDS EXACTLY WHEN ITS SENTENCE DOES
pub record_to : (t : List ℕ) (s : Settings) (i : ℕ) → record_ok t s i ≡ true → RecordOk t s i
unfolding record_ok
record_to t s i h = go (told (eqb (get_or t (base i) 0) 0)) where
  go : (eqb (get_or t (base i) 0) 0 ≡ true) ⊎ (eqb (get_or t (base i) 0) 0 ≡ false) → RecordOk t s i
  go (inl e) = inl (zeros_to t (base i) record_size (rw e at h))
  go (inr e) = inr (live_to t s i (omega (arith, eqb-false (get_or t (base i) 0) 0 e)) (rw e at h))

pub record_from : (t : List ℕ) (s : Settings) (i : ℕ) → RecordOk t s i → record_ok t s i ≡ true
unfolding record_ok
record_from t s i (inl f) = rw (eq-eqb _ _ (free_octet t i f)) (zeros_from t (base i) record_size f)
record_from t s i (inr l) =
    rw (ne_eqb (get_or t (base i) 0) 0 (λ (e : get_or t (base i) 0 ≡ 0). omega (arith, (octet_live t i l.range.live).0))) (live_from t s i l)

-- a live record of a table whose records are in order
pub live_of : (t : List ℕ) (s : Settings) (i : ℕ) → RecordOk t s i → Live (record_at t i) → LiveOk t s i
live_of t s i (inl f) h = absurd (omega (arith, free_state t i f))
live_of t s i (inr l) h = l
