-- A table that the fresh-table call accepted is well formed, with no live record and nothing cached. Assumes nothing.
use Prim.Native.Nat.{ℕ, zero, suc, ◌+◌, ◌≤◌, ◌<◌}
use native.Mathlib.Omega.{arith}
use mathlib.Core.Path.{◌≡◌, refl, sym, ap, ◌∙◌}
use mathlib.Core.List.{List, [], ◌∷◌}
use mathlib.Core.Logic.{inl}
use lib.ListN.{length}
use Rattle.base_layout.specs.Layout.{base}
use Rattle.base_lists.specs.Seq.{tab}
use Rattle.base_lists.proofs.StoresAndParts.{get_tab}
use Rattle.table_record.specs.Record.{state_number}
use Rattle.table_layout.specs.Table.{count, settings_of, record_at, tidnew_due_of}
use Rattle.table_ranges.specs.Ranges.{Interval}
use Rattle.table_header_ok.specs.Header.{SettingsOk, RowsOk, HeaderOk}
use Rattle.table_record_ok.specs.OneRecord.{Live}
use Rattle.table_well_formed.specs.WellFormed.{Sized, WellFormed}
use Rattle.table_fresh.specs.Fresh.{fresh_answer, fresh_table, table_after_fresh}
use Rattle.std.specs.Prelude.{Ok}
use Rattle.table_fresh.proofs.Sizes.{size_told}
use Rattle.table_fresh.specs.Conditions.{word, AllInRange}
use Rattle.table_fresh.proofs.Ranges.{in_range_holds}
use Rattle.table_fresh.proofs.Answers.{accepted}
use Rattle.table_fresh.proofs.Facts.{FreshFacts, fresh_length, fresh_facts}
use Rattle.law_fresh_formed.specs.FreshOk.{FreshOk}

module _ (ws : List ℕ) (first : ℕ) (a : AllInRange ws first) where
  interval_at_holds : (k : ℕ) → 2 ≤ k → k < 22 → Interval (word ws k)
  interval_at_holds k h l = let i = a.intervals k h l in record { least = i.0; most = i.1 }

  rows_ok : RowsOk (tab (word ws) 9 4 ∷ tab (word ws) 9 13 ∷ [])
  rows_ok zero rcr h l = rw (get_tab (word ws) 9 4 rcr 0 l) (interval_at_holds (4 + rcr) (omega arith) (omega arith))
  rows_ok (suc zero) rcr h l = rw (get_tab (word ws) 9 13 rcr 0 l) (interval_at_holds (13 + rcr) (omega arith) (omega arith))
  rows_ok (suc (suc row)) rcr h l = absurd (omega arith)

  module _ (t : List ℕ) (f : FreshFacts t ws first) where
    settings_ok_holds : SettingsOk (settings_of t)
    settings_ok_holds = rw f.settings (record { rcr_max = a.rcr_max; aec_max = a.aec_max; interval_a = interval_at_holds 2 (omega arith) (omega arith); interval_w = interval_at_holds 3 (omega arith) (omega arith) })

    header_ok : HeaderOk t
    header_ok = record {
      clock = omega (arith, f.clock);
      gen_tid = omega (arith, f.gen_tid, a.gen_tid);
      settings = settings_ok_holds;
      tidnew_due = omega (arith, f.tidnew_due);
      modes = rw (f.modes, f.settings) a.modes;
      spare = λ k h. f.spare (98 + k) (omega arith);
      rows = rw f.rows rows_ok;
      cached = λ peer h. omega (arith, f.cached peer);
    }

    not_live : (i : ℕ) → Live (record_at t i) → ⊥
    not_live i l = omega (arith, ap state_number (f.free i))

    formed : Sized t → WellFormed t
    formed s = record {
      sized = s;
      header = header_ok;
      records = λ i h. inl (λ k l. f.record_zero i k);
      unique = λ i j h l d live other same. not_live i live;
    }

module _ (t ws : List ℕ) (first : ℕ) (made : fresh_answer (length t) ws first ≡ Ok tt) where
  abbrev n : ℕ
  n = count t

  a : AllInRange ws first
  a = in_range_holds ws first (accepted (length t) ws first made).1

  f : FreshFacts (fresh_table n ws first) ws first
  f = fresh_facts n ws first a

  pub fresh_ok : FreshOk t (table_after_fresh (Ok tt) t ws first) first
  unfolding table_after_fresh tidnew_due_of
  fresh_ok =
      let s = size_told (length t) (accepted (length t) ws first made).0 in
      let l : length (fresh_table n ws first) ≡ base n = fresh_length n ws first in
      let c : count (fresh_table n ws first) ≡ n = omega (arith, l) in
      record {
        same_size = l ∙ sym s.exact;
        formed = formed ws first a (fresh_table n ws first) f (record { least = omega (arith, c, s.some); most = omega (arith, c, s.most); whole = omega (arith, c, l) });
        no_record = f.free;
        nothing_cached = f.cached;
        clock = f.clock;
        gen_tid = f.gen_tid;
        tidnew_due = rw f.tidnew_due refl;
      }
