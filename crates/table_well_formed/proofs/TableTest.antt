-- The test of a table holds exactly when the sentence does, and so does the test of what a call is lent. Assumes nothing.
use mathlib.Core.Path.{◌≡◌}
use mathlib.Core.List.{List}
use mathlib.Core.Bool.{true}
use Prim.Native.Nat.{ℕ}
use lib.ListN.{length}
use borrow.Author.Tests.{leb-true, eqb-true, le-leb, eq-eqb}
use Rattle.base_lists.proofs.StoresAndParts.{every_all, every_at}
use Rattle.table_layout.specs.Table.{count, settings_of}
use Rattle.table_ranges.proofs.Tests.{Each, each, all}
use Rattle.table_header_ok.proofs.HeaderTest.{header_to, header_from}
use Rattle.table_record_ok.specs.OneRecord.{record_ok}
use Rattle.table_record_ok.proofs.RecordTest.{record_to, record_from}
use Rattle.table_names_ok.proofs.NamesTest.{names_to, names_from}
use Rattle.table_well_formed.specs.WellFormed.{WellFormed, Fitting, table_tests, well_formed, size_tests, sizes_ok, fitting_tests, fitting}
use Rattle.table_well_formed.proofs.Lengths.{sized_to, sized_from}

-- THE TEST HOLDS EXACTLY WHEN THE SENTENCE DOES
pub to_sentence : (t : List ℕ) → well_formed t ≡ true → WellFormed t
unfolding well_formed
to_sentence t h =
    let e : Each (table_tests t) = each (table_tests t) h in
    record {
      sized = sized_to t e.0;
      header = header_to t e.1.0;
      records = λ i l. record_to t (settings_of t) i (every_at (record_ok t (settings_of t)) (count t) e.1.1.0 i l);
      unique = names_to t (count t) e.1.1.1;
    }

pub to_test : (t : List ℕ) → WellFormed t → well_formed t ≡ true
unfolding well_formed
to_test t w =
    all (table_tests t) (
      sized_from t w.sized,
      (
        header_from t w.header,
        (every_all (record_ok t (settings_of t)) (count t) (λ i l. record_from t (settings_of t) i (w.records i l)), names_from t (count t) w.unique),
      ),
    )

-- WHAT A CALL IS LENT PASSES THE TEST EXACTLY WHEN IT FITS
pub to_fitting : (t : List ℕ) (store output : ℕ) → fitting t store output ≡ true → Fitting t store output
unfolding fitting sizes_ok
to_fitting t store output h =
    let f : Each (fitting_tests t store output) = each (fitting_tests t store output) h in
    let e : Each (size_tests (length t) store output) = each (size_tests (length t) store output) f.0 in
    record { formed = to_sentence t f.1; cells = eqb-true _ _ e.1.0; room = leb-true _ _ e.1.1 }

pub from_fitting : (t : List ℕ) (store output : ℕ) → Fitting t store output → fitting t store output ≡ true
unfolding fitting sizes_ok
from_fitting t store output h =
    all (fitting_tests t store output)
    (all (size_tests (length t) store output) (sized_from t h.formed.sized, (eq-eqb _ _ h.cells, le-leb _ _ h.room)), to_test t h.formed)
