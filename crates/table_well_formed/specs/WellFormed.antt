-- When a table is well formed, and when what a call is lent fits (01, "What the reader carries", "Numbers given back" 1): as sentences, and as tests.
use Rattle.std.specs.Prelude.{ℕ, ◌-◌, ◌*◌, ◌/◌, ◌%◌, ◌≤◌, ◌<◌, List, [], ◌∷◌, Bool, ◌≡◌, length, leb, eqb}
use Rattle.base_layout.specs.Layout.{header_size, record_size, base, records_bound, cell_size, output_least}
use Rattle.base_lists.specs.Seq.{every}
use Rattle.table_layout.specs.Table.{count, settings_of}
use Rattle.table_ranges.specs.Ranges.{all_of}
use Rattle.table_header_ok.specs.Header.{HeaderOk, header_ok_is}
use Rattle.table_record_ok.specs.OneRecord.{RecordOk, record_ok}
use Rattle.table_names_ok.specs.Names.{Unique, names_ok}

-- 01: "1 to 48 records", and nothing but the header and them
pub record Sized (t : List ℕ) : Type 0 where
  pub least : 1 ≤ count t
  pub most : count t ≤ records_bound
  pub whole : length t ≡ base (count t)

-- 01: "A table is well formed when all fields are in range (..), free records are zero and no two live records share role, peer and TID"
pub record WellFormed (t : List ℕ) : Type 0 where
  pub sized : Sized t
  pub header : HeaderOk t
  pub records : (i : ℕ) → i < count t → RecordOk t (settings_of t) i
  pub unique : Unique t (count t)

-- number 1 isn't given: "the table, store or output has the wrong size, or the table is not well formed"
pub record Fitting (t : List ℕ) (store output : ℕ) : Type 0 where
  pub formed : WellFormed t
  pub cells : store ≡ count t * cell_size
  pub room : output_least ≤ output

-- the test of a table's length
abbrev pub length_tests : ℕ → List Bool
length_tests n = leb (base 1) n ∷ leb n (base records_bound) ∷ eqb ((n - header_size) % record_size) 0 ∷ []

unfoldable pub length_ok : ℕ → Bool
length_ok n = all_of (length_tests n)

-- the test of a table
abbrev pub table_tests : List ℕ → List Bool
table_tests t = length_ok (length t) ∷ header_ok_is t ∷ every (record_ok t (settings_of t)) (count t) ∷ names_ok t (count t) ∷ []

unfoldable pub well_formed : List ℕ → Bool
well_formed t = all_of (table_tests t)

-- the test of the three sizes
abbrev pub size_tests : ℕ → ℕ → ℕ → List Bool
size_tests table store output = length_ok table ∷ eqb store ((table - header_size) / record_size * cell_size) ∷ leb output_least output ∷ []

unfoldable pub sizes_ok : ℕ → ℕ → ℕ → Bool
sizes_ok table store output = all_of (size_tests table store output)

-- the test of what a call is lent
abbrev pub fitting_tests : List ℕ → ℕ → ℕ → List Bool
fitting_tests t store output = sizes_ok (length t) store output ∷ well_formed t ∷ []

unfoldable pub fitting : List ℕ → ℕ → ℕ → Bool
fitting t store output = all_of (fitting_tests t store output)
