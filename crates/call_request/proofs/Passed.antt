-- A well-formed table has its header and all its records. Assumes nothing.
use Prim.Native.Nat.{ℕ, ◌+◌, ◌*◌, ◌≤◌}
use native.Mathlib.Omega.{arith}
use mathlib.Core.Path.{◌≡◌}
use mathlib.Core.List.{List}
use lib.ListN.{length}
use Rattle.base_layout.specs.Layout.{header_size, record_size}
use Rattle.table_layout.specs.Table.{count}
use Rattle.table_well_formed.specs.WellFormed.{WellFormed}
use Rattle.call_refusal.proofs.Fits.{records_there}

pub has_header : (t : List ℕ) → WellFormed t → header_size ≤ length t
has_header t w = omega (arith, records_there t w)

pub has_records : (t : List ℕ) (n : ℕ) → WellFormed t → n ≡ count t → header_size + n * record_size ≤ length t
has_records t n w e = omega (arith, records_there t w, e)
