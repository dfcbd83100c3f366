-- What the search for the earliest deadline finds lies in a well-formed table. Assumes nothing.
use Prim.Native.Nat.{ℕ, ◌+◌, ◌*◌, ◌≤◌}
use native.Mathlib.Omega.{arith}
use mathlib.Core.Path.{◌≡◌, sym}
use mathlib.Core.List.{List}
use lib.ListN.{length}
use Rattle.std.specs.Prelude.{Option, Some, None}
use Rattle.base_layout.specs.Layout.{header_size, record_size, deadline_bound}
use Rattle.table_layout.specs.Table.{count}
use Rattle.table_finding.specs.Finding.{due_of, Within}
use Rattle.table_finding.proofs.Earliest.{due_found}
use Rattle.table_well_formed.specs.WellFormed.{WellFormed}
use Rattle.table_well_formed.proofs.TableTest.{to_sentence}

module _ (t : List ℕ) (w : WellFormed t) where
  pub header_there : header_size ≤ length t
  header_there = omega (arith, w.sized.whole)

  module _ (n : ℕ) (counted : n ≡ count t) where
    pub records_there : header_size + n * record_size ≤ length t
    records_there = rw counted (omega (arith, w.sized.whole))

    pub found_within : (f : Option ℕ) → f ≡ due_of t n deadline_bound → Within t f
    found_within (Some i) e =
        let below = (due_found t deadline_bound n i (sym e)).below in
        omega (arith, records_there, below)
    found_within None e = tt

-- what the well-formed test gives, for the goals of the call
pub ruleset formed_tables = (to_sentence, header_there, records_there, found_within)
