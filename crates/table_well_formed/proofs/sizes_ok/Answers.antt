-- The table's length is that of its header and 1 to 48 records.
use Rattle.std.proofs.Common.{◌∙◌, sym, arith}
use Rattle.table_well_formed.proofs.Lengths.{length_to}
use Rattle.table_well_formed.proofs.sizes_ok.Goals as goal

pub overflow_sub-table : goal.overflow_sub-table
overflow_sub-table c = omega (arith, length_to _ (sym c.length_ok.ensures ∙ c.if-length_ok.true))

pub overflow_mul-table : goal.overflow_mul-table
overflow_mul-table c = omega (arith, length_to _ (sym c.length_ok.ensures ∙ c.if-length_ok.true))
