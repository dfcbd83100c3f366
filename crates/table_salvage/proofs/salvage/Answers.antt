-- Past the test of its length the table has its header.
use Rattle.std.proofs.Common.{◌∙◌, sym, arith}
use Rattle.table_well_formed.proofs.Lengths.{length_to}
use Rattle.table_salvage.proofs.salvage.Goals as goal

pub header_ok-requires : goal.header_ok-requires
header_ok-requires c = omega (arith, length_to _ (sym c.length_ok.ensures ∙ c.if-not-length_ok.false))
