-- Past the test of its length the table has its header and 1 to 48 records.
use Rattle.std.proofs.Common.{◌∙◌, sym, arith}
use Rattle.table_well_formed.proofs.Lengths.{length_to}
use Rattle.table_well_formed.proofs.well_formed.Goals as goal

pub records-n-requires : goal.records-n-requires
records-n-requires c = omega (arith, length_to _ (sym c.length_ok.ensures ∙ c.if-not-length_ok.false))

pub header_ok-requires : goal.header_ok-requires
header_ok-requires c = omega (arith, length_to _ (sym c.length_ok.ensures ∙ c.if-not-length_ok.false))

pub settings_of-requires : goal.settings_of-requires
settings_of-requires c = omega (arith, length_to _ (sym c.length_ok.ensures ∙ c.if-not-length_ok.false))

pub records_ok-requires : goal.records_ok-requires
records_ok-requires c = omega (arith, length_to _ (sym c.length_ok.ensures ∙ c.if-not-length_ok.false), c.records-n.ensures)

pub names_ok-requires : goal.names_ok-requires
names_ok-requires c = omega (arith, length_to _ (sym c.length_ok.ensures ∙ c.if-not-length_ok.false), c.records-n.ensures)
