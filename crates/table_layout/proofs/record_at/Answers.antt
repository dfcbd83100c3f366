-- The octets that are decoded are the record's. Assumes nothing.
use Rattle.std.proofs.Common.{◌∙◌, ap, arith}
use native.Mathlib.Nat.{add-sub_cancel_left}
use Rattle.base_layout.specs.Layout.{fields_size, base}
use Rattle.base_octets.proofs.StoredAndRead.{gets_part}
use Rattle.table_record.specs.Record.{decoded}
use Rattle.table_layout.specs.Table.{record_at}
use Rattle.table_layout.proofs.record_at.Goals as goal

pub returns : goal.returns
unfolding record_at
returns c = simp add-sub_cancel_left at c.decode.ensures ∙ ap decoded (gets_part fields_size (base c.args.i) c.args.t.now (omega arith))
