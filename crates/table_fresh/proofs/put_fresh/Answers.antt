-- What the stores write, one after the other, is the fresh table.
use Rattle.std.proofs.Common.{◌∙◌, length}
use Rattle.table_layout.specs.Table.{count}
use Rattle.table_fresh.proofs.Written.{fresh_written}
use Rattle.table_fresh.proofs.put_fresh.Goals as goal

pub returns : goal.returns
returns c =
    c.put_requests.ensures
    ∙ rw (c.put_intervals.ensures, c.put_number-3.ensures, c.put_number-2.ensures, c.put_number.ensures, c.clear.ensures)
    (fresh_written c.args.ws.now c.args.first (length c.args.t.now) (count c.args.t.now) c.requires.0)
