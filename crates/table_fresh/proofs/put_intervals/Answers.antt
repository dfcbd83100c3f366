-- An iteration writes the next interval; after 20 none is left.
use Rattle.std.proofs.Common.{◌∙◌, refl, sym, arith, rules}
use Rattle.table_fresh.proofs.Written.{four_turn, four_over}
use Rattle.table_fresh.proofs.put_intervals.Goals as goal

pub loop-k-preserved : goal.loop-k-preserved
loop-k-preserved c = (
  search rules,
  c.loop-k.invariant.1 ∙ four_turn c.args.ws.now c.loop-k.t c.loop-k.k (omega arith) ∙ rw c.put_number.ensures refl,
)

pub returns : goal.returns
returns c = sym (c.loop-k.invariant.1 ∙ four_over c.args.ws.now c.loop-k.t c.loop-k.k (omega arith))
