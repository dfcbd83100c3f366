-- `table_fresh::clear` meets its contract: each turn clears one octet more. Assumes nothing.
use native.Mathlib.Omega.{arith}
use Rattle.std.proofs.Common.{length}
use Rattle.base_lists.proofs.Stores.{stored_none}
use Rattle.table_fresh.specs.Fresh.{zeros}
use Rattle.table_fresh.proofs.Zeros.{length_zeros, clear_more, clear_all}
use Rattle.table_fresh.proofs.clear.Goals as goal

pub loop-i-init : goal.loop-i-init
loop-i-init c = stored_none c.args.t.now 0 (zeros (length c.args.t.now)) (rw length_zeros (omega arith))

pub loop-i-preserved : goal.loop-i-preserved
loop-i-preserved c = clear_more c.args.t.now c.loop-i.t c.loop-i.i (omega (arith, c.loop-i-test.true)) c.loop-i.invariant

pub returns : goal.returns
returns c = clear_all c.args.t.now c.loop-i.t c.loop-i.i (omega (arith, c.loop-i-test.false)) c.loop-i.invariant
