-- After i turns the first i octets are zero.
use Rattle.std.proofs.Common.{length}
use Rattle.base_lists.proofs.Stores.{Stored}
use Rattle.table_fresh.specs.Fresh.{zeros}
use Rattle.table_fresh.proofs.clear.Given as goal

abbrev pub invariant-loop-i : goal.invariant-loop-i
invariant-loop-i l = Stored l.fn.t 0 (zeros (length l.fn.t)) l.t l.i
