-- After k turns the sum is the size of the first k entries.
use Rattle.std.proofs.Common.{◌≡◌, ◌≤◌, ◌*◌}
use Rattle.rds_size.specs.Size.{entries_size}
use Rattle.rds_size.proofs.entries_size.Given as goal

abbrev pub invariant-loop-k : goal.invariant-loop-k
invariant-loop-k l = (l.k ≤ l.count) × (l.sum ≡ entries_size l.bytes l.formats l.list l.k) × (l.sum ≤ 1521 * l.k)
