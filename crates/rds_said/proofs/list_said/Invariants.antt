-- After k turns the first k entries are those that the words say.
use Rattle.std.proofs.Common.{◌≡◌, ◌≤◌, length, take}
use Rattle.base_lists.specs.Seq.{tab}
use Rattle.rds_said.specs.Said.{entry_said}
use Rattle.rds_said.proofs.list_said.Given as goal

abbrev pub invariant-loop-k : goal.invariant-loop-k
invariant-loop-k l = (l.k ≤ 15) × (length l.list ≡ 15) × (take l.k l.list ≡ tab (entry_said l.words l.formats l.count) l.k 0)
