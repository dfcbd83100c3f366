-- After k turns the first k entries are stored.
use Rattle.std.proofs.Common.{◌≡◌, ◌+◌, ◌≤◌, take}
use Rattle.base_lists.specs.Seq.{put}
use Rattle.rds_size.specs.Size.{entries_size}
use Rattle.rds_encoding.specs.Encoding.{entries_octets}
use Rattle.rds_encoding.proofs.put_entries.Given as goal

abbrev pub invariant-loop-k : goal.invariant-loop-k
invariant-loop-k l = (l.k ≤ l.count) × (l.next ≡ l.at + entries_size l.bytes l.formats l.list l.k) × (l.out ≡ put l.initial.out l.at (entries_octets l.bytes l.formats (take l.k l.list)))
