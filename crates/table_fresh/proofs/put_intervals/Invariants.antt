-- What is written from word k on is what was asked for.
use Rattle.std.proofs.Common.{◌≡◌, ◌+◌, ◌*◌, ◌-◌, ◌≤◌}
use Rattle.base_lists.specs.Seq.{put}
use Rattle.table_fresh.specs.Fresh.{four_each}
use Rattle.table_fresh.proofs.put_intervals.Given as goal

abbrev pub invariant-loop-k : goal.invariant-loop-k
invariant-loop-k l = (l.k ≤ 20) × (put l.fn.t 12 (four_each 20 2 l.ws) ≡ put l.t (12 + l.k * 4) (four_each (20 - l.k) (2 + l.k) l.ws))

abbrev pub decreases-loop-k : goal.decreases-loop-k
decreases-loop-k l = 20 - l.k
