-- `table_finding::due` meets its contract: what is best from the place i on is what was asked for. Assumes nothing.
use Rattle.std.specs.Prelude.{None}
use mathlib.Core.Path.{◌≡◌}
use Prim.Native.Nat.{◌-◌, ◌≤◌}
use Rattle.table_finding.specs.Finding.{better_of, best, Within}
use Rattle.table_finding.proofs.due.Given as goal

abbrev pub invariant-loop-i : goal.invariant-loop-i
invariant-loop-i l = (l.i ≤ l.n) × Within l.t l.best × (best (better_of l.t l.time) l.n 0 None ≡ best (better_of l.t l.time) (l.n - l.i) l.i l.best)

abbrev pub decreases-loop-i : goal.decreases-loop-i
decreases-loop-i l = l.n - l.i
