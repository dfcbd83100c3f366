-- The names passed are new in the half, and its keys are gathered.
use Rattle.std.proofs.Common.{◌≡◌, ◌-◌, ◌≤◌, true}
use Rattle.base_lists.specs.Seq.{every}
use Rattle.table_names_ok.specs.Names.{new_in_half}
use Rattle.table_names_ok.proofs.Keys.{Keys}
use Rattle.table_names_ok.proofs.half_ok.Given as goal

abbrev pub invariant-loop-i : goal.invariant-loop-i
invariant-loop-i l = (l.from ≤ l.i) × (l.i - l.from ≤ l.n - l.from) × Keys l.t l.from l.keys (l.i - l.from) × (every (new_in_half l.t l.from) (l.i - l.from) ≡ true)
