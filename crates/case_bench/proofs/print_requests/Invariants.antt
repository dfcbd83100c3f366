use Rattle.std.proofs.Common.{◌≤◌, length}
use Rattle.case_bench.proofs.print_requests.Given as goal

abbrev pub invariant-loop : goal.invariant-loop
invariant-loop g l = l.len ≤ length l.data
