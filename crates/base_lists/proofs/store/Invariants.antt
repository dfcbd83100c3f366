-- After j turns the first j elements of w stand in t from `at` on.
use Rattle.base_lists.proofs.Stores.{Stored}
use Rattle.base_lists.proofs.store.Given as goal

abbrev pub invariant-loop-j : goal.invariant-loop-j
invariant-loop-j g l = Stored l.fn.t l.fn.at l.fn.w l.t l.j
