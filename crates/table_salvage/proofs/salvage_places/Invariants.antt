-- Each turn does one place more.
use Rattle.table_salvage.proofs.Turns.{Done}
use Rattle.table_salvage.proofs.salvage_places.Given as goal

abbrev pub invariant-loop-i : goal.invariant-loop-i
invariant-loop-i l = Done l.fn.t l.fn.list l.n l.t l.list l.k l.i
