-- The tests against both halves are the test of the names.
use Rattle.std.proofs.Common.{◌∙◌, sym, refl}
use Rattle.table_names_ok.proofs.Halves.{halves}
use Rattle.table_names_ok.proofs.names_ok.Goals as goal

pub returns-else-half_ok : goal.returns-else-half_ok
returns-else-half_ok c = c.if-half_ok.false ∙ rw (← halves c.args.t.now c.args.n c.requires.1, sym c.half_ok.ensures ∙ c.if-half_ok.false) refl

pub returns-then-half_ok : goal.returns-then-half_ok
returns-then-half_ok c = rw (← halves c.args.t.now c.args.n c.requires.1, sym c.half_ok.ensures ∙ c.if-half_ok.true) c.half_ok-then-half_ok.ensures
