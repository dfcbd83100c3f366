-- An iteration takes the better of the best so far and this record; none is left at the end.
use Rattle.std.proofs.Common.{◌≡◌, ◌∙◌, sym, ap, arith, rules}
use Rattle.table_finding.specs.Finding.{better_of, best, due_of}
use Rattle.table_finding.proofs.Best.{turn, over, weighed, passed_over, better_within}
use Rattle.table_finding.proofs.due.Goals as goal
use Rattle.table_finding.proofs.due.Goals.{then-is_due, else-is_due}

pub loop-i-preserved : goal.loop-i-preserved
loop-i-preserved c =
    let t = c.args.t.now in
    let d = sym c.is_due.ensures in
    let e : c.if-is_due.best ≡ better_of t c.args.time c.loop-i.i c.loop-i.best = elim c.if-is_due.branch [
      | then-is_due w ↦ w.best-is ∙ w.earlier_of-best.ensures ∙ weighed t c.args.time c.loop-i.i c.loop-i.best (d ∙ w.if-is_due.true)
      | else-is_due w ↦ w.best-is ∙ passed_over t c.args.time c.loop-i.i c.loop-i.best (d ∙ w.if-is_due.false)
    ] in (
      search rules,
      rw e (better_within t c.args.time c.loop-i.i (omega arith) c.loop-i.best c.loop-i.invariant.1),
      c.loop-i.invariant.2 ∙ turn (better_of t c.args.time) c.args.n c.loop-i.i c.loop-i.best c.loop-i-test.true ∙ ap (best _ _ _) (sym e),
    )

pub returns : goal.returns
unfolding due_of
returns c = sym (c.loop-i.invariant.2 ∙ over _ _ _ _ c.loop-i-test.false)
