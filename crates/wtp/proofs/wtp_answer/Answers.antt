-- `wtp::wtp_answer` meets its contract: too few words, or the engine's answer handed over with its last words. Assumes nothing.
use Rattle.wtp.specs.Engine.{item_told}
use Rattle.wtp.proofs.Handing.{refused_small, told_over}
use Rattle.wtp.proofs.wtp_answer.Goals as goal

pub returns-then-too_few : goal.returns-then-too_few
returns-then-too_few c = refused_small _ _ c.too_few.ensures _ _ _ c.if-too_few.true _ c.from.ensures

pub returns : goal.returns
unfolding item_told
returns c =
    told_over c.args.answer.now _ c.too_few.ensures _ _ _ c.if-too_few.false _ _ _ _ _ c.answer-r.ensures _ _ (rw c.no_item.ensures at c.tell.ensures)
