-- Each step is one of `Planned`; a PDU that fits takes no more than is left. The ends are in `Planning`, and the check finds them.
use Rattle.std.proofs.Common.{sym, ◌∙◌, rules, arith}
use Rattle.codec_joining.proofs.Planning.{fits_facts, planned_more, planned_stop, no_pdu_holds, planning}
use Rattle.codec_joining.proofs.joining_plan.Goals as goal

pub returns-then-is_empty : goal.returns-then-is_empty
returns-then-is_empty c = no_pdu_holds _ _ (search rules)

pub returns-then-not-fits : goal.returns-then-not-fits
returns-then-not-fits c = planned_stop c.loop-length.invariant.planned c.loop-length-test.true (search rules)

pub overflow_sub-left : goal.overflow_sub-left
overflow_sub-left c = omega (arith, fits_facts _ _ _ (sym c.fits.ensures ∙ c.if-not-fits.false))

pub overflow_sub-room : goal.overflow_sub-room
overflow_sub-room c = omega (arith, fits_facts _ _ _ (sym c.fits.ensures ∙ c.if-not-fits.false))

pub overflow_sub-room-in-loop-length : goal.overflow_sub-room-in-loop-length
overflow_sub-room-in-loop-length c = omega (arith, fits_facts _ _ _ (sym c.fits.ensures ∙ c.if-not-fits.false), c.length_size.ensures)

pub loop-length-preserved : goal.loop-length-preserved
loop-length-preserved c =
    rw c.length_size.ensures (planning (planned_more c.loop-length.invariant.planned c.loop-length-test.true (sym c.fits.ensures ∙ c.if-not-fits.false)))
