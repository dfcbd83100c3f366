-- The sum of header, user data and items, one turn after the other.
use Rattle.std.proofs.Common.{arith}
use Rattle.codec_verdict.proofs.Steps.{none_so_far, one_more_item, all_so_far}
use Rattle.codec_verdict.proofs.over_long.Goals as goal

pub loop-k-init : goal.loop-k-init
loop-k-init c = none_so_far c.args.words.now _ _ c.header_length.ensures c.capped-sum.ensures

pub loop-k-preserved : goal.loop-k-preserved
loop-k-preserved c =
    let form = rw c.form_length.ensures at c.capped.ensures in
    one_more_item c.args.words.now c.loop-k.k c.loop-k.sum _ _ c.loop-k.invariant form c.capped-sum-in-loop-k.ensures

pub returns : goal.returns
returns c =
    all_so_far c.args.words.now c.loop-k.k _ c.loop-k.sum (omega arith) c.loop-k-test.false c.places-k-end.ensures c.loop-k.invariant
