-- The part that the loop finds is inside of the datagram; where none is found, or nothing is left, the parts passed decide.
use Rattle.std.proofs.Common.{◌≡◌, sym, ap, Some, None, rules, arith}
use Rattle.codec_separation.specs.Separate.{Split, answer_at, part_at}
use Rattle.codec_separation.proofs.Steps.{found_inside}
use Rattle.codec_separation.proofs.Passed.{passed_cut, passed_answer}
use Rattle.codec_separation.proofs.walk.Goals as goal

pub returns-in_err-part : goal.returns-in_err-part
returns-in_err-part c =
    let none : part_at c.args.d.now c.loop-at.at ≡ None = search rules in
    let cut = ap (λ (s : Split). answer_at s c.args.k) (passed_cut c.loop-at-test.true c.loop-at.invariant none) in
    search (rules, sym cut)

pub overflow_add-at : goal.overflow_add-at
overflow_add-at c =
    let found : part_at c.args.d.now c.loop-at.at ≡ Some c.in_ok-part.part = search rules in
    omega (arith, (found_inside _ _ _ c.loop-at-test.true found).fits)

pub loop-at-smaller : goal.loop-at-smaller
loop-at-smaller c =
    let found : part_at c.args.d.now c.loop-at.at ≡ Some c.in_ok-part.part = search rules in
    omega (arith, found_inside _ _ _ c.loop-at-test.true found)

pub returns : goal.returns
returns c = passed_answer c.loop-at-test.false c.loop-at.invariant
