-- Each way through it is a case of the definition.
use Rattle.std.proofs.Common.{length, refl}
use borrow.Author.Tests.{lt-ltb, le-ltb}
use Rattle.base_layout.specs.Layout.{answer_size}
use Rattle.c_codec.specs.Calls.{write_number, write_output, write_answer}
use Rattle.c_codec.proofs.Outcomes.{writing}
use Rattle.c_codec.proofs.write.Goals as goal

pub returns-then-answer-lt-ANSWER_SIZE : goal.returns-then-answer-lt-ANSWER_SIZE
unfolding write_number write_output write_answer
returns-then-answer-lt-ANSWER_SIZE c =
    rw (lt-ltb (length c.args.answer.now) answer_size c.if-answer-lt-ANSWER_SIZE.true) (c.from.ensures, refl, refl)

pub returns-in-Ok : goal.returns-in-Ok
unfolding write_number write_output write_answer
returns-in-Ok c =
    let w = writing c.args.fields.now c.args.bytes.now c.args.out.now _ _ c.write.ensures in
    rw (le-ltb (length c.args.answer.now) answer_size c.if-answer-lt-ANSWER_SIZE.false, w.1, ← w.0, c.in-Ok.is) (refl, refl, c.store_length.ensures)

pub returns-in-Err : goal.returns-in-Err
unfolding write_number write_output write_answer
returns-in-Err c =
    let w = writing c.args.fields.now c.args.bytes.now c.args.out.now _ _ c.write.ensures in
    rw (le-ltb (length c.args.answer.now) answer_size c.if-answer-lt-ANSWER_SIZE.false, w.1, ← w.0, c.in-Err.is) (c.from-in-Err.ensures, refl, refl)
