-- Each step is one of `Written`, and has room.
use Rattle.std.proofs.Common.{arith}
use Rattle.std.proofs.Math.ListN.{length-set}
use Rattle.base_lists.specs.Seq.{put}
use Rattle.codec_joining.proofs.Sizes.{joinable_facts}
use Rattle.codec_joining.proofs.Writing.{written_room, written_more, written_all}
use Rattle.codec_joining.proofs.write.Goals as goal

pub put_part-at-requires : goal.put_part-at-requires
put_part-at-requires c =
    let l = c.loop-length in
    let room = written_room (joinable_facts _ _ c.requires.0) l.invariant c.loop-length-test.true in
    (room.small, room.lent, omega (arith, room.space, simp length-set at l.invariant.sized, c.requires.1))

pub overflow_add-from : goal.overflow_add-from
overflow_add-from c = omega (arith, (written_room (joinable_facts _ _ c.requires.0) c.loop-length.invariant c.loop-length-test.true).lent)

pub loop-length-preserved : goal.loop-length-preserved
loop-length-preserved c =
    let p = c.put_part-at.ensures in rw (p.0, p.1) (written_more (joinable_facts _ _ c.requires.0) c.loop-length.invariant c.loop-length-test.true)

pub returns : goal.returns
unfolding put
returns c = written_all (joinable_facts _ _ c.requires.0) c.loop-length.invariant c.loop-length-test.false
