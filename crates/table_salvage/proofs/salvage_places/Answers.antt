-- Each turn does one place more.
use Rattle.std.proofs.Common.{arith}
use Rattle.table_salvage.proofs.Turns.{none_done, one_more, all_done}
use Rattle.table_salvage.proofs.salvage_places.Goals as goal

pub loop-i-init : goal.loop-i-init
loop-i-init c = none_done c.args.t.now c.args.list.now c.args.n

pub salvage_place-k-requires : goal.salvage_place-k-requires
salvage_place-k-requires c =
    let l = c.loop-i.invariant in
    (omega (arith, l.table_long, c.loop-i-test.true), omega (arith, l.list_long, l.few, c.loop-i-test.true))

pub loop-i-preserved : goal.loop-i-preserved
loop-i-preserved c =
    let l = c.loop-i in
    let s = c.salvage_place-k.ensures in
    one_more c.args.t.now c.args.list.now c.args.n l.t l.list _ _ l.k _ l.i c.loop-i-test.true l.invariant s.0 s.1 s.2

pub returns : goal.returns
returns c = all_done c.args.t.now c.args.list.now c.args.n c.loop-i.t c.loop-i.list c.loop-i.k c.loop-i.i c.loop-i-test.false c.loop-i.invariant
