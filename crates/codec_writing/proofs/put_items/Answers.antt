-- A turn stores the next item, which fits and for which there is room.
use Rattle.std.proofs.Common.{◌≤◌, length, sym, ◌∙◌, arith}
use Rattle.codec_items.specs.Items.{no_item}
use Rattle.codec_said.specs.Said.{items_said}
use Rattle.codec_encoding.proofs.Left.{left_all, next_fits, next_room, left_fewer, left_none}
use Rattle.codec_verdict.proofs.SaidItems.{said_full, said_at}
use Rattle.codec_writing.proofs.put_items.Goals as goal

pub loop-k-init : goal.loop-k-init
loop-k-init c = left_all c.args.src.now (items_said c.args.words.now) c.args.n c.args.out.now c.args.at c.requires.fit_items

pub put_item-next-requires : goal.put_item-next-requires
put_item-next-requires c =
    let a = c.args in
    let w = a.words.now in
    let l = c.loop-k in
    let full : a.n ≤ length (items_said w) = omega (arith, c.requires.in_bounds, said_full w) in
    rw (c.item_said-it.ensures ∙ sym (said_at w l.k (omega (arith, c.requires.in_bounds, c.loop-k-test.true))))
    (record {
      fit_item = next_fits a.src.now (items_said w) a.n a.out.now a.at no_item l.out l.next l.k c.loop-k-test.true full l.invariant;
      it_in_bounds = next_room a.src.now (items_said w) a.n a.out.now a.at no_item l.out l.next l.k c.loop-k-test.true full l.invariant c.requires.words_in_bounds;
    })

pub loop-k-preserved : goal.loop-k-preserved
loop-k-preserved c =
    let a = c.args in
    let w = a.words.now in
    let l = c.loop-k in
    let full : a.n ≤ length (items_said w) = omega (arith, c.requires.in_bounds, said_full w) in
    let is = c.item_said-it.ensures ∙ sym (said_at w l.k (omega (arith, c.requires.in_bounds, c.loop-k-test.true))) in
    rw (c.put_item-next.ensures.0, c.put_item-next.ensures.1, is)
    (left_fewer a.src.now (items_said w) a.n a.out.now a.at no_item l.out l.next l.k c.loop-k-test.true full l.invariant)

pub returns : goal.returns
returns c =
    left_none c.args.src.now (items_said c.args.words.now) c.args.n c.args.out.now c.args.at c.loop-k.out c.loop-k.next c.loop-k.k c.loop-k-test.false c.loop-k.invariant
