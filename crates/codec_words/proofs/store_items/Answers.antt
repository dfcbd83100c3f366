-- Each step counts one item in, if there is one, and stores its words.
use Rattle.std.proofs.Common.{◌≡◌, ◌+◌, ◌-◌, ◌*◌, refl, sym, ◌∙◌, arith}
use Rattle.base_lists.proofs.StoresAndParts.{put_nil}
use Rattle.codec_words.specs.Words.{items_words}
use Rattle.codec_words.specs.Listed.{one_of, list_from, count_from}
use Rattle.codec_words.proofs.Listed.{one_at_most, one_counted, one_stored}
use Rattle.codec_words.proofs.store_items.Goals as goal

pub loop-k-preserved : goal.loop-k-preserved
loop-k-preserved c =
    let l = c.loop-k in
    let g = c.placed_at-got in
    let s = c.args.s.now in
    let one : c.from-count.result ≡ one_of g.result = c.from-count.ensures ∙ rw c.is_some.ensures refl in
    record {
      few = omega (arith, one_at_most g.result);
      counted = rw c.next_of-at.ensures (omega (arith, one_counted s l.at l.k c.loop-k-test.true g.result g.ensures, l.invariant.counted));
      stored = rw (c.next_of-at.ensures, c.store.ensures, c.item_words.ensures) (one_stored s l.at l.k c.loop-k-test.true g.result g.ensures l.fields ∙ l.invariant.stored);
    }

pub returns : goal.returns
unfolding count_from list_from items_words
returns c =
    let l = c.loop-k in
    let none : 16 - l.k ≡ 0 = omega (arith, c.loop-k-test.false) in
    (omega (arith, rw none at l.invariant.counted), sym (put_nil l.fields (24 + 4 * l.k)) ∙ rw none at l.invariant.stored)
