-- The stores, one after the other, are the store of all words.
use Rattle.std.proofs.Common.{◌≡◌, ◌+◌, ◌≤◌, length, ◌∙◌, arith}
use Rattle.codec_words.specs.Words.{items_words}
use Rattle.codec_words.specs.Listed.{list_from, words_from}
use Rattle.codec_words.proofs.Listed.{length_list}
use Rattle.codec_words.proofs.ItemWords.{length_items_words, five_stores}
use Rattle.codec_words.proofs.store_fields.Goals as goal

pub returns : goal.returns
unfolding words_from
returns c =
    let front = c.front_words-front in
    let invoke = c.invoke_words-invoke in
    let other = c.other_words-other in
    let rest = c.rest_words-rest in
    let items = c.store_items-count in
    let listed = list_from 16 c.args.s.now c.args.first in
    let la : length front.result ≡ 5 = omega arith in
    let lb : length invoke.result ≡ 4 = omega arith in
    let lc : length other.result ≡ 6 = omega arith in
    let ld : length rest.result ≡ 9 = omega arith in
    let fit : 24 + length (items_words listed) ≤ length c.args.fields.now = omega (arith, length_items_words listed, length_list c.args.s.now 16 c.args.first, c.requires) in
    c.store-4.ensures
    ∙ rw (c.store-3.ensures, c.store-2.ensures, c.store.ensures, items.ensures.1, rest.ensures, items.ensures.0, other.ensures, invoke.ensures, front.ensures)
    (five_stores c.args.fields.now _ _ _ _ _ (rw front.ensures at la) (rw invoke.ensures at lb) (rw other.ensures at lc) (rw (rest.ensures, items.ensures.0) at ld) fit)
