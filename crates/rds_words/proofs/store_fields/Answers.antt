-- The three stores are one.
use Rattle.std.proofs.Common.{◌≡◌, ◌∙◌, length, arith}
use Rattle.rds_words.specs.Words.{words_of}
use Rattle.rds_words.proofs.EntryWords.{three_stores}
use Rattle.rds_words.proofs.store_fields.Goals as goal

pub returns : goal.returns
unfolding words_of
returns c =
    let front = c.head_words in
    let middle = c.body_words in
    let la : length front.result ≡ 11 = omega arith in
    let lb : length middle.result ≡ 13 = omega arith in
    c.store_list.ensures
    ∙ rw (c.store-2.ensures, c.store.ensures, middle.ensures, front.ensures)
    (three_stores c.args.fields.now _ _ _ (rw front.ensures at la) (rw middle.ensures at lb))
