-- The words, and a last one that covers the rest.
use Rattle.std.proofs.Common.{◌≡◌, ◌+◌, ◌∙◌, sym, arith}
use Rattle.base_layout.specs.Layout.{base, spare_base}
use Rattle.table_ranges.proofs.Zeros.{zeros_cover, num_zeros}
use Rattle.table_record_ok.proofs.spare_ok.Goals as goal

pub returns-else-zero_words : goal.returns-else-zero_words
returns-else-zero_words c =
    c.if-zero_words.false ∙ rw (sym c.zero_words.ensures ∙ c.if-zero_words.false) at (zeros_cover c.args.t.now (spare_base c.args.i) 16 11 8 (omega arith) (omega arith))

pub returns-then-zero_words : goal.returns-then-zero_words
returns-then-zero_words c =
    let i = c.args.i in
    let last : spare_base i + 11 ≡ base i + 40 = omega arith in
    rw (c.get.ensures, num_zeros 8 (base i + 40) c.args.t.now)
    (rw (sym c.zero_words.ensures ∙ c.if-zero_words.true, last) at (zeros_cover c.args.t.now (spare_base i) 16 11 8 (omega arith) (omega arith)))
