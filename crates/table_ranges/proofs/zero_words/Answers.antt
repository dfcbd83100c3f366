-- What `fold` gathers is 0 where each word is. Assumes nothing.
use Rattle.std.proofs.Common.{ℕ, ◌+◌, ◌*◌, rules, bit_or, refl}
use Rattle.std.proofs.lemmas.Iterator.{YieldsList-from_range}
use Rattle.std.proofs.lemmas.Iterator.Consumers.{fold_from_yields_List}
use Rattle.base_octets.specs.Octets.{num, gets}
use Rattle.table_ranges.proofs.Zeros.{words_zero}
use Rattle.table_ranges.proofs.zero_words.Goals as goal

pub returns : goal.returns
returns c =
    words_zero c.args.t.now c.args.at c.args.n _
    (fold_from_yields_List _ (λ (a i : ℕ). bit_or a (num (gets 8 (c.args.at + i * 8) c.args.t.now))) 0 _ c.fold.ensures.ran (YieldsList-from_range _ _ _ refl refl) (λ a x b q k. (search rules, search rules)))
