-- What `fold` gathers is 0 where each octet is. Assumes nothing.
use Rattle.std.proofs.Common.{rules, bit_or}
use Rattle.std.proofs.lemmas.Iterator.{YieldsList-from_slice}
use Rattle.std.proofs.lemmas.Iterator.Consumers.{fold_from_yields_List}
use Rattle.table_ranges.proofs.Zeros.{octets_zero}
use Rattle.table_ranges.proofs.zero_octets.Goals as goal

pub returns : goal.returns
returns c =
    octets_zero c.args.t.now c.args.at c.args.n _ c.requires
    (fold_from_yields_List _ bit_or 0 _ c.fold.ensures.ran (YieldsList-from_slice _ c.iter.ensures.rest) (λ a x b q k. (search rules, search rules)))
