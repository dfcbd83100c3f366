-- The chain tests every item.
use Rattle.std.proofs.Common.{refl, ◌∙◌, rules}
use borrow.Author.Tests.{tests}
use Rattle.std.proofs.lemmas.Iterator.{YieldsList-from_range}
use Rattle.std.proofs.lemmas.Iterator.Search.{all_from_yields_List}
use Rattle.codec_verdict.specs.Widths.{item_narrow, items_narrow}
use Rattle.codec_verdict.proofs.Chains.{listed}
use Rattle.codec_verdict.proofs.items_narrow.Goals as goal

pub returns : goal.returns
unfolding items_narrow
returns c =
    all_from_yields_List (item_narrow c.args.words.now) _ _ _ c.all.ensures.ran (YieldsList-from_range 0 16 16 refl refl) (λ x b q k. search (rules, tests))
    ∙ listed (item_narrow c.args.words.now) 16
