-- The chain tests every item that there is a place for.
use Rattle.std.proofs.Common.{ℕ, Bool, ◌+◌, ◌*◌, refl, sym, ◌∙◌, rules, arith}
use borrow.Author.Tests.{tests}
use Rattle.std.proofs.lemmas.Iterator.{YieldsList-from_range}
use Rattle.std.proofs.lemmas.Iterator.Search.{all_from_yields_List}
use Rattle.codec_said.specs.Said.{word, items_said}
use Rattle.codec_verdict.specs.Length.{placed}
use Rattle.codec_verdict.specs.Widths.{inside}
use Rattle.codec_verdict.specs.Judge.{item_inside, items_inside}
use Rattle.codec_verdict.proofs.Chains.{every_same, listed}
use Rattle.codec_verdict.proofs.SaidItems.{said_inside}
use Rattle.codec_verdict.proofs.items_inside.Goals as goal

pub returns : goal.returns
unfolding items_inside
returns c =
    let w = c.args.words.now in
    let n = c.args.n in
    let last = placed (word w 15) in
    let test : ℕ → Bool = λ k. inside n (word w (24 + 4 * k + 2)) (word w (24 + 4 * k + 3)) in
    all_from_yields_List test _ _ _ c.all.ensures.ran (YieldsList-from_range 0 last last (rw c.places.ensures refl) (omega arith)) (λ x b q k. search (rules, tests))
    ∙ listed test last
    ∙ every_same test (item_inside n (items_said w)) last (λ k l. sym (said_inside w n k (omega arith)))
