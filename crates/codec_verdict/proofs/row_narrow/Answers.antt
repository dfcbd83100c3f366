-- The chain tests every word of the row.
use Rattle.std.proofs.Common.{◌≡◌, ◌≤◌, ◌-◌, length, take, drop, ap, ◌∙◌, leb, rules, arith}
use Rattle.std.proofs.Math.ListN.{length-drop}
use Rattle.std.proofs.lemmas.List.{take_all}
use borrow.Author.Tests.{tests}
use Rattle.std.proofs.lemmas.Iterator.{YieldsList-from_slice, YieldsList-from_zip}
use Rattle.std.proofs.lemmas.Iterator.Search.{all_from_yields_List}
use Rattle.codec_verdict.proofs.Chains.{rows}
use Rattle.codec_verdict.proofs.row_narrow.Goals as goal

pub returns : goal.returns
returns c =
    let w = c.args.words.now in
    let most = c.args.most.now in
    let short : length (drop c.args.at w) ≤ length w - c.args.at = omega (arith, length-drop c.args.at w) in
    let left : c.iter.result.rest.now ≡ take (length w - c.args.at) (drop c.args.at w) = search rules in
    let all_left : c.zip.result.a.rest.now ≡ drop c.args.at w = ap (λ i. i.rest.now) c.zip.ensures.first ∙ left ∙ take_all (length w - c.args.at) (drop c.args.at w) short in
    all_from_yields_List {s = c.zip.result} (λ x. leb x.0 x.1) c.all.new.self _ _ c.all.ensures.ran (YieldsList-from_zip (YieldsList-from_slice (drop c.args.at w) all_left) (YieldsList-from_slice most (search rules))) (λ x b q k. search (rules, tests))
    ∙ rows w c.args.at most c.requires
