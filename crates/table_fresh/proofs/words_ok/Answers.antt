-- What `all` tells of the 32 words. Assumes nothing.
use Rattle.std.proofs.Common.{ℕ, get_or, refl, rules}
use Rattle.std.proofs.lemmas.Iterator.{YieldsList-from_range}
use Rattle.base_lists.proofs.Ranges.{every_by_all}
use Rattle.table_fresh.specs.Fresh.{word_ok, words_ok}
use Rattle.table_fresh.proofs.words_ok.Goals as goal

pub returns : goal.returns
unfolding words_ok
returns c =
    let p = λ (k : ℕ). word_ok k (get_or c.args.ws.now k 0) in
    every_by_all p 32 _ _ _ c.all.ensures.ran (YieldsList-from_range _ _ _ refl refl) (λ x q k. (search rules, search rules)) (λ x q k. search rules)
