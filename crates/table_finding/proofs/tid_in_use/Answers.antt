-- What `any` tells is whether there is a lowest place. Assumes nothing.
use Rattle.std.proofs.Common.{ℕ, refl, rules}
use Rattle.std.proofs.lemmas.Iterator.{YieldsList-from_range}
use Rattle.base_lists.proofs.Ranges.{some_by_any}
use Rattle.table_layout.specs.Table.{record_at}
use Rattle.table_finding.specs.Finding.{uses_tid, tid_in_use}
use Rattle.table_finding.proofs.First.{some_is}
use Rattle.table_finding.proofs.tid_in_use.Goals as goal

pub returns : goal.returns
unfolding tid_in_use
returns c =
    let p = λ (i : ℕ). uses_tid c.args.tid (record_at c.args.t.now i) in
    some_is p _ _ (some_by_any p _ _ _ _ c.any.ensures.ran (YieldsList-from_range _ _ _ refl refl) (λ x q k. search rules) (λ x q k. (search rules, search rules)))
