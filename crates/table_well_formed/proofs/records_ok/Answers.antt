-- What `all` tells of the records. Assumes nothing.
use Rattle.std.proofs.Common.{refl, rules}
use Rattle.std.proofs.lemmas.Iterator.{YieldsList-from_range}
use Rattle.base_lists.proofs.Ranges.{every_by_all}
use Rattle.table_record_ok.specs.OneRecord.{record_ok}
use Rattle.table_well_formed.proofs.records_ok.Goals as goal

pub returns : goal.returns
returns c =
    every_by_all (record_ok c.args.t.now c.args.s) c.args.n _ _ _ c.all.ensures.ran (YieldsList-from_range _ _ _ refl refl) (λ x q k. (search rules, search rules)) (λ x q k. search rules)
