-- What is gathered is a mark exactly where an interval is out of range. Assumes nothing.
use Rattle.std.proofs.Common.{◌≡◌, ℕ, bit_or, eqb, refl, rules}
use Rattle.std.proofs.lemmas.Iterator.{YieldsList-from_range}
use Rattle.std.proofs.lemmas.Iterator.Consumers.{fold_from_yields_List}
use Rattle.base_lists.specs.Seq.{every, pick}
use Rattle.base_lists.proofs.Every.{marks_more}
use Rattle.base_lists.proofs.Ranges.{kept_by_fold}
use Rattle.table_ranges.specs.Ranges.{interval}
use Rattle.table_header_ok.specs.Header.{interval_at}
use Rattle.table_header_ok.proofs.rows_ok.Goals as goal

pub returns : goal.returns
unfolding every
returns c =
    let p = λ (k : ℕ). interval (interval_at c.args.t.now k) in
    let h = λ (m k : ℕ). bit_or m (pick (p k) 0 1) in
    kept_by_fold h (λ k m. eqb m 0 ≡ every p k) (λ k m j. marks_more p k m _ j refl) 18 0 _
    (fold_from_yields_List _ h 0 _ c.fold.ensures.ran (YieldsList-from_range _ _ _ refl refl) (λ a x b q k. (search rules, search rules)))
    refl
