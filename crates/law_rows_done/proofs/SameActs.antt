-- What the engine's rows do is what document 01's lists say, in every column, for every row. Assumes nothing.
use Prim.Native.Nat.{ℕ}
use mathlib.Core.Path.{◌≡◌, refl}
use mathlib.Core.Bool.{Bool, true, false}
use Rattle.base_lists.specs.Seq.{tab}
use Rattle.row_events.specs.Events.{row_numbered}
use Rattle.row_events.specs.declared.Row.{Row}
use Rattle.row_events.specs.declared.Opening.{Opening}
use Rattle.row_columns.specs.Columns.{act_with, taken, acked, stored, shown}
use Rattle.row_entries.specs.Acts.{act_of, opening_act}
use Rattle.law_rows_done.specs.LiveRows.{document_act}
use Rattle.law_rows_done.specs.OpeningRows.{document_opening_act}
use Rattle.law_rows_done.proofs.Columns.{column, at_each_row, at_each_opening}

-- what a row of a live record does, whether or not a TIDok was sent and whatever abort came
pub acts_are_listed : (row : Row) (tidok : Bool) (kind reason : ℕ) → act_of row tidok kind reason ≡ document_act row tidok kind reason
unfolding tab act_of act_with taken acked stored shown document_act
acts_are_listed row tidok kind reason = at_each_row (λ x. act_of x tidok kind reason) (λ x. document_act x tidok kind reason) (computed tidok) row
  where
    computed : (t : Bool) → column (λ k. act_of (row_numbered k) t kind reason) 36 ≡ column (λ k. document_act (row_numbered k) t kind reason) 36
    computed true = refl
    computed false = refl

-- what a request, or a PDU without a live record, does
pub opening_acts_are_listed : (opening : Opening) → opening_act opening ≡ document_opening_act opening
unfolding tab opening_act act_with stored shown document_opening_act
opening_acts_are_listed opening = at_each_opening opening_act document_opening_act refl opening
