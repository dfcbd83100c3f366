-- The type and reason of an abort that a row shows are those received, else the provider's with the reason sent, or 8 where none is sent. Assumes nothing.
use Prim.Native.Nat.{ℕ}
use mathlib.Core.Path.{◌≡◌, refl}
use mathlib.Core.Bool.{Bool, true, false}
use Rattle.base_lists.specs.Seq.{pick, tab}
use Rattle.row_events.specs.Events.{row_numbered}
use Rattle.row_events.specs.declared.Row.{Row}
use Rattle.row_columns.specs.Columns.{act_with, taken, acked, stored, shown}
use Rattle.row_columns.specs.declared.Act.{Act}
use Rattle.row_columns.specs.declared.Indication.{Indication}
use Rattle.row_entries.specs.Acts.{act_of}
use Rattle.law_rows.specs.Shown.{is_abort}
use Rattle.law_rows_done.specs.Leaves.{abort_by}
use Rattle.law_rows_done.proofs.Columns.{column, at_each_row}

module _ (kind reason : ℕ) where
  -- an indication where it is an abort, else the abort that is named
  abbrev abortOr : Row → Indication → Act → Indication
  abortOr row i a = pick (is_abort i) i (abort_by row kind reason a.send)

  named : (row : Row) (i : Indication) (a : Act) → is_abort i ≡ true → abortOr row i a ≡ abort_by row kind reason a.send → i ≡ abort_by row kind reason a.send
  named row i a e h = rw e at h

  abbrev act : Bool → Row → Act
  act tidok row = act_of row tidok kind reason

  -- the first indication
  pub abort_named : (row : Row) (tidok : Bool) → is_abort (act tidok row).first ≡ true → (act tidok row).first ≡ abort_by row kind reason (act tidok row).send
  unfolding tab act_of act_with taken acked stored shown
  abort_named row tidok e =
      named row (act tidok row).first (act tidok row) e
      (at_each_row (λ x. abortOr x (act tidok x).first (act tidok x)) (λ x. abort_by x kind reason (act tidok x).send) (computed tidok) row)
    where
      computed : (t : Bool) → column (λ k. abortOr (row_numbered k) (act t (row_numbered k)).first (act t (row_numbered k))) 36 ≡ column (λ k. abort_by (row_numbered k) kind reason (act t (row_numbered k)).send) 36
      computed true = refl
      computed false = refl

  -- the second is none
  pub second_no_abort : (row : Row) (tidok : Bool) → is_abort (act tidok row).second ≡ false
  unfolding tab act_of act_with taken acked stored shown
  second_no_abort row tidok = at_each_row (λ x. is_abort (act tidok x).second) (λ x. false) (computed tidok) row
    where
      computed : (t : Bool) → column (λ k. is_abort (act t (row_numbered k)).second) 36 ≡ column (λ k. false) 36
      computed true = refl
      computed false = refl
