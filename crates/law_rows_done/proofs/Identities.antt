-- The identity of an unknown item that a row leaves in the record is the one that document 02 names, and so is an opening's. Assumes nothing.
use Prim.Native.Nat.{ℕ}
use mathlib.Core.Path.{◌≡◌, refl, ap, ◌∙◌}
use mathlib.Core.List.{List}
use Rattle.table_record.specs.declared.Record.{Record}
use Rattle.table_layout.specs.declared.Settings.{Settings}
use Rattle.row_events.specs.declared.Row.{Row}
use Rattle.row_events.specs.declared.Opening.{Opening}
use Rattle.row_columns.specs.declared.Next.{Next}
use Rattle.row_columns.specs.declared.Next.TheVariants.{Stays, Ends, Goes}
use Rattle.row_columns.specs.declared.Act.{Act}
use Rattle.row_entries.specs.Acts.{act_of, opening_act}
use Rattle.row_turns.specs.Turns.{new_record, moved_to, record_after, turn_of, row_turn, opening_turn}
use Rattle.row_turns.specs.declared.Given.{Given}
use Rattle.law_rows_done.specs.LiveRows.{document_act}
use Rattle.law_rows_done.specs.OpeningRows.{document_opening_act}
use Rattle.law_rows_done.specs.Leaves.{takes_item, opening_takes_item, next_of, opening_next, unknown_by}
use Rattle.law_rows_done.proofs.SameActs.{acts_are_listed, opening_acts_are_listed}

module _ (g : Given) (s : Settings) (rows : List (List ℕ)) (r : Record) where
  abbrev by : Act → ℕ
  by a = unknown_by a.next a.item r.unknown g.unknown

  after_unknown : (a : Act) (next : Next) → (record_after next a r g s rows).unknown ≡ unknown_by next a.item r.unknown g.unknown
  unfolding record_after moved_to new_record
  after_unknown a Stays = refl
  after_unknown a Ends = refl
  after_unknown a (Goes state) = refl

  -- a live record under its row
  pub row_unknown : (row : Row) → (row_turn row r g s rows).after.unknown ≡ unknown_by (next_of row) (takes_item row) r.unknown g.unknown
  unfolding row_turn turn_of document_act
  row_unknown row =
      let a : Act = act_of row r.tidok_sent g.kind g.reason in
      after_unknown a a.next ∙ ap by (acts_are_listed row r.tidok_sent g.kind g.reason)

  -- a new record under its opening
  pub opening_unknown : (opening : Opening) → (opening_turn opening r g s rows).after.unknown ≡ unknown_by (opening_next opening) (opening_takes_item opening) r.unknown g.unknown
  unfolding opening_turn turn_of document_opening_act
  opening_unknown opening = after_unknown (opening_act opening) (opening_act opening).next ∙ ap by (opening_acts_are_listed opening)
