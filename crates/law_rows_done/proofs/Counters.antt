-- RCR and AEC after a row are what document 01 counts: as they were, 0, or one more. Assumes nothing.
use Prim.Native.Nat.{ℕ, ◌≤◌}
use native.Mathlib.Omega.{arith}
use borrow.Author.Tests.{ltb-true}
use mathlib.Core.Path.{◌≡◌, refl, ap}
use mathlib.Core.Bool.{true}
use mathlib.Core.List.{List}
use lib.Dec.{ltb}
use Rattle.table_record.specs.declared.Record.{Record}
use Rattle.table_record.specs.declared.State.{State}
use Rattle.table_layout.specs.declared.Settings.{Settings}
use Rattle.row_events.specs.declared.Event.{Event}
use Rattle.row_events.specs.declared.Row.{Row}
use Rattle.row_choice.specs.Rows.{row_of}
use Rattle.row_conditions.specs.Conditions.{conditions_of}
use Rattle.row_columns.specs.declared.Next.{Next}
use Rattle.row_columns.specs.declared.Next.TheVariants.{Stays, Ends, Goes}
use Rattle.row_columns.specs.declared.Count.{Count}
use Rattle.row_columns.specs.declared.Act.{Act}
use Rattle.row_turns.specs.Turns.{new_record, moved_to, record_after, turn_of, row_turn}
use Rattle.row_turns.specs.declared.Given.{Given}
use Rattle.law_rows.specs.Shown.{act_at}
use Rattle.law_rows.proofs.Range.{allowed, counts_allowed, up_exact}
use Rattle.law_rows_done.specs.LiveRows.{document_act}
use Rattle.law_rows_done.specs.Leaves.{count_of, Counted}
use Rattle.law_rows_done.proofs.SameActs.{acts_are_listed}

module _ (g : Given) (s : Settings) (rows : List (List ℕ)) (r : Record) (rcr_max : s.rcr_max ≤ 8) (aec_max : s.aec_max ≤ 8) where
  moved_counted : (a : Act) (state : State) (count : Count) → a.count ≡ count → allowed count (ltb r.rcr.0 s.rcr_max) (ltb r.aec.0 s.aec_max) ≡ true
      → Counted r count (moved_to state a r g s rows)
  unfolding moved_to
  moved_counted a state Count.Same e ok live = rw e (refl, refl)
  moved_counted a state Count.RcrZero e ok live = rw e (refl, refl)
  moved_counted a state Count.RcrUp e ok live = rw e (up_exact r.rcr.0 s.rcr_max (ltb-true r.rcr.0 s.rcr_max ok) rcr_max, refl)
  moved_counted a state Count.AecZero e ok live = rw e (refl, refl)
  moved_counted a state Count.AecUp e ok live = rw e (refl, up_exact r.aec.0 s.aec_max (ltb-true r.aec.0 s.aec_max ok) aec_max)

  after_counted : (a : Act) (next : Next) (count : Count) → a.count ≡ count → allowed count (ltb r.rcr.0 s.rcr_max) (ltb r.aec.0 s.aec_max) ≡ true
      → Counted r count (record_after next a r g s rows)
  unfolding record_after new_record
  after_counted a Stays count e ok = moved_counted a r.state count e ok
  after_counted a Ends count e ok = λ live. absurd (omega (arith, live))
  after_counted a (Goes state) count e ok = moved_counted a state count e ok

  -- a live record under the row that its event meets
  pub row_counts : (event : Event) → let row = row_of r.state event (conditions_of s r) in Counted r (count_of row) (row_turn row r g s rows).after
  unfolding row_turn turn_of document_act
  row_counts event =
      let row : Row = row_of r.state event (conditions_of s r) in
      let a : Act = act_at r.state event (conditions_of s r) r.tidok_sent g.kind g.reason in
      let is : a.count ≡ count_of row = ap (λ (x : Act). x.count) (acts_are_listed row r.tidok_sent g.kind g.reason) in
      after_counted a a.next (count_of row) is (rw is at (counts_allowed g.kind g.reason r.tidok_sent event s r))
