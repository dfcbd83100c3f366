-- The octets sent that a row leaves in the record are those that document 02 counts, and so are an opening's. Assumes nothing.
use Prim.Native.Nat.{ℕ, ◌+◌}
use native.Mathlib.Omega.{arith}
use mathlib.Core.Path.{◌≡◌, refl, ap, ◌∙◌}
use mathlib.Core.Bool.{Bool, true, false}
use mathlib.Core.List.{List}
use lib.Dec.{ltb, leb}
use borrow.Author.Tests.{ltb-true, ltb-false, leb-true, leb-false}
use Rattle.base_lists.specs.Seq.{pick, tab}
use Rattle.table_record.specs.declared.Record.{Record}
use Rattle.table_layout.specs.declared.Settings.{Settings}
use Rattle.row_events.specs.Events.{row_numbered}
use Rattle.row_events.specs.declared.Row.{Row}
use Rattle.row_events.specs.declared.Opening.{Opening}
use Rattle.row_columns.specs.Columns.{act_with, taken, acked, stored, shown}
use Rattle.row_columns.specs.declared.Next.{Next}
use Rattle.row_columns.specs.declared.Next.TheVariants.{Stays, Ends, Goes}
use Rattle.row_columns.specs.declared.Act.{Act}
use Rattle.row_entries.specs.Acts.{act_of, opening_act}
use Rattle.row_turns.specs.Turns.{len_after, cost_of, sent_after, new_record, moved_to, record_after, turn_of, row_turn, opening_turn}
use Rattle.row_turns.specs.declared.Given.{Given}
use Rattle.law_rows_done.specs.LiveRows.{document_act}
use Rattle.law_rows_done.specs.OpeningRows.{document_opening_act}
use Rattle.law_rows_done.specs.Leaves.{next_of, opening_next, row_cost, opening_cost, least, sent_by}
use Rattle.law_rows_done.proofs.Columns.{column, at_each_row, at_each_opening}
use Rattle.law_rows_done.proofs.SameActs.{acts_are_listed, opening_acts_are_listed}

-- a sum that stops where it reaches its most is the lesser of the two
stops : (sum most : ℕ) → sent_after sum most ≡ least sum most
unfolding sent_after
stops sum most = go (ltb sum most) refl (leb sum most) refl
  where
    go : (a : Bool) → ltb sum most ≡ a → (b : Bool) → leb sum most ≡ b → pick a sum most ≡ pick b sum most
    go true less true le = refl
    go true less false gt = absurd (omega (arith, ltb-true sum most less, leb-false sum most gt))
    go false more true le = omega (arith, ltb-false sum most more, leb-true sum most le)
    go false more false gt = refl

module _ (g : Given) (s : Settings) (rows : List (List ℕ)) (r : Record) where
  -- the length of the message in the cell that an act leaves
  abbrev len : Act → ℕ
  len a = len_after a.cell r.len g.len

  after_sent : (a : Act) (next : Next) → (record_after next a r g s rows).sent ≡ sent_by next r.sent (cost_of a.send (len a)) s
  unfolding record_after moved_to new_record
  after_sent a Stays = stops (r.sent + cost_of a.send (len a)) _
  after_sent a Ends = refl
  after_sent a (Goes state) = stops (r.sent + cost_of a.send (len a)) _

  row_cost_holds : (row : Row) → let a : Act = act_of row r.tidok_sent g.kind g.reason in cost_of a.send (len a) ≡ row_cost row r.tidok_sent r.len
  unfolding tab act_of act_with taken acked stored shown
  row_cost_holds row = at_each_row (cost r.tidok_sent) (λ x. row_cost x r.tidok_sent r.len) (computed r.tidok_sent) row
    where
      cost : Bool → Row → ℕ
      cost t x = cost_of (act_of x t g.kind g.reason).send (len (act_of x t g.kind g.reason))

      computed : (t : Bool) → column (λ k. cost t (row_numbered k)) 36 ≡ column (λ k. row_cost (row_numbered k) t r.len) 36
      computed true = refl
      computed false = refl

  -- a live record under its row
  pub row_sent : (row : Row) → (row_turn row r g s rows).after.sent ≡ sent_by (next_of row) r.sent (row_cost row r.tidok_sent r.len) s
  unfolding row_turn turn_of document_act
  row_sent row =
      let a : Act = act_of row r.tidok_sent g.kind g.reason in
      after_sent a a.next
      ∙ ap (λ (n : ℕ). sent_by a.next r.sent n s) (row_cost_holds row)
      ∙ ap (λ (x : Act). sent_by x.next r.sent (row_cost row r.tidok_sent r.len) s) (acts_are_listed row r.tidok_sent g.kind g.reason)

  -- what an opening that opens no record sends isn't counted
  abbrev keptCost : Act → Next → ℕ
  keptCost a Stays = cost_of a.send (len a)
  keptCost a Ends = 0
  keptCost a (Goes state) = cost_of a.send (len a)

  kept_sent : (a : Act) (next : Next) → sent_by next r.sent (cost_of a.send (len a)) s ≡ sent_by next r.sent (keptCost a next) s
  kept_sent a Stays = refl
  kept_sent a Ends = refl
  kept_sent a (Goes state) = refl

  opening_cost_holds : (opening : Opening) → keptCost (opening_act opening) (opening_act opening).next ≡ opening_cost opening g.len
  unfolding tab opening_act act_with stored shown
  opening_cost_holds opening = at_each_opening (λ x. keptCost (opening_act x) (opening_act x).next) (λ x. opening_cost x g.len) refl opening

  -- a new record under its opening
  pub opening_sent : (opening : Opening) → (opening_turn opening r g s rows).after.sent ≡ sent_by (opening_next opening) r.sent (opening_cost opening g.len) s
  unfolding opening_turn turn_of document_opening_act
  opening_sent opening =
      let a : Act = opening_act opening in
      after_sent a a.next
      ∙ kept_sent a a.next
      ∙ ap (λ (n : ℕ). sent_by a.next r.sent n s) (opening_cost_holds opening)
      ∙ ap (λ (x : Act). sent_by x.next r.sent (opening_cost opening g.len) s) (opening_acts_are_listed opening)
