-- The deadline that a row leaves is now and the interval that document 01 names, and so is an opening's. Assumes nothing.
use Prim.Native.Nat.{ℕ, zero, suc, ◌+◌, ◌-◌, ◌≤◌, ◌%◌}
use native.Mathlib.Omega.{arith}
use mathlib.Core.Path.{◌≡◌, refl, ap}
use mathlib.Core.Bool.{Bool, true, false}
use mathlib.Core.List.{List, []}
use lib.ListN.{get_or}
use lib.Dec.{ltb, eqb}
use borrow.Author.Tests.{eqb-true, ne_eqb, lt-ltb}
use Rattle.base_lists.specs.Seq.{pick, every}
use Rattle.table_record.specs.Record.{class_of, state_number, state_of}
use Rattle.table_record.specs.declared.State.{State}
use Rattle.table_record.specs.declared.Record.{Record}
use Rattle.table_record.specs.declared.Rcr.{Rcr}
use Rattle.table_layout.specs.declared.Settings.{Settings}
use Rattle.table_tids.specs.Tids.{row_number, interval_of}
use Rattle.row_events.specs.declared.Event.TheVariants as Event
use Rattle.row_events.specs.declared.Row.{Row}
use Rattle.row_events.specs.declared.Opening.{Opening}
use Rattle.row_events.proofs.Finite.{at_state}
use Rattle.row_columns.specs.declared.Next.{Next}
use Rattle.row_columns.specs.declared.Next.TheVariants.{Stays, Ends, Goes}
use Rattle.row_columns.specs.declared.Timer.{Timer}
use Rattle.row_columns.specs.declared.Act.{Act}
use Rattle.row_entries.specs.Acts.{act_of, opening_act}
use Rattle.row_turns.specs.Turns.{stopped_at, new_record, moved_to, record_after, turn_of, row_turn, opening_turn}
use Rattle.row_turns.specs.declared.Given.{Given}
use Rattle.law_rows_done.specs.LiveRows.{document_act}
use Rattle.law_rows_done.specs.OpeningRows.{document_opening_act}
use Rattle.law_rows_done.specs.Leaves.{timer_of, opening_timer, Named}
use Rattle.law_rows_done.proofs.SameActs.{acts_are_listed, opening_acts_are_listed}

-- the first row of intervals is class 1's, the second class 2's
row_of_class : (s : State) → 1 ≤ state_number s → row_number (class_of s) ≡ class_of s - 1
unfolding every state_of
row_of_class s live =
    go (eqb (state_number s) 0) refl (at_state (λ x e c. pick (eqb (state_number x) 0) true (eqb (row_number (class_of x)) (class_of x - 1))) refl s Event.Timer (record { more = false; mark = false; limited = false }))
  where
    go : (b : Bool) → eqb (state_number s) 0 ≡ b → pick b true (eqb (row_number (class_of s)) (class_of s - 1)) ≡ true → row_number (class_of s) ≡ class_of s - 1
    go true e h = absurd (omega (arith, live, eqb-true (state_number s) 0 e))
    go false e h = eqb-true (row_number (class_of s)) (class_of s - 1) h

interval_named : (rows : List (List ℕ)) (s : State) (rcr : Rcr) → 1 ≤ state_number s → rcr.0 ≤ 8 → interval_of rows (class_of s) rcr ≡ get_or (get_or rows (class_of s - 1) []) rcr.0 0
unfolding interval_of
interval_named rows s rcr live small =
    let n : rcr.0 % 9 ≡ rcr.0 = omega arith in
    rw (row_of_class s live, n) refl

-- no limit, or one of the settings
stopped : (time limit : ℕ) → stopped_at time limit ≡ pick (ltb 0 limit) (time + limit) 0
unfolding stopped_at
stopped time zero = refl
stopped time (suc n) = rw (ne_eqb (suc n) 0 (λ (e : suc n ≡ 0). omega arith), lt-ltb 0 (suc n) (omega arith)) refl

module _ (g : Given) (s : Settings) (rows : List (List ℕ)) (r : Record) where
  moved_named : (a : Act) (state : State) (timer : Timer) → a.timer ≡ timer → Named g s rows r timer (moved_to state a r g s rows)
  unfolding moved_to
  moved_named a state Timer.Runs e live small = rw e (refl, refl)
  moved_named a state Timer.Stop e live small = rw e (stopped g.time s.limit, refl)
  moved_named a state Timer.A e live small = rw e (refl, refl)
  moved_named a state Timer.W e live small = rw e (refl, refl)
  moved_named a state Timer.R e live small = rw e (ap (λ n. g.time + n) (interval_named rows state _ live small), refl)

  after_named : (a : Act) (next : Next) (timer : Timer) → a.timer ≡ timer → Named g s rows r timer (record_after next a r g s rows)
  unfolding record_after new_record
  after_named a Stays timer e = moved_named a r.state timer e
  after_named a Ends timer e = λ live small. absurd (omega (arith, live))
  after_named a (Goes state) timer e = moved_named a state timer e

  -- a live record under its row
  pub row_deadline : (row : Row) → Named g s rows r (timer_of row) (row_turn row r g s rows).after
  unfolding row_turn turn_of document_act
  row_deadline row =
      let a : Act = act_of row r.tidok_sent g.kind g.reason in
      after_named a a.next (timer_of row) (ap (λ (x : Act). x.timer) (acts_are_listed row r.tidok_sent g.kind g.reason))

  -- a new record under its opening
  pub opening_deadline : (opening : Opening) → Named g s rows r (opening_timer opening) (opening_turn opening r g s rows).after
  unfolding opening_turn turn_of document_opening_act
  opening_deadline opening =
      let a : Act = opening_act opening in
      after_named a a.next (opening_timer opening) (ap (λ (x : Act). x.timer) (opening_acts_are_listed opening))
