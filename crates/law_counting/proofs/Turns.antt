-- A turn of a record that says what was counted leaves one that says so too, or frees it; either way the counts are within their limits. Assumes nothing.
use Prim.Native.Nat.{ℕ, ◌≤◌, ◌<◌}
use native.Mathlib.Omega.{arith}
use mathlib.Core.Path.{◌≡◌, refl, sym, ap, ◌∙◌}
use mathlib.Core.Bool.{Bool, true}
use mathlib.Core.List.{List}
use mathlib.Core.Logic.{inl, inr}
use borrow.Author.Tests.{leb-true, ltb-true}
use lib.Dec.{ltb}
use Rattle.base_lists.specs.Seq.{every}
use Rattle.table_record.specs.Record.{state_number}
use Rattle.table_record.specs.declared.State.{State}
use Rattle.table_record.specs.declared.Record.{Record}
use Rattle.table_record.specs.declared.Rcr.{Rcr}
use Rattle.table_layout.specs.declared.Settings.{Settings}
use Rattle.table_ranges.proofs.Tests.{Each}
use Rattle.table_record_ok.specs.OneRecord.{Live, Bounded}
use Rattle.row_events.specs.declared.Event.{Event}
use Rattle.row_events.specs.declared.Opening.{Opening}
use Rattle.row_events.proofs.Finite.{at_opening}
use Rattle.row_choice.specs.Rows.{row_of}
use Rattle.row_conditions.specs.Conditions.{conditions_of}
use Rattle.row_columns.specs.Columns.{act_with, stored, shown}
use Rattle.row_columns.specs.declared.Next.{Next}
use Rattle.row_columns.specs.declared.Next.TheVariants.{Stays, Ends, Goes}
use Rattle.row_columns.specs.declared.Count.{Count}
use Rattle.row_columns.specs.declared.Act.{Act}
use Rattle.row_entries.specs.Acts.{opening_act}
use Rattle.row_turns.specs.Turns.{rcr_after, hold_on_after, new_record, moved_to, record_after, turn_of, row_turn, opening_turn}
use Rattle.row_turns.specs.declared.Given.{Given}
use Rattle.row_turns.specs.declared.Turn.{Turn}
use Rattle.law_rows.specs.Shown.{act_at}
use Rattle.law_rows.proofs.Range.{allowed, counts_allowed, rcr_within, up_exact}
use Rattle.law_counting.specs.Counting.{Counts, plus, of_turn, counted, counts_in, Fits, Tallied}
use Rattle.law_counting.proofs.Acts.{added, kept_tests, tests, rows_agree, openings_agree}
use Rattle.law_counting.proofs.Sums.{rcr_then, in_limits, kept_sums, end_limits, from_none}

-- RCR goes up only below a maximum of at most 8, so it goes up by one
rcr_moves : (k : Count) (n : Rcr) (max : ℕ) (aec : Bool) → (n.0 < max → n.0 < 8) → allowed k (ltb n.0 max) aec ≡ true → (rcr_after k n).0 ≡ rcr_then k n.0
rcr_moves Count.Same n max aec small ok = refl
rcr_moves Count.RcrZero n max aec small ok = refl
rcr_moves Count.RcrUp n max aec small ok = up_exact n.0 8 (small (ltb-true n.0 max ok)) (omega arith)
rcr_moves Count.AecZero n max aec small ok = refl
rcr_moves Count.AecUp n max aec small ok = refl

-- a record, the counts that it says, and an act that agrees with them
module _ (g : Given) (s : Settings) (rows : List (List ℕ)) (r : Record) (a : Act) (small : r.rcr.0 < s.rcr_max → r.rcr.0 < 8) (within : r.rcr.0 ≤ s.rcr_max)
    (counts : allowed a.count (ltb r.rcr.0 s.rcr_max) (ltb r.aec.0 s.aec_max) ≡ true) where
  abbrev total : Counts
  total = plus (counts_in r.state r.rcr.0 r.hold_on) (added a)

  abbrev rcrNow : ℕ
  rcrNow = (rcr_after a.count r.rcr).0

  moved_tallied : (t : State) → Each (kept_tests r.state t (counts_in r.state 0 r.hold_on) (counts_in t 0 (hold_on_after a.mark r.hold_on)) a)
      → Tallied s.rcr_max (moved_to t a r g s rows) total
  unfolding moved_to
  moved_tallied t e =
      let holdOn = hold_on_after a.mark r.hold_on in
      let moves : rcrNow ≡ rcr_then a.count r.rcr.0 = rcr_moves a.count r.rcr s.rcr_max (ltb r.aec.0 s.aec_max) small counts in
      let fits : total ≡ counts_in t rcrNow holdOn = kept_sums r.state t r.rcr.0 r.hold_on holdOn a e ∙ ap (λ n. counts_in t n holdOn) (sym moves) in
      let less : rcrNow ≤ s.rcr_max = rcr_within a.count r.rcr s.rcr_max (ltb r.aec.0 s.aec_max) counts within in
      record { state = inr (leb-true 1 (state_number t) e.0, fits); limits = rw fits (in_limits t rcrNow holdOn s.rcr_max less) }

  after_tallied : (n : Next) → Each (tests n r.state r.hold_on a) → Tallied s.rcr_max (record_after n a r g s rows) total
  unfolding record_after
  after_tallied Stays e = moved_tallied r.state e
  after_tallied Ends e = record { state = inl refl; limits = end_limits r.state r.rcr.0 r.hold_on s.rcr_max a within e }
  after_tallied (Goes t) e = moved_tallied t e

module _ (g : Given) (s : Settings) (rows : List (List ℕ)) where
  -- any event at a live record, under the row for its own conditions
  pub turn_fits : (e : Event) (r : Record) (c : Counts) → Live r → Bounded s r → s.rcr_max ≤ 8 → Fits r c
      → let turn : Turn = row_turn (row_of r.state e (conditions_of s r)) r g s rows in Tallied s.rcr_max turn.after (counted c turn)
  unfolding row_turn turn_of
  turn_fits e r c live ok small fits =
      let a = act_at r.state e (conditions_of s r) r.tidok_sent g.kind g.reason in
      rw fits
      (after_tallied g s rows r a (λ less. omega arith) ok.rcr (counts_allowed g.kind g.reason r.tidok_sent e s r) a.next (rows_agree g.kind g.reason e s r live))

  -- any opening: the count starts with it
  pub opening_fits : (o : Opening) (peer tid : ℕ) (user_ack tidnew : Bool)
      → let turn : Turn = opening_turn o (new_record peer tid user_ack tidnew) g s rows in Tallied s.rcr_max turn.after (of_turn turn.send turn.first turn.second)
  unfolding opening_turn turn_of every opening_act act_with stored shown new_record
  opening_fits o peer tid user_ack tidnew =
      let r = new_record peer tid user_ack tidnew in
      let counts : Opening → Bool = λ x. allowed (opening_act x).count (ltb r.rcr.0 s.rcr_max) (ltb r.aec.0 s.aec_max) in
      rw (from_none (added (opening_act o))) at
      (after_tallied g s rows r (opening_act o) (λ less. omega arith) (omega arith) (at_opening counts refl o) (opening_act o).next (openings_agree o))
