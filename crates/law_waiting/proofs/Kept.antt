-- With the mode on a turn leaves a record timed, and so does an opening. Assumes nothing.
use Prim.Native.Nat.{ℕ, ◌+◌, ◌%◌, ◌≤◌, ◌<◌}
use native.Mathlib.Omega.{arith}
use mathlib.Core.Path.{◌≡◌, refl, sym, ap, ◌∙◌}
use mathlib.Core.Bool.{Bool, true, false}
use mathlib.Core.List.{List, []}
use lib.ListN.{get_or}
use lib.Dec.{eqb}
use borrow.Author.Tests.{ne_eqb}
use Rattle.base_lists.specs.Seq.{pick, every}
use Rattle.base_lists.proofs.StoresAndParts.{true_false}
use Rattle.table_record.specs.Record.{state_number, state_of, class_of}
use Rattle.table_record.specs.declared.Rcr.{Rcr}
use Rattle.table_record.specs.declared.State.{State}
use Rattle.table_record.specs.declared.Record.{Record}
use Rattle.table_layout.specs.declared.Settings.{Settings}
use Rattle.table_record_ok.specs.OneRecord.{Live}
use Rattle.table_tids.specs.Tids.{interval_of}
use Rattle.row_events.specs.declared.Event.{Event}
use Rattle.row_events.specs.declared.Conditions.{Conditions}
use Rattle.row_events.specs.declared.Opening.{Opening}
use Rattle.row_events.proofs.Finite.{at_state, at_opening}
use Rattle.row_choice.specs.Rows.{row_of}
use Rattle.row_conditions.specs.Conditions.{conditions_of}
use Rattle.row_columns.specs.Columns.{act_with, taken, acked, stored, shown}
use Rattle.row_columns.specs.declared.Next.{Next}
use Rattle.row_columns.specs.declared.Next.TheVariants.{Stays, Ends, Goes}
use Rattle.row_columns.specs.declared.Timer.{Timer}
use Rattle.row_columns.specs.declared.Timer.TheVariants as Timer
use Rattle.row_columns.specs.declared.Act.{Act}
use Rattle.row_entries.specs.Acts.{act_of, opening_act}
use Rattle.row_turns.specs.Turns.{stopped_at, deadline_after, limit_after, new_record, moved_to, record_after, turn_of, row_turn, opening_turn}
use Rattle.row_turns.specs.declared.Given.{Given}
use Rattle.law_rows.specs.Shown.{act_at}
use Rattle.law_waiting.specs.Waiting.{is_tidok_wait, Timed}

-- every interval and the waiting limit are at least 1
pub record Running (s : Settings) (rows : List (List ℕ)) : Type 0 where
  pub a : 1 ≤ s.a
  pub w : 1 ≤ s.w
  pub limit : 1 ≤ s.limit
  pub intervals : (i n : ℕ) → i < 2 → n < 9 → 1 ≤ get_or (get_or rows i []) n 0

abbrev runs : Timer → Bool
runs Timer.Runs = true
runs Timer.Stop = false
runs Timer.A = false
runs Timer.W = false
runs Timer.R = false

abbrev stops : Timer → Bool
stops Timer.Runs = false
stops Timer.Stop = true
stops Timer.A = false
stops Timer.W = false
stops Timer.R = false

-- a row that starts no timer leaves the state; one that leads to TIDOK WAIT stops the timer, and one that stays in it leaves the timer
abbrev timed_by : State → Next → Timer → Bool
timed_by state Stays timer = pick (is_tidok_wait state) (runs timer) true
timed_by state Ends timer = true
timed_by state (Goes next) timer = pick (runs timer) false (pick (is_tidok_wait next) (stops timer) true)

-- neither of two
unless : (b x : Bool) → pick b false x ≡ true → (b ≡ false) × (x ≡ true)
unless true x e = true_false (sym e)
unless false x e = (refl, e)

module _ (kind reason : ℕ) (tidok : Bool) where
  timed_act : State → Event → Conditions → Bool
  timed_act state e c = timed_by state (act_at state e c tidok kind reason).next (act_at state e c tidok kind reason).timer

  -- computed for every state, event and condition
  acts_timed : (state : State) (e : Event) (c : Conditions) → timed_by state (act_at state e c tidok kind reason).next (act_at state e c tidok kind reason).timer ≡ true
  unfolding timed_act every state_of row_of act_of act_with taken acked stored shown
  acts_timed state e c = at_state timed_act refl state e c

module _ (s : Settings) (rows : List (List ℕ)) (ok : Running s rows) (g : Given) where
  some_interval : (class : ℕ) (n : Rcr) → 1 ≤ interval_of rows class n
  unfolding interval_of
  some_interval class n = go (eqb class 1)
    where
      go : (c : Bool) → 1 ≤ get_or (get_or rows (pick c 0 1) []) (n.0 % 9) 0
      go true = ok.intervals 0 (n.0 % 9) (omega arith) (omega arith)
      go false = ok.intervals 1 (n.0 % 9) (omega arith) (omega arith)

  some_stopped : 1 ≤ stopped_at g.time s.limit
  unfolding stopped_at
  some_stopped = rw (ne_eqb s.limit 0 (λ (e : s.limit ≡ 0). omega (arith, ok.limit))) (omega (arith, ok.limit))

  some_deadline : (t : Timer) (was r : ℕ) → 1 ≤ was → 1 ≤ r → 1 ≤ deadline_after t was g.time s r
  some_deadline Timer.Runs was r h k = h
  some_deadline Timer.Stop was r h k = some_stopped
  some_deadline Timer.A was r h k = omega (arith, ok.a)
  some_deadline Timer.W was r h k = omega (arith, ok.w)
  some_deadline Timer.R was r h k = omega (arith, k)

  started : (t : Timer) (was r : ℕ) → runs t ≡ false → 1 ≤ r → 1 ≤ deadline_after t was g.time s r
  started Timer.Runs was r e k = true_false e
  started Timer.Stop was r e k = some_stopped
  started Timer.A was r e k = omega (arith, ok.a)
  started Timer.W was r e k = omega (arith, ok.w)
  started Timer.R was r e k = omega (arith, k)

  limit_left : (t : Timer) (was : ℕ) → runs t ≡ true → limit_after t was s.limit ≡ was
  limit_left Timer.Runs was e = refl
  limit_left Timer.Stop was e = true_false (sym e)
  limit_left Timer.A was e = true_false (sym e)
  limit_left Timer.W was e = true_false (sym e)
  limit_left Timer.R was e = true_false (sym e)

  limit_taken : (t : Timer) (was : ℕ) → stops t ≡ true → limit_after t was s.limit ≡ s.limit
  limit_taken Timer.Runs was e = true_false (sym e)
  limit_taken Timer.Stop was e = refl
  limit_taken Timer.A was e = true_false (sym e)
  limit_taken Timer.W was e = true_false (sym e)
  limit_taken Timer.R was e = true_false (sym e)

  module _ (a : Act) (r : Record) where
    -- into another state
    goes_timed : (state : State) → timed_by r.state (Goes state) a.timer ≡ true → Timed (moved_to state a r g s rows)
    unfolding moved_to
    goes_timed state e =
        let k = unless (runs a.timer) (pick (is_tidok_wait state) (stops a.timer) true) e in
        record {
          deadline = started a.timer _ _ k.0 (some_interval (class_of state) _);
          verifying = λ v. rw (limit_taken a.timer r.limit (rw v at k.1)) ok.limit;
        }

    stays_timed : Timed r → timed_by r.state Stays a.timer ≡ true → Timed (moved_to r.state a r g s rows)
    unfolding moved_to
    stays_timed was e = record {
      deadline = some_deadline a.timer r.deadline _ was.deadline (some_interval (class_of r.state) _);
      verifying = λ v. rw (limit_left a.timer r.limit (rw v at e)) (was.verifying v);
    }

    after_timed : (n : Next) → Timed r → timed_by r.state n a.timer ≡ true → Live (record_after n a r g s rows) → Timed (record_after n a r g s rows)
    unfolding record_after new_record
    after_timed Stays was e live = stays_timed was e
    after_timed Ends was e live = absurd (omega (arith, live))
    after_timed (Goes state) was e live = goes_timed state e

    -- from a record that isn't live
    opened_timed : (n : Next) → state_number r.state ≡ 0 → timed_by r.state n a.timer ≡ true → Live (record_after n a r g s rows) → Timed (record_after n a r g s rows)
    unfolding record_after moved_to new_record
    opened_timed Stays free e live = absurd (omega (arith, live, free))
    opened_timed Ends free e live = absurd (omega (arith, live))
    opened_timed (Goes state) free e live = goes_timed state e

  -- a live record's turn
  pub turn_timed : (r : Record) (e : Event) → Timed r → let x = (row_turn (row_of r.state e (conditions_of s r)) r g s rows).after in Live x → Timed x
  unfolding row_turn turn_of
  turn_timed r e was live =
      let a : Act = act_at r.state e (conditions_of s r) r.tidok_sent g.kind g.reason in
      after_timed a r a.next was (acts_timed g.kind g.reason r.tidok_sent r.state e (conditions_of s r)) live

  -- a new record's
  pub opening_timed : (o : Opening) (peer tid : ℕ) (user_ack tidnew : Bool) → let x = (opening_turn o (new_record peer tid user_ack tidnew) g s rows).after in Live x → Timed x
  unfolding opening_turn turn_of new_record every opening_act act_with stored shown
  opening_timed o peer tid user_ack tidnew live =
      opened_timed (opening_act o) (new_record peer tid user_ack tidnew) (opening_act o).next refl (at_opening (λ x. timed_by (new_record peer tid user_ack tidnew).state (opening_act x).next (opening_act x).timer) refl o) live
