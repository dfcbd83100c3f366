-- Each due firing takes one of the firings that a record has left. Assumes nothing.
use Prim.Native.Nat.{ℕ, ◌+◌, ◌-◌, ◌≤◌}
use native.Mathlib.Omega.{arith}
use mathlib.Core.Path.{◌≡◌, refl, sym, ap, ◌∙◌}
use mathlib.Core.Bool.{Bool, true, false}
use mathlib.Core.List.{List}
use lib.Dec.{ltb}
use borrow.Author.Tests.{ltb-true, ltb-false, lt-ltb}
use Rattle.base_lists.specs.Seq.{pick}
use Rattle.table_record.specs.Record.{state_number}
use Rattle.table_record.specs.declared.State.{State}
use Rattle.table_record.specs.declared.State.TheVariants.{Free, IResultWait1, IResultWait2, IResultRespWait, IWaitTimeout, RTidokWait1, RTidokWait2, RInvokeRespWait1, RInvokeRespWait2, RResultWait, RResultRespWait, RWaitTimeout}
use Rattle.table_record.specs.declared.Record.{Record}
use Rattle.table_layout.specs.declared.Settings.{Settings}
use Rattle.row_events.specs.declared.Event.TheVariants as Event
use Rattle.row_events.specs.declared.Row.{Row}
use Rattle.row_events.specs.declared.Row.TheVariants as Row
use Rattle.row_choice.specs.Rows.{row_of}
use Rattle.row_conditions.specs.Conditions.{conditions_of}
use Rattle.row_columns.specs.Columns.{act_with, taken, acked}
use Rattle.row_entries.specs.Acts.{act_of}
use Rattle.row_turns.specs.Turns.{up_of, new_record, moved_to, record_after, turn_of, row_turn}
use Rattle.row_turns.specs.declared.Given.{Given}
use Rattle.law_rows.proofs.Range.{up_exact}
use Rattle.table_record_ok.specs.OneRecord.{Live}
use Rattle.law_waiting.specs.Waiting.{is_tidok_wait, Timed, firings_left}

-- a record with its state named
abbrev in_state : State → Record → Record
in_state state r = record {
  state = state;
  peer = r.peer;
  tid = r.tid;
  user_ack = r.user_ack;
  hold_on = r.hold_on;
  tidok_sent = r.tidok_sent;
  hold_on_sent = r.hold_on_sent;
  tidnew = r.tidnew;
  rcr = r.rcr;
  aec = r.aec;
  exit_len = r.exit_len;
  deadline = r.deadline;
  len = r.len;
  limit = r.limit;
  unknown = r.unknown;
  sent = r.sent;
}

module _ (g : Given) (s : Settings) (rows : List (List ℕ)) (rcr_max : s.rcr_max ≤ 8) (aec_max : s.aec_max ≤ 8) (on : 1 ≤ s.limit) where
  -- what is left after a row, and one more, is what there was
  abbrev Takes : Record → Row → ℕ → Type 0
  Takes r row n = firings_left s (row_turn row r g s rows).after + 1 ≡ n

  module _ (r : Record) (rcr : r.rcr.0 ≤ s.rcr_max) (aec : r.aec.0 ≤ s.aec_max) where
    abbrev rcrLeft : ℕ
    rcrLeft = s.rcr_max - r.rcr.0

    abbrev aecLeft : ℕ
    aecLeft = s.aec_max - r.aec.0

    one_rcr : ltb r.rcr.0 s.rcr_max ≡ true → s.rcr_max - up_of r.rcr.0 + 1 + 1 ≡ rcrLeft + 1
    one_rcr e =
        let less = ltb-true r.rcr.0 s.rcr_max e in
        rw (up_exact r.rcr.0 s.rcr_max less rcr_max) (omega arith)

    one_aec : ltb r.aec.0 s.aec_max ≡ true → s.aec_max - up_of r.aec.0 + 1 + 1 ≡ aecLeft + 1
    one_aec e =
        let less = ltb-true r.aec.0 s.aec_max e in
        rw (up_exact r.aec.0 s.aec_max less aec_max) (omega arith)

    resent1 : (b : Bool) → ltb r.rcr.0 s.rcr_max ≡ b → Takes (in_state IResultWait1 r) (pick b Row.Resent Row.GivenUp) (rcrLeft + 1)
    unfolding row_turn turn_of record_after moved_to new_record act_of act_with
    resent1 true e = one_rcr e
    resent1 false e = omega (arith, ltb-false r.rcr.0 s.rcr_max e)

    resent_result : (b : Bool) → ltb r.rcr.0 s.rcr_max ≡ b → Takes (in_state RResultRespWait r) (pick b Row.ResultResent Row.GivenUp) (rcrLeft + 1)
    unfolding row_turn turn_of record_after moved_to new_record act_of act_with
    resent_result true e = one_rcr e
    resent_result false e = omega (arith, ltb-false r.rcr.0 s.rcr_max e)

    -- held on or not, under the limit or not
    resent2 : (h d b : Bool) → r.hold_on ≡ h → ltb 0 r.limit ≡ d → ltb r.rcr.0 s.rcr_max ≡ b
        → Takes (in_state IResultWait2 r) (pick (pick h d false) Row.HeldOnWaitEnds (pick b Row.Resent Row.GivenUp)) (pick (pick h d false) 1 (rcrLeft + 1))
    unfolding row_turn turn_of record_after moved_to new_record act_of act_with
    resent2 true true b h d e = refl
    resent2 true false true h d e = rw h (one_rcr e)
    resent2 true false false h d e = omega (arith, ltb-false r.rcr.0 s.rcr_max e)
    resent2 false d true h l e = rw h (one_rcr e)
    resent2 false d false h l e = omega (arith, ltb-false r.rcr.0 s.rcr_max e)

    awaited : (u b : Bool) → r.user_ack ≡ u → ltb r.aec.0 s.aec_max ≡ b
        → Takes (in_state IResultRespWait r) (pick u (pick b Row.UserAwaited Row.UserSilent) Row.ResultAcked) (pick u (aecLeft + 1) 2)
    unfolding row_turn turn_of record_after moved_to new_record act_of act_with acked
    awaited true true u e = rw u (one_aec e)
    awaited true false u e = omega (arith, ltb-false r.aec.0 s.aec_max e)
    awaited false b u e = refl

    awaited1 : (u b : Bool) → r.user_ack ≡ u → ltb r.aec.0 s.aec_max ≡ b
        → Takes (in_state RInvokeRespWait1 r) (pick u (pick b Row.UserAwaited Row.UserSilent) Row.InvokeAcked) (pick u (aecLeft + 1) 2)
    unfolding row_turn turn_of record_after moved_to new_record act_of act_with acked
    awaited1 true true u e = rw u (one_aec e)
    awaited1 true false u e = omega (arith, ltb-false r.aec.0 s.aec_max e)
    awaited1 false b u e = refl

    -- after a hold-on the limit is the deadline
    under_limit : ltb 0 s.limit ≡ true
    under_limit = lt-ltb 0 s.limit (omega (arith, on))

    awaited2 : (u b : Bool) → r.user_ack ≡ u → ltb r.aec.0 s.aec_max ≡ b
        → Takes (in_state RInvokeRespWait2 r) (pick u (pick b Row.UserAwaited Row.UserSilent) Row.HoldOnSent) (pick u (aecLeft + 1) 2)
    unfolding row_turn turn_of record_after moved_to new_record act_of act_with
    awaited2 true true u e = rw u (one_aec e)
    awaited2 true false u e = omega (arith, ltb-false r.aec.0 s.aec_max e)
    awaited2 false b u e = rw under_limit refl

    worked : (d : Bool) → Takes (in_state RResultWait r) (pick d Row.ResultWaitEnds Row.HoldOnSent) (pick d 1 2)
    unfolding row_turn turn_of record_after moved_to new_record act_of act_with
    worked true = refl
    worked false = rw under_limit refl

    -- each state
    at_state : (state : State) → 1 ≤ state_number state → (is_tidok_wait state ≡ true → 1 ≤ r.limit) → let x = in_state state r in Takes x (row_of state Event.Timer (conditions_of s x)) (firings_left s x)
    unfolding row_of conditions_of row_turn turn_of record_after new_record act_of act_with
    at_state Free live limit = absurd (omega (arith, live))
    at_state IResultWait1 live limit = resent1 (ltb r.rcr.0 s.rcr_max) refl
    at_state IResultWait2 live limit = resent2 r.hold_on (ltb 0 r.limit) (ltb r.rcr.0 s.rcr_max) refl refl refl
    at_state IResultRespWait live limit = awaited r.user_ack (ltb r.aec.0 s.aec_max) refl refl
    at_state IWaitTimeout live limit = refl
    at_state RTidokWait1 live limit = rw (lt-ltb 0 r.limit (omega (arith, limit refl))) refl
    at_state RTidokWait2 live limit = rw (lt-ltb 0 r.limit (omega (arith, limit refl))) refl
    at_state RInvokeRespWait1 live limit = awaited1 r.user_ack (ltb r.aec.0 s.aec_max) refl refl
    at_state RInvokeRespWait2 live limit = awaited2 r.user_ack (ltb r.aec.0 s.aec_max) refl refl
    at_state RResultWait live limit = worked (pick r.hold_on_sent (ltb 0 r.limit) false)
    at_state RResultRespWait live limit = resent_result (ltb r.rcr.0 s.rcr_max) refl
    at_state RWaitTimeout live limit = refl

    -- A DUE FIRING TAKES ONE OF THOSE THAT ARE LEFT
    pub firing_takes_one : Live r → Timed r → firings_left s (row_turn (row_of r.state Event.Timer (conditions_of s r)) r g s rows).after + 1 ≡ firings_left s r
    firing_takes_one live timed = at_state r.state live timed.verifying
