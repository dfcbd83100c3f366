-- The base's engine, before the waiting limit (02, L6): the turn and the step of a row, from document 01's lists and from definitions that L6 left alone.
use Rattle.std.specs.Prelude.{ℕ, ◌+◌, false, List, Option}
use Rattle.table_record.specs.Record.{class_of, sent_most}
use Rattle.table_record.specs.declared.State.{State}
use Rattle.table_record.specs.declared.Record.{Record}
use Rattle.table_layout.specs.Table.{settings_of, intervals_of, cached_of, record_at}
use Rattle.table_layout.specs.declared.Settings.{Settings}
use Rattle.table_tids.specs.Tids.{interval_of}
use Rattle.row_events.specs.declared.Event.{Event}
use Rattle.row_events.specs.declared.Row.{Row}
use Rattle.row_events.specs.declared.Opening.{Opening}
use Rattle.row_columns.specs.declared.Next.{Next}
use Rattle.row_columns.specs.declared.Next.TheVariants.{Stays, Ends, Goes}
use Rattle.row_columns.specs.declared.Timer.{Timer}
use Rattle.row_columns.specs.declared.Timer.TheVariants as Timer
use Rattle.row_columns.specs.declared.Act.{Act}
use Rattle.row_conditions.specs.Conditions.{conditions_of}
use Rattle.row_turns.specs.Turns.{no_timer, new_record, rcr_after, aec_after, hold_on_after, tidok_sent_after, hold_on_sent_after, exit_len_after, stores_exit, len_after, unknown_after, cost_of, sent_after}
use Rattle.row_turns.specs.declared.Given.{Given}
use Rattle.row_turns.specs.declared.Turn.{Turn}
use Rattle.law_rows_listed.specs.Document.{base_row}
use Rattle.law_rows_done.specs.LiveRows.{document_act}
use Rattle.law_rows_done.specs.OpeningRows.{document_opening_act}
use Rattle.step_commit.specs.declared.GenTid.{GenTid}
use Rattle.step_changes.specs.Changes.{turn_changes}
use Rattle.step_plan.specs.Steps.{step_of}
use Rattle.step_plan.specs.declared.Holder.{Holder}
use Rattle.step_plan.specs.declared.Call.{Call}
use Rattle.step_plan.specs.declared.Step.{Step}
use Rattle.step_live.specs.Turning.{holder_of}
use Rattle.step_opening.specs.Opens.{opening_changes}

-- 01: "stop timer", "no timer": the deadline that the base leaves; timer R runs r milliseconds
abbrev pub base_deadline : Timer → (was time : ℕ) → Settings → (r : ℕ) → ℕ
base_deadline Timer.Runs was time s r = was
base_deadline Timer.Stop was time s r = no_timer
base_deadline Timer.A was time s r = time + s.a
base_deadline Timer.W was time s r = time + s.w
base_deadline Timer.R was time s r = time + r

-- 01, "Events": the base's record in its next state; docs/TABLE.md: where L6 has the limit in force the base has spare octets, which are zero
unfoldable pub base_moved : State → Act → Record → Given → Settings → List (List ℕ) → Record
base_moved state a r g s rows = record {
  state = state;
  peer = r.peer;
  tid = r.tid;
  user_ack = r.user_ack;
  hold_on = hold_on_after a.mark r.hold_on;
  tidok_sent = tidok_sent_after a.mark r.tidok_sent;
  hold_on_sent = hold_on_sent_after a.mark r.hold_on_sent;
  tidnew = r.tidnew;
  rcr = rcr_after a.count r.rcr;
  aec = aec_after a.count r.aec;
  exit_len = exit_len_after a.exit r.exit_len g.exit_len;
  deadline = base_deadline a.timer r.deadline g.time s (interval_of rows (class_of state) (rcr_after a.count r.rcr));
  len = len_after a.cell r.len g.len;
  limit = 0;
  unknown = unknown_after a.item r.unknown g.unknown;
  sent = sent_after (r.sent + cost_of a.send (len_after a.cell r.len g.len)) (sent_most s.rcr_max);
}

-- 01, "Events": the base's record after a row, free where it ends
unfoldable pub base_after : Next → Act → Record → Given → Settings → List (List ℕ) → Record
base_after Stays a r g s rows = base_moved r.state a r g s rows
base_after Ends a r g s rows = new_record 0 0 false false
base_after (Goes state) a r g s rows = base_moved state a r g s rows

-- 01, "Events": the base's whole turn
unfoldable pub base_turn_of : Act → Record → Given → Settings → List (List ℕ) → Turn
base_turn_of a r g s rows = record {
  after = base_after a.next a r g s rows;
  send = a.send;
  first = a.first;
  second = a.second;
  cell = a.cell;
  exit = stores_exit a.exit;
  cache = a.cache;
}

-- 01, "Events": the row that an event meets in the record at a place; document 01's lines alone, which ask nothing of a limit
unfoldable pub base_row_at : List ℕ → ℕ → Event → Row
base_row_at t place event = base_row (record_at t place).state event (conditions_of (settings_of t) (record_at t place))

-- 01, "Events": the record's turn under that row, which does what document 01's lists say
unfoldable pub base_turn : List ℕ → ℕ → Event → Given → Turn
base_turn t place event g =
    base_turn_of (document_act (base_row_at t place event) (record_at t place).tidok_sent g.kind g.reason) (record_at t place) g (settings_of t) (intervals_of t)

-- 01, "Events": the turn of a new record
unfoldable pub base_opened : List ℕ → Opening → Holder → Given → Turn
base_opened t opening h g = base_turn_of (document_opening_act opening) (new_record h.peer h.tid h.up h.tidnew) g (settings_of t) (intervals_of t)

-- 01, "Events": the whole step of the record at a place
unfoldable pub base_live_step : List ℕ → ℕ → Event → Given → Call → Step
base_live_step t place event g c =
    step_of
    (base_turn t place event g)
    (turn_changes (base_turn t place event g) place (record_at t place).peer (record_at t place).tid (cached_of t (record_at t place).peer) g.time)
    (holder_of (record_at t place) place)
    c

-- 01, "Events": the whole step of an opening
unfoldable pub base_opening_step : List ℕ → Opening → Holder → Given → Option GenTid → Call → Step
base_opening_step t opening h g gen_tid c =
    step_of (base_opened t opening h g) (opening_changes (base_opened t opening h g) h (cached_of t h.peer) gen_tid g.time) h c
