-- A turn: the right-hand side of a row applied to a record (01, "Events").
use Rattle.std.specs.Prelude.{ℕ, ◌+◌, Bool, true, false, List, ltb, eqb}
use Rattle.base_lists.specs.Seq.{pick}
use Rattle.table_record.specs.Record.{class_of, sent_most}
use Rattle.table_record.specs.declared.State.{State}
use Rattle.table_record.specs.declared.State.TheVariants.{Free}
use Rattle.table_record.specs.declared.Rcr.{Rcr}
use Rattle.table_record.specs.declared.Aec.{Aec}
use Rattle.table_record.specs.declared.Record.{Record}
use Rattle.table_layout.specs.declared.Settings.{Settings}
use Rattle.row_events.specs.declared.Row.{Row}
use Rattle.row_events.specs.declared.Opening.{Opening}
use Rattle.row_columns.specs.declared.Next.{Next}
use Rattle.row_columns.specs.declared.Next.TheVariants.{Stays, Ends, Goes}
use Rattle.row_columns.specs.declared.Timer.{Timer}
use Rattle.row_columns.specs.declared.Count.{Count}
use Rattle.row_columns.specs.declared.Mark.{Mark}
use Rattle.row_columns.specs.declared.ExitInfo.{ExitInfo}
use Rattle.row_columns.specs.declared.Send.{Send}
use Rattle.row_columns.specs.declared.Act.{Act}
use Rattle.row_entries.specs.Acts.{act_of, opening_act}
use Rattle.table_tids.specs.Tids.{interval_of}
use Rattle.row_turns.specs.declared.Given.{Given}
use Rattle.row_turns.specs.declared.Turn.{Turn}

-- 01: "RCR_MAX and AEC_MAX are 0 to 8": no counter passes 8
unfoldable pub up_of : ℕ → ℕ
up_of n = pick (ltb n 8) (n + 1) n

-- RCR, and AEC, after a row
abbrev pub rcr_after : Count → Rcr → Rcr
rcr_after Count.Same rcr = rcr
rcr_after Count.RcrZero rcr = record { 0 = 0 }
rcr_after Count.RcrUp rcr = record { 0 = up_of rcr.0 }
rcr_after Count.AecZero rcr = rcr
rcr_after Count.AecUp rcr = rcr

abbrev pub aec_after : Count → Aec → Aec
aec_after Count.Same aec = aec
aec_after Count.RcrZero aec = aec
aec_after Count.RcrUp aec = aec
aec_after Count.AecZero aec = record { 0 = 0 }
aec_after Count.AecUp aec = record { 0 = up_of aec.0 }

-- HoldOn, "TIDok sent" and "hold-on sent" after a row
abbrev pub hold_on_after : Mark → Bool → Bool
hold_on_after Mark.Same was = was
hold_on_after Mark.HoldOn was = true
hold_on_after Mark.TidokSent was = was
hold_on_after Mark.HoldOnSent was = was

abbrev pub tidok_sent_after : Mark → Bool → Bool
tidok_sent_after Mark.Same was = was
tidok_sent_after Mark.HoldOn was = was
tidok_sent_after Mark.TidokSent was = true
tidok_sent_after Mark.HoldOnSent was = was

abbrev pub hold_on_sent_after : Mark → Bool → Bool
hold_on_sent_after Mark.Same was = was
hold_on_sent_after Mark.HoldOn was = was
hold_on_sent_after Mark.TidokSent was = was
hold_on_sent_after Mark.HoldOnSent was = true

-- 01: "exit information is kept in the record": its length after a row, and whether the octets given are stored
abbrev pub exit_len_after : ExitInfo → ℕ → ℕ → ℕ
exit_len_after ExitInfo.Same was given = was
exit_len_after ExitInfo.Given was given = given
exit_len_after ExitInfo.Empty was given = 0

abbrev pub stores_exit : ExitInfo → Bool
stores_exit ExitInfo.Same = false
stores_exit ExitInfo.Given = true
stores_exit ExitInfo.Empty = false

-- the length of the message in the cell after a row
abbrev pub len_after : Bool → ℕ → ℕ → ℕ
len_after cell was given = pick cell given was

-- 02, L4: "The record keeps that identity from the Invoke that opened it or the Result it took": the one that came where a row takes it, else as it was
abbrev pub unknown_after : Bool → ℕ → ℕ → ℕ
unknown_after item was came = pick item came was

-- 02, L11: "the bytes it sent before its result, class 1 confirmation or abort [..], the Abort PDU aside": what a PDU of RESULT WAIT adds, an Invoke four octets and its data, a TIDok three
abbrev pub cost_of : Send → ℕ → ℕ
cost_of Send.Nothing len = 0
cost_of (Send.Invoke again) len = 4 + len
cost_of (Send.Tidok again) len = 3
cost_of (Send.LastAck again) len = 0
cost_of (Send.HoldOn again) len = 0
cost_of (Send.Tidve again) len = 0
cost_of (Send.Result again) len = 0
cost_of (Send.Abort kind reason) len = 0

-- 02, L11, "at most (1 + RCR_MAX) times (4 + n)": no run passes the most that a record may count, and on a made-up table the count stops there
unfoldable pub sent_after : ℕ → ℕ → ℕ
sent_after sum most = pick (ltb sum most) sum most

-- 01: "stop timer", "no timer": a deadline of 0 is none
abbrev pub no_timer : ℕ
no_timer = 0

-- 02, L6: "taken from the settings where a row stops the timer or starts none; it is then the deadline"; a limit of 0 is the mode off
unfoldable pub stopped_at : ℕ → ℕ → ℕ
stopped_at time limit = pick (eqb limit 0) no_timer (time + limit)

-- the deadline after a row: "timer A", "timer W", or "timer R[RCR]" of r milliseconds
abbrev pub deadline_after : Timer → ℕ → ℕ → Settings → ℕ → ℕ
deadline_after Timer.Runs was time s r = was
deadline_after Timer.Stop was time s r = stopped_at time s.limit
deadline_after Timer.A was time s r = time + s.a
deadline_after Timer.W was time s r = time + s.w
deadline_after Timer.R was time s r = time + r

-- 02, L6: "Each record carries a waiting limit": the one in force after a row; none where the row starts a timer
abbrev pub limit_after : Timer → ℕ → ℕ → ℕ
limit_after Timer.Runs was limit = was
limit_after Timer.Stop was limit = limit
limit_after Timer.A was limit = 0
limit_after Timer.W was limit = 0
limit_after Timer.R was limit = 0

-- 01: "Request", "Valid Invoke", "Else keep the data": the record that an opening starts from; "A freed record is zeroed" is that of zeros
unfoldable pub new_record : ℕ → ℕ → Bool → Bool → Record
new_record peer tid user_ack tidnew = record {
  state = Free;
  peer = peer;
  tid = tid;
  user_ack = user_ack;
  hold_on = false;
  tidok_sent = false;
  hold_on_sent = false;
  tidnew = tidnew;
  rcr = record { 0 = 0 };
  aec = record { 0 = 0 };
  exit_len = 0;
  deadline = 0;
  len = 0;
  limit = 0;
  unknown = 0;
  sent = 0;
}

-- the record in its next state; peer, TID, user acknowledgement and TIDnew never change, and R[RCR] takes RCR as the row leaves it
unfoldable pub moved_to : State → Act → Record → Given → Settings → List (List ℕ) → Record
moved_to state a r g s rows = record {
  state = state;
  peer = r.peer;
  tid = r.tid;
  user_ack = r.user_ack;
  hold_on = hold_on_after a.mark r.hold_on;
  tidok_sent = tidok_sent_after a.mark r.tidok_sent;
  hold_on_sent = hold_on_sent_after a.mark r.hold_on_sent;
  tidnew = r.tidnew;
  rcr = rcr_after a.count r.rcr;
  aec = aec_after a.count r.aec;
  exit_len = exit_len_after a.exit r.exit_len g.exit_len;
  deadline = deadline_after a.timer r.deadline g.time s (interval_of rows (class_of state) (rcr_after a.count r.rcr));
  len = len_after a.cell r.len g.len;
  limit = limit_after a.timer r.limit s.limit;
  unknown = unknown_after a.item r.unknown g.unknown;
  sent = sent_after (r.sent + cost_of a.send (len_after a.cell r.len g.len)) (sent_most s.rcr_max);
}

-- 01, "Events": the state that a row leaves, and whether it ends the record
abbrev pub state_after : Next → State → State
state_after Stays was = was
state_after Ends was = Free
state_after (Goes state) was = state

abbrev pub ends_by : Next → Bool
ends_by Stays = false
ends_by Ends = true
ends_by (Goes state) = false

-- the record after a row, free where it ends
unfoldable pub record_after : Next → Act → Record → Given → Settings → List (List ℕ) → Record
record_after Stays a r g s rows = moved_to r.state a r g s rows
record_after Ends a r g s rows = new_record 0 0 false false
record_after (Goes state) a r g s rows = moved_to state a r g s rows

-- the whole turn
unfoldable pub turn_of : Act → Record → Given → Settings → List (List ℕ) → Turn
turn_of a r g s rows = record {
  after = record_after a.next a r g s rows;
  send = a.send;
  first = a.first;
  second = a.second;
  cell = a.cell;
  exit = stores_exit a.exit;
  cache = a.cache;
}

-- the turn of a live record under its row, and of a new record
unfoldable pub row_turn : Row → Record → Given → Settings → List (List ℕ) → Turn
row_turn row r g s rows = turn_of (act_of row r.tidok_sent g.kind g.reason) r g s rows

unfoldable pub opening_turn : Opening → Record → Given → Settings → List (List ℕ) → Turn
opening_turn opening r g s rows = turn_of (opening_act opening) r g s rows
