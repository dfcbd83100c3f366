-- What a row leaves and shows, as numbers: the record's deadline, counters, identity of an unknown item and octets sent, and the type and reason of an abort.
use Rattle.std.specs.Prelude.{ℕ, ◌+◌, ◌*◌, ◌-◌, ◌≤◌, ◌≡◌, Bool, false, List, [], get_or, ltb, leb}
use Rattle.base_lists.specs.Seq.{pick}
use Rattle.table_record.specs.Record.{class_of, state_number}
use Rattle.table_record.specs.declared.Record.{Record}
use Rattle.table_layout.specs.declared.Settings.{Settings}
use Rattle.row_events.specs.Events.{same_row_is, same_opening}
use Rattle.row_events.specs.declared.Row.{Row}
use Rattle.row_events.specs.declared.Row.TheVariants.{PeerAborts}
use Rattle.row_events.specs.declared.Opening.{Opening}
use Rattle.row_columns.specs.declared.Next.{Next}
use Rattle.row_columns.specs.declared.Next.TheVariants.{Stays, Ends, Goes}
use Rattle.row_columns.specs.declared.Count.{Count}
use Rattle.row_columns.specs.declared.Timer.{Timer}
use Rattle.row_columns.specs.declared.Send.{Send}
use Rattle.row_columns.specs.declared.Indication.{Indication}
use Rattle.row_turns.specs.declared.Given.{Given}
use Rattle.law_rows_done.specs.Lists.{listed}
use Rattle.law_rows_done.specs.LiveRows as Live
use Rattle.law_rows_done.specs.OpeningRows as Opening

-- the timer that document 01 names for a row, and for an opening
abbrev pub timer_of : Row → Timer
timer_of row = listed same_row_is Live.timer_lines row Timer.Runs

abbrev pub opening_timer : Opening → Timer
opening_timer opening = listed same_opening Opening.timer_lines opening Timer.Runs

-- 01: "R[RCR] is one of two rows of nine intervals, class 1 and class 2": by the class and the RCR that the record then has
abbrev pub interval_r : List (List ℕ) → Record → ℕ
interval_r rows after = get_or (get_or rows (class_of after.state - 1) []) after.rcr.0 0

-- the deadline of a record: now and the interval that is named; "stop timer", "no timer" is none, and with the mode on (02, L6) now and the waiting limit of the settings; else as it was
abbrev pub deadline_by : Timer → (was now : ℕ) → Settings → List (List ℕ) → Record → ℕ
deadline_by Timer.Runs was now s rows after = was
deadline_by Timer.Stop was now s rows after = pick (ltb 0 s.limit) (now + s.limit) 0
deadline_by Timer.A was now s rows after = now + s.a
deadline_by Timer.W was now s rows after = now + s.w
deadline_by Timer.R was now s rows after = now + interval_r rows after

-- 02, L6: the waiting limit that is the deadline: that of the settings where a row stops the timer or starts none, none where it starts A, W or R; else as it was
abbrev pub limit_by : Timer → (was : ℕ) → Settings → ℕ
limit_by Timer.Runs was s = was
limit_by Timer.Stop was s = s.limit
limit_by Timer.A was s = 0
limit_by Timer.W was s = 0
limit_by Timer.R was s = 0

-- deadline and waiting limit of the record that a turn leaves live are those that are named, whatever came with the event
abbrev pub Named : Given → Settings → List (List ℕ) → (before : Record) → Timer → (after : Record) → Type 0
Named g s rows before timer after =
    1 ≤ state_number after.state → after.rcr.0 ≤ 8 → (after.deadline ≡ deadline_by timer before.deadline g.time s rows after) × (after.limit ≡ limit_by timer before.limit s)

-- what document 01 counts in a row
abbrev pub count_of : Row → Count
count_of row = listed same_row_is Live.count_lines row Count.Same

-- RCR, and AEC, afterwards: "RCR 0", "RCR + 1", "AEC 0", "AEC + 1"
abbrev pub rcr_by : Count → ℕ → ℕ
rcr_by Count.Same n = n
rcr_by Count.RcrZero n = 0
rcr_by Count.RcrUp n = n + 1
rcr_by Count.AecZero n = n
rcr_by Count.AecUp n = n

abbrev pub aec_by : Count → ℕ → ℕ
aec_by Count.Same n = n
aec_by Count.RcrZero n = n
aec_by Count.RcrUp n = n
aec_by Count.AecZero n = 0
aec_by Count.AecUp n = n + 1

-- both counters of the record that a turn leaves live
abbrev pub Counted : (before : Record) → Count → (after : Record) → Type 0
Counted before count after = 1 ≤ state_number after.state → (after.rcr.0 ≡ rcr_by count before.rcr.0) × (after.aec.0 ≡ aec_by count before.aec.0)

-- whether a row, or an opening, takes the identity of the PDU that came, and where it leaves the record
abbrev pub takes_item : Row → Bool
takes_item row = listed same_row_is Live.item_lines row false

abbrev pub opening_takes_item : Opening → Bool
opening_takes_item opening = listed same_opening Opening.item_lines opening false

abbrev pub next_of : Row → Next
next_of row = listed same_row_is Live.next_lines row Stays

abbrev pub opening_next : Opening → Next
opening_next opening = listed same_opening Opening.next_lines opening Ends

-- 02, L4: "The record keeps that identity from the Invoke that opened it or the Result it took": that of the PDU that came where it is taken, else as it was; a record that ended has none
abbrev pub unknown_by : Next → (takes : Bool) (was came : ℕ) → ℕ
unknown_by Stays takes was came = pick takes came was
unknown_by Ends takes was came = 0
unknown_by (Goes state) takes was came = pick takes came was

-- what a row, and an opening, adds to the octets that its request has sent, n the length of its data
abbrev pub row_cost : Row → (tidok : Bool) (n : ℕ) → ℕ
row_cost row tidok n = listed same_row_is (Live.cost_lines tidok n) row 0

abbrev pub opening_cost : Opening → (n : ℕ) → ℕ
opening_cost opening n = listed same_opening (Opening.cost_lines n) opening 0

-- the lesser of two
abbrev pub least : ℕ → ℕ → ℕ
least a b = pick (leb a b) a b

-- 02, L11: "the sum of those PDUs' lengths", "at most (1 + RCR_MAX) times (4 + n)", n at most 1,024: on a made-up table it stops there; a record that ended has none
abbrev pub sent_by : Next → (was cost : ℕ) → Settings → ℕ
sent_by Stays was cost s = least (was + cost) ((1 + s.rcr_max) * (4 + 1024))
sent_by Ends was cost s = 0
sent_by (Goes state) was cost s = least (was + cost) ((1 + s.rcr_max) * (4 + 1024))

-- "the reason sent, or 8 if none is sent"
abbrev pub reason_sent : Send → ℕ
reason_sent Send.Nothing = 8
reason_sent (Send.Invoke again) = 8
reason_sent (Send.Tidok again) = 8
reason_sent (Send.LastAck again) = 8
reason_sent (Send.HoldOn again) = 8
reason_sent (Send.Tidve again) = 8
reason_sent (Send.Result again) = 8
reason_sent (Send.Abort kind reason) = reason

-- "for an abort also type and reason: those received, else provider with the reason sent, or 8 if none is sent"
abbrev pub abort_by : Row → (kind reason : ℕ) → Send → Indication
abort_by row kind reason send = pick (same_row_is row PeerAborts) (Indication.Abort kind reason) (Indication.Abort 0 (reason_sent send))
