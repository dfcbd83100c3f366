-- What the laws of all rows speak of: what an act shows, where its record goes, and what it counts.
use Rattle.std.specs.Prelude.{ℕ, ◌≤◌, Bool, true, false, ◌&&◌, ◌||◌, eqb}
use Rattle.table_record.specs.Record.{state_number}
use Rattle.table_record.specs.declared.State.{State}
use Rattle.table_record.specs.declared.State.TheVariants.{IResultWait2}
use Rattle.row_events.specs.Events.{event_number}
use Rattle.row_events.specs.declared.Event.{Event}
use Rattle.row_events.specs.declared.Conditions.{Conditions}
use Rattle.row_choice.specs.Rows.{row_of}
use Rattle.row_entries.specs.Acts.{act_of}
use Rattle.row_columns.specs.declared.Next.{Next}
use Rattle.row_columns.specs.declared.Next.TheVariants.{Stays, Ends, Goes}
use Rattle.row_columns.specs.declared.Count.{Count}
use Rattle.row_columns.specs.declared.Send.{Send}
use Rattle.row_columns.specs.declared.Indication.{Indication}
use Rattle.row_columns.specs.declared.Act.{Act}

-- what an event does in a state; `tidok` says whether a TIDok was sent
abbrev pub act_at : State → Event → Conditions → Bool → ℕ → ℕ → Act
act_at s e c tidok kind reason = act_of (row_of s e c) tidok kind reason

-- whether an indication is an abort, or a result
abbrev pub is_abort : Indication → Bool
is_abort Indication.Nothing = false
is_abort (Indication.Invoke verified) = false
is_abort (Indication.Confirm ack) = false
is_abort Indication.Result = false
is_abort (Indication.Abort kind reason) = true

abbrev pub is_result : Indication → Bool
is_result Indication.Nothing = false
is_result (Indication.Invoke verified) = false
is_result (Indication.Confirm ack) = false
is_result Indication.Result = true
is_result (Indication.Abort kind reason) = false

-- whether an act shows an abort, or a result
abbrev pub shows_abort : Act → Bool
shows_abort a = is_abort a.first || is_abort a.second

abbrev pub shows_result : Act → Bool
shows_result a = is_result a.first || is_result a.second

-- a Result, TTR set, in the initiator's RESULT WAIT of class 2
abbrev pub takes_result : State → Event → Bool
takes_result s e =
    eqb (state_number s) (state_number IResultWait2)
    && (eqb (event_number e) (event_number Event.Result) || eqb (event_number e) (event_number Event.ResultRid))

-- the state that a record is in while it lives
abbrev pub living_state : Next → State → State
living_state Stays s = s
living_state Ends s = s
living_state (Goes t) s = t

-- 01: "RCR is the number of Invoke, TIDok or Result PDUs sent after the first"
abbrev pub counts_rcr : Count → Bool
counts_rcr Count.Same = false
counts_rcr Count.RcrZero = false
counts_rcr Count.RcrUp = true
counts_rcr Count.AecZero = false
counts_rcr Count.AecUp = false

abbrev pub sent_after_first : Send → Bool
sent_after_first Send.Nothing = false
sent_after_first (Send.Invoke again) = again
sent_after_first (Send.Tidok again) = true
sent_after_first (Send.LastAck again) = false
sent_after_first (Send.HoldOn again) = false
sent_after_first (Send.Tidve again) = false
sent_after_first (Send.Result again) = again
sent_after_first (Send.Abort kind reason) = false

-- 01, the table of types: an abort that is sent is "0 provider, 1 user"
abbrev pub SendProper : Send → Type 0
SendProper Send.Nothing = Unit
SendProper (Send.Invoke again) = Unit
SendProper (Send.Tidok again) = Unit
SendProper (Send.LastAck again) = Unit
SendProper (Send.HoldOn again) = Unit
SendProper (Send.Tidve again) = Unit
SendProper (Send.Result again) = Unit
SendProper (Send.Abort kind reason) = kind ≤ 1
