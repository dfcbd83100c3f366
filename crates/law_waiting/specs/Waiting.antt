-- The waiting limit (02, L6): every live record has an end of its own, and how many firings it is away.
use Rattle.std.specs.Prelude.{ℕ, ◌+◌, ◌-◌, ◌≤◌, ◌<◌, ◌≡◌, Bool, true, false, List, ltb}
use Rattle.base_lists.specs.Seq.{pick}
use Rattle.table_record.specs.declared.State.{State}
use Rattle.table_record.specs.declared.State.TheVariants.{Free, IResultWait1, IResultWait2, IResultRespWait, IWaitTimeout, RTidokWait1, RTidokWait2, RInvokeRespWait1, RInvokeRespWait2, RResultWait, RResultRespWait, RWaitTimeout}
use Rattle.table_record.specs.declared.Record.{Record}
use Rattle.table_layout.specs.Table.{count, record_at, settings_of}
use Rattle.table_layout.specs.declared.Settings.{Settings}
use Rattle.table_record_ok.specs.OneRecord.{Live}
use Rattle.row_conditions.specs.Conditions.{limited_of}
use Rattle.call_plans.specs.Concerns.{Concerns, fires}
use Rattle.law_history.specs.Trace.{Entry, Promise}
use Rattle.law_history.specs.Tally.{accepted}
use Rattle.law_history.specs.Moves.{before, after}

-- "off or on in the settings": the mode is on where the table has a waiting limit
abbrev pub ModeOn : List ℕ → Type 0
ModeOn t = 1 ≤ (settings_of t).limit

-- the states in which 01 gives a record no timer at all
abbrev pub is_tidok_wait : State → Bool
is_tidok_wait Free = false
is_tidok_wait IResultWait1 = false
is_tidok_wait IResultWait2 = false
is_tidok_wait IResultRespWait = false
is_tidok_wait IWaitTimeout = false
is_tidok_wait RTidokWait1 = true
is_tidok_wait RTidokWait2 = true
is_tidok_wait RInvokeRespWait1 = false
is_tidok_wait RInvokeRespWait2 = false
is_tidok_wait RResultWait = false
is_tidok_wait RResultRespWait = false
is_tidok_wait RWaitTimeout = false

-- a record that doesn't wait for ever: it has a deadline, and in TIDOK WAIT that is the waiting limit
pub record Timed (r : Record) : Type 0 where
  pub deadline : 1 ≤ r.deadline
  pub verifying : is_tidok_wait r.state ≡ true → 1 ≤ r.limit

-- every live record of a table
abbrev pub AllTimed : List ℕ → Type 0
AllTimed t = (i : ℕ) → i < count t → Live (record_at t i) → Timed (record_at t i)

-- how many due firings free a record: by its state, what is left of RCR and of AEC, user acknowledgement, and whether its deadline is a waiting limit
abbrev pub left_in : State → (rcr aec : ℕ) (user_ack limited : Bool) → ℕ
left_in Free rcr aec user_ack limited = 0
-- "Timer: if RCR < RCR_MAX, RCR + 1, resend [..]; else indicate abort, end"
left_in IResultWait1 rcr aec user_ack limited = rcr + 1
-- the same; held on under the limit, its end
left_in IResultWait2 rcr aec user_ack limited = pick limited 1 (rcr + 1)
-- "Timer with it: if AEC < AEC_MAX, AEC + 1 [..]; else Abort 8 [..] end"; without it Ack, then WAIT TIMEOUT
left_in IResultRespWait rcr aec user_ack limited = pick user_ack (aec + 1) 2
left_in IWaitTimeout rcr aec user_ack limited = 1
left_in RTidokWait1 rcr aec user_ack limited = 1
left_in RTidokWait2 rcr aec user_ack limited = 1
-- as the initiator's; without user acknowledgement Ack, then WAIT TIMEOUT, or hold-on, then the limit
left_in RInvokeRespWait1 rcr aec user_ack limited = pick user_ack (aec + 1) 2
left_in RInvokeRespWait2 rcr aec user_ack limited = pick user_ack (aec + 1) 2
-- hold-on, then the limit
left_in RResultWait rcr aec user_ack limited = pick limited 1 2
left_in RResultRespWait rcr aec user_ack limited = rcr + 1
left_in RWaitTimeout rcr aec user_ack limited = 1

-- the same of a record
abbrev pub firings_left : Settings → Record → ℕ
firings_left s r = left_in r.state (s.rcr_max - r.rcr.0) (s.aec_max - r.aec.0) r.user_ack (limited_of r.state r.hold_on r.hold_on_sent (ltb 0 r.limit))

-- "a stated number of firings given by RCR_MAX and AEC_MAX": one more than the larger of them, and no less than 2
abbrev pub larger : ℕ → ℕ → ℕ
larger a b = pick (ltb a b) b a

abbrev pub most_firings : Settings → ℕ
most_firings s = 1 + larger s.rcr_max (larger s.aec_max 1)

-- a due firing of the live record at a place, by wtp_timer or by wtp_fire
pub record FiredAt (e : Entry) (place : ℕ) : Type 0 where
  pub fires : fires e.call ≡ true
  pub taken : accepted e.done.answer ≡ true
  pub inside : place < count (before e)
  pub live : Live (record_at (before e) place)
  pub concerns : Concerns e.call e.lent place

-- "a record reached only by due firings, its user answers withheld": from one table to another by so many firings of the record at a place, and by any calls that leave that record as it is
pub data OnlyFired (place : ℕ) (from : List ℕ) : ℕ → List ℕ → Type 0 where
  none : OnlyFired place from 0 from
  fired : {n : ℕ} {t : List ℕ} → OnlyFired place from n t → (e : Entry) → Promise e → before e ≡ t → FiredAt e place → OnlyFired place from (n + 1) (after e)
  apart : {n : ℕ} {t : List ℕ} → OnlyFired place from n t → (e : Entry) → Promise e → before e ≡ t → record_at (after e) place ≡ record_at (before e) place → OnlyFired place from n (after e)

-- what so many firings leave of a record: each takes one of those that it had left, so that there are no more of them, and with the last it is free
pub record Freed (s : Settings) (r then : Record) (n : ℕ) : Type 0 where
  pub counted : n + firings_left s then ≡ firings_left s r
  pub bounded : n ≤ most_firings s
  pub free : n ≡ firings_left s r → then.state ≡ Free
