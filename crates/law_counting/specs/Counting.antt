-- What one record has sent and shown since it was opened, counted: what its state says of it, and the limits.
use Rattle.std.specs.Prelude.{ℕ, ◌+◌, ◌≤◌, ◌≡◌, Bool, false, ◌⊎◌, eqb}
use Rattle.base_lists.specs.Seq.{bit}
use Rattle.table_record.specs.declared.State.{State}
use Rattle.table_record.specs.declared.State.TheVariants.{Free, IResultWait1, IResultWait2, IResultRespWait, IWaitTimeout, RTidokWait1, RTidokWait2, RInvokeRespWait1, RInvokeRespWait2, RResultWait, RResultRespWait, RWaitTimeout}
use Rattle.table_record.specs.declared.Record.{Record}
use Rattle.table_record_ok.specs.OneRecord.{Live}
use Rattle.row_columns.specs.Columns.{user}
use Rattle.row_columns.specs.declared.Send.{Send}
use Rattle.row_columns.specs.declared.Indication.{Indication}
use Rattle.row_turns.specs.Turns.{new_record}
use Rattle.row_turns.specs.declared.Turn.{Turn}

-- demand 3: a request's "Invoke PDUs and TIDok answers" together, Result PDUs sent; confirmations and results shown; aborts, "the user's own abort or one shown to it"; Invokes shown
pub record Counts : Type 0 where
  pub sends : ℕ
  pub results_sent : ℕ
  pub confirms : ℕ
  pub results : ℕ
  pub aborts : ℕ
  pub shows : ℕ

-- nothing yet
abbrev pub none : Counts
none = record { sends = 0; results_sent = 0; confirms = 0; results = 0; aborts = 0; shows = 0 }

-- one after the other
abbrev pub plus : Counts → Counts → Counts
plus c d = record {
  sends = c.sends + d.sends;
  results_sent = c.results_sent + d.results_sent;
  confirms = c.confirms + d.confirms;
  results = c.results + d.results;
  aborts = c.aborts + d.aborts;
  shows = c.shows + d.shows;
}

-- Invoke and TIDok PDUs, confirmations and results; nothing else
abbrev pub requested : ℕ → ℕ → ℕ → Counts
requested sends confirms results = record { sends = sends; results_sent = 0; confirms = confirms; results = results; aborts = 0; shows = 0 }

-- Result PDUs, and Invokes shown; nothing else
abbrev pub invoked : ℕ → ℕ → Counts
invoked results_sent shows = record { sends = 0; results_sent = results_sent; confirms = 0; results = 0; aborts = 0; shows = shows }

-- aborts alone
abbrev pub aborted : ℕ → Counts
aborted aborts = record { sends = 0; results_sent = 0; confirms = 0; results = 0; aborts = aborts; shows = 0 }

-- what a PDU adds; an abort only if it is the user's own: "0 provider, 1 user"
abbrev pub of_send : Send → Counts
of_send Send.Nothing = none
of_send (Send.Invoke again) = requested 1 0 0
of_send (Send.Tidok again) = requested 1 0 0
of_send (Send.LastAck again) = none
of_send (Send.HoldOn again) = none
of_send (Send.Tidve again) = none
of_send (Send.Result again) = invoked 1 0
of_send (Send.Abort kind reason) = aborted (bit (eqb kind user))

-- what an indication adds
abbrev pub of_indication : Indication → Counts
of_indication Indication.Nothing = none
of_indication (Indication.Invoke verified) = invoked 0 1
of_indication (Indication.Confirm ack) = requested 0 1 0
of_indication Indication.Result = requested 0 0 1
of_indication (Indication.Abort kind reason) = aborted 1

-- 01: an accepted call "sends at most one PDU and gives at most two indications": what one turn adds
abbrev pub of_turn : Send → Indication → Indication → Counts
of_turn send first second = plus (of_send send) (plus (of_indication first) (of_indication second))

-- the counts after a turn
abbrev pub counted : Counts → Turn → Counts
counted c t = plus c (of_turn t.send t.first t.second)

-- the counts in each state, with RCR and HoldOn; 01: "RCR is the number of Invoke, TIDok or Result PDUs sent after the first", "confirm unless HoldOn, indicate result", "TIDOK WAIT, where the user knows nothing"
abbrev pub counts_in : State → ℕ → Bool → Counts
counts_in Free rcr holdOn = none
counts_in IResultWait1 rcr holdOn = requested (1 + rcr) 0 0
counts_in IResultWait2 rcr holdOn = requested (1 + rcr) (bit holdOn) 0
counts_in IResultRespWait rcr holdOn = requested (1 + rcr) 1 1
counts_in IWaitTimeout rcr holdOn = requested (1 + rcr) 1 1
counts_in RTidokWait1 rcr holdOn = none
counts_in RTidokWait2 rcr holdOn = none
counts_in RInvokeRespWait1 rcr holdOn = invoked 0 1
counts_in RInvokeRespWait2 rcr holdOn = invoked 0 1
counts_in RResultWait rcr holdOn = invoked 0 1
counts_in RResultRespWait rcr holdOn = invoked (1 + rcr) 1
counts_in RWaitTimeout rcr holdOn = invoked 0 1

-- what was counted of a record since its opening is what the record says
abbrev pub Fits : Record → Counts → Type 0
Fits r c = c ≡ counts_in r.state r.rcr.0 r.hold_on

-- demand 3: "at most one confirmation, one result and one abort", "Its Invoke PDUs and TIDok answers number at most 1 + RCR_MAX together", "shows that Invoke to its user at most once"; Result PDUs number no more either
pub record Limits (max : ℕ) (c : Counts) : Type 0 where
  pub sends : c.sends ≤ 1 + max
  pub results_sent : c.results_sent ≤ 1 + max
  pub confirms : c.confirms ≤ 1
  pub results : c.results ≤ 1
  pub aborts : c.aborts ≤ 1
  pub shows : c.shows ≤ 1

-- 01: "A freed record is zeroed": its count is closed; else the record is live and says what was counted
abbrev pub FreedOrFits : Record → Counts → Type 0
FreedOrFits after c = (after ≡ new_record 0 0 false false) ⊎ (Live after × Fits after c)

-- a record and its counts after a turn: in either case within the limits
pub record Tallied (max : ℕ) (after : Record) (c : Counts) : Type 0 where
  pub state : FreedOrFits after c
  pub limits : Limits max c
