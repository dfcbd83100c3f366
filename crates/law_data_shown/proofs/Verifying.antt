-- TIDOK WAIT row by row: an Invoke is shown to a live record only there and from its cell; only an Invoke to be verified leads there, and no turn that stays there writes the cell. Assumes nothing.
use Prim.Native.Nat.{ℕ, ◌≤◌}
use native.Mathlib.Omega.{arith}
use mathlib.Core.Path.{◌≡◌, refl, sym, ap, ◌∙◌}
use mathlib.Core.Bool.{Bool, true, false, not}
use mathlib.Core.List.{List}
use mathlib.Core.Logic.{◌⊎◌, inl, inr}
use lib.Dec.{eqb}
use Rattle.base_lists.specs.Seq.{pick, every}
use Rattle.base_lists.proofs.StoresAndParts.{true_false, both_fst, both_snd}
use Rattle.table_record.specs.Record.{class_of, state_number, state_of}
use Rattle.table_record.specs.declared.State.{State}
use Rattle.table_record.specs.declared.Record.{Record}
use Rattle.table_layout.specs.Table.{record_at, settings_of, intervals_of}
use Rattle.table_layout.specs.declared.Settings.{Settings}
use Rattle.row_events.specs.declared.Event.{Event}
use Rattle.row_events.specs.declared.Conditions.{Conditions}
use Rattle.row_events.specs.declared.Opening.{Opening}
use Rattle.row_events.specs.declared.Opening.TheVariants as Opening
use Rattle.row_events.proofs.Finite.{at_state}
use Rattle.row_choice.specs.Rows.{row_of}
use Rattle.row_conditions.specs.Conditions.{conditions_of}
use Rattle.row_columns.specs.Columns.{act_with, taken, acked, stored, shown}
use Rattle.row_columns.specs.declared.Next.{Next}
use Rattle.row_columns.specs.declared.Next.TheVariants.{Stays, Ends, Goes}
use Rattle.row_columns.specs.declared.Indication.{Indication}
use Rattle.row_columns.specs.declared.Indication.TheVariants as Indication
use Rattle.row_columns.specs.declared.Act.{Act}
use Rattle.row_entries.specs.Acts.{act_of, opening_act}
use Rattle.law_rows.specs.Shown.{act_at}
use Rattle.row_turns.specs.Turns.{new_record, moved_to, record_after, turn_of, row_turn, opening_turn}
use Rattle.row_turns.specs.declared.Given.{Given}
use Rattle.row_turns.specs.declared.Turn.{Turn}
use Rattle.step_live.specs.Turning.{row_at, live_turn}
use Rattle.law_history.specs.Start.{in_tidok_wait}

-- a turn indicates this
abbrev pub Indicates : Turn → Indication → Type 0
Indicates turn i = (turn.first ≡ i) ⊎ (turn.second ≡ i)

-- ---- a live record's turn

-- an Invoke is shown after verification, in TIDOK WAIT, and its cell isn't written
abbrev from_cell_is : State → Bool → Indication → Bool
from_cell_is s cell Indication.Nothing = true
from_cell_is s cell (Indication.Invoke verified) = pick verified (pick (in_tidok_wait s) (not cell) false) false
from_cell_is s cell (Indication.Confirm acked) = true
from_cell_is s cell Indication.Result = true
from_cell_is s cell (Indication.Abort type reason) = true

-- a record is in TIDOK WAIT afterwards only if it was and stays there, its cell not written
abbrev stays_there : State → Bool → Next → Bool
stays_there s cell Stays = pick (in_tidok_wait s) (not cell) true
stays_there s cell Ends = true
stays_there s cell (Goes next) = not (in_tidok_wait next)

abbrev row_test : State → Act → Bool
row_test s a = pick (from_cell_is s a.cell a.first) (pick (from_cell_is s a.cell a.second) (stays_there s a.cell a.next) false) false

row_tested : (kind reason : ℕ) (tidok : Bool) (s : State) (e : Event) (c : Conditions) → row_test s (act_at s e c tidok kind reason) ≡ true
unfolding every state_of row_of act_of act_with taken acked stored shown
row_tested kind reason tidok s e c = at_state (λ s e c. row_test s (act_at s e c tidok kind reason)) refl s e c

pub record FromCell (s : State) (cell verified : Bool) : Type 0 where
  pub was_verified : verified ≡ true
  pub waited : in_tidok_wait s ≡ true
  pub unwritten : cell ≡ false

not-false : (b : Bool) → not b ≡ true → b ≡ false
not-false true e = sym e
not-false false e = refl

from_cell : (s : State) (cell verified : Bool) → pick verified (pick (in_tidok_wait s) (not cell) false) false ≡ true → FromCell s cell verified
from_cell s cell v e =
    let inner : pick (in_tidok_wait s) (not cell) false ≡ true = both_snd v _ e in
    record { was_verified = both_fst v _ e; waited = both_fst (in_tidok_wait s) (not cell) inner; unwritten = not-false cell (both_snd (in_tidok_wait s) (not cell) inner) }

-- a record that still waits has the message it had
pub record StillWaits (r after : Record) (cell : Bool) : Type 0 where
  pub waited : in_tidok_wait r.state ≡ true
  pub unwritten : cell ≡ false
  pub same_len : after.len ≡ r.len
  pub same_peer : after.peer ≡ r.peer
  pub same_tid : after.tid ≡ r.tid
  pub same_state : after.state ≡ r.state
  pub same_ack : after.user_ack ≡ r.user_ack

module _ (a : Act) (r : Record) (g : Given) (s : Settings) (rows : List (List ℕ)) where
  still : (n : Next) → stays_there r.state a.cell n ≡ true → in_tidok_wait (record_after n a r g s rows).state ≡ true → StillWaits r (record_after n a r g s rows) a.cell
  unfolding record_after moved_to new_record
  still Stays t e =
      let u : a.cell ≡ false = not-false a.cell (rw e at t) in
      record { waited = e; unwritten = u; same_len = rw u refl; same_peer = refl; same_tid = refl; same_state = refl; same_ack = refl }
  still Ends t e = true_false (sym e)
  still (Goes next) t e = true_false (sym e ∙ not-false (in_tidok_wait next) t)

module _ (t : List ℕ) (place : ℕ) (event : Event) (g : Given) where
  abbrev r : Record
  r = record_at t place

  abbrev act : Act
  act = act_at r.state event (conditions_of (settings_of t) r) r.tidok_sent g.kind g.reason

  abbrev tested : row_test r.state act ≡ true
  tested = row_tested g.kind g.reason r.tidok_sent r.state event (conditions_of (settings_of t) r)

  abbrev later : pick (from_cell_is r.state act.cell act.second) (stays_there r.state act.cell act.next) false ≡ true
  later = both_snd (from_cell_is r.state act.cell act.first) _ tested

  pub live_shows : (v : Bool) → Indicates (live_turn t place event g) (Indication.Invoke v) → FromCell r.state (live_turn t place event g).cell v
  unfolding live_turn row_at row_turn turn_of
  live_shows v (inl e) = from_cell r.state act.cell v (ap (from_cell_is r.state act.cell) (sym e) ∙ both_fst (from_cell_is r.state act.cell act.first) _ tested)
  live_shows v (inr e) = from_cell r.state act.cell v (ap (from_cell_is r.state act.cell) (sym e) ∙ both_fst (from_cell_is r.state act.cell act.second) _ later)

  pub live_stays : in_tidok_wait (live_turn t place event g).after.state ≡ true → StillWaits r (live_turn t place event g).after (live_turn t place event g).cell
  unfolding live_turn row_at row_turn turn_of
  live_stays e = still act r g (settings_of t) (intervals_of t) act.next (both_snd (from_cell_is r.state act.cell act.second) _ later) e

-- ---- an opening's turn

-- an Invoke to be verified, an Invoke of class 0 that is shown
abbrev pub is_to_verify : Opening → Bool
is_to_verify Opening.Ignored = false
is_to_verify Opening.Requested0 = false
is_to_verify Opening.Requested1 = false
is_to_verify Opening.Requested2 = false
is_to_verify Opening.Malformed = false
is_to_verify Opening.WrongVersion = false
is_to_verify Opening.Unsupported = false
is_to_verify Opening.TooLong = false
is_to_verify Opening.Shown0 = false
is_to_verify Opening.Valid1 = false
is_to_verify Opening.Valid2 = false
is_to_verify Opening.ToVerify1 = true
is_to_verify Opening.ToVerify2 = true
is_to_verify Opening.UnknownTidve = false
is_to_verify Opening.Restarted1 = true
is_to_verify Opening.Restarted2 = true

abbrev pub is_shown0 : Opening → Bool
is_shown0 Opening.Ignored = false
is_shown0 Opening.Requested0 = false
is_shown0 Opening.Requested1 = false
is_shown0 Opening.Requested2 = false
is_shown0 Opening.Malformed = false
is_shown0 Opening.WrongVersion = false
is_shown0 Opening.Unsupported = false
is_shown0 Opening.TooLong = false
is_shown0 Opening.Shown0 = true
is_shown0 Opening.Valid1 = false
is_shown0 Opening.Valid2 = false
is_shown0 Opening.ToVerify1 = false
is_shown0 Opening.ToVerify2 = false
is_shown0 Opening.UnknownTidve = false
is_shown0 Opening.Restarted1 = false
is_shown0 Opening.Restarted2 = false

-- the class of the record that an opening leaves, 0 where it leaves none
abbrev pub opens_class : Opening → ℕ
opens_class Opening.Ignored = 0
opens_class Opening.Requested0 = 0
opens_class Opening.Requested1 = 1
opens_class Opening.Requested2 = 2
opens_class Opening.Malformed = 0
opens_class Opening.WrongVersion = 0
opens_class Opening.Unsupported = 0
opens_class Opening.TooLong = 0
opens_class Opening.Shown0 = 0
opens_class Opening.Valid1 = 1
opens_class Opening.Valid2 = 2
opens_class Opening.ToVerify1 = 1
opens_class Opening.ToVerify2 = 2
opens_class Opening.UnknownTidve = 0
opens_class Opening.Restarted1 = 1
opens_class Opening.Restarted2 = 2

no_invoke : {A : Type 0} (v : Bool) → Indication.Nothing ≡ Indication.Invoke v → A
no_invoke v e = true_false (sym (ap is_invoke e))
  where
    is_invoke : Indication → Bool
    is_invoke Indication.Nothing = false
    is_invoke (Indication.Invoke verified) = true
    is_invoke (Indication.Confirm acked) = false
    is_invoke Indication.Result = false
    is_invoke (Indication.Abort type reason) = false

pub no_invokes : {A : Type 0} (v : Bool) → (Indication.Nothing ≡ Indication.Invoke v) ⊎ (Indication.Nothing ≡ Indication.Invoke v) → A
no_invokes v (inl e) = no_invoke v e
no_invokes v (inr e) = no_invoke v e

-- an Invoke shown at once
plain : (v : Bool) → (Indication.Invoke false ≡ Indication.Invoke v) ⊎ (Indication.Nothing ≡ Indication.Invoke v) → v ≡ false
plain v (inl e) = sym (ap verified_in e)
  where
    verified_in : Indication → Bool
    verified_in Indication.Nothing = false
    verified_in (Indication.Invoke verified) = verified
    verified_in (Indication.Confirm acked) = false
    verified_in Indication.Result = false
    verified_in (Indication.Abort type reason) = false
plain v (inr e) = no_invoke v e

-- it is shown at once, without a record or by one that is opened
pub record ShownAtOnce (opening : Opening) (after : Record) (verified : Bool) : Type 0 where
  pub unverified : verified ≡ false
  pub of_record : is_shown0 opening ≡ false → 1 ≤ state_number after.state

-- the message is kept
pub record Verifies (opening : Opening) (turn : Turn) (len : ℕ) : Type 0 where
  pub to_verify : is_to_verify opening ≡ true
  pub written : turn.cell ≡ true
  pub same_len : turn.after.len ≡ len

module _ (r : Record) (g : Given) (s : Settings) (rows : List (List ℕ)) where
  -- an opening that leaves no record writes no cell
  pub none_writes_none : (o : Opening) → eqb (state_number (opening_turn o r g s rows).after.state) 0 ≡ true → (opening_turn o r g s rows).cell ≡ false
  unfolding opening_turn turn_of opening_act act_with stored shown record_after moved_to new_record
  none_writes_none Opening.Ignored e = refl
  none_writes_none Opening.Requested0 e = refl
  none_writes_none Opening.Requested1 e = true_false (sym e)
  none_writes_none Opening.Requested2 e = true_false (sym e)
  none_writes_none Opening.Malformed e = refl
  none_writes_none Opening.WrongVersion e = refl
  none_writes_none Opening.Unsupported e = refl
  none_writes_none Opening.TooLong e = refl
  none_writes_none Opening.Shown0 e = refl
  none_writes_none Opening.Valid1 e = true_false (sym e)
  none_writes_none Opening.Valid2 e = true_false (sym e)
  none_writes_none Opening.ToVerify1 e = true_false (sym e)
  none_writes_none Opening.ToVerify2 e = true_false (sym e)
  none_writes_none Opening.UnknownTidve e = refl
  none_writes_none Opening.Restarted1 e = true_false (sym e)
  none_writes_none Opening.Restarted2 e = true_false (sym e)

  -- a record is in TIDOK WAIT only by an Invoke to be verified, whose data is kept
  pub opens_waiting : (o : Opening) → in_tidok_wait (opening_turn o r g s rows).after.state ≡ true → Verifies o (opening_turn o r g s rows) g.len
  unfolding opening_turn turn_of opening_act act_with stored shown record_after moved_to new_record
  opens_waiting Opening.Ignored e = true_false (sym e)
  opens_waiting Opening.Requested0 e = true_false (sym e)
  opens_waiting Opening.Requested1 e = true_false (sym e)
  opens_waiting Opening.Requested2 e = true_false (sym e)
  opens_waiting Opening.Malformed e = true_false (sym e)
  opens_waiting Opening.WrongVersion e = true_false (sym e)
  opens_waiting Opening.Unsupported e = true_false (sym e)
  opens_waiting Opening.TooLong e = true_false (sym e)
  opens_waiting Opening.Shown0 e = true_false (sym e)
  opens_waiting Opening.Valid1 e = true_false (sym e)
  opens_waiting Opening.Valid2 e = true_false (sym e)
  opens_waiting Opening.ToVerify1 e = record { to_verify = refl; written = refl; same_len = refl }
  opens_waiting Opening.ToVerify2 e = record { to_verify = refl; written = refl; same_len = refl }
  opens_waiting Opening.UnknownTidve e = true_false (sym e)
  opens_waiting Opening.Restarted1 e = record { to_verify = refl; written = refl; same_len = refl }
  opens_waiting Opening.Restarted2 e = record { to_verify = refl; written = refl; same_len = refl }

  -- the class of a record that is opened is that of its opening, and its U/P what it was opened with
  pub opened_class : (o : Opening) → class_of (opening_turn o r g s rows).after.state ≡ opens_class o
  unfolding opening_turn turn_of opening_act act_with stored shown record_after moved_to new_record
  opened_class Opening.Ignored = refl
  opened_class Opening.Requested0 = refl
  opened_class Opening.Requested1 = refl
  opened_class Opening.Requested2 = refl
  opened_class Opening.Malformed = refl
  opened_class Opening.WrongVersion = refl
  opened_class Opening.Unsupported = refl
  opened_class Opening.TooLong = refl
  opened_class Opening.Shown0 = refl
  opened_class Opening.Valid1 = refl
  opened_class Opening.Valid2 = refl
  opened_class Opening.ToVerify1 = refl
  opened_class Opening.ToVerify2 = refl
  opened_class Opening.UnknownTidve = refl
  opened_class Opening.Restarted1 = refl
  opened_class Opening.Restarted2 = refl

  pub opened_ack : (o : Opening) → 1 ≤ opens_class o → (opening_turn o r g s rows).after.user_ack ≡ r.user_ack
  unfolding opening_turn turn_of opening_act act_with stored shown record_after moved_to new_record
  opened_ack Opening.Ignored h = absurd (omega (arith, h))
  opened_ack Opening.Requested0 h = absurd (omega (arith, h))
  opened_ack Opening.Requested1 h = refl
  opened_ack Opening.Requested2 h = refl
  opened_ack Opening.Malformed h = absurd (omega (arith, h))
  opened_ack Opening.WrongVersion h = absurd (omega (arith, h))
  opened_ack Opening.Unsupported h = absurd (omega (arith, h))
  opened_ack Opening.TooLong h = absurd (omega (arith, h))
  opened_ack Opening.Shown0 h = absurd (omega (arith, h))
  opened_ack Opening.Valid1 h = refl
  opened_ack Opening.Valid2 h = refl
  opened_ack Opening.ToVerify1 h = refl
  opened_ack Opening.ToVerify2 h = refl
  opened_ack Opening.UnknownTidve h = absurd (omega (arith, h))
  opened_ack Opening.Restarted1 h = refl
  opened_ack Opening.Restarted2 h = refl

  pub opening_shows : (o : Opening) (v : Bool) → Indicates (opening_turn o r g s rows) (Indication.Invoke v) → ShownAtOnce o (opening_turn o r g s rows).after v
  unfolding opening_turn turn_of opening_act act_with stored shown record_after moved_to new_record
  opening_shows Opening.Ignored v e = no_invokes v e
  opening_shows Opening.Requested0 v e = no_invokes v e
  opening_shows Opening.Requested1 v e = no_invokes v e
  opening_shows Opening.Requested2 v e = no_invokes v e
  opening_shows Opening.Malformed v e = no_invokes v e
  opening_shows Opening.WrongVersion v e = no_invokes v e
  opening_shows Opening.Unsupported v e = no_invokes v e
  opening_shows Opening.TooLong v e = no_invokes v e
  opening_shows Opening.Shown0 v e = record { unverified = plain v e; of_record = λ n. true_false n }
  opening_shows Opening.Valid1 v e = record { unverified = plain v e; of_record = λ n. omega arith }
  opening_shows Opening.Valid2 v e = record { unverified = plain v e; of_record = λ n. omega arith }
  opening_shows Opening.ToVerify1 v e = no_invokes v e
  opening_shows Opening.ToVerify2 v e = no_invokes v e
  opening_shows Opening.UnknownTidve v e = no_invokes v e
  opening_shows Opening.Restarted1 v e = no_invokes v e
  opening_shows Opening.Restarted2 v e = no_invokes v e
