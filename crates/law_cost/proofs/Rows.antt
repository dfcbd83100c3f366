-- What a live request's row sends and what it costs, by its state: before the result all but the Abort is counted, after it nothing is. Assumes nothing.
use Prim.Native.Nat.{ℕ, ◌≤◌}
use native.Mathlib.Omega.{arith}
use mathlib.Core.Path.{◌≡◌, refl, ap}
use mathlib.Core.Bool.{Bool, true, false}
use mathlib.Core.List.{List}
use borrow.Author.Tests.{le-leb}
use lib.Dec.{leb, eqb}
use Rattle.base_lists.specs.Seq.{pick, every}
use Rattle.base_lists.proofs.StoresAndParts.{both_fst, both_snd}
use Rattle.table_record.specs.Record.{state_number, state_of, role_of, class_of, role_number}
use Rattle.table_record.specs.declared.Role.TheVariants.{Initiator, Responder}
use Rattle.table_record.specs.declared.State.{State}
use Rattle.table_record.specs.declared.State.TheVariants.{Free, IResultWait1, IResultWait2, IResultRespWait, IWaitTimeout, RTidokWait1, RTidokWait2, RInvokeRespWait1, RInvokeRespWait2, RResultWait, RResultRespWait, RWaitTimeout}
use Rattle.table_record.specs.declared.Record.{Record}
use Rattle.table_layout.specs.Table.{settings_of, record_at}
use Rattle.table_layout.specs.declared.Settings.{Settings}
use Rattle.row_events.specs.declared.Event.{Event}
use Rattle.row_events.specs.declared.Conditions.{Conditions}
use Rattle.row_events.proofs.Finite.{at_state}
use Rattle.row_choice.specs.Rows.{row_of}
use Rattle.row_conditions.specs.Conditions.{conditions_of}
use Rattle.row_columns.specs.Columns.{act_with, taken, acked, stored, shown}
use Rattle.row_columns.specs.declared.Next.{Next}
use Rattle.row_columns.specs.declared.Next.TheVariants.{Stays, Ends, Goes}
use Rattle.row_columns.specs.declared.Send.{Send}
use Rattle.row_columns.specs.declared.Act.{Act}
use Rattle.row_entries.specs.Acts.{act_of}
use Rattle.row_turns.specs.Turns.{cost_of, state_after, new_record, moved_to, record_after, turn_of, row_turn}
use Rattle.row_turns.specs.declared.Given.{Given}
use Rattle.row_turns.specs.declared.Turn.{Turn}
use Rattle.law_rows.specs.Shown.{act_at}
use Rattle.law_counting.specs.Counting.{counts_in}
use Rattle.step_live.specs.Turning.{row_at, live_turn}
use Rattle.law_history.specs.Moves.{is_plain}
use Rattle.law_cost.specs.Cost.{over}

-- the states of a request that has its result
abbrev pub closed : State → Bool
closed Free = true
closed IResultWait1 = false
closed IResultWait2 = false
closed IResultRespWait = true
closed IWaitTimeout = true
closed RTidokWait1 = true
closed RTidokWait2 = true
closed RInvokeRespWait1 = true
closed RInvokeRespWait2 = true
closed RResultWait = true
closed RResultRespWait = true
closed RWaitTimeout = true

pub other_role : {A : Type 0} → Responder ≡ Initiator → A
other_role e = absurd (omega (arith, ap role_number e))

-- what its state says was shown closes the count, or doesn't
pub over_is : (s : State) (rcr : ℕ) (holdOn : Bool) → 1 ≤ state_number s → role_of s ≡ Initiator → over (class_of s) (counts_in s rcr holdOn) ≡ closed s
over_is Free rcr holdOn live role = absurd (omega (arith, live))
over_is IResultWait1 rcr holdOn live role = refl
over_is IResultWait2 rcr holdOn live role = refl
over_is IResultRespWait rcr holdOn live role = refl
over_is IWaitTimeout rcr holdOn live role = refl
over_is RTidokWait1 rcr holdOn live role = other_role role
over_is RTidokWait2 rcr holdOn live role = other_role role
over_is RInvokeRespWait1 rcr holdOn live role = other_role role
over_is RInvokeRespWait2 rcr holdOn live role = other_role role
over_is RResultWait rcr holdOn live role = other_role role
over_is RResultRespWait rcr holdOn live role = other_role role
over_is RWaitTimeout rcr holdOn live role = other_role role

-- a PDU that costs nothing
abbrev free : Send → Bool
free send = eqb (cost_of send 0) 0

-- what is sent in a state, and by a row that ends the record
abbrev pub fitting : State → Next → Send → Bool
fitting s next send = pick (pick (closed s) (free send) (is_plain send)) (pick (leb 1 (state_number (state_after next s))) true (free send)) false

module _ (kind reason : ℕ) where
  tested : Bool → State → Event → Conditions → Bool
  tested tidok s e c = pick (leb 1 (state_number s)) (pick (eqb (role_number (role_of s)) (role_number Initiator)) (let a = act_at s e c tidok kind reason in fitting s a.next a.send) true) true

  all_tested : (tidok : Bool) (s : State) (e : Event) (c : Conditions) → tested tidok s e c ≡ true
  unfolding tested every state_of row_of act_of act_with taken acked stored shown
  all_tested true s e c = at_state (tested true) refl s e c
  all_tested false s e c = at_state (tested false) refl s e c

-- what a turn of a request's record sends
pub record Fitting (s : State) (turn : Turn) : Type 0 where
  pub counted : closed s ≡ false → is_plain turn.send ≡ true
  pub uncounted : closed s ≡ true → eqb (cost_of turn.send 0) 0 ≡ true
  pub ended : leb 1 (state_number turn.after.state) ≡ false → eqb (cost_of turn.send 0) 0 ≡ true

after_state : (next : Next) (a : Act) (r : Record) (g : Given) (s : Settings) (rows : List (List ℕ)) → (record_after next a r g s rows).state ≡ state_after next r.state
unfolding record_after moved_to new_record
after_state Stays a r g s rows = refl
after_state Ends a r g s rows = refl
after_state (Goes t) a r g s rows = refl

pub live_fitting : (t : List ℕ) (place : ℕ) (event : Event) (g : Given) → 1 ≤ state_number (record_at t place).state → role_of (record_at t place).state ≡ Initiator → Fitting (record_at t place).state (live_turn t place event g)
unfolding live_turn row_at row_turn turn_of tested
live_fitting t place event g live asks =
    let r : Record = record_at t place in
    let a : Act = act_at r.state event (conditions_of (settings_of t) r) r.tidok_sent g.kind g.reason in
    let both : fitting r.state a.next a.send ≡ true = rw (le-leb 1 (state_number r.state) live, asks) at (all_tested g.kind g.reason r.tidok_sent r.state event (conditions_of (settings_of t) r)) in
    let first : pick (closed r.state) (free a.send) (is_plain a.send) ≡ true = both_fst (pick (closed r.state) (free a.send) (is_plain a.send)) _ both in
    let second : pick (leb 1 (state_number (state_after a.next r.state))) true (free a.send) ≡ true = both_snd (pick (closed r.state) (free a.send) (is_plain a.send)) _ both in
    record { counted = λ e. rw e at first; uncounted = λ e. rw e at first; ended = λ e. rw (rw (after_state a.next a r g (settings_of t) _) at e) at second }
