-- The step of a live record is its turn, and no other name's. Assumes nothing.
use Prim.Native.Nat.{ℕ, ◌≤◌}
use native.Mathlib.Omega.{arith}
use mathlib.Core.Path.{◌≡◌, refl, sym, ap, ◌∙◌}
use mathlib.Core.Bool.{Bool, true, false}
use mathlib.Core.List.{List}
use mathlib.Core.Logic.{inl, inr}
use lib.Dec.{eqb}
use borrow.Author.Tests.{eq-eqb, ne_eqb}
use Rattle.std.specs.Prelude.{Ok}
use Rattle.base_lists.specs.Seq.{pick, every}
use Rattle.base_lists.proofs.StoresAndParts.{true_false}
use Rattle.table_record.specs.Record.{role_of, state_number}
use Rattle.table_record.specs.declared.State.TheVariants.{Free}
use Rattle.table_record.specs.declared.Record.{Record}
use Rattle.table_layout.specs.Table.{settings_of, intervals_of, record_at}
use Rattle.table_record_ok.specs.OneRecord.{Live}
use Rattle.law_places.specs.Places.{LiveAt}
use Rattle.law_places.proofs.Places.{live_range}
use Rattle.row_events.specs.declared.Event.{Event}
use Rattle.row_events.specs.declared.Row.{Row}
use Rattle.row_events.proofs.Finite.{at_row}
use Rattle.row_columns.specs.Columns.{act_with, taken, acked, stored, shown}
use Rattle.row_columns.specs.declared.Send.{Send}
use Rattle.row_columns.specs.declared.Send.TheVariants as Send
use Rattle.row_entries.specs.Acts.{act_of}
use Rattle.row_turns.specs.Turns.{new_record, cost_of, turn_of, row_turn}
use Rattle.row_turns.specs.declared.Given.{Given}
use Rattle.row_turns.specs.declared.Turn.{Turn}
use Rattle.law_rows.specs.Transaction.{SameTransaction, FreedOrSame}
use Rattle.law_rows.proofs.Transaction.{turn_keeps}
use Rattle.step_commit.specs.declared.Change.TheVariants as Change
use Rattle.step_changes.specs.Changes.{change_of, turn_changes}
use Rattle.step_sending.specs.Sending.{source_of}
use Rattle.step_plan.specs.Steps.{cell_of, message_of, step_of}
use Rattle.step_plan.specs.declared.Holder.{Holder}
use Rattle.step_plan.specs.declared.Call.{Call as Asked}
use Rattle.step_plan.specs.declared.Step.{Step}
use Rattle.step_live.specs.Turning.{row_at, holder_of, live_turn, live_step}
use Rattle.step_outcome.specs.Carry.{Lent, sent_then}
use Rattle.c_answers.specs.Answers.{change_cost, cost_by}
use Rattle.c_answers.specs.Handed.{plan_cost}
use Rattle.law_steps_sound.specs.Sound.{Fits, GivenOk, Sound}
use Rattle.law_counting.specs.Counting.{none}
use Rattle.call_plans.specs.Calls.{Call, plan_for}
use Rattle.law_history.specs.Trace.{Entry}
use Rattle.law_history.specs.Tally.{Name, is_named, lives, accepts_by, told_of_is, peer_of, adds}
use Rattle.law_history.specs.Cost.{weight, charged, cost_told, Meant}
use Rattle.law_history.specs.Moves.{name_of, turn_adds, after, Silent, is_plain, Turned}
use Rattle.law_plans_sound.proofs.Receives.{not_free}
use Rattle.law_one_turn.proofs.Names.{named_self, not_named, it_lives}
use Rattle.law_one_turn.proofs.Shown.{class_shown}
use Rattle.law_one_turn.proofs.Roles.{live_in_role, class_some}
use Rattle.law_one_turn.proofs.Counted.{entry_of, turn_charges, turn_weighs, turn_adds_holds}
use Rattle.law_one_turn.proofs.Openings.{CalledBy, called_name, not_opened, still_lived}
use Rattle.law_one_turn.proofs.Left.{left_put, left_free, left_others, left_count}

-- a live record sends an Invoke again alone, from its cell
abbrev resends : Send → Bool
resends Send.Nothing = true
resends (Send.Invoke again) = again
resends (Send.Tidok again) = true
resends (Send.LastAck again) = true
resends (Send.HoldOn again) = true
resends (Send.Tidve again) = true
resends (Send.Result again) = true
resends (Send.Abort kind reason) = true

rows_resend : (row : Row) (tidok : Bool) (kind reason : ℕ) → resends (act_of row tidok kind reason).send ≡ true
unfolding every act_of act_with taken acked stored shown
rows_resend row true kind reason = at_row (λ x. resends (act_of x true kind reason).send) refl row
rows_resend row false kind reason = at_row (λ x. resends (act_of x false kind reason).send) refl row

live_resends : (t : List ℕ) (place : ℕ) (event : Event) (g : Given) → resends (live_turn t place event g).send ≡ true
unfolding live_turn row_turn turn_of
live_resends t place event g = rows_resend (row_at t place event) (record_at t place).tidok_sent g.kind g.reason

from_cell : (send : Send) (h : Holder) (c : Asked) → resends send ≡ true → cost_of send (message_of send h c).len ≡ cost_of send h.len
unfolding message_of cell_of source_of
from_cell Send.Nothing h c e = refl
from_cell (Send.Invoke true) h c e = refl
from_cell (Send.Invoke false) h c e = true_false (sym e)
from_cell (Send.Tidok again) h c e = refl
from_cell (Send.LastAck again) h c e = refl
from_cell (Send.HoldOn again) h c e = refl
from_cell (Send.Tidve again) h c e = refl
from_cell (Send.Result again) h c e = refl
from_cell (Send.Abort kind reason) h c e = refl

-- a record that isn't live is free
no_number : (n : ℕ) → (1 ≤ n → ⊥) → n ≡ 0
no_number n h = omega (arith, h)

same_name : (r s : Record) → SameTransaction r s → name_of s ≡ name_of r
same_name r s k = rw (k.role, k.peer, k.tid) refl

module _ (call : Call) (l : Lent) (place : ℕ) (event : Event) (g : Given) (c : Asked) where
  abbrev t : List ℕ
  t = l.table

  abbrev was : Record
  was = record_at t place

  abbrev turn : Turn
  turn = live_turn t place event g

  abbrev step : Step
  step = live_step t place event g c

  abbrev entry : Entry
  entry = entry_of call l step

  module _ (f : Fits l) (live : LiveAt t place) (given : GivenOk g) (ok : Sound l step) (peer : peer_of call entry.done.answer ≡ was.peer)
      (asked : (n : Name) → accepts_by call (told_of_is entry.done.answer) n ≡ false) where
    its_adds : (n : Name) → adds entry n ≡ pick (is_named n (role_of was.state) was.peer was.tid) (turn_adds turn) none
    unfolding live_step holder_of
    its_adds n =
        let class = class_some was.state live.live in
        turn_adds_holds call l turn _ (holder_of was place) c f ok (live_range t f.formed place live).bounds.tid peer (live_in_role t place event g) n
        (class_shown _ class turn.first) (class_shown _ class turn.second)

    its_charges : (n : Name) → charged entry n ≡ pick (is_named n (role_of was.state) was.peer was.tid) (weight (sent_then l step)) 0
    unfolding live_step holder_of
    its_charges n = turn_charges call l turn _ (holder_of was place) c f ok (live_range t f.formed place live).bounds.tid peer n

    its_weight : is_plain turn.send ≡ true → weight (sent_then l step) ≡ cost_of turn.send was.len
    unfolding live_step holder_of
    its_weight plain =
        turn_weighs call l turn _ (holder_of was place) c f ok (live_range t f.formed place live).bounds.tid peer plain (live_in_role t place event g).proper
        ∙ from_cell turn.send (holder_of was place) c (live_resends t place event g)

    is_put : Live turn.after → record_at (after entry) place ≡ turn.after
    unfolding live_step step_of turn_changes change_of
    is_put h =
        let e : eqb (state_number turn.after.state) 0 ≡ false = ne_eqb (state_number turn.after.state) 0 (λ d. absurd (omega (arith, h, d))) in
        left_put call l step f ok turn.after (rw e refl)

    is_freed : (Live turn.after → ⊥) → (record_at (after entry) place).state ≡ Free
    unfolding live_step step_of turn_changes change_of
    is_freed h =
        let e : eqb (state_number turn.after.state) 0 ≡ true = eq-eqb (state_number turn.after.state) 0 (no_number _ h) in
        left_free call l step f ok (rw e refl)

    is_rest : (j : ℕ) → (j ≡ place → ⊥) → record_at (after entry) j ≡ record_at t j
    unfolding live_step step_of turn_changes
    is_rest = left_others call l step f ok

    kept_or_freed : FreedOrSame was turn.after
    unfolding live_turn row_at
    kept_or_freed = turn_keeps g (settings_of t) (intervals_of t) was event

    -- the record has its own name afterwards, or none
    other_gone : (n : Name) → (n ≡ name_of was → ⊥) → CalledBy n (record_at (after entry) place) → ⊥
    unfolding new_record
    other_gone n d called = go kept_or_freed
      where
        go : FreedOrSame was turn.after → ⊥
        go (inl e) = called.live (is_freed (λ h. absurd (omega (arith, h, ap (λ (x : Record). state_number x.state) e))))
        go (inr k) = called.live (is_freed (λ h. d (called_name n (record_at (after entry) place) called ∙ (ap name_of (is_put h) ∙ same_name was turn.after k))))

    others_silent : (n : Name) → (n ≡ name_of was → ⊥) → Silent entry n
    others_silent n d =
        let b : is_named n (role_of was.state) was.peer was.tid ≡ false = not_named n (role_of was.state) was.peer was.tid d in
        record {
          adds_none = its_adds n ∙ ap (λ (x : Bool). pick x (turn_adds turn) none) b;
          not_opened = not_opened entry n (asked n) (still_lived entry n (left_count call l step f ok) place is_rest (other_gone n d));
          uncharged = its_charges n ∙ ap (λ (x : Bool). pick x (weight (sent_then l step)) 0) b;
        }

    own_lives : lives t (name_of was) ≡ true
    own_lives = it_lives t (name_of was) (record { at = place; inside = live.inside; called = record { live = not_free was.state live.live; role_is = refl; peer_is = refl; tid_is = refl } })

    pub own_adds : adds entry (name_of was) ≡ turn_adds turn
    own_adds = its_adds (name_of was) ∙ ap (λ (x : Bool). pick x (turn_adds turn) none) (named_self (role_of was.state) was.peer was.tid)

    own_charges : charged entry (name_of was) ≡ weight (sent_then l step)
    own_charges = its_charges (name_of was) ∙ ap (λ (x : Bool). pick x (weight (sent_then l step)) 0) (named_self (role_of was.state) was.peer was.tid)

    -- it tells of its record alone
    tells : plan_for call l ≡ Ok step → cost_told entry ≡ change_cost (change_of turn.after Change.Clear) was
    unfolding cost_told plan_cost cost_by live_step step_of turn_changes
    tells plan = rw plan refl

    pub turned : plan_for call l ≡ Ok step → Meant entry (name_of was) → Turned entry
    turned plan meant = record {
      place = place;
      event = event;
      given = g;
      given_ok = given;
      inside = live.inside;
      live = live.live;
      own = own_adds;
      not_opened = not_opened entry (name_of was) (asked (name_of was)) (λ e. own_lives);
      others = others_silent;
      put = is_put;
      freed = is_freed;
      rest = is_rest;
      meant = meant;
      weighs = λ plain. own_charges ∙ its_weight plain;
      told = tells plan;
    }
