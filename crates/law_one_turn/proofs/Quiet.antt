-- A call that does nothing, and a PDU that opens nothing, count nothing and leave every record. Assumes nothing.
use Prim.Native.Nat.{ℕ, ◌≤◌}
use mathlib.Core.Path.{◌≡◌, refl, ap, ◌∙◌}
use mathlib.Core.Bool.{Bool, true, false}
use mathlib.Core.List.{[]}
use lib.Dec.{eqb}
use Rattle.std.specs.Prelude.{Option, Ok}
use Rattle.base_layout.specs.Layout.{tid_bound}
use Rattle.base_lists.specs.Seq.{pick, every}
use Rattle.base_lists.proofs.StoresAndParts.{both_fst, both_snd}
use Rattle.row_events.specs.declared.Opening.{Opening}
use Rattle.row_events.proofs.Finite.{at_opening}
use Rattle.row_columns.specs.Columns.{act_with, stored, shown}
use Rattle.row_columns.specs.declared.Next.TheVariants.{Ends}
use Rattle.row_columns.specs.declared.Act.{Act}
use Rattle.row_columns.specs.declared.Indication.{Indication}
use Rattle.row_columns.specs.declared.Indication.TheVariants as Indication
use Rattle.row_entries.specs.Acts.{opening_act}
use Rattle.row_turns.specs.Turns.{ends_by, cost_of, turn_of, opening_turn}
use Rattle.row_turns.specs.declared.Given.{Given}
use Rattle.row_turns.proofs.Costs.{costs_nothing}
use Rattle.law_rows.proofs.Rows.{proper_opening}
use Rattle.step_commit.specs.declared.Change.TheVariants as Change
use Rattle.step_commit.specs.declared.GenTid.{GenTid}
use Rattle.step_sending.specs.Octets.{octets_sent}
use Rattle.step_shown.specs.Shows.{shown_of}
use Rattle.step_plan.specs.Steps.{context_of, idle_changes, idle_step}
use Rattle.step_plan.specs.declared.Holder.{Holder}
use Rattle.step_plan.specs.declared.Call.{Call as Asked}
use Rattle.step_plan.specs.declared.Step.{Step}
use Rattle.step_opening.specs.Opens.{opened_turn, opening_step}
use Rattle.step_outcome.specs.Carry.{Lent, octets_out, sent_then, carried_out}
use Rattle.c_answers.specs.Answers.{change_cost, cost_by}
use Rattle.c_answers.specs.Handed.{plan_cost}
use Rattle.law_steps_sound.specs.Sound.{Fits, Sound}
use Rattle.law_counting.specs.Counting.{Counts, none, plus, of_send}
use Rattle.call_plans.specs.Calls.{Call, plan_for}
use Rattle.law_history.specs.Tally.{Name, is_named, of_sent, of_shown, accepts_by, told_of_is, peer_of, adds, lives}
use Rattle.law_history.specs.Cost.{length_for, charged, cost_told, Meant}
use Rattle.law_history.specs.Moves.{SameRecords, is_plain, Quiet}
use Rattle.law_one_turn.proofs.Sent.{pick_none, no_octets}
use Rattle.law_one_turn.proofs.Weighed.{pick_zero, no_weight}
use Rattle.law_one_turn.proofs.Counted.{entry_of, step_charges, turn_charges, turn_weighs, step_adds, turn_parts}
use Rattle.law_one_turn.proofs.Openings.{not_opened, same_lived}
use Rattle.law_one_turn.proofs.Left.{left_same, left_count}
use Rattle.law_one_turn.proofs.Opened.{ends_none}
use Rattle.law_one_turn.proofs.Arrivals.{CountsNone}

-- a call means no live record
abbrev pub Unmeant : Call → Lent → Step → Type 0
Unmeant call l step = (n : Name) → Meant (entry_of call l step) n → lives l.table n ≡ false

-- where no record changes, nothing counts and nothing weighs
still : (call : Call) (l : Lent) (step : Step) (f : Fits l) (ok : Sound l step) → ((n : Name) → accepts_by call (told_of_is (carried_out l step).answer) n ≡ false)
    → plan_for call l ≡ Ok step → Unmeant call l step → step.changes.change ≡ Change.Nothing → ((n : Name) → adds (entry_of call l step) n ≡ none) → ((n : Name) → charged (entry_of call l step) n ≡ 0) → Quiet (entry_of call l step)
unfolding cost_told plan_cost cost_by change_cost
still call l step f ok asked plan unmeant none counts weighs =
    let same : SameRecords (entry_of call l step) = left_same call l step f ok none in
    record {
      silent = λ n. record { adds_none = counts n; not_opened = not_opened (entry_of call l step) n (asked n) (same_lived (entry_of call l step) n (left_count call l step f ok) same); uncharged = weighs n };
      same = same;
      unmeant = λ k. unmeant;
      untold = rw (plan, none) refl;
    }

-- a call that only stores its time
module _ (call : Call) (l : Lent) (time : ℕ) (f : Fits l) (ok : Sound l (idle_step time)) where
  nothing_sent : sent_then l (idle_step time) ≡ []
  unfolding sent_then octets_out idle_step octets_sent
  nothing_sent = refl

  idle_adds : (n : Name) → adds (entry_of call l (idle_step time)) n ≡ none
  unfolding idle_step of_shown
  idle_adds n =
      let p : ℕ = peer_of call (carried_out l (idle_step time)).answer in
      step_adds call l (idle_step time) f ok n
      ∙ ap (λ (x : Counts). plus x (plus none none)) (ap (of_sent n p) nothing_sent ∙ no_octets n p)

  idle_weighs : (n : Name) → charged (entry_of call l (idle_step time)) n ≡ 0
  idle_weighs n =
      let p : ℕ = peer_of call (carried_out l (idle_step time)).answer in
      step_charges call l (idle_step time) f ok n ∙ ap (length_for n p) nothing_sent ∙ no_weight n p

  pub idle : ((n : Name) → accepts_by call (told_of_is (carried_out l (idle_step time)).answer) n ≡ false) → plan_for call l ≡ Ok (idle_step time) → Unmeant call l (idle_step time) → Quiet (entry_of call l (idle_step time))
  unfolding idle_step idle_changes
  idle asked plan unmeant = still call l (idle_step time) f ok asked plan unmeant refl idle_adds idle_weighs

-- an opening that leaves no record and isn't a request sends nothing but an Abort
abbrev unsent : Opening → Bool
unsent o = let a : Act = opening_act o in pick (ends_by a.next) (pick (eqb (of_send a.send).sends 0) (pick (is_plain a.send) (eqb (cost_of a.send 0) 0) false) true) true

opens_unsent : (o : Opening) → (opening_act o).next ≡ Ends → of_send (opening_act o).send ≡ none → (is_plain (opening_act o).send ≡ true) × (eqb (cost_of (opening_act o).send 0) 0 ≡ true)
unfolding every opening_act act_with stored shown
opens_unsent o ends counts =
    let both = rw (ends, counts) at (at_opening unsent refl o) in
    (both_fst (is_plain (opening_act o).send) (eqb (cost_of (opening_act o).send 0) 0) both, both_snd (is_plain (opening_act o).send) (eqb (cost_of (opening_act o).send 0) 0) both)

-- an opening that leaves no record
module _ (call : Call) (l : Lent) (opening : Opening) (h : Holder) (g : Given) (gen_tid : Option GenTid) (c : Asked) (q : CountsNone h.class opening)
    (f : Fits l) (ok : Sound l (opening_step l.table opening h g gen_tid c)) (tid : h.tid ≤ tid_bound)
    (peer : peer_of call (carried_out l (opening_step l.table opening h g gen_tid c)).answer ≡ h.peer) where
  nothing_counts : (b : Bool) → plus (pick b (of_send (opening_act opening).send) none) (plus none none) ≡ none
  nothing_counts b = ap (λ (x : Counts). plus (pick b x none) (plus none none)) q.sends_none ∙ ap (λ (x : Counts). plus x (plus none none)) (pick_none b)

  none_shown : (n : Name) (i : Indication) → i ≡ Indication.Nothing → of_shown n (shown_of i (context_of h c)) ≡ none
  unfolding shown_of of_shown
  none_shown n i e = rw e refl

  ended_adds : (n : Name) → adds (entry_of call l (opening_step l.table opening h g gen_tid c)) n ≡ none
  unfolding opening_step opened_turn opening_turn turn_of context_of
  ended_adds n =
      turn_parts call l (opened_turn l.table opening h g) _ h c f ok tid peer (q.sends h.role) (proper_opening opening) n none none
      (q.first n (context_of h c) refl) (none_shown n (opening_act opening).second q.second)
      ∙ nothing_counts (is_named n h.role h.peer h.tid)

  ended_weighs : (n : Name) → charged (entry_of call l (opening_step l.table opening h g gen_tid c)) n ≡ 0
  unfolding opening_step opened_turn opening_turn turn_of
  ended_weighs n =
      let k = opens_unsent opening q.ends q.sends_none in
      turn_charges call l (opened_turn l.table opening h g) _ h c f ok tid peer n
      ∙ ap (λ (w : ℕ). pick (is_named n h.role h.peer h.tid) w 0) (turn_weighs call l (opened_turn l.table opening h g) _ h c f ok tid peer k.0 (proper_opening opening) ∙ costs_nothing (opening_act opening).send _ k.1)
      ∙ pick_zero (is_named n h.role h.peer h.tid)

  pub ended : ((n : Name) → accepts_by call (told_of_is (carried_out l (opening_step l.table opening h g gen_tid c)).answer) n ≡ false)
      → plan_for call l ≡ Ok (opening_step l.table opening h g gen_tid c) → Unmeant call l (opening_step l.table opening h g gen_tid c) → Quiet (entry_of call l (opening_step l.table opening h g gen_tid c))
  ended asked plan unmeant = still call l _ f ok asked plan unmeant (ends_none l.table opening h g gen_tid c q.ends) ended_adds ended_weighs
