-- What an accepted call adds under a name: the octets of its step, and what its step shows; a turn's, under its record's name alone. Assumes nothing.
use Prim.Native.Nat.{ℕ, ◌≤◌}
use native.Mathlib.Omega.{arith}
use mathlib.Core.Path.{◌≡◌, refl, sym, ap, ◌∙◌}
use mathlib.Core.Bool.{Bool, true, false}
use mathlib.Core.List.{List, []}
use lib.ListN.{length, drop}
use lib.Seq.{take-append_seam}
use Rattle.base_layout.specs.Layout.{tid_bound, output_least}
use Rattle.base_lists.specs.Seq.{pick, part, put}
use Rattle.base_lists.proofs.StoresAndParts.{put_front}
use Rattle.row_columns.specs.declared.Send.{Send}
use Rattle.row_columns.specs.declared.Indication.{Indication}
use Rattle.law_rows.specs.Shown.{SendProper}
use Rattle.row_turns.specs.Turns.{cost_of}
use Rattle.row_turns.specs.declared.Turn.{Turn}
use Rattle.step_commit.specs.declared.Changes.{Changes}
use Rattle.step_sending.specs.Sending.{source_of}
use Rattle.step_sending.specs.Octets.{octets_sent}
use Rattle.step_sending.proofs.Octets.{sent_length}
use Rattle.step_sending.specs.declared.Sender.{Sender}
use Rattle.step_shown.specs.Shows.{shown_of}
use Rattle.step_plan.specs.Steps.{message_of, sender_of, context_of, step_of}
use Rattle.step_plan.specs.declared.Holder.{Holder}
use Rattle.step_plan.specs.declared.Call.{Call as Asked}
use Rattle.step_plan.specs.declared.Step.{Step}
use Rattle.step_outcome.specs.Carry.{Lent, FitOut, is_nothing, slice_of, octets_out, table_then, store_then, sent_then, carried_out}
use Rattle.step_outcome.proofs.Chosen.{none_sent}
use Rattle.step_outcome.proofs.Carried.{sends_still}
use Rattle.law_steps_sound.specs.Sound.{Fits, Sound}
use Rattle.law_counting.specs.Counting.{Counts, none, plus, of_send, of_indication}
use Rattle.call_plans.specs.Calls.{Call}
use Rattle.law_history.specs.Trace.{Entry}
use Rattle.law_history.specs.Tally.{Name, is_named, of_shown, of_sent, peer_of, adds, sent_of}
use Rattle.law_history.specs.Cost.{weight, length_for, charged}
use Rattle.law_history.specs.Moves.{turn_adds, is_plain}
use Rattle.law_one_turn.proofs.Sent.{sends_as, sent_counts}
use Rattle.law_one_turn.proofs.Weighed.{sent_weighs, own_weight}
use Rattle.law_one_turn.proofs.Shown.{shows_as, ClassShown, shown_counts}
use Rattle.law_one_turn.proofs.Roles.{InRole}

-- the entry of an accepted call
abbrev pub entry_of : Call → Lent → Step → Entry
entry_of call l step = record { call = call; lent = l; done = carried_out l step }

-- what is put at the start is read back
front_back : (l w : List ℕ) → length w ≤ length l → part (put l 0 w) 0 (length w) ≡ w
front_back l w h = ap (λ (x : List ℕ). part x 0 (length w)) (put_front l w h) ∙ take-append_seam w (drop (length w) l)

octets_short : (given store table : List ℕ) (send : Send) (by : Sender) → FitOut given store table send by → length (octets_out given store table send by) ≤ output_least
unfolding FitOut octets_out
octets_short given store table send by f = go (is_nothing send) refl
  where
    go : (b : Bool) → is_nothing send ≡ b → length (octets_sent (slice_of (source_of send) given store table) send by) ≤ output_least
    go true e =
        let none : 0 ≡ length (octets_sent (slice_of (source_of send) given store table) send by) = (none_sent given store table send by true [] (sym e) refl).0 in
        omega arith
    go false e = sent_length (slice_of (source_of send) given store table) send by (f e)

module _ (call : Call) (l : Lent) (step : Step) (f : Fits l) (ok : Sound l step) where
  sent_short : length (sent_then l step) ≤ output_least
  unfolding sent_then table_then store_then
  sent_short = octets_short l.given _ _ step.send step.by (sends_still l step _ _ step.by refl refl refl ok.ready)

  sent_back : part (carried_out l step).output 0 (length (sent_then l step)) ≡ sent_then l step
  unfolding carried_out
  sent_back = front_back l.output (sent_then l step) (omega (arith, sent_short, f.room))

  -- the octets that it sent
  pub sent_is : sent_of (carried_out l step).answer (carried_out l step).output ≡ sent_then l step
  unfolding carried_out
  sent_is = sent_back

  -- and what they weigh
  pub step_charges : (n : Name) → charged (entry_of call l step) n ≡ length_for n (peer_of call (carried_out l step).answer) (sent_then l step)
  unfolding charged
  step_charges n = ap (length_for n (peer_of call (carried_out l step).answer)) sent_is

  -- what a step adds: its octets to the call's peer, its two indications
  pub step_adds : (n : Name) → adds (entry_of call l step) n ≡ plus (of_sent n (peer_of call (carried_out l step).answer) (sent_then l step)) (plus (of_shown n step.first) (of_shown n step.second))
  unfolding adds carried_out
  step_adds n = ap (λ (s : List ℕ). plus (of_sent n (peer_of call (carried_out l step).answer) s) (plus (of_shown n step.first) (of_shown n step.second))) sent_back

-- a sum of what counts only under a name counts only under it
summed : (b : Bool) (x y z : Counts) → plus (pick b x none) (plus (pick b y none) (pick b z none)) ≡ pick b (plus x (plus y z)) none
summed true x y z = refl
summed false x y z = refl

module _ (call : Call) (l : Lent) (turn : Turn) (changes : Changes) (h : Holder) (c : Asked) (f : Fits l) (ok : Sound l (step_of turn changes h c)) (tid : h.tid ≤ tid_bound)
    (peer : peer_of call (carried_out l (step_of turn changes h c)).answer ≡ h.peer) where
  module _ (sends : sends_as h.role turn.send ≡ true) (proper : SendProper turn.send) (n : Name) where
    abbrev own : Bool
    own = is_named n h.role h.peer h.tid

    sent_part : of_sent n h.peer (sent_then l (step_of turn changes h c)) ≡ pick own (of_send turn.send) none
    unfolding sent_then octets_out step_of sender_of
    sent_part = sent_counts n h.peer (sender_of turn h c) tid _ turn.send sends proper

    -- with its indications counted apart
    pub turn_parts : (first second : Counts) → of_shown n (shown_of turn.first (context_of h c)) ≡ first → of_shown n (shown_of turn.second (context_of h c)) ≡ second
        → adds (entry_of call l (step_of turn changes h c)) n ≡ plus (pick own (of_send turn.send) none) (plus first second)
    unfolding step_of
    turn_parts first second e k =
        step_adds call l (step_of turn changes h c) f ok n
        ∙ (ap (λ (p : ℕ). plus (of_sent n p (sent_then l (step_of turn changes h c))) (plus (of_shown n (shown_of turn.first (context_of h c))) (of_shown n (shown_of turn.second (context_of h c))))) peer
        ∙ (ap (λ (x : Counts). plus x (plus (of_shown n (shown_of turn.first (context_of h c))) (of_shown n (shown_of turn.second (context_of h c))))) sent_part
        ∙ (ap (λ (x : Counts). plus (pick own (of_send turn.send) none) (plus x (of_shown n (shown_of turn.second (context_of h c))))) e
        ∙ ap (λ (x : Counts). plus (pick own (of_send turn.send) none) (plus first x)) k)))

  -- a turn's octets weigh under its record's name alone
  pub turn_charges : (n : Name) → charged (entry_of call l (step_of turn changes h c)) n ≡ pick (is_named n h.role h.peer h.tid) (weight (sent_then l (step_of turn changes h c))) 0
  unfolding sent_then octets_out step_of sender_of
  turn_charges n =
      step_charges call l (step_of turn changes h c) f ok n
      ∙ ap (λ (p : ℕ). length_for n p (sent_then l (step_of turn changes h c))) peer
      ∙ sent_weighs n h.peer (sender_of turn h c) tid _ turn.send

  -- and weigh what it costs
  pub turn_weighs : is_plain turn.send ≡ true → SendProper turn.send → weight (sent_then l (step_of turn changes h c)) ≡ cost_of turn.send (message_of turn.send h c).len
  unfolding sent_then octets_out table_then store_then step_of sender_of FitOut
  turn_weighs plain proper =
      own_weight _ turn.send (sender_of turn h c) plain proper (sends_still l (step_of turn changes h c) _ _ (sender_of turn h c) refl refl refl ok.ready)

  module _ (role : InRole h.role turn) (n : Name) where
    shown_part : (i : Indication) → ClassShown h.class i → shows_as h.role i ≡ true → of_shown n (shown_of i (context_of h c)) ≡ pick (is_named n h.role h.peer h.tid) (of_indication i) none
    unfolding context_of
    shown_part i k e = shown_counts n (context_of h c) i k e

    -- a turn adds what it sends and shows, under its record's name alone
    pub turn_adds_holds : ClassShown h.class turn.first → ClassShown h.class turn.second
        → adds (entry_of call l (step_of turn changes h c)) n ≡ pick (is_named n h.role h.peer h.tid) (turn_adds turn) none
    turn_adds_holds first second =
        turn_parts role.sends role.proper n _ _ (shown_part turn.first first role.first) (shown_part turn.second second role.second)
        ∙ summed (is_named n h.role h.peer h.tid) (of_send turn.send) (of_indication turn.first) (of_indication turn.second)
