-- Each accepted call is quiet, one live record's turn, one opening, or a request of class 0. Assumes nothing.
use Prim.Native.Nat.{ℕ}
use mathlib.Core.Path.{◌≡◌, refl, sym, ap, subst, ◌∙◌}
use mathlib.Core.Bool.{Bool, true, false}
use mathlib.Core.List.{List}
use mathlib.Core.Logic.{◌⊎◌, inl, inr}
use lib.ListN.{length}
use lib.Dec.{eqb}
use Rattle.std.specs.Prelude.{Option, Some, None, is_some, Ok}
use Rattle.base_lists.specs.Seq.{pick}
use Rattle.base_lists.proofs.StoresAndParts.{true_false}
use Rattle.codec_pdu.specs.declared.Pdu.{Pdu}
use Rattle.codec_reading.specs.Read.{pdu_of}
use Rattle.table_record.specs.Record.{state_number}
use Rattle.table_record.specs.declared.Role.{Role}
use Rattle.table_record.specs.declared.Record.{Record}
use Rattle.table_layout.specs.Table.{count}
use Rattle.table_finding.specs.Finding.{named_of}
use Rattle.step_commit.specs.declared.Change.{Change}
use Rattle.step_commit.specs.declared.Change.TheVariants as Change
use Rattle.step_changes.specs.Changes.{change_of, turn_changes}
use Rattle.step_plan.specs.Steps.{step_of, idle_changes, idle_step}
use Rattle.step_plan.specs.declared.Told.{Told}
use Rattle.step_plan.specs.declared.Told.TheVariants as Told
use Rattle.step_live.specs.Turning.{live_step}
use Rattle.call_receive.specs.Receives.{taken_step}
use Rattle.call_receive.proofs.Accepted.{receive_accepted}
use Rattle.call_receive.proofs.Dispatch.{live_takes}
use Rattle.step_plan.specs.declared.Step.{Step}
use Rattle.step_outcome.specs.Carry.{Lent, Done, carried_out, outcome}
use Rattle.call_plans.specs.Calls.{Call, time_of, plan_for, promised}
use Rattle.law_steps_sound.specs.Sound.{Fits, Sound}
use Rattle.law_ways.proofs.Ways.{Idle, Way}
use Rattle.law_ways.proofs.CallWays.{call_ways}
use Rattle.law_plans_sound.specs.Plans.{PlanSound}
use Rattle.law_plans_sound.proofs.CallSound.{call_sound}
use Rattle.law_history.specs.Trace.{Entry, Promise}
use Rattle.law_history.specs.Moves.{Quiet, Opened, Once, Move}
use Rattle.law_one_turn.proofs.Counted.{entry_of}
use Rattle.law_one_turn.proofs.Quiet.{Unmeant, idle}
use Rattle.law_one_turn.proofs.Lived.{lived_turned}
use Rattle.law_one_turn.proofs.Requests.{request_move}
use Rattle.law_one_turn.proofs.Receives.{unmatched_move}

-- an opening, as one of the four
of_request : (e : Entry) → Opened e ⊎ Once e → Move e
of_request e (inl o) = inr (inr (inl o))
of_request e (inr o) = inr (inr (inr o))

of_unmatched : (e : Entry) → Quiet e ⊎ Opened e → Move e
of_unmatched e (inl q) = inl q
of_unmatched e (inr o) = inr (inr (inl o))

-- a live record that a PDU names is left or freed: the call does more than store its time
never_idle : (after : Record) → change_of after Change.Clear ≡ Change.Nothing → ⊥
unfolding change_of
never_idle after e = go (eqb (state_number after.state) 0) e
  where
    is_nothing : Change → Bool
    is_nothing Change.Nothing = true
    is_nothing (Change.Put r) = false
    is_nothing Change.Clear = false

    go : (b : Bool) → pick b Change.Clear (Change.Put after) ≡ Change.Nothing → ⊥
    go true d = true_false (sym (ap is_nothing d))
    go false d = true_false (sym (ap is_nothing d))

taken_changes : (t : List ℕ) (i time : ℕ) (p : Pdu) → taken_step t i time p ≡ idle_step time → ⊥
unfolding taken_step live_step step_of turn_changes idle_step idle_changes
taken_changes t i time p e = never_idle _ (ap (λ (s : Step). s.changes.change) e)

-- so that a call that does only that means none
nothing_told : (role : Role) (peer tid : ℕ) → Told.Nothing ≡ Told.Fired role peer tid → ⊥
nothing_told role peer tid e = true_false (ap is_nothing e)
  where
    is_nothing : Told → Bool
    is_nothing Told.Nothing = true
    is_nothing (Told.Tid i) = false
    is_nothing (Told.Fired r p i) = false

idle_unmeant : (c : Call) (l : Lent) (step : Step) → Idle c step → plan_for c l ≡ Ok step → Unmeant c l (idle_step (time_of c))
unfolding carried_out idle_step
idle_unmeant (Call.Request time peer class user_ack) l step i plan n m = true_false i.no_request
idle_unmeant (Call.Answer time role peer tid) l step i plan n m = true_false i.no_primitive
idle_unmeant (Call.Result time role peer tid) l step i plan n m = true_false i.no_primitive
idle_unmeant (Call.Abort time role peer tid reason) l step i plan n m = true_false i.no_primitive
idle_unmeant (Call.Receive time peer) l step i plan n (names, is) = rw is (go (named_of t (count t) n.role peer n.tid) refl)
  where
    t : List ℕ
    t = l.table

    go : (f : Option ℕ) → named_of t (count t) n.role peer n.tid ≡ f → is_some (named_of t (count t) n.role peer n.tid) ≡ false
    go (Some k) q =
        let a = receive_accepted t (length l.store) (length l.output) time peer l.given step plan in
        absurd (taken_changes t k time (pdu_of l.given) (sym (live_takes t time peer l.given n.role n.tid k names q) ∙ sym a.step_is ∙ i.step_is))
    go None q = rw q refl
idle_unmeant (Call.Timer time) l step i plan n m = absurd (nothing_told n.role n.peer n.tid m)
idle_unmeant (Call.Fire time role peer tid) l step i plan n m = absurd (nothing_told n.role n.peer n.tid m)

of_way : (c : Call) (l : Lent) → Fits l → (step : Step) → Way c l step → plan_for c l ≡ Ok step → Sound l step → Move (entry_of c l step)
of_way c l f step (inl i) plan ok = rw i.step_is (inl (idle c l (time_of c) f (rw i.step_is at ok) (λ n. rw i.no_request refl) (rw i.step_is at plan) (idle_unmeant c l step i plan)))
of_way c l f step (inr (inl k)) plan ok = rw k.step_is (inr (inl (lived_turned c l f step k (rw k.step_is at plan) (rw k.step_is at ok))))
of_way c l f step (inr (inr (inl q))) plan ok = rw q.call_is (of_request _ (request_move l q.time q.peer q.class q.user_ack f step q.accepted (rw q.call_is at plan) ok))
of_way c l f step (inr (inr (inr u))) plan ok =
    rw (u.call_is, u.step_is) (of_unmatched _ (unmatched_move l u.time u.peer f step u.accepted u.unmatched (rw (u.call_is, u.step_is) at plan) (rw u.step_is at ok)))

-- an accepted call's entry holds its step, carried out
carried : (e : Entry) → Promise e → (step : Step) → plan_for e.call e.lent ≡ Ok step → e.done ≡ carried_out e.lent step
unfolding promised outcome
carried e p step go = p.keeps ∙ ap (outcome e.lent) go

pub moves : (e : Entry) → Promise e → (step : Step) → plan_for e.call e.lent ≡ Ok step → Move e
unfolding PlanSound
moves e p step go =
    let ok : Sound e.lent step = rw go at (call_sound e.call e.lent p.lends) in
    let a = call_ways e.call e.lent step go in
    subst (λ (d : Done). Move (record { call = e.call; lent = e.lent; done = d })) (sym (carried e p step go)) (of_way e.call e.lent a.fits step a.way go ok)
