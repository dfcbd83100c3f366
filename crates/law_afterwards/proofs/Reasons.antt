-- The type and reason of an abort that a call shows are those received, else the provider's with the reason sent, or 8 where none is sent. Assumes nothing.
use Prim.Native.Nat.{ℕ}
use mathlib.Core.Path.{◌≡◌, refl, sym, ap, ◌∙◌}
use mathlib.Core.Bool.{Bool, true, false, ◌||◌}
use mathlib.Core.Logic.{◌⊎◌, inl, inr}
use lib.Dec.{eqb}
use Rattle.std.specs.Prelude.{Ok}
use Rattle.base_lists.specs.Seq.{pick, every}
use Rattle.base_lists.proofs.StoresAndParts.{true_false}
use Rattle.codec_pdu.specs.declared.Kind.TheVariants as Kind
use Rattle.codec_reading.specs.Read.{pdu_of}
use Rattle.table_record.specs.Record.{state_of}
use Rattle.table_record.specs.declared.Record.{Record}
use Rattle.table_record.specs.declared.Role.{Role}
use Rattle.table_record.specs.declared.State.{State}
use Rattle.table_layout.specs.Table.{settings_of, record_at}
use Rattle.row_events.specs.Events.{event_number, same_row_is}
use Rattle.row_events.specs.declared.Event.{Event}
use Rattle.row_events.specs.declared.Event.TheVariants as Event
use Rattle.row_events.specs.declared.Row.{Row}
use Rattle.row_events.specs.declared.Row.TheVariants.{PeerAborts}
use Rattle.row_events.specs.declared.Conditions.{Conditions}
use Rattle.row_events.proofs.Finite.{at_state}
use Rattle.row_choice.specs.Rows.{row_of}
use Rattle.row_conditions.specs.Conditions.{conditions_of}
use Rattle.row_columns.specs.declared.Indication.{Indication}
use Rattle.row_columns.specs.declared.Indication.TheVariants as Indication
use Rattle.row_columns.specs.declared.Act.{Act}
use Rattle.row_entries.specs.Acts.{act_of}
use Rattle.law_rows.specs.Shown.{is_abort}
use Rattle.row_turns.specs.Turns.{turn_of, row_turn}
use Rattle.step_shown.specs.Shows.{shown_of}
use Rattle.step_shown.specs.declared.Context.{Context}
use Rattle.step_shown.specs.declared.Shown.{Shown}
use Rattle.step_shown.specs.declared.Shown.TheVariants as Shown
use Rattle.step_plan.specs.Steps.{step_of, context_of}
use Rattle.step_plan.specs.declared.Step.{Step}
use Rattle.step_live.specs.Turning.{row_at, holder_of, live_turn, live_step}
use Rattle.step_outcome.specs.Carry.{Lent}
use Rattle.law_never_mixed.specs.NeverMixed.{abort_shown, step_aborts, step_results_is}
use Rattle.law_never_mixed.proofs.Steps.{opening_neither, idle_neither}
use Rattle.law_rows_done.specs.Leaves.{reason_sent, abort_by}
use Rattle.law_rows_done.proofs.Reasons.{abort_named, second_no_abort}
use Rattle.call_plans.specs.Calls.{Call, plan_for}
use Rattle.law_afterwards.specs.Ways.{TakenBy, Way}
use Rattle.law_afterwards.specs.Reasons.{Shows, ReceivedSo, SentSo}
use Rattle.law_afterwards.proofs.Ways.{call_way}

-- an abort that is shown was indicated with its type and reason
indicated : (i : Indication) (c : Context) (role : Role) (peer tid kind reason : ℕ) → shown_of i c ≡ Shown.Abort role peer tid kind reason → i ≡ Indication.Abort kind reason
unfolding shown_of
indicated Indication.Nothing c role peer tid kind reason e = true_false (sym (ap abort_shown e))
indicated (Indication.Invoke verified) c role peer tid kind reason e = true_false (sym (ap abort_shown e))
indicated (Indication.Confirm acked) c role peer tid kind reason e = true_false (sym (ap abort_shown e))
indicated Indication.Result c role peer tid kind reason e = true_false (sym (ap abort_shown e))
indicated (Indication.Abort k r) c role peer tid kind reason e =
    rw (ap (type_in k) e, ap (reason_in r) e) refl
  where
    type_in : ℕ → Shown → ℕ
    type_in d Shown.Nothing = d
    type_in d (Shown.Invoke peer tid class up place) = d
    type_in d (Shown.Confirm role peer tid place) = d
    type_in d (Shown.Result peer tid place) = d
    type_in d (Shown.Abort role peer tid kind reason) = kind

    reason_in : ℕ → Shown → ℕ
    reason_in d Shown.Nothing = d
    reason_in d (Shown.Invoke peer tid class up place) = d
    reason_in d (Shown.Confirm role peer tid place) = d
    reason_in d (Shown.Result peer tid place) = d
    reason_in d (Shown.Abort role peer tid kind reason) = reason

-- only a received Abort meets the row that shows what was received
pub only_received : (s : State) (e : Event) (c : Conditions) → same_row_is (row_of s e c) PeerAborts ≡ true → e ≡ Event.ReceivedAbort
unfolding every state_of row_of
only_received s e c h = same_event e (go (eqb (event_number e) 9) (same_row_is (row_of s e c) PeerAborts) h (at_state (λ s e c. pick (same_row_is (row_of s e c) PeerAborts) (eqb (event_number e) 9) true) refl s e c))
  where
    go : (a b : Bool) → b ≡ true → pick b a true ≡ true → a ≡ true
    go a b e h = rw e at h

    same_event : (e : Event) → eqb (event_number e) 9 ≡ true → e ≡ Event.ReceivedAbort
    same_event Event.Invoke h = true_false (sym h)
    same_event Event.InvokeRid h = true_false (sym h)
    same_event Event.ResultCut h = true_false (sym h)
    same_event Event.ResultCutRid h = true_false (sym h)
    same_event Event.Result h = true_false (sym h)
    same_event Event.ResultRid h = true_false (sym h)
    same_event Event.PlainAck h = true_false (sym h)
    same_event Event.TidAck h = true_false (sym h)
    same_event Event.TidAckRid h = true_false (sym h)
    same_event Event.ReceivedAbort h = refl
    same_event Event.Segmented h = true_false (sym h)
    same_event Event.MalformedPdu h = true_false (sym h)
    same_event Event.UserAnswer h = true_false (sym h)
    same_event Event.UserResult h = true_false (sym h)
    same_event Event.UserAbort h = true_false (sym h)
    same_event Event.Timer h = true_false (sym h)

-- type and reason of an indication that is an abort
abbrev type_of : Indication → ℕ
type_of Indication.Nothing = 0
type_of (Indication.Invoke verified) = 0
type_of (Indication.Confirm acked) = 0
type_of Indication.Result = 0
type_of (Indication.Abort kind reason) = kind

abbrev reason_of : Indication → ℕ
reason_of Indication.Nothing = 0
reason_of (Indication.Invoke verified) = 0
reason_of (Indication.Confirm acked) = 0
reason_of Indication.Result = 0
reason_of (Indication.Abort kind reason) = reason

module _ (c : Call) (l : Lent) (step : Step) (role : Role) (peer tid kind reason : ℕ) where
  abbrev Explained : Type 0
  Explained = ReceivedSo l kind reason ⊎ SentSo step kind reason

  -- a step that shows no abort
  silent : step_aborts step || step_results_is step ≡ false → Shows step (Shown.Abort role peer tid kind reason) → Explained
  silent e (inl h) = true_false (sym (ap (λ (x : Shown). (abort_shown x || abort_shown step.second) || step_results_is step) h) ∙ e)
  silent e (inr h) = true_false (sym (or_second (abort_shown step.first) (abort_shown step.second) (step_results_is step) (ap abort_shown h)) ∙ e)
    where
      or_second : (a b c : Bool) → b ≡ true → (a || b) || c ≡ true
      or_second true b c h = refl
      or_second false b c h = rw h refl

  module _ (k : TakenBy c l step) where
    abbrev r : Record
    r = record_at l.table k.place

    abbrev row : Row
    row = row_at l.table k.place k.event

    abbrev act : Act
    act = act_of row r.tidok_sent k.given.kind k.given.reason

    -- the row's abort is the one received, or the one named
    by_row : (b : Bool) → same_row_is row PeerAborts ≡ b → Indication.Abort kind reason ≡ pick b (Indication.Abort k.given.kind k.given.reason) (Indication.Abort 0 (reason_sent act.send)) → (step.send ≡ act.send) → Explained
    unfolding row_at
    by_row true e h s =
        let from : (pdu_of l.given).kind ≡ Kind.Abort k.given.kind k.given.reason = k.received (only_received r.state k.event (conditions_of (settings_of l.table) r) e) in
        inl (rw (ap type_of h, ap reason_of h) from)
    by_row false e h s = inr (ap type_of h, ap reason_of h ∙ ap reason_sent (sym s))

    live_explained : Shows step (Shown.Abort role peer tid kind reason) → Explained
    unfolding live_step live_turn step_of row_turn turn_of
    live_explained (inl h) =
        let i : act.first ≡ Indication.Abort kind reason = indicated act.first (context_of (holder_of r k.place) k.asked) role peer tid kind reason (sym (ap (λ (y : Step). y.first) k.step_is) ∙ h) in
        let n : act.first ≡ abort_by row k.given.kind k.given.reason act.send = abort_named k.given.kind k.given.reason row r.tidok_sent (ap is_abort i) in
        by_row (same_row_is row PeerAborts) refl (sym i ∙ n) (ap (λ (y : Step). y.send) k.step_is)
    live_explained (inr h) =
        let i : act.second ≡ Indication.Abort kind reason = indicated act.second (context_of (holder_of r k.place) k.asked) role peer tid kind reason (sym (ap (λ (y : Step). y.second) k.step_is) ∙ h) in
        true_false (sym (ap is_abort i) ∙ second_no_abort k.given.kind k.given.reason row r.tidok_sent)

-- "for an abort also type and reason: those received, else provider with the reason sent, or 8 if none is sent"
pub reason_shown : (c : Call) (l : Lent) (step : Step) → plan_for c l ≡ Ok step
    → (role : Role) (peer tid kind reason : ℕ) → Shows step (Shown.Abort role peer tid kind reason) → ReceivedSo l kind reason ⊎ SentSo step kind reason
reason_shown c l step e role peer tid kind reason shows = go (call_way c l step e).0
  where
    go : Way c l step → ReceivedSo l kind reason ⊎ SentSo step kind reason
    go (inl i) = silent c l step role peer tid kind reason (ap (λ (y : Step). step_aborts y || step_results_is y) i ∙ idle_neither _) shows
    go (inr (inl k)) = live_explained c l step role peer tid kind reason k shows
    go (inr (inr k)) = silent c l step role peer tid kind reason (ap (λ (y : Step). step_aborts y || step_results_is y) k.step_is ∙ opening_neither l.table k.opening k.holder k.given k.gen_tid k.asked) shows
