-- No call shows an abort and a result, and a Result without data is shown as a result without data. Assumes nothing.
use Prim.Native.Nat.{ℕ, ◌%◌}
use mathlib.Core.Path.{◌≡◌, refl, sym, ap, ◌∙◌}
use mathlib.Core.List.{List}
use mathlib.Core.Bool.{Bool, true, false, ◌&&◌, ◌||◌}
use mathlib.Core.Logic.{◌⊎◌, inl, inr}
use Rattle.std.specs.Prelude.{None, Ok, Err}
use Rattle.base_lists.specs.Seq.{pick}
use Rattle.base_lists.proofs.StoresAndParts.{true_false}
use Rattle.table_layout.specs.Table.{count, record_at}
use Rattle.table_finding.specs.Finding.{free_of, due_of}
use Rattle.table_record.specs.declared.Role.{Role}
use Rattle.table_record.specs.declared.State.TheVariants.{IResultWait2}
use Rattle.codec_pdu.specs.declared.Kind.TheVariants as Kind
use Rattle.codec_pdu.specs.declared.Pdu.{Pdu}
use Rattle.codec_reading.specs.Read.{pdu_of}
use Rattle.row_choice.specs.Rows.{requested_of}
use Rattle.step_arrivals.specs.Arrivals.{event_of}
use Rattle.row_events.specs.declared.Event.TheVariants as Event
use Rattle.law_rows.specs.Shown.{takes_result}
use Rattle.row_columns.specs.declared.Indication.{Indication}
use Rattle.row_columns.specs.declared.Indication.TheVariants as Indication
use Rattle.step_shown.specs.Kinds.{by_kind}
use Rattle.step_shown.specs.Shows.{shown_of, place_of}
use Rattle.step_shown.specs.declared.Place.{Place}
use Rattle.step_shown.specs.declared.Shown.{Shown}
use Rattle.step_shown.specs.declared.Shown.TheVariants as Shown
use Rattle.step_opening.specs.Opens.{place_for}
use Rattle.step_plan.specs.declared.Holder.{Holder}
use Rattle.step_plan.specs.Steps.{place_in, context_of, idle_step, Plan}
use Rattle.step_plan.specs.declared.Step.{Step}
use Rattle.call_request.specs.Requests.{requester, counted_by, request_given, request_call, request_step}
use Rattle.call_request.specs.declared.Request.{Request}
use Rattle.call_request.proofs.Accepted.{request_accepted}
use Rattle.call_primitive.specs.Primitives.{primitive_given, primitive_call, primitive_step}
use Rattle.call_primitive.specs.declared.Primitive.{Primitive}
use Rattle.call_primitive.proofs.Accepted.{primitive_accepted}
use Rattle.call_receive.specs.Receives.{taken_given, taken_call, taken_step, user_part, arriver_of, opened_given, opened_call, opened_step, arrival_opening, unmatched_step, receive_step}
use Rattle.call_receive.proofs.Ways.{Taken, Unmatched, ways}
use Rattle.call_receive.proofs.Accepted.{receive_accepted}
use Rattle.call_timer.specs.Timers.{fired_given, fired_call, step_by, timer_step}
use Rattle.call_timer.proofs.Accepted.{timer_accepted}
use Rattle.step_outcome.specs.Carry.{Lent, carried_out, outcome}
use Rattle.law_never_mixed.specs.NeverMixed.{step_aborts, step_results_is, shows_abort, shows_result}
use Rattle.law_never_mixed.proofs.Steps.{live_never_both, live_result_exactly, opening_neither, idle_neither}
use Rattle.call_plans.specs.Calls.{Call, promised, plan_for, time_of}
use Rattle.law_ways.proofs.Ways.{Way}
use Rattle.law_ways.proofs.CallWays.{call_ways}

-- a step does not show both
abbrev Apart : Step → Type 0
Apart step = step_aborts step && step_results_is step ≡ false

neither : (a b : Bool) → a || b ≡ false → a && b ≡ false
neither true b e = true_false e
neither false b e = refl

-- a step that shows neither
quiet : (step : Step) → step_aborts step || step_results_is step ≡ false → Apart step
quiet step e = neither (step_aborts step) (step_results_is step) e

request_apart : (t : List ℕ) (place : ℕ) (q : Request) → Apart (request_step t place q)
unfolding request_step
request_apart t place q =
    quiet (request_step t place q) (opening_neither t (requested_of (q.class % 256)) (requester t place q) (request_given q) (counted_by t q) (request_call q))

unmatched_apart : (t : List ℕ) (role : Role) (peer tid time : ℕ) (s : List ℕ) (p : Pdu) → Apart (unmatched_step t role peer tid time s p)
unfolding unmatched_step opened_step
unmatched_apart t role peer tid time s p =
    let h : Holder = arriver_of (place_for (free_of t (count t))) role peer tid p.kind in
    quiet (unmatched_step t role peer tid time s p) (opening_neither t (arrival_opening t peer tid s p) h (opened_given time p) None (opened_call p))

-- the step of any accepted call
pub step_apart : (c : Call) (l : Lent) (step : Step) → Way c l step → Apart step
step_apart c l step (inl i) = rw i.step_is (quiet (idle_step (time_of c)) (idle_neither (time_of c)))
step_apart c l step (inr (inl k)) = rw k.step_is (live_never_both l.table k.place k.event k.given k.asked)
step_apart c l step (inr (inr (inl q))) = rw q.accepted.step_is (request_apart l.table _ _)
step_apart c l step (inr (inr (inr u))) = rw u.step_is (unmatched_apart l.table u.unmatched.role u.peer u.unmatched.tid u.time l.given (pdu_of l.given))

of_plan : (l : Lent) (p : Plan) → ((step : Step) → p ≡ Ok step → Apart step) → shows_abort (outcome l p).answer && shows_result (outcome l p).answer ≡ false
unfolding outcome carried_out
of_plan l (Err r) apart = refl
of_plan l (Ok step) apart = apart step refl

-- NEVER MIXED UP: no call's answer shows both an abort and a result
pub never_both : (c : Call) (l : Lent) → shows_abort (promised c l).answer && shows_result (promised c l).answer ≡ false
unfolding promised
never_both c l = of_plan l (plan_for c l) (λ step e. step_apart c l step (call_ways c l step e).way)

-- a step that shows a result shows no abort
no_abort : (a r : Bool) → a && r ≡ false → r ≡ true → a ≡ false
no_abort true r e k = sym k ∙ e
no_abort false r e k = refl

module _ (t : List ℕ) (place time : ℕ) (p : Pdu) (gtr rid : Bool) (waits : (record_at t place).state ≡ IResultWait2) (pdu : p.kind ≡ Kind.Result gtr true rid) where
  takes : (rid : Bool) → takes_result IResultWait2 (pick rid Event.ResultRid Event.Result) ≡ true
  takes true = refl
  takes false = refl

  shows_result_holds : step_results_is (taken_step t place time p) ≡ true
  unfolding taken_step event_of
  shows_result_holds =
      live_result_exactly t place (event_of p.kind) (taken_given time p) (taken_call p)
      ∙ rw (waits, pdu) (takes rid)

  apart : Apart (taken_step t place time p)
  unfolding taken_step
  apart = live_never_both t place (event_of p.kind) (taken_given time p) (taken_call p)

  -- "A Result with no data is a true result": a Result taken in RESULT WAIT is shown as a result and not as an abort, whatever its data
  pub result_shown_holds : (step_results_is (taken_step t place time p) ≡ true) × (step_aborts (taken_step t place time p) ≡ false)
  result_shown_holds = (shows_result_holds, no_abort _ _ apart shows_result_holds)

-- a result that a step shows has the PDU's user data, empty where that is empty
pub result_data : (i : Indication) (h : Holder) (p : Pdu) (peer tid : ℕ) (place : Place) → shown_of i (context_of h (taken_call p)) ≡ Shown.Result peer tid place
    → (place.start ≡ p.start) × (place.len ≡ p.len)
unfolding shown_of context_of taken_call user_part place_in place_of
result_data Indication.Nothing h p peer tid place e = true_false (sym (ap (λ (x : Shown). by_kind false false false true false x) e))
result_data (Indication.Invoke verified) h p peer tid place e = true_false (sym (ap (λ (x : Shown). by_kind false false false true false x) e))
result_data (Indication.Confirm acked) h p peer tid place e = true_false (sym (ap (λ (x : Shown). by_kind false false false true false x) e))
result_data Indication.Result h p peer tid place e = (sym (ap (λ (x : Shown). (place_of x).start) e), sym (ap (λ (x : Shown). (place_of x).len) e))
result_data (Indication.Abort type reason) h p peer tid place e = true_false (sym (ap (λ (x : Shown). by_kind false false false true false x) e))
