-- A result is shown only with the exact data of a Result PDU that a waiting record takes in this very call. Assumes nothing.
use Prim.Native.Nat.{ℕ}
use mathlib.Core.Path.{◌≡◌, refl, sym, ap, subst, ◌∙◌}
use mathlib.Core.Bool.{Bool, true, false, ◌&&◌, ◌||◌}
use mathlib.Core.List.{List}
use mathlib.Core.Logic.{◌⊎◌, inl, inr}
use borrow.Author.Tests.{eqb-true}
use lib.Dec.{eqb}
use Rattle.std.specs.Prelude.{Option, Some, Ok, Err}
use Rattle.base_lists.proofs.StoresAndParts.{true_false}
use Rattle.table_record.specs.Record.{role_of, state_number, state_of}
use Rattle.table_record.specs.declared.Role.TheVariants.{Initiator}
use Rattle.table_record.specs.declared.State.{State}
use Rattle.table_record.specs.declared.State.TheVariants.{IResultWait2}
use Rattle.table_record.proofs.Back.{state_back}
use Rattle.table_record.specs.declared.Record.{Record}
use Rattle.codec_reading.specs.Read.{pdu_of}
use Rattle.table_layout.specs.Table.{record_at}
use Rattle.row_events.specs.declared.Opening.{Opening}
use Rattle.row_turns.specs.declared.Given.{Given}
use Rattle.step_commit.specs.declared.GenTid.{GenTid}
use Rattle.law_rows.specs.Shown.{takes_result}
use Rattle.step_shown.specs.Parts.{data_of}
use Rattle.step_shown.specs.declared.Source.TheVariants.{Datagram}
use Rattle.step_shown.specs.declared.Place.{Place}
use Rattle.step_shown.specs.declared.Shown.{Shown}
use Rattle.step_shown.specs.declared.Shown.TheVariants as Shown
use Rattle.step_shown.proofs.Data.{data_part}
use Rattle.step_plan.specs.Steps.{place_in, context_of, step_of, idle_step, Plan}
use Rattle.step_plan.specs.declared.Call.{Call as Asked}
use Rattle.step_plan.specs.declared.Holder.{Holder}
use Rattle.step_plan.specs.declared.Step.{Step}
use Rattle.step_live.specs.Turning.{holder_of, live_step}
use Rattle.step_opening.specs.Opens.{opening_step}
use Rattle.call_request.specs.Requests.{request_step}
use Rattle.call_receive.specs.Receives.{user_part, taken_call, opened_step, unmatched_step}
use Rattle.call_receive.proofs.KeptData.{user_inside}
use Rattle.step_outcome.specs.Carry.{Done, carried_out, outcome}
use Rattle.law_never_mixed.specs.NeverMixed.{step_results_is, step_aborts, result_shown}
use Rattle.law_never_mixed.proofs.Steps.{live_result_exactly, opening_neither}
use Rattle.call_plans.specs.Calls.{Call, plan_for, time_of}
use Rattle.call_plans.specs.Concerns.{Addressed, Concerns}
use Rattle.law_history.specs.Trace.{Entry, Promise}
use Rattle.law_history.specs.Demand.{ShownIn, user_data, ResultTaken, ResultExact}
use Rattle.law_ways.proofs.Ways.{is_result_event, Came, Lived, Way}
use Rattle.law_ways.proofs.CallWays.{call_ways}
use Rattle.law_data_shown.proofs.Effects.{done_is}
use Rattle.law_data_shown.proofs.Indicated.{result_kind, ShowsResult, shows_result_holds}

-- a step shows this
abbrev pub StepShows : Step → Shown → Type 0
StepShows step s = (step.first ≡ s) ⊎ (step.second ≡ s)

-- the user data of a PDU, as it is shown
pub user_shown : (s store : List ℕ) → data_of s store (place_in Datagram (user_part (pdu_of s))) ≡ user_data s
unfolding place_in user_part
user_shown s store = data_part s store (place_in Datagram (user_part (pdu_of s))) (user_inside s)

or_second : (a b : Bool) → b ≡ true → (a || b) ≡ true
or_second true b e = refl
or_second false b e = e

and_both : (a b : Bool) → (a && b) ≡ true → (a ≡ true) × (b ≡ true)
and_both true b e = (refl, e)
and_both false b e = true_false (sym e)

pub same_shows : {a b : Step} {s : Shown} → a ≡ b → StepShows a s → StepShows b s
same_shows e s = rw e at s

-- what a call shows is what it is known to have given
pub shows_as_holds : {d d' : Done} (s : Shown) → d ≡ d' → ShownIn d.answer s → ShownIn d'.answer s
shows_as_holds s e h = rw e at h

module _ (peer tid : ℕ) (place : Place) where
  abbrev result : Shown
  result = Shown.Result peer tid place

  -- a step that shows a result is one of those
  results : (step : Step) → StepShows step result → step_results_is step ≡ true
  results step (inl e) = rw (ap result_shown e) refl
  results step (inr e) = or_second (result_shown step.first) (result_shown step.second) (ap result_shown e)

  none_shown : (step : Step) → (step_aborts step || step_results_is step) ≡ false → StepShows step result → ⊥
  none_shown step n e = true_false (sym (or_second (step_aborts step) (step_results_is step) (results step e)) ∙ n)

  opening_none : (t : List ℕ) (opening : Opening) (h : Holder) (g : Given) (gen_tid : Option GenTid) (c : Asked) → StepShows (opening_step t opening h g gen_tid c) result → ⊥
  opening_none t opening h g gen_tid c s = none_shown (opening_step t opening h g gen_tid c) (opening_neither t opening h g gen_tid c) s

  state_is : (s : State) → eqb (state_number s) (state_number IResultWait2) ≡ true → s ≡ IResultWait2
  unfolding state_of
  state_is s e = sym (state_back s) ∙ ap state_of (eqb-true (state_number s) (state_number IResultWait2) e)

  module _ (e : Entry) (step : Step) where
    -- a live record's result is that of its context
    module _ (k : Lived e.call e.lent step) where
      abbrev waiting : Record
      waiting = record_at e.lent.table k.place

      abbrev lived : Step
      lived = live_step e.lent.table k.place k.event k.given k.asked

      of_context : StepShows lived result → ShowsResult (context_of (holder_of waiting k.place) k.asked) peer tid place
      unfolding live_step step_of
      of_context (inl s) = shows_result_holds _ _ peer tid place s
      of_context (inr s) = shows_result_holds _ _ peer tid place s

      by_pdu : StepShows lived result → (waiting.state ≡ IResultWait2) × (is_result_event k.event ≡ true) → Came e.call e.lent k.place k.event k.asked → ResultTaken e peer tid place
      unfolding context_of holder_of taken_call
      by_pdu s both came =
          let x = of_context s in
          let a : Addressed e.lent.given came.peer waiting = subst (λ (c : Call). Concerns c e.lent k.place) came.call_is k.concerns in
          let kind = result_kind (pdu_of e.lent.given).kind (ap is_result_event (sym came.event_is) ∙ both.1) in
          let at : place ≡ place_in Datagram (user_part (pdu_of e.lent.given)) = sym x.place_is ∙ ap (λ (a : Asked). place_in Datagram a.user) came.asked_is in
          record {
            time = came.time;
            received = came.call_is ∙ ap (Call.Receive came.time) (sym came.of_peer ∙ x.peer_is);
            gtr = kind.gtr;
            rid = kind.rid;
            pdu = kind.is;
            waiting = k.place;
            inside = k.live.inside;
            waited = both.0;
            peer_is = x.peer_is;
            tid_is = x.tid_is;
            names = a.name_is ∙ (ap (λ (s : State). Some (role_of s, waiting.tid)) both.0 ∙ ap (λ (n : ℕ). Some (Initiator, n)) x.tid_is);
            exact = ap (data_of e.lent.given e.done.store) at ∙ user_shown e.lent.given e.done.store;
          }

      live_taken : StepShows lived result → Came e.call e.lent k.place k.event k.asked ⊎ (is_result_event k.event ≡ false) → ResultTaken e peer tid place
      live_taken s which = go which
        where
          takes : takes_result waiting.state k.event ≡ true
          takes = sym (live_result_exactly e.lent.table k.place k.event k.given k.asked) ∙ results lived s

          parts : (eqb (state_number waiting.state) (state_number IResultWait2) ≡ true) × (is_result_event k.event ≡ true)
          parts = and_both _ _ takes

          go : Came e.call e.lent k.place k.event k.asked ⊎ (is_result_event k.event ≡ false) → ResultTaken e peer tid place
          go (inl came) = by_pdu s (state_is waiting.state parts.0, parts.1) came
          go (inr none) = true_false (sym parts.1 ∙ none)

    by_way : Way e.call e.lent step → StepShows step result → ResultTaken e peer tid place
    unfolding idle_step request_step unmatched_step opened_step
    by_way (inl i) s = absurd (none_shown (idle_step (time_of e.call)) refl (same_shows i.step_is s))
    by_way (inr (inl k)) s = live_taken k (same_shows k.step_is s) k.came
    by_way (inr (inr (inl q))) s = absurd (opening_none _ _ _ _ _ _ (same_shows q.accepted.step_is s))
    by_way (inr (inr (inr a))) s = absurd (opening_none _ _ _ _ _ _ (same_shows a.step_is s))

pub result_exact : (e : Entry) → Promise e → (h : List Entry) → ResultExact e h
unfolding outcome carried_out
result_exact e p h peer tid place s = go (plan_for e.call e.lent) refl
  where
    go : (q : Plan) → plan_for e.call e.lent ≡ q → ResultTaken e peer tid place
    go (Err r) is = absurd (shows_as_holds (Shown.Result peer tid place) (done_is e p (Err r) is) s)
    go (Ok step) is = by_way peer tid place e step (call_ways e.call e.lent step is).way (shows_as_holds (Shown.Result peer tid place) (done_is e p (Ok step) is) s)
