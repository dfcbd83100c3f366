-- A step shows what its row indicates: never an abort and a result, and a result exactly where a Result is taken. Assumes nothing.
use Prim.Native.Nat.{ℕ}
use mathlib.Core.Path.{◌≡◌, refl, ◌∙◌}
use mathlib.Core.List.{List}
use mathlib.Core.Bool.{false, ◌&&◌, ◌||◌}
use Rattle.std.specs.Prelude.{Option}
use Rattle.table_layout.specs.Table.{settings_of, record_at}
use Rattle.row_events.specs.declared.Event.{Event}
use Rattle.row_events.specs.declared.Opening.{Opening}
use Rattle.row_conditions.specs.Conditions.{conditions_of}
use Rattle.row_columns.specs.declared.Indication.{Indication}
use Rattle.row_columns.specs.declared.Indication.TheVariants as Indication
use Rattle.row_columns.specs.declared.Act.{Act}
use Rattle.law_rows.specs.Shown.{act_at, is_abort, is_result, takes_result, shows_abort, shows_result}
use Rattle.law_rows.proofs.Rows.{abort_is_no_result, result_exactly, opening_shows_neither}
use Rattle.row_turns.specs.Turns.{turn_of, row_turn, opening_turn}
use Rattle.row_turns.specs.declared.Given.{Given}
use Rattle.row_turns.specs.declared.Turn.{Turn}
use Rattle.step_commit.specs.declared.GenTid.{GenTid}
use Rattle.step_commit.specs.declared.Changes.{Changes}
use Rattle.step_shown.specs.Shows.{shown_of}
use Rattle.step_shown.specs.declared.Context.{Context}
use Rattle.step_plan.specs.Steps.{step_of, idle_step}
use Rattle.step_plan.specs.declared.Holder.{Holder}
use Rattle.step_plan.specs.declared.Call.{Call}
use Rattle.step_live.specs.Turning.{row_at, live_turn, live_step}
use Rattle.step_opening.specs.Opens.{opened_turn, opening_step}
use Rattle.law_never_mixed.specs.NeverMixed.{abort_shown, result_shown, step_aborts, step_results_is}

same_abort : (i : Indication) (c : Context) → abort_shown (shown_of i c) ≡ is_abort i
unfolding shown_of
same_abort Indication.Nothing c = refl
same_abort (Indication.Invoke verified) c = refl
same_abort (Indication.Confirm acked) c = refl
same_abort Indication.Result c = refl
same_abort (Indication.Abort type reason) c = refl

same_result : (i : Indication) (c : Context) → result_shown (shown_of i c) ≡ is_result i
unfolding shown_of
same_result Indication.Nothing c = refl
same_result (Indication.Invoke verified) c = refl
same_result (Indication.Confirm acked) c = refl
same_result Indication.Result c = refl
same_result (Indication.Abort type reason) c = refl

module _ (turn : Turn) (changes : Changes) (h : Holder) (c : Call) where
  step_aborts_holds : step_aborts (step_of turn changes h c) ≡ (is_abort turn.first || is_abort turn.second)
  unfolding step_of
  step_aborts_holds = rw (same_abort turn.first _, same_abort turn.second _) refl

  step_results : step_results_is (step_of turn changes h c) ≡ (is_result turn.first || is_result turn.second)
  unfolding step_of
  step_results = rw (same_result turn.first _, same_result turn.second _) refl

-- the act of the row that an event meets in the record at a place
abbrev pub act_there : List ℕ → ℕ → Event → Given → Act
act_there t place event g = act_at (record_at t place).state event (conditions_of (settings_of t) (record_at t place)) (record_at t place).tidok_sent g.kind g.reason

module _ (t : List ℕ) (place : ℕ) (event : Event) (g : Given) (c : Call) where
  live_aborts : step_aborts (live_step t place event g c) ≡ shows_abort (act_there t place event g)
  unfolding live_step live_turn row_at row_turn turn_of
  live_aborts = step_aborts_holds (live_turn t place event g) _ _ c

  live_results : step_results_is (live_step t place event g c) ≡ shows_result (act_there t place event g)
  unfolding live_step live_turn row_at row_turn turn_of
  live_results = step_results (live_turn t place event g) _ _ c

  -- no event shows both
  pub live_never_both : step_aborts (live_step t place event g c) && step_results_is (live_step t place event g c) ≡ false
  live_never_both =
      rw (live_aborts, live_results)
      (abort_is_no_result g.kind g.reason (record_at t place).tidok_sent _)

  -- a result is shown exactly where the initiator takes a Result, TTR set, in RESULT WAIT of class 2
  pub live_result_exactly : step_results_is (live_step t place event g c) ≡ takes_result (record_at t place).state event
  live_result_exactly = live_results ∙ result_exactly g.kind g.reason (record_at t place).tidok_sent (record_at t place).state event _

module _ (t : List ℕ) (opening : Opening) (h : Holder) (g : Given) (gen_tid : Option GenTid) (c : Call) where
  -- what comes without a live record shows neither
  pub opening_neither : step_aborts (opening_step t opening h g gen_tid c) || step_results_is (opening_step t opening h g gen_tid c) ≡ false
  unfolding opening_step opened_turn opening_turn turn_of
  opening_neither =
      rw (step_aborts_holds (opened_turn t opening h g) _ h c, step_results (opened_turn t opening h g) _ h c)
      (opening_shows_neither opening)

pub idle_neither : (time : ℕ) → step_aborts (idle_step time) || step_results_is (idle_step time) ≡ false
unfolding idle_step
idle_neither time = refl
