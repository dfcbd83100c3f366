-- The deadline of a record after a call is now and the interval that document 01 names for its row. Assumes nothing.
use Prim.Native.Nat.{ℕ, ◌≤◌}
use native.Mathlib.Omega.{arith}
use borrow.Author.Tests.{eqb-true, eqb-false, ne_eqb}
use mathlib.Core.Path.{◌≡◌, refl, sym, ap, ◌∙◌}
use mathlib.Core.Bool.{Bool, true, false}
use mathlib.Core.List.{List}
use mathlib.Core.Logic.{◌⊎◌, inl, inr}
use lib.Dec.{eqb}
use Rattle.std.specs.Prelude.{Ok}
use Rattle.base_lists.specs.Seq.{pick}
use Rattle.table_record.specs.Record.{state_number}
use Rattle.table_record.specs.declared.Record.{Record}
use Rattle.table_layout.specs.Table.{settings_of, intervals_of, record_at}
use Rattle.table_record_ok.specs.OneRecord.{Live, InRange}
use Rattle.row_turns.specs.Turns.{new_record}
use Rattle.step_commit.specs.declared.Change.TheVariants.{Nothing, Put, Clear}
use Rattle.law_commit.specs.Allowed.{ChangeOk}
use Rattle.step_changes.specs.Changes.{change_of, turn_changes}
use Rattle.step_plan.specs.Steps.{step_of, idle_changes, idle_step}
use Rattle.step_plan.specs.declared.Step.{Step}
use Rattle.step_live.specs.Turning.{row_at, live_turn, live_step}
use Rattle.step_opening.specs.Opens.{opened_turn, opening_changes, opening_step}
use Rattle.step_outcome.specs.Carry.{Lent, Done, table_then, carried_out, outcome}
use Rattle.law_steps_sound.specs.Sound.{Sound}
use Rattle.law_plans_sound.specs.Plans.{PlanSound}
use Rattle.law_rows_done.specs.Leaves.{timer_of, opening_timer, deadline_by, limit_by}
use Rattle.law_rows_done.proofs.Deadlines.{row_deadline, opening_deadline}
use Rattle.call_plans.specs.Calls.{Call, Lends, promised, plan_for, time_of}
use Rattle.law_plans_sound.proofs.CallSound.{call_sound}
use Rattle.law_calls.proofs.Outcomes.{as_planned}
use Rattle.law_afterwards.specs.Ways.{TakenBy, ComesAlone, table_left}
use Rattle.law_commit.proofs.Left.{put_left, cleared_left, none_left}
use Rattle.law_afterwards.proofs.Ways.{call_way}

module _ (c : Call) (l : Lent) (step : Step) (lends : Lends c l) (goes : plan_for c l ≡ Ok step) where
  sound : Sound l step
  unfolding PlanSound
  sound = rw goes at (call_sound c l lends)

  as_done : promised c l ≡ outcome l (Ok step)
  as_done = as_planned c l ∙ ap (outcome l) goes

  -- a record that is put is there, in its ranges
  there : (r : Record) → step.changes.change ≡ Put r → record_at (table_left c l) step.changes.place ≡ r
  unfolding outcome carried_out table_then
  there r e =
      ap (λ (d : Done). record_at d.table step.changes.place) as_done
      ∙ put_left l.table step.changes l.exit (call_way c l step goes).1 sound.allowed r e

  ranged : (r : Record) → step.changes.change ≡ Put r → InRange (settings_of l.table) r
  unfolding ChangeOk
  ranged r e = let k : ChangeOk l.table step.changes.place (Put r) step.changes.exit = rw e at sound.allowed.change in k.0

  small : (r : Record) → InRange (settings_of l.table) r → r.rcr.0 ≤ 8
  small r k = omega (arith, k.bounds.rcr, (call_way c l step goes).1.header.settings.rcr_max)

  gone : step.changes.change ≡ Clear → state_number (record_at (table_left c l) step.changes.place).state ≡ 0
  unfolding outcome carried_out table_then
  gone e =
      ap (λ (d : Done). state_number (record_at d.table step.changes.place).state) as_done
      ∙ ap state_number (cleared_left l.table step.changes l.exit (call_way c l step goes).1 sound.allowed e)

  -- a live record that took an event is as its turn leaves it, in its ranges, or free
  pub record_left : (k : TakenBy c l step) (x : Record) → x ≡ (live_turn l.table k.place k.event k.given).after
      → (Live x × ((record_at (table_left c l) k.place ≡ x) × InRange (settings_of l.table) x)) ⊎ ((state_number x.state ≡ 0) × (state_number (record_at (table_left c l) k.place).state ≡ 0))
  unfolding live_step step_of turn_changes change_of
  record_left k x is = go (eqb (state_number x.state) 0) refl
    where
      change_is : step.changes.change ≡ pick (eqb (state_number x.state) 0) Clear (Put x)
      change_is = rw is (ap (λ (y : Step). y.changes.change) k.step_is)

      place_is : step.changes.place ≡ k.place
      place_is = ap (λ (y : Step). y.changes.place) k.step_is

      go : (b : Bool) → eqb (state_number x.state) 0 ≡ b
          → (Live x × ((record_at (table_left c l) k.place ≡ x) × InRange (settings_of l.table) x)) ⊎ ((state_number x.state ≡ 0) × (state_number (record_at (table_left c l) k.place).state ≡ 0))
      go true e =
          inr (eqb-true (state_number x.state) 0 e, ap (λ (n : ℕ). state_number (record_at (table_left c l) n).state) (sym place_is) ∙ gone (change_is ∙ ap (λ (b : Bool). pick b Clear (Put x)) e))
      go false e =
          let put : step.changes.change ≡ Put x = change_is ∙ ap (λ (b : Bool). pick b Clear (Put x)) e in
          inl (omega (arith, eqb-false (state_number x.state) 0 e), (ap (λ (n : ℕ). record_at (table_left c l) n) (sym place_is) ∙ there x put, ranged x put))

  -- its deadline and its waiting limit: by the row's timer, with the state and the RCR that it then has
  pub deadline_live : (k : TakenBy c l step) → Live (record_at (table_left c l) k.place)
      → ((record_at (table_left c l) k.place).deadline
      ≡ deadline_by (timer_of (row_at l.table k.place k.event)) (record_at l.table k.place).deadline (time_of c) (settings_of l.table) (intervals_of l.table) (record_at (table_left c l) k.place))
      × ((record_at (table_left c l) k.place).limit ≡ limit_by (timer_of (row_at l.table k.place k.event)) (record_at l.table k.place).limit (settings_of l.table))
  unfolding live_turn
  deadline_live k live = go (record_left k x refl)
    where
      t : List ℕ
      t = l.table

      r : Record
      r = record_at t k.place

      x : Record
      x = (live_turn t k.place k.event k.given).after

      go : (Live x × ((record_at (table_left c l) k.place ≡ x) × InRange (settings_of t) x)) ⊎ ((state_number x.state ≡ 0) × (state_number (record_at (table_left c l) k.place).state ≡ 0))
          → ((record_at (table_left c l) k.place).deadline ≡ deadline_by (timer_of (row_at t k.place k.event)) r.deadline (time_of c) (settings_of t) (intervals_of t) (record_at (table_left c l) k.place))
          × ((record_at (table_left c l) k.place).limit ≡ limit_by (timer_of (row_at t k.place k.event)) r.limit (settings_of t))
      go (inr f) = absurd (omega (arith, live, f.1))
      go (inl n) =
          let named = row_deadline k.given (settings_of t) (intervals_of t) r (row_at t k.place k.event) n.0 (small x n.1.1) in
          rw n.1.0 (named.0 ∙ ap (λ (m : ℕ). deadline_by (timer_of (row_at t k.place k.event)) r.deadline m (settings_of t) (intervals_of t) x) k.time, named.1)

  -- a record that is opened: by the opening's timer
  pub deadline_opening : (k : ComesAlone c l step) → Live (opened_turn l.table k.opening k.holder k.given).after
      → ((record_at (table_left c l) k.holder.place).deadline
      ≡ deadline_by (opening_timer k.opening) 0 (time_of c) (settings_of l.table) (intervals_of l.table) (record_at (table_left c l) k.holder.place))
      × ((record_at (table_left c l) k.holder.place).limit ≡ limit_by (opening_timer k.opening) 0 (settings_of l.table))
  unfolding opening_step opened_turn step_of opening_changes change_of new_record
  deadline_opening k live =
      let t : List ℕ = l.table in
      let x : Record = (opened_turn t k.opening k.holder k.given).after in
      let other : eqb (state_number x.state) 0 ≡ false = ne_eqb (state_number x.state) 0 (λ z. absurd (omega (arith, live, z))) in
      let change_is : step.changes.change ≡ pick (eqb (state_number x.state) 0) Nothing (Put x) = ap (λ (y : Step). y.changes.change) k.step_is in
      let put : step.changes.change ≡ Put x = change_is ∙ ap (λ (b : Bool). pick b Nothing (Put x)) other in
      let place_is : step.changes.place ≡ k.holder.place = ap (λ (y : Step). y.changes.place) k.step_is in
      let is : record_at (table_left c l) k.holder.place ≡ x = ap (λ (n : ℕ). record_at (table_left c l) n) (sym place_is) ∙ there x put in
      let named =
      opening_deadline k.given (settings_of t) (intervals_of t) (new_record k.holder.peer k.holder.tid k.holder.up k.holder.tidnew) k.opening live (small x (ranged x put)) in
      rw is (named.0 ∙ ap (λ (n : ℕ). deadline_by (opening_timer k.opening) 0 n (settings_of t) (intervals_of t) x) k.time, named.1)

  -- nothing but the time: every record is the same
  pub records_idle : step ≡ idle_step (time_of c) → (j : ℕ) → record_at (table_left c l) j ≡ record_at l.table j
  unfolding outcome carried_out table_then idle_step idle_changes
  records_idle e j =
      ap (λ (d : Done). record_at d.table j) as_done
      ∙ none_left l.table step.changes l.exit (call_way c l step goes).1 sound.allowed (ap (λ (y : Step). y.changes.change) e) j
