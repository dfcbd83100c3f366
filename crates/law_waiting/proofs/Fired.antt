-- A record that is reached only by due firings is free after the number that it had left. Assumes nothing.
use Prim.Native.Nat.{ℕ, ◌+◌, ◌≤◌, ◌<◌}
use native.Mathlib.Omega.{arith}
use mathlib.Core.Path.{◌≡◌, refl, sym, ap, subst, ◌∙◌}
use mathlib.Core.Bool.{Bool, true, false}
use mathlib.Core.List.{List}
use mathlib.Core.Logic.{◌⊎◌, inl, inr}
use lib.ListN.{length}
use Rattle.std.specs.Prelude.{Option, Ok, Err}
use Rattle.base_lists.proofs.StoresAndParts.{true_false}
use Rattle.table_record.specs.Record.{state_number, state_of}
use Rattle.table_record.proofs.Back.{state_back}
use Rattle.table_record.specs.declared.Record.{Record}
use Rattle.table_record.specs.declared.State.{State}
use Rattle.table_record.specs.declared.State.TheVariants.{Free}
use Rattle.table_layout.specs.Table.{count, record_at, settings_of, intervals_of}
use Rattle.table_layout.specs.declared.Settings.{Settings}
use Rattle.table_record_ok.specs.OneRecord.{Live, Bounded, InRange}
use Rattle.table_names_ok.proofs.NamesTest.{role_back_holds}
use Rattle.table_well_formed.specs.WellFormed.{WellFormed}
use Rattle.row_events.specs.declared.Event.TheVariants as Event
use Rattle.step_plan.specs.declared.Step.{Step}
use Rattle.step_plan.specs.Steps.{Plan}
use Rattle.step_live.specs.Turning.{row_at, live_turn, live_step}
use Rattle.step_outcome.specs.Carry.{Lent, Done, outcome}
use Rattle.law_places.proofs.Places.{live_range}
use Rattle.call_timer.specs.Timers.{fired_given, fired_call, step_by, timer_step}
use Rattle.call_timer.proofs.Accepted as Timers
use Rattle.call_fire.specs.Fires.{as_fire}
use Rattle.call_fire.proofs.Accepted as Fires
use Rattle.call_plans.specs.Calls.{Call, promised, plan_for, time_of}
use Rattle.call_plans.specs.Concerns.{Concerns, fires}
use Rattle.law_ways.proofs.ReceivedAbort.{other}
use Rattle.law_history.specs.Trace.{Entry, Promise}
use Rattle.law_history.specs.Tally.{accepted}
use Rattle.law_history.specs.Moves.{before, after}
use Rattle.law_afterwards.specs.Ways.{TakenBy, table_left}
use Rattle.law_afterwards.proofs.Deadlines.{record_left}
use Rattle.law_invariant.proofs.Names.{same_number}
use Rattle.law_invariant.proofs.InvariantKept.{Around}
use Rattle.law_invariant.proofs.Through.{around}
use Rattle.law_waiting.specs.Waiting.{ModeOn, AllTimed, firings_left, FiredAt, OnlyFired, Freed}
use Rattle.law_waiting.proofs.Lowers.{firing_takes_one}
use Rattle.law_waiting.proofs.Most.{no_more_left, none_left}
use Rattle.law_waiting.proofs.Through.{call_timed}

number_free : (s : State) → state_number s ≡ 0 → s ≡ Free
unfolding state_of
number_free s e = sym (state_back s) ∙ ap state_of e

-- a free record has none left
free_left : (s : Settings) (r : Record) → state_number r.state ≡ 0 → firings_left s r ≡ 0
free_left s r e = rw (number_free r.state e) refl

-- the step of a firing is that of the record that it concerns
module _ (l : Lent) (w : WellFormed l.table) (place : ℕ) (inside : place < count l.table) (live : Live (record_at l.table place)) where
  pub firing_step : (c : Call) (step : Step) → fires c ≡ true → plan_for c l ≡ Ok step → Concerns c l place → step ≡ live_step l.table place Event.Timer (fired_given (time_of c)) fired_call
  unfolding timer_step
  firing_step (Call.Request time peer class user_ack) step f e k = true_false (sym f)
  firing_step (Call.Answer time role peer tid) step f e k = true_false (sym f)
  firing_step (Call.Result time role peer tid) step f e k = true_false (sym f)
  firing_step (Call.Abort time role peer tid reason) step f e k = true_false (sym f)
  firing_step (Call.Receive time peer) step f e k = true_false (sym f)
  firing_step (Call.Timer time) step f e k =
      (Timers.timer_accepted l.table (length l.store) (length l.output) time step e).step_is ∙ ap (λ (x : Option ℕ). step_by x l.table time) k
  firing_step (Call.Fire time role peer tid) step f e k = go (same_number a.place place)
    where
      a : Fires.Accepted l.table (length l.store) (length l.output) (as_fire time role peer tid) step
      a = Fires.fire_accepted l.table (length l.store) (length l.output) (as_fire time role peer tid) step e

      go : (a.place ≡ place) ⊎ (a.place ≡ place → ⊥) → step ≡ live_step l.table place Event.Timer (fired_given time) fired_call
      go (inl q) = a.step_is ∙ ap (λ (i : ℕ). live_step l.table i Event.Timer (fired_given time) fired_call) q
      go (inr d) =
          absurd (w.unique a.place place a.names.inside inside d a.names.live live (record {
            role = role_back_holds _ _ (a.names.role ∙ sym k.named.role_is);
            peer = a.names.peer ∙ sym k.named.peer_is;
            tid = a.names.tid ∙ sym k.named.tid_is;
          }))

-- an accepted call has a step
goes : (e : Entry) → Promise e → accepted e.done.answer ≡ true → (step : Step) × (plan_for e.call e.lent ≡ Ok step)
unfolding promised outcome
goes e p k = go (plan_for e.call e.lent) refl (sym (ap (λ (d : Done). accepted d.answer) p.keeps) ∙ k)
  where
    go : (plan : Plan) → plan_for e.call e.lent ≡ plan → accepted (outcome e.lent plan).answer ≡ true → (step : Step) × (plan_for e.call e.lent ≡ Ok step)
    go (Err r) q a = true_false (sym a)
    go (Ok step) q a = (step, q)

module _ (e : Entry) (p : Promise e) (w : WellFormed (before e)) (on : ModeOn (before e)) (all : AllTimed (before e)) (place : ℕ) (f : FiredAt e place) where
  abbrev t : List ℕ
  t = before e

  abbrev s : Settings
  s = settings_of t

  abbrev x : Record
  x = (live_turn t place Event.Timer (fired_given (time_of e.call))).after

  left_of : firings_left s (record_at (after e) place) ≡ firings_left s x
  unfolding fired_given
  left_of = go (record_left e.call e.lent g.0 p.lends g.1 k x refl)
    where
      g : (step : Step) × (plan_for e.call e.lent ≡ Ok step)
      g = goes e p f.taken

      k : TakenBy e.call e.lent g.0
      k = record {
        place = place;
        event = Event.Timer;
        given = fired_given (time_of e.call);
        asked = fired_call;
        step_is = firing_step e.lent w place f.inside f.live e.call g.0 f.fires g.1 f.concerns;
        time = refl;
        received = other Event.Timer refl;
      }

      left : after e ≡ table_left e.call e.lent
      left = ap (λ (d : Done). d.table) p.keeps

      go : (Live x × ((record_at (table_left e.call e.lent) place ≡ x) × InRange s x)) ⊎ ((state_number x.state ≡ 0) × (state_number (record_at (table_left e.call e.lent) place).state ≡ 0))
          → firings_left s (record_at (after e) place) ≡ firings_left s x
      go (inl y) = ap (λ (r : Record). firings_left s r) (ap (λ (u : List ℕ). record_at u place) left ∙ y.1.0)
      go (inr y) = free_left s (record_at (after e) place) (ap (λ (u : List ℕ). state_number (record_at u place).state) left ∙ y.1) ∙ sym (free_left s x y.0)

  -- one firing
  pub fired_one : firings_left s (record_at (after e) place) + 1 ≡ firings_left s (record_at t place)
  unfolding live_turn row_at
  fired_one =
      let b : Bounded s (record_at t place) = (live_range t w place (record { inside = f.inside; live = f.live })).bounds in
      ap (λ (n : ℕ). n + 1) left_of
      ∙ firing_takes_one (fired_given (time_of e.call)) s (intervals_of t) w.header.settings.rcr_max w.header.settings.aec_max on (record_at t place) b.rcr b.aec f.live (all place f.inside f.live)

-- what is so along the way
record OnTheWay (place : ℕ) (from t : List ℕ) (n : ℕ) : Type 0 where
  formed : WellFormed t
  settings : settings_of t ≡ settings_of from
  timed : AllTimed t
  counted : n + firings_left (settings_of from) (record_at t place) ≡ firings_left (settings_of from) (record_at from place)

module _ (place : ℕ) (from : List ℕ) (w : WellFormed from) (on : ModeOn from) (all : AllTimed from) where
  on_the_way : {n : ℕ} {t : List ℕ} → OnlyFired place from n t → OnTheWay place from t n
  on_the_way OnlyFired.none = record { formed = w; settings = refl; timed = all; counted = omega arith }
  on_the_way (OnlyFired.fired {n} {t} o e p is f) =
      let k : OnTheWay place from (before e) n = subst (λ (u : List ℕ). OnTheWay place from u n) (sym is) (on_the_way o) in
      let a : Around e = around e p k.formed in
      let mode : ModeOn (before e) = rw k.settings on in
      let one = rw k.settings at (fired_one e p k.formed mode k.timed place f) in
      record { formed = a.formed; settings = a.same_settings ∙ k.settings; timed = call_timed e p k.formed mode k.timed; counted = omega (arith, one, k.counted) }
  on_the_way (OnlyFired.apart {n} {t} o e p is same) =
      let k : OnTheWay place from (before e) n = subst (λ (u : List ℕ). OnTheWay place from u n) (sym is) (on_the_way o) in
      let a : Around e = around e p k.formed in
      let mode : ModeOn (before e) = rw k.settings on in
      record { formed = a.formed; settings = a.same_settings ∙ k.settings; timed = call_timed e p k.formed mode k.timed; counted = rw same k.counted }

  -- FREE AFTER SO MANY FIRINGS, AND AFTER NO MORE THAN THE STATED NUMBER
  pub free_within : {n : ℕ} {t : List ℕ} → OnlyFired place from n t → Freed (settings_of from) (record_at from place) (record_at t place) n
  free_within o =
      let k = on_the_way o in
      record {
        counted = k.counted;
        bounded = omega (arith, k.counted, no_more_left (settings_of from) (record_at from place));
        free = λ last. none_left (settings_of from) (record_at _ place) (omega (arith, k.counted, last));
      }
