-- The step of every accepted call goes one of the four ways, over a table, store and output that fit: one case a call. Assumes nothing.
use Prim.Native.Nat.{ℕ, ◌≤◌}
use native.Mathlib.Omega.{arith}
use mathlib.Core.Path.{◌≡◌, refl, sym, ◌∙◌}
use mathlib.Core.Bool.{true, false}
use mathlib.Core.List.{List, []}
use mathlib.Core.Logic.{◌⊎◌, inl, inr}
use lib.ListN.{length}
use lib.Dec.{eqb}
use Rattle.std.specs.Prelude.{Option, Some, None, Ok}
use Rattle.call_receive.proofs.Identity.{identity_fine}
use Rattle.table_ranges.specs.Ranges.{none as no-identity}
use Rattle.base_layout.specs.Layout.{exit_bound}
use Rattle.codec_reading.specs.Read.{pdu_of}
use Rattle.table_layout.specs.Table.{count, record_at}
use Rattle.table_finding.specs.Finding.{due_of}
use Rattle.row_events.specs.Events.{event_number}
use Rattle.row_events.specs.declared.Event.TheVariants as Event
use Rattle.step_arrivals.specs.Arrivals.{event_of, name_of}
use Rattle.step_plan.specs.Steps.{no_part, step_of, idle_step}
use Rattle.step_plan.specs.declared.Step.{Step}
use Rattle.step_live.specs.Turning.{live_step}
use Rattle.step_opening.specs.Opens.{opening_step}
use Rattle.law_places.specs.Places.{LiveAt}
use Rattle.law_places.proofs.Places.{due_live}
use Rattle.call_refusal.proofs.Going.{Entered}
use Rattle.call_request.specs.Requests.{request_call, request_step}
use Rattle.call_request.proofs.Accepted as Requests
use Rattle.call_primitive.specs.Primitives.{primitive_given, primitive_call, primitive_step, primitive_plan}
use Rattle.call_primitive.specs.declared.Primitive.{Primitive}
use Rattle.call_primitive.proofs.Accepted as Primitives
use Rattle.call_receive.specs.Receives.{taken_given, taken_call, taken_step, opened_call, opened_step, unmatched_step, receive_step}
use Rattle.call_receive.proofs.Accepted as Receives
use Rattle.call_receive.proofs.KeptData.{kept_small}
use Rattle.call_receive.proofs.Ways.{Taken, Unmatched, ways}
use Rattle.call_timer.specs.Timers.{fired_given, fired_call, step_by, timer_step}
use Rattle.call_timer.proofs.Accepted as Timers
use Rattle.call_fire.specs.Fires.{as_fire}
use Rattle.call_fire.proofs.Accepted as Fires
use Rattle.step_outcome.specs.Carry.{Lent}
use Rattle.call_plans.specs.Calls.{Call, as_request, plan_for, Lends, time_of, peer_in, is_request}
use Rattle.call_plans.specs.Concerns.{NamedBy, Concerns, StateAllows, Comes, fires}
use Rattle.law_ways.proofs.Ways.{is_result_event, Accepted}
use Rattle.law_ways.proofs.ReceivedAbort.{other, abort_read}

no_exit : (x : List ℕ) → x ≡ [] → length x ≤ exit_bound
no_exit x e = rw e (omega arith)

-- a user's answer, result or abort
module _ (c : Call) (l : Lent) (p : Primitive) (peer : peer_in c ≡ p.peer) (asks : is_request c ≡ false) (silent : fires c ≡ false) (none : is_result_event p.event ≡ false) (no_Abort : eqb (event_number p.event) 9 ≡ false) (time : p.time ≡ time_of c)
    (given : Lends c l → p.len ≡ length l.given) (exit : Lends c l → p.exit_len ≡ length l.exit) (names : (place : ℕ) → NamedBy p.role p.peer p.tid (record_at l.table place) → Concerns c l place)
    (comes : (place : ℕ) → StateAllows l place p.event → Comes c l place p.event (primitive_given p)) where
  by_primitive : (step : Step) → primitive_plan l.table (length l.store) (length l.output) p ≡ Ok step → Accepted c l step
  unfolding primitive_step live_step step_of primitive_given primitive_call
  by_primitive step e =
      let a = Primitives.primitive_accepted l.table (length l.store) (length l.output) p step e in
      let n = a.record_ready.names in
      record {
        fits = a.enters.fitting;
        small = rw a.is_step a.record_ready.message;
        exit_fits = λ k. omega (arith, exit k, a.record_ready.exit);
        way = inr (inl record {
          place = a.place;
          event = p.event;
          given = primitive_given p;
          asked = primitive_call p;
          step_is = a.is_step;
          live = a.live;
          concerns = names a.place (record { role_is = n.role; peer_is = n.peer; tid_is = n.tid });
          comes = comes a.place a.record_ready.row;
          time_is = time;
          aborted = other p.event no_Abort;
          given_ok = record { time = a.enters.bound; len = a.record_ready.message; exit_len = a.record_ready.exit; unknown = no-identity refl };
          lent_ok = λ k. record { message_inside = omega (arith, given k); message_fits = a.record_ready.message; exit_fits = omega (arith, exit k, a.record_ready.exit) };
          no_request = asks;
          known = inr (silent, (refl, peer ∙ sym n.peer));
          came = inr none;
        });
      }

-- a PDU
module _ (l : Lent) (time peer : ℕ) (step : Step)
    (a : Receives.Accepted l.table (length l.store) (length l.output) time peer l.given step) where
  by_way : (receive_step l.table time peer l.given ≡ idle_step time) ⊎ (Taken l.table time peer l.given ⊎ Unmatched l.table time peer l.given)
      → Accepted (Call.Receive time peer) l step
  unfolding taken_step live_step unmatched_step opened_step opening_step step_of taken_given taken_call opened_call no_part idle_step
  by_way (inl e) = record {
    fits = a.enters.fitting;
    small = rw (a.step_is ∙ e) (omega arith);
    exit_fits = λ k. no_exit l.exit k;
    way = inl record { step_is = a.step_is ∙ e; bounded = a.enters.bounded; no_request = refl; no_primitive = refl };
  }
  by_way (inr (inl k)) = record {
    fits = a.enters.fitting;
    small = rw (a.step_is ∙ k.step_is) (omega arith);
    exit_fits = λ k. no_exit l.exit k;
    way = inr (inl record {
      place = k.place;
      event = event_of (pdu_of l.given).kind;
      given = taken_given time (pdu_of l.given);
      asked = taken_call (pdu_of l.given);
      step_is = a.step_is ∙ k.step_is;
      live = k.live;
      concerns = record { name_is = rw (k.called.role_is, k.called.tid_is) k.names; peer_is = k.called.peer_is };
      comes = refl;
      time_is = refl;
      aborted = abort_read (pdu_of l.given).kind;
      given_ok = record { time = a.enters.bounded; len = omega arith; exit_len = omega arith; unknown = identity_fine l.given };
      lent_ok = λ x. record { message_inside = omega arith; message_fits = omega arith; exit_fits = no_exit l.exit x };
      no_request = refl;
      known = inr (refl, (refl, sym k.called.peer_is));
      came = inl record { time = time; peer = peer; call_is = refl; of_peer = k.called.peer_is; event_is = refl; asked_is = refl };
    });
  }
  by_way (inr (inr u)) = record {
    fits = a.enters.fitting;
    small = rw (a.step_is ∙ u.step_is) (kept_small (pdu_of l.given));
    exit_fits = λ k. no_exit l.exit k;
    way = inr (inr (inr record { time = time; peer = peer; call_is = refl; accepted = a; unmatched = u; step_is = a.step_is ∙ u.step_is }));
  }

-- a firing of the live record at a place, by the timer call or by its name
module _ (c : Call) (l : Lent) (a : Entered l.table (length l.store) (length l.output) (time_of c)) (silent : is_request c ≡ false) (told : fires c ≡ true) (alone : Lends c l → l.exit ≡ []) where
  by_firing : (i : ℕ) (step : Step) → step ≡ step_by (Some i) l.table (time_of c) → LiveAt l.table i → Concerns c l i → Comes c l i Event.Timer (fired_given (time_of c)) → Accepted c l step
  unfolding live_step step_of fired_given fired_call no_part
  by_firing i step is live concerns comes = record {
    fits = a.fitting;
    small = rw is (omega arith);
    exit_fits = λ k. no_exit l.exit (alone k);
    way = inr (inl record {
      place = i;
      event = Event.Timer;
      given = fired_given (time_of c);
      asked = fired_call;
      step_is = is;
      live = live;
      concerns = concerns;
      comes = comes;
      time_is = refl;
      aborted = other Event.Timer refl;
      given_ok = record { time = a.bounded; len = omega arith; exit_len = omega arith; unknown = no-identity refl };
      lent_ok = λ k. record { message_inside = omega arith; message_fits = omega arith; exit_fits = no_exit l.exit (alone k) };
      no_request = silent;
      known = inl (told, refl);
      came = inr refl;
    });
  }

-- the timer call
module _ (l : Lent) (time : ℕ) (step : Step) (a : Entered l.table (length l.store) (length l.output) time) where
  by_due : (f : Option ℕ) → due_of l.table (count l.table) time ≡ f → step ≡ step_by f l.table time → Accepted (Call.Timer time) l step
  unfolding no_part idle_step
  by_due (Some i) q is = by_firing (Call.Timer time) l a refl refl (λ k. k.1) i step is (due_live l.table a.fitting.formed time i q) q refl
  by_due None q is = record { fits = a.fitting; small = rw is (omega arith); exit_fits = λ k. no_exit l.exit k.1; way = inl record { step_is = is; bounded = a.bounded; no_request = refl; no_primitive = refl } }

pub call_ways : (c : Call) (l : Lent) (step : Step) → plan_for c l ≡ Ok step → Accepted c l step
unfolding request_step opening_step step_of request_call primitive_given timer_step
call_ways (Call.Request time peer class user_ack) l step e =
    let a = Requests.request_accepted l.table (length l.store) (length l.output) (as_request time peer class user_ack (length l.given)) step e in
    record {
      fits = a.admits.enters.fitting;
      small = rw a.step_is a.admits.data_fits;
      exit_fits = λ k. no_exit l.exit k;
      way = inr (inr (inl record { time = time; peer = peer; class = class; user_ack = user_ack; call_is = refl; accepted = a }));
    }
call_ways (Call.Answer time role peer tid) l step e = by_primitive _ l _ refl refl refl refl refl refl (λ k. rw k refl) (λ k. refl) (λ place n. n) (λ place a. (refl, a)) step e
call_ways (Call.Result time role peer tid) l step e = by_primitive _ l _ refl refl refl refl refl refl (λ k. refl) (λ k. rw k refl) (λ place n. n) (λ place a. (refl, a)) step e
call_ways (Call.Abort time role peer tid reason) l step e = by_primitive _ l _ refl refl refl refl refl refl (λ k. rw k.0 refl) (λ k. rw k.1 refl) (λ place n. n) (λ place a. (refl, (a, refl))) step e
call_ways (Call.Receive time peer) l step e =
    let a = Receives.receive_accepted l.table (length l.store) (length l.output) time peer l.given step e in
    by_way l time peer step a (ways l.table a.enters.fitting.formed time peer l.given)
call_ways (Call.Timer time) l step e =
    let a = Timers.timer_accepted l.table (length l.store) (length l.output) time step e in
    by_due l time step a.enters (due_of l.table (count l.table) time) refl a.step_is
call_ways (Call.Fire time role peer tid) l step e =
    let a = Fires.fire_accepted l.table (length l.store) (length l.output) (as_fire time role peer tid) step e in
    let n = a.names in
    by_firing (Call.Fire time role peer tid) l a.enters refl refl (λ k. k.1) a.place step a.step_is a.live (record { named = record { role_is = n.role; peer_is = n.peer; tid_is = n.tid }; due = a.due }) refl
