-- An accepted abort call sends the user's Abort PDU, with its reason and its record's TID, and counts as the user's own abort. Assumes nothing.
use Prim.Native.Nat.{ℕ, ◌≤◌}
use native.Mathlib.Omega.{arith}
use mathlib.Core.Path.{◌≡◌, refl, sym, ap, subst, ◌∙◌}
use mathlib.Core.Bool.{true, false}
use mathlib.Core.List.{List}
use mathlib.Core.Logic.{inl, inr}
use Rattle.std.specs.Prelude.{Ok, Err}
use Rattle.base_layout.specs.Layout.{tid_bound}
use Rattle.base_lists.proofs.StoresAndParts.{true_false}
use Rattle.table_record.specs.Record.{role_of, send_tid}
use Rattle.table_record.specs.declared.Record.{Record}
use Rattle.table_layout.specs.Table.{record_at, settings_of, intervals_of}
use Rattle.row_events.specs.declared.Event.TheVariants as Event
use Rattle.row_events.specs.declared.Row.TheVariants as Row
use Rattle.row_columns.specs.Columns.{user}
use Rattle.row_columns.specs.declared.Send.{Send}
use Rattle.row_columns.specs.declared.Send.TheVariants as Send
use Rattle.row_conditions.specs.Conditions.{conditions_of}
use Rattle.row_turns.specs.Turns.{row_turn}
use Rattle.row_turns.specs.declared.Turn.{Turn}
use Rattle.law_places.proofs.Places.{live_range}
use Rattle.law_counting.specs.Counting.{Counts}
use Rattle.law_counting.proofs.Aborts.{user_aborts, UserAborts, user_abort_turn}
use Rattle.step_sending.specs.Octets.{with_tid, octets_sent}
use Rattle.step_sending.specs.Sending as Sending
use Rattle.step_sending.specs.declared.Sender.{Sender}
use Rattle.step_plan.specs.Steps.{sender_of, step_of, Plan}
use Rattle.step_plan.specs.declared.Holder.{Holder}
use Rattle.step_plan.specs.declared.Step.{Step}
use Rattle.step_live.specs.Turning.{row_at, holder_of, live_turn, live_step}
use Rattle.step_outcome.specs.Carry.{Lent, Done, octets_out, sent_then, carried_out, outcome, Answer}
use Rattle.call_plans.specs.Calls.{Call, plan_for, Lends, is_request, is_primitive}
use Rattle.call_plans.specs.Concerns.{NamedBy, Concerns, Comes}
use Rattle.law_steps_sound.specs.Sound.{Sound}
use Rattle.law_ways.proofs.Ways.{Lived, Way, Accepted}
use Rattle.law_ways.proofs.CallWays.{call_ways}
use Rattle.law_plans_sound.proofs.CallSound.{way_sound}
use Rattle.law_history.specs.Trace.{Entry, Promise}
use Rattle.law_history.specs.Tally.{sent_of, accepted, adds}
use Rattle.law_history.specs.Moves.{name_of, turn_adds}
use Rattle.law_history.specs.Demand.{OwnAbort, OwnAborts}
use Rattle.law_one_turn.proofs.Counted.{entry_of, sent_is}
use Rattle.step_sending.proofs.Octets.{tid_whole}
use Rattle.law_one_turn.proofs.Lived.{lived_adds}
use Rattle.law_data_shown.proofs.Effects.{done_is}
use Rattle.law_each_call.proofs.AbortOctets.{abort_octets}

module _ (l : Lent) (time role peer tid reason : ℕ) (step : Step) (k : Lived (Call.Abort time role peer tid reason) l step)
    (a : Accepted (Call.Abort time role peer tid reason) l step) where
  abbrev call : Call
  call = Call.Abort time role peer tid reason

  abbrev r : Record
  r = record_at l.table k.place

  abbrev turn : Turn
  turn = live_turn l.table k.place k.event k.given

  abbrev its : Step
  its = live_step l.table k.place k.event k.given k.asked

  abbrev h : Holder
  h = holder_of r k.place

  row_is : row_at l.table k.place k.event ≡ Row.UserAborts
  unfolding row_at
  row_is = rw k.comes.0 (user_aborts r.state (conditions_of (settings_of l.table) r) (rw k.comes.0 at k.comes.1.0))

  -- its turn sends the user's Abort and shows nothing
  aborts : UserAborts turn reason
  unfolding live_turn
  aborts = rw (row_is, sym k.comes.1.1) (user_abort_turn r k.given (settings_of l.table) (intervals_of l.table))

  tid_bound_holds : r.tid ≤ tid_bound
  tid_bound_holds = (live_range l.table a.fits.formed k.place k.live).bounds.tid

  -- the octets that an Abort is sent as
  as_octets : (s : List ℕ) (send : Send) (by : Sender) → send ≡ Send.Abort user reason → Sending.tid_of by ≡ send_tid (role_of r.state) r.tid → octets_sent s send by ≡ abort_octets (send_tid (role_of r.state) r.tid) reason
  unfolding octets_sent
  as_octets s send by e t = rw (e, t) refl

  sender_tid : Sending.tid_of (sender_of turn h k.asked) ≡ send_tid (role_of r.state) r.tid
  unfolding sender_of holder_of
  sender_tid = tid_whole (sender_of turn h k.asked) (omega (arith, tid_bound_holds))

  sent_abort : sent_then l its ≡ abort_octets (send_tid (role_of r.state) r.tid) reason
  unfolding sent_then octets_out live_step step_of
  sent_abort = as_octets _ turn.send (sender_of turn h k.asked) aborts.sends sender_tid

  counted_once : (turn_adds turn).aborts ≡ 1
  counted_once = rw (aborts.sends, aborts.first, aborts.second) refl

  own_abort : Sound l its → OwnAbort (entry_of call l its) role peer tid reason
  own_abort ok = record {
    name = name_of r;
    role_is = k.concerns.role_is;
    peer_is = k.concerns.peer_is;
    tid_is = k.concerns.tid_is;
    pdu = sent_is call l its a.fits ok ∙ (sent_abort ∙ ap (λ (n : ℕ). abort_octets (send_tid (role_of r.state) n) reason) k.concerns.tid_is);
    counted = ap (λ (c : Counts). c.aborts) (lived_adds call l a.fits step k ok) ∙ counted_once;
  }

-- an abort call can go no other way
by_way : (l : Lent) (time role peer tid reason : ℕ) (step : Step) (a : Accepted (Call.Abort time role peer tid reason) l step) → Sound l step → Way (Call.Abort time role peer tid reason) l step
    → OwnAbort (entry_of (Call.Abort time role peer tid reason) l step) role peer tid reason
by_way l time role peer tid reason step a ok (inl i) = true_false i.no_primitive
by_way l time role peer tid reason step a ok (inr (inl k)) = rw k.step_is (own_abort l time role peer tid reason step k a (rw k.step_is at ok))
by_way l time role peer tid reason step a ok (inr (inr (inl q))) = true_false (sym (ap is_request q.call_is))
by_way l time role peer tid reason step a ok (inr (inr (inr u))) = true_false (ap is_primitive u.call_is)

pub own_aborts : (e : Entry) → Promise e → (h : List Entry) → OwnAborts e h
unfolding outcome
own_aborts e p h time role peer tid reason is taken = go (plan_for e.call e.lent) refl
  where
    go : (q : Plan) → plan_for e.call e.lent ≡ q → OwnAbort e role peer tid reason
    go (Err r) g = true_false (sym taken ∙ ap (λ (d : Done). accepted d.answer) (done_is e p (Err r) g))
    go (Ok step) g =
        let c : Call = Call.Abort time role peer tid reason in
        let a : Accepted c e.lent step = subst (λ (x : Call). Accepted x e.lent step) is (call_ways e.call e.lent step g) in
        let ok : Sound e.lent step = way_sound c e.lent step (subst (λ (x : Call). Lends x e.lent) is p.lends) a in
        subst (λ (x : Call). OwnAbort (record { call = x; lent = e.lent; done = e.done }) role peer tid reason) (sym is)
        (subst (λ (d : Done). OwnAbort (record { call = c; lent = e.lent; done = d }) role peer tid reason) (sym (done_is e p (Ok step) g)) (by_way e.lent time role peer tid reason step a ok a.way))
