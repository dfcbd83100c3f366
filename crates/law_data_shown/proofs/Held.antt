-- After any call the cell of each record in TIDOK WAIT holds the data of the Invoke that opened it. Assumes nothing.
use Prim.Native.Nat.{ℕ, ◌*◌, ◌%◌, ◌≤◌, ◌<◌}
use native.Mathlib.Omega.{arith}
use borrow.Author.Tests.{eqb-false}
use mathlib.Core.Path.{◌≡◌, refl, sym, ap, ◌∙◌}
use mathlib.Core.Bool.{Bool, true, false}
use mathlib.Core.List.{List, ◌∷◌}
use mathlib.Core.Logic.{◌⊎◌, inl, inr}
use lib.Dec.{ltb, eqb}
use Rattle.std.specs.Prelude.{Option, None, Ok, Err}
use Rattle.base_layout.specs.Layout.{cell_size}
use Rattle.base_lists.specs.Seq.{part}
use Rattle.base_lists.proofs.StoresAndParts.{true_false}
use Rattle.table_record.specs.Record.{role_of, class_of, state_number}
use Rattle.table_record.specs.declared.Role.TheVariants.{Responder}
use Rattle.table_record.specs.declared.State.{State}
use Rattle.table_record.specs.declared.State.TheVariants as State
use Rattle.table_record.specs.declared.Record.{Record}
use Rattle.codec_pdu.specs.declared.Pdu.{Pdu}
use Rattle.codec_reading.specs.Read.{pdu_of}
use Rattle.table_layout.specs.Table.{count, record_at}
use Rattle.table_finding.specs.Searched.{Called}
use Rattle.law_formed_kept.proofs.InRecord.{equal_or}
use Rattle.law_places.proofs.Places.{live_number, live_range}
use Rattle.row_events.specs.declared.Event.{Event}
use Rattle.row_events.specs.declared.Opening.{Opening}
use Rattle.row_choice.specs.Rows.{requested_of}
use Rattle.step_arrivals.specs.Arrivals.{arrived_of}
use Rattle.row_turns.specs.declared.Given.{Given}
use Rattle.row_turns.specs.declared.Turn.{Turn}
use Rattle.step_commit.specs.declared.GenTid.{GenTid}
use Rattle.step_changes.specs.Changes.{change_of, turn_changes}
use Rattle.step_opening.specs.Opens.{opened_turn, opening_changes, opening_step}
use Rattle.step_live.specs.Turning.{live_turn, live_step}
use Rattle.step_plan.specs.Steps.{step_of, idle_changes, idle_step, Plan}
use Rattle.step_plan.specs.declared.Part.{Part}
use Rattle.step_plan.specs.declared.Holder.{Holder}
use Rattle.step_plan.specs.declared.Call.{Call as Asked}
use Rattle.step_plan.specs.declared.Step.{Step}
use Rattle.call_request.specs.Requests.{requester, counted_by, request_given, request_call, request_step}
use Rattle.call_request.specs.declared.Request.{Request}
use Rattle.call_receive.specs.Receives.{user_part, kept_part, arriver_of, opened_given, opened_call, opened_step, arrival_opening, unmatched_step}
use Rattle.call_receive.proofs.Ways.{Unmatched}
use Rattle.step_outcome.specs.Carry.{Done, outcome}
use Rattle.law_steps_sound.specs.Sound.{Fits}
use Rattle.call_plans.specs.Calls.{Call, plan_for, time_of}
use Rattle.law_history.specs.Tally.{lives}
use Rattle.law_history.specs.Trace.{Entry, Promise}
use Rattle.law_history.specs.Moves.{before, after}
use Rattle.law_history.specs.Start.{Start, in_tidok_wait}
use Rattle.law_history.specs.Demand.{user_data, responder, InvokeFrom}
use Rattle.law_data_shown.specs.Cells.{CellHolds, CellsHold}
use Rattle.law_ways.proofs.Ways.{Way}
use Rattle.law_data_shown.proofs.Effects.{Left, Effect, done_is, effect}
use Rattle.law_data_shown.proofs.Living.{called_lives, invoke_stays, opener_is}
use Rattle.law_data_shown.proofs.Verifying.{StillWaits, live_stays, is_to_verify, none_writes_none, Verifies, opens_waiting}
use Rattle.law_data_shown.proofs.Openings.{requested_one, opening_leaves, opening_puts, arrival_fits, opening, holder, opened_now}

-- a record in TIDOK WAIT is a live responder's
waits_live : (s : State) → in_tidok_wait s ≡ true → s ≡ State.Free → ⊥
waits_live s w e = true_false (sym (ap in_tidok_wait (sym e) ∙ w))

waits_responds : (s : State) → in_tidok_wait s ≡ true → role_of s ≡ Responder
waits_responds State.Free w = true_false (sym w)
waits_responds State.IResultWait1 w = true_false (sym w)
waits_responds State.IResultWait2 w = true_false (sym w)
waits_responds State.IResultRespWait w = true_false (sym w)
waits_responds State.IWaitTimeout w = true_false (sym w)
waits_responds State.RTidokWait1 w = refl
waits_responds State.RTidokWait2 w = refl
waits_responds State.RInvokeRespWait1 w = true_false (sym w)
waits_responds State.RInvokeRespWait2 w = true_false (sym w)
waits_responds State.RResultWait w = true_false (sym w)
waits_responds State.RResultRespWait w = true_false (sym w)
waits_responds State.RWaitTimeout w = true_false (sym w)

pub waits_called : (r : Record) → in_tidok_wait r.state ≡ true → Called Responder r.peer r.tid r
waits_called r w = record { live = waits_live r.state w; role_is = waits_responds r.state w; peer_is = refl; tid_is = refl }

-- a record as it was still waits if it waits
same_waits : (r after : Record) → after ≡ r → in_tidok_wait after.state ≡ true → StillWaits r after false
same_waits r after e w = record {
  waited = ap (λ (x : Record). in_tidok_wait x.state) (sym e) ∙ w;
  unwritten = refl;
  same_len = ap (λ (x : Record). x.len) e;
  same_peer = ap (λ (x : Record). x.peer) e;
  same_tid = ap (λ (x : Record). x.tid) e;
  same_state = ap (λ (x : Record). x.state) e;
  same_ack = ap (λ (x : Record). x.user_ack) e;
}

module _ (start : Start) (e : Entry) (h : List Entry) (was : CellsHold start (before e) e.lent.store h) where
  abbrev Holds : ℕ → Type 0
  Holds i = CellHolds start (after e) e.done.store (e ∷ h) i

  abbrev Waiting : ℕ → Type 0
  Waiting i =
      InvokeFrom start (e ∷ h) (record_at (after e) i).peer (record_at (after e) i).tid (class_of (record_at (after e) i).state) (record_at (after e) i).user_ack (part e.done.store (i * cell_size) (record_at (after e) i).len)

  abbrev SameCell : ℕ → Type 0
  SameCell i = part e.done.store (i * cell_size) (record_at (before e) i).len ≡ part e.lent.store (i * cell_size) (record_at (before e) i).len

  -- a record that waited before and waits still, and whose cell is as it was
  still_holds : (i : ℕ) (cell : Bool) → i < count (before e) → StillWaits (record_at (before e) i) (record_at (after e) i) cell → SameCell i → Holds i
  still_holds i cell inside s same w =
      let r : Record = record_at (before e) i in
      let lived : lives (before e) (responder r.peer r.tid) ≡ true = called_lives (before e) r.peer r.tid i inside (waits_called r s.waited) in
      rw (s.same_peer, s.same_tid, s.same_state, s.same_ack, s.same_len, same) (invoke_stays start e h r.peer r.tid (class_of r.state) r.user_ack (part e.lent.store (i * cell_size) r.len) lived (was i inside s.waited))

  -- a record that is as it was
  same_holds : (i : ℕ) → i < count (before e) → record_at (after e) i ≡ record_at (before e) i → (in_tidok_wait (record_at (before e) i).state ≡ true → SameCell i) → Holds i
  same_holds i inside is same w =
      let s = same_waits (record_at (before e) i) (record_at (after e) i) is w in
      still_holds i false inside s (same s.waited) w

  unwritten_cell : (i : ℕ) → e.done.store ≡ e.lent.store → SameCell i
  unwritten_cell i is = ap (λ (s : List ℕ). part s (i * cell_size) (record_at (before e) i).len) is

  -- every other place than the step's
  elsewhere : (step : Step) → Fits e.lent → Left e.lent step e.done → (i : ℕ) → i < count (before e) → (i ≡ step.changes.place → ⊥) → Holds i
  elsewhere step fits left i inside d =
      same_holds i inside (left.others i d)
      (λ waited. left.other_cells i _ d inside (live_range (before e) fits.formed i (record { inside = inside; live = live_number (record_at (before e) i).state (waits_live (record_at (before e) i).state waited) })).bounds.message)

  -- a call that does nothing
  idle_holds : (time : ℕ) → Left e.lent (idle_step time) e.done → Holds 0
  unfolding idle_step idle_changes
  idle_holds time left = same_holds 0 left.inside (left.untouched refl) (λ waited. unwritten_cell 0 (left.unwritten refl))

  -- a live record's turn
  module _ (place : ℕ) (event : Event) (g : Given) (c : Asked) (left : Left e.lent (live_step (before e) place event g c) e.done) where
    abbrev turn : Turn
    turn = live_turn (before e) place event g

    lived_holds : Holds place
    unfolding live_step step_of turn_changes change_of
    lived_holds w = go (eqb (state_number turn.after.state) 0) refl
      where
        go : (b : Bool) → eqb (state_number turn.after.state) 0 ≡ b → Waiting place
        go true q = absurd (waits_live (record_at (after e) place).state w (left.freed (rw q refl)))
        go false q =
            let there : record_at (after e) place ≡ turn.after = left.put_is turn.after (rw q refl) in
            let s = live_stays (before e) place event g (ap (λ (x : Record). in_tidok_wait x.state) (sym there) ∙ w) in
            still_holds place turn.cell left.inside (rw there s) (unwritten_cell place (left.unwritten s.unwritten)) w

  -- an opening's turn; where it leads to TIDOK WAIT is said apart
  module _ (opening : Opening) (holder : Holder) (g : Given) (gen_tid : Option GenTid) (c : Asked) (left : Left e.lent (opening_step (before e) opening holder g gen_tid c) e.done) where
    abbrev opened : Turn
    opened = opened_turn (before e) opening holder g

    opening_holds : (Verifies opening opened g.len → 1 ≤ state_number opened.after.state → Holds holder.place) → Holds holder.place
    unfolding opening_step step_of opening_changes opened_turn
    opening_holds verified w = go (eqb (state_number opened.after.state) 0) refl
      where
        go : (b : Bool) → eqb (state_number opened.after.state) 0 ≡ b → Waiting holder.place
        go true q =
            same_holds holder.place left.inside (left.untouched (opening_leaves (before e) opening holder g gen_tid c q))
            (λ waited. unwritten_cell holder.place (left.unwritten (none_writes_none _ g _ _ opening q))) w
        go false q =
            let there : record_at (after e) holder.place ≡ opened.after = left.put_is opened.after (opening_puts (before e) opening holder g gen_tid c q) in
            verified (opens_waiting _ g _ _ opening (ap (λ (x : Record). in_tidok_wait x.state) (sym there) ∙ w)) (omega (arith, eqb-false (state_number opened.after.state) 0 q)) w

  -- no request leads there
  requested_not : (class : ℕ) → is_to_verify (requested_of class) ≡ false
  requested_not class = requested_one (λ (o : Opening). is_to_verify o ≡ false) refl refl refl class

  requested_holds : (place : ℕ) (q : Request) → Left e.lent (request_step (before e) place q) e.done → Holds place
  unfolding request_step requester
  requested_holds place q left =
      opening_holds (requested_of (q.class % 256)) (requester (before e) place q) (request_given q) (counted_by (before e) q) (request_call q) left
      (λ v live. true_false (sym v.to_verify ∙ requested_not (q.class % 256)))

  -- an Invoke to be verified
  module _ (time peer : ℕ) (called : e.call ≡ Call.Receive time peer) (u : Unmatched (before e) time peer e.lent.given) where
    abbrev p : Pdu
    p = pdu_of e.lent.given

    abbrev arrives : Opening
    arrives = opening e time peer called u

    abbrev arriver : Holder
    arriver = holder e time peer called u

    -- its data isn't too long to be kept
    kept_whole : is_to_verify arrives ≡ true → kept_part p ≡ user_part p
    unfolding arrival_opening arrived_of kept_part
    kept_whole v =
        let short : ltb cell_size p.len ≡ false = (arrival_fits _).short v in
        rw short refl

    arrived_holds : Left e.lent (opening_step (before e) arrives arriver (opened_given time p) None (opened_call p)) e.done → Holds arriver.place
    unfolding opening_step step_of opening_changes arriver_of opened_given opened_call user_part
    arrived_holds left = opening_holds arrives arriver (opened_given time p) None (opened_call p) left verified
      where
        verified : Verifies arrives (opened_turn (before e) arrives arriver (opened_given time p)) (opened_given time p).len
            → 1 ≤ state_number (opened_turn (before e) arrives arriver (opened_given time p)).after.state → Holds arriver.place
        verified v live w =
            let o = opened_now e time peer called u left live in
            let whole : part e.lent.given (kept_part p).start (kept_part p).len ≡ user_data e.lent.given = ap (λ (q : Part). part e.lent.given q.start q.len) (kept_whole v.to_verify) in
            inl (record {
              opener = e;
              opened = rw (o.there, o.peer_is, o.tid_is) (opener_is e h peer u.tid o.opens_is);
              time = o.by.time;
              received = rw o.there o.by.received;
              names = rw o.there o.by.names;
              invoke = rw o.there o.by.invoke;
              exact = rw (o.there, v.same_len) (left.written v.written ∙ whole);
            })

  at_place : (step : Step) → Way e.call e.lent step → Left e.lent step e.done → Holds step.changes.place
  unfolding idle_step idle_changes live_step step_of turn_changes opening_step opening_changes request_step requester unmatched_step opened_step
  at_place step (inl i) left = rw i.step_is (idle_holds (time_of e.call) (rw i.step_is at left))
  at_place step (inr (inl k)) left = rw k.step_is (lived_holds k.place k.event k.given k.asked (rw k.step_is at left))
  at_place step (inr (inr (inl q))) left = rw q.accepted.step_is (requested_holds _ _ (rw q.accepted.step_is at left))
  at_place step (inr (inr (inr a))) left = rw a.step_is (arrived_holds a.time a.peer a.call_is a.unmatched (rw a.step_is at left))

  accepted_holds : (step : Step) → Effect e step → CellsHold start (after e) e.done.store (e ∷ h)
  accepted_holds step f i inside = go (equal_or i step.changes.place)
    where
      go : (i ≡ step.changes.place) ⊎ (i ≡ step.changes.place → ⊥) → Holds i
      go (inl q) = rw q (at_place step f.accepted.way f.left)
      go (inr d) = elsewhere step f.accepted.fits f.left i (rw f.left.same_length at inside) d

  -- a refusal
  refused_holds : e.done.table ≡ e.lent.table → e.done.store ≡ e.lent.store → CellsHold start (after e) e.done.store (e ∷ h)
  refused_holds table store i inside =
      same_holds i (rw table at inside) (ap (λ (t : List ℕ). record_at t i) table) (λ waited. unwritten_cell i store)

pub still_held : (start : Start) (e : Entry) → Promise e → (h : List Entry) → CellsHold start (before e) e.lent.store h → CellsHold start (after e) e.done.store (e ∷ h)
unfolding outcome
still_held start e p h was = go (plan_for e.call e.lent) refl
  where
    go : (q : Plan) → plan_for e.call e.lent ≡ q → CellsHold start (after e) e.done.store (e ∷ h)
    go (Err r) is =
        let d = done_is e p (Err r) is in
        refused_holds start e h was (ap (λ (x : Done). x.table) d) (ap (λ (x : Done). x.store) d)
    go (Ok step) is = accepted_holds start e h was step (effect e p step is)
