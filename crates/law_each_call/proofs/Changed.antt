-- A call changes no record but the one it names, opens or fires: every other octet of records, header and store stays. Assumes nothing.
use Prim.Native.Nat.{ℕ, ◌+◌, ◌*◌, ◌%◌, ◌≤◌, ◌<◌}
use native.Mathlib.Omega.{arith}
use borrow.Author.Tests.{eqb-false}
use mathlib.Core.Path.{◌≡◌, refl, sym, ap, subst, ◌∙◌}
use mathlib.Core.Bool.{Bool, true, false}
use mathlib.Core.List.{List}
use mathlib.Core.Logic.{◌⊎◌, inl, inr}
use lib.ListN.{length, get_or}
use lib.Dec.{eqb}
use Rattle.std.specs.Prelude.{Option, None, Ok, Err}
use Rattle.base_layout.specs.Layout.{header_size, gen_tid_at, cell_size, peers}
use Rattle.base_lists.proofs.StoresAndParts.{true_false}
use Rattle.base_numbers.specs.declared.Refusal.{Refusal}
use Rattle.table_record.specs.Record.{role_of, class_of, state_number}
use Rattle.table_record.specs.declared.Record.{Record}
use Rattle.table_record.specs.declared.State.{State}
use Rattle.table_record.specs.declared.State.TheVariants.{Free}
use Rattle.table_layout.specs.Table.{count, gen_tid_of, record_at, settings_of, intervals_of}
use Rattle.table_finding.specs.Finding.{free_of}
use Rattle.table_finding.proofs.Searches.{free_found}
use Rattle.codec_reading.specs.Read.{pdu_of}
use Rattle.row_events.specs.declared.Opening.{Opening}
use Rattle.row_choice.specs.Rows.{requested_of}
use Rattle.row_columns.specs.declared.Next.TheVariants.{Ends}
use Rattle.row_entries.specs.Acts.{opening_act}
use Rattle.row_turns.specs.Turns.{new_record}
use Rattle.row_turns.specs.declared.Given.{Given}
use Rattle.step_commit.specs.Commit.{table_changed}
use Rattle.step_commit.specs.declared.Change.TheVariants as Change
use Rattle.step_commit.specs.declared.GenTid.{GenTid}
use Rattle.step_changes.specs.Changes.{turn_changes}
use Rattle.step_plan.specs.Steps as Steps
use Rattle.step_plan.specs.Steps.{step_of, idle_changes, idle_step, Plan}
use Rattle.step_plan.specs.declared.Holder.{Holder}
use Rattle.step_plan.specs.declared.Call.{Call as Asked}
use Rattle.step_plan.specs.declared.Step.{Step}
use Rattle.step_plan.specs.declared.Told.TheVariants as Told
use Rattle.step_live.specs.Turning.{holder_of, live_step}
use Rattle.step_opening.specs.Opens.{place_for, opened_turn, opening_changes, opening_step}
use Rattle.step_outcome.specs.Carry.{Done, table_then, carried_out, outcome}
use Rattle.call_request.specs.Requests.{requester, counted_by, request_given, request_call, request_step}
use Rattle.call_request.specs.declared.Request.{Request}
use Rattle.call_request.proofs.Accepted.{place_of, peer_octet}
use Rattle.call_receive.specs.Receives.{arriver_of, opened_given, opened_call, opened_step, arrival_opening, unmatched_step}
use Rattle.call_receive.proofs.Ways.{Opens, leaves_or_opens}
use Rattle.call_plans.specs.Calls.{Call, as_request, plan_for, promised, peer_in, is_request}
use Rattle.law_steps_sound.specs.Sound.{Sound}
use Rattle.call_plans.specs.Concerns.{fires}
use Rattle.law_ways.proofs.Ways.{ToldOrNamed, Idle, Lived, Requested, Arrived, Way}
use Rattle.law_plans_sound.specs.Plans as Plans
use Rattle.law_plans_sound.proofs.CallSound.{way_sound}
use Rattle.law_plans_sound.proofs.Openings.{OpenedAs, opened_as}
use Rattle.law_plans_sound.proofs.Requests.{requested_role}
use Rattle.law_plans_sound.proofs.Receives.{ends_free}
use Rattle.law_calls.proofs.Outcomes.{call_keeps}
use Rattle.law_calls.proofs.GenTid.{step_leaves}
use Rattle.law_history.specs.Trace.{Entry, Promise}
use Rattle.law_history.specs.Tally.{told_of_is, accepted, peer_of}
use Rattle.law_history.specs.Moves.{before, after}
use Rattle.law_history.specs.Changed.{OutsideRecord, OutsideCached, OutsideGenTid, OutsideCell, NamedOrFired, ByRequest, OpenedAt, NoneChanged, OneChanged, HeaderKept, CallFramed}
use Rattle.law_one_turn.proofs.Roles.{class_some}
use Rattle.law_one_turn.proofs.Lived.{its_peer}
use Rattle.law_data_shown.proofs.Effects.{Left, Effect, done_is, effect}
use Rattle.law_data_shown.proofs.Verifying.{none_writes_none, opens_class, opened_class}
use Rattle.law_data_shown.proofs.Openings.{opening_leaves, opening_puts, opened_now}
use Rattle.law_each_call.proofs.Octets.{other_octets, all_octets, header_octets}

abbrev Records : Entry → Type 0
Records e = NoneChanged e ⊎ ((place : ℕ) × OneChanged e place)

-- a refusal
refused_framed : (e : Entry) → Promise e → (r : Refusal) → plan_for e.call e.lent ≡ Err r → (h : List Entry) → CallFramed e h
unfolding outcome
refused_framed e p r is h =
    let d = done_is e p (Err r) is in
    let t : after e ≡ before e = ap (λ (x : Done). x.table) d in
    let s : e.done.store ≡ e.lent.store = ap (λ (x : Done). x.store) d in
    record {
      lengths = (ap length t, ap length s);
      header = λ k past inside gen cached. ap (λ (x : List ℕ). get_or x k 0) t;
      records = inl record { records = λ k past. ap (λ (x : List ℕ). get_or x k 0) t; store = s };
      refused = λ n. (t, (s, ap (λ (x : Done). x.output) d));
    }

module _ (e : Entry) (p : Promise e) (step : Step) (is : plan_for e.call e.lent ≡ Ok step) where
  abbrev f : Effect e step
  f = effect e p step is

  sound : Sound e.lent step
  sound = way_sound e.call e.lent step p.lends f.accepted

  carried : e.done ≡ carried_out e.lent step
  unfolding outcome
  carried = done_is e p (Ok step) is

  table_is : after e ≡ table_changed (before e) step.changes e.lent.exit
  unfolding carried_out table_then
  table_is = ap (λ (d : Done). d.table) carried

  told_is : told_of_is e.done.answer ≡ step.told
  unfolding carried_out
  told_is = ap (λ (d : Done). told_of_is d.answer) carried

  taken : accepted e.done.answer ≡ true
  unfolding carried_out
  taken = ap (λ (d : Done). accepted d.answer) carried

  kept : Plans.RestUnchanged e.lent e.done step
  kept = subst (λ (d : Done). Plans.RestUnchanged e.lent d step) (sym p.keeps) (call_keeps e.call e.lent step p.lends f.accepted.fits is)

  none_changed : step.changes.change ≡ Change.Nothing → step.changes.exit ≡ false → step.cell ≡ false → NoneChanged e
  none_changed change exit cell = record {
    records = λ k past. ap (λ (t : List ℕ). get_or t k 0) table_is ∙ all_octets k (before e) step.changes e.lent.exit sound.allowed.exit_fits sound.allowed.peer change exit past;
    store = f.left.unwritten cell;
  }

  outside : (k : ℕ) → OutsideCell step.changes.place k → (k < step.changes.place * cell_size) ⊎ (step.changes.place * cell_size + step.message.len ≤ k)
  outside k (inl h) = inl h
  outside k (inr h) = inr (omega (arith, f.accepted.small))

  one_changed : (place : ℕ) → step.changes.place ≡ place → NamedOrFired e place ⊎ OpenedAt e place → OneChanged e place
  one_changed place at why = record {
    inside = rw at at f.left.inside;
    why = why;
    records = λ k past o. ap (λ (t : List ℕ). get_or t k 0) table_is ∙ other_octets k (before e) step.changes e.lent.exit sound.allowed.exit_fits sound.allowed.peer past (rw at o);
    store = λ k o. kept.store k (inr (outside k (rw at o)));
  }

  -- the header, where the cached TID that changes is that of the call's peer
  header_kept : (step.changes.cached ≡ None) ⊎ (step.changes.peer ≡ peer_of e.call e.done.answer) → HeaderKept e
  header_kept peer k past inside gen cached =
      ap (λ (t : List ℕ). get_or t k 0) table_is
      ∙ header_octets k (before e) step.changes e.lent.exit sound.allowed.exit_fits sound.allowed.peer past inside (gen_tid gen) (of_peer peer)
    where
      gen_tid : (is_request e.call ≡ false) ⊎ OutsideGenTid k → (step.changes.gen_tid ≡ None) ⊎ OutsideGenTid k
      gen_tid (inl r) = inl (step_leaves e.call e.lent step r f.accepted.way)
      gen_tid (inr h) = inr h

      of_peer : (step.changes.cached ≡ None) ⊎ (step.changes.peer ≡ peer_of e.call e.done.answer) → (step.changes.cached ≡ None) ⊎ OutsideCached step.changes.peer k
      of_peer (inl c) = inl c
      of_peer (inr q) = inr (rw q cached)

  framed : (step.changes.cached ≡ None) ⊎ (step.changes.peer ≡ peer_of e.call e.done.answer) → Records e → (h : List Entry) → CallFramed e h
  framed peer records h = record { lengths = (f.left.same_length, f.left.same_store); header = header_kept peer; records = records; refused = λ n. true_false (sym taken ∙ n) }

  -- the call only stores its time
  idle_framed : Idle e.call step → (h : List Entry) → CallFramed e h
  unfolding idle_step idle_changes
  idle_framed i = framed (inl (rw i.step_is refl)) (inl (none_changed (rw i.step_is refl) (rw i.step_is refl) (rw i.step_is refl)))

  -- a live record's turn
  module _ (k : Lived e.call e.lent step) where
    abbrev r : Record
    r = record_at (before e) k.place

    lived_peer : step.changes.peer ≡ peer_of e.call e.done.answer
    unfolding live_step step_of turn_changes
    lived_peer =
        rw k.step_is (sym (its_peer e.call e.lent f.accepted.fits step k k.known))
        ∙ ap (λ (d : Done). peer_of e.call d.answer) (ap (carried_out e.lent) (sym k.step_is) ∙ sym carried)

    named : NamedOrFired e k.place
    unfolding live_step step_of Steps.told_of_is holder_of
    named = record { live = k.live.live; concerns = k.concerns; told = λ fires. told_is ∙ rw k.step_is (go k.known fires) }
      where
        go : ToldOrNamed e.call e.lent k.place k.asked.tells → fires e.call ≡ true → Steps.told_of_is k.asked.tells (holder_of r k.place) ≡ Told.Fired (role_of r.state) r.peer r.tid
        go (inl (a, t)) b = rw t refl
        go (inr (a, t)) b = true_false (sym b ∙ a)

    lived_framed : (h : List Entry) → CallFramed e h
    unfolding live_step step_of turn_changes
    lived_framed = framed (inr lived_peer) (inr (k.place, one_changed k.place (rw k.step_is refl) (inl named)))

  -- an opening: no record is left, or one at its place
  module _ (opening : Opening) (holder : Holder) (g : Given) (gen_tid : Option GenTid) (c : Asked) (eq : step ≡ opening_step (before e) opening holder g gen_tid c) where
    abbrev opened : Record
    opened = (opened_turn (before e) opening holder g).after

    at_place : step.changes.place ≡ holder.place
    unfolding opening_step step_of opening_changes
    at_place = rw eq refl

    no_exit : step.changes.exit ≡ false
    unfolding opening_step step_of opening_changes
    no_exit = rw eq refl

    no_cell : eqb (state_number opened.state) 0 ≡ true → step.cell ≡ false
    unfolding opening_step step_of opened_turn
    no_cell q = rw eq (none_writes_none _ g _ _ opening q)

    there : eqb (state_number opened.state) 0 ≡ false → record_at (after e) holder.place ≡ opened
    there q = ap (record_at (after e)) (sym at_place) ∙ (f.left.put_is opened (ap (λ (s : Step). s.changes.change) eq ∙ opening_puts (before e) opening holder g gen_tid c q))

    opening_records : (1 ≤ state_number opened.state → record_at (after e) holder.place ≡ opened → OpenedAt e holder.place) → Records e
    opening_records opens = go (eqb (state_number opened.state) 0) refl
      where
        go : (b : Bool) → eqb (state_number opened.state) 0 ≡ b → Records e
        go true q = inl (none_changed (ap (λ (s : Step). s.changes.change) eq ∙ opening_leaves (before e) opening holder g gen_tid c q) no_exit (no_cell q))
        go false q = inr (holder.place, one_changed holder.place at_place (inr (opens (omega (arith, eqb-false (state_number opened.state) 0 q)) (there q))))

  -- a request's
  module _ (q : Requested e.call e.lent step) where
    abbrev asked : Request
    asked = as_request q.time q.peer q.class q.user_ack (length e.lent.given)

    abbrev place : ℕ
    place = place_of (before e)

    own_peer : q.peer % peers ≡ q.peer
    own_peer = peer_octet (before e) _ _ asked q.accepted.admits

    told_tid_holds : told_of_is e.done.answer ≡ Told.Tid (gen_tid_of (before e))
    unfolding request_step opening_step step_of Steps.told_of_is request_call requester
    told_tid_holds = told_is ∙ rw q.accepted.step_is refl

    request_peer : step.changes.peer ≡ peer_of e.call e.done.answer
    unfolding request_step opening_step step_of opening_changes requester
    request_peer = rw (q.accepted.step_is, told_tid_holds, q.call_is) own_peer

    class_0 : q.class ≡ 0 → 1 ≤ state_number (opened_turn (before e) (requested_of (q.class % 256)) (requester (before e) place asked) (request_given asked)).after.state → ⊥
    unfolding opened_turn requested_of
    class_0 zero live =
        let z : q.class % 256 ≡ 0 = omega (arith, zero) in
        let s : State = (opened_turn (before e) (requested_of (q.class % 256)) (requester (before e) place asked) (request_given asked)).after.state in
        let c : class_of s ≡ opens_class (requested_of (q.class % 256)) = opened_class _ (request_given asked) (settings_of (before e)) (intervals_of (before e)) (requested_of (q.class % 256)) in
        let some : 1 ≤ class_of s = class_some s live in
        let none : opens_class (requested_of (q.class % 256)) ≡ 0 = ap (λ (n : ℕ). opens_class (requested_of n)) z in
        omega (arith, some, c, none)

    by_request : (r : Record) → r ≡ (opened_turn (before e) (requested_of (q.class % 256)) (requester (before e) place asked) (request_given asked)).after → 1 ≤ state_number r.state → ByRequest e r
    unfolding opened_turn requester new_record
    by_request r is live =
        let o = opened_as (requested_of (q.class % 256)) (new_record (q.peer % 256) (gen_tid_of (before e)) q.user_ack _) (request_given asked) (settings_of (before e)) (intervals_of (before e)) (rw is at live) in
        record {
          asked = ap is_request q.call_is;
          role = rw is (o.role ∙ requested_role (q.class % 256));
          peer = rw (is, q.call_is) (o.peer ∙ own_peer);
          tid = told_tid_holds ∙ ap Told.Tid (rw is (sym o.tid));
        }

    opened_at : 1 ≤ state_number (opened_turn (before e) (requested_of (q.class % 256)) (requester (before e) place asked) (request_given asked)).after.state
        → record_at (after e) place ≡ (opened_turn (before e) (requested_of (q.class % 256)) (requester (before e) place asked) (request_given asked)).after → OpenedAt e place
    opened_at live is = go q.accepted.place_free
      where
        go : (q.class ≡ 0) ⊎ ((record_at (before e) place).state ≡ Free) → OpenedAt e place
        go (inl zero) = absurd (class_0 zero live)
        go (inr free) = record { was_free = free; live = rw is live; by = inl (by_request _ is (rw is live)) }

    requested_framed : (h : List Entry) → CallFramed e h
    unfolding request_step requester
    requested_framed = framed (inr request_peer) (opening_records _ (requester (before e) place asked) (request_given asked) (counted_by (before e) asked) (request_call asked) q.accepted.step_is opened_at)

  -- that of a PDU without a live record
  module _ (a : Arrived e.call e.lent step) where
    abbrev t : List ℕ
    t = before e

    abbrev arrives : Opening
    arrives = arrival_opening t a.peer a.unmatched.tid e.lent.given (pdu_of e.lent.given)

    abbrev arriver : Holder
    arriver = arriver_of (place_for (free_of t (count t))) a.unmatched.role a.peer a.unmatched.tid (pdu_of e.lent.given).kind

    step_is : step ≡ opening_step t arrives arriver (opened_given a.time (pdu_of e.lent.given)) None (opened_call (pdu_of e.lent.given))
    unfolding unmatched_step opened_step
    step_is = a.step_is

    told_none : told_of_is e.done.answer ≡ Told.Nothing
    unfolding opening_step step_of Steps.told_of_is opened_call
    told_none = told_is ∙ rw step_is refl

    arrived_peer : step.changes.peer ≡ peer_of e.call e.done.answer
    unfolding opening_step step_of opening_changes arriver_of
    arrived_peer = rw (step_is, told_none, a.call_is) refl

    opened_by : 1 ≤ state_number (opened_turn t arrives arriver (opened_given a.time (pdu_of e.lent.given))).after.state
        → record_at (after e) (place_for (free_of t (count t))) ≡ (opened_turn t arrives arriver (opened_given a.time (pdu_of e.lent.given))).after → OpenedAt e (place_for (free_of t (count t)))
    opened_by live is = go (leaves_or_opens t a.peer a.unmatched.tid e.lent.given (pdu_of e.lent.given))
      where
        go : ((opening_act arrives).next ≡ Ends) ⊎ Opens t e.lent.given → OpenedAt e (place_for (free_of t (count t)))
        go (inl ends) = absurd (ends_free arrives t arriver (opened_given a.time (pdu_of e.lent.given)) ends live)
        go (inr opens) =
            let o = opened_now e a.time a.peer a.call_is a.unmatched (rw step_is at f.left) live in
            record { was_free = (free_found t (count t) _ opens.free).is_so; live = rw is live; by = inr (rw is o.by) }

    arrived_framed : (h : List Entry) → CallFramed e h
    unfolding arriver_of
    arrived_framed = framed (inr arrived_peer) (opening_records arrives arriver (opened_given a.time (pdu_of e.lent.given)) None (opened_call (pdu_of e.lent.given)) step_is opened_by)

  accepted_framed : Way e.call e.lent step → (h : List Entry) → CallFramed e h
  accepted_framed (inl i) = idle_framed i
  accepted_framed (inr (inl k)) = lived_framed k
  accepted_framed (inr (inr (inl q))) = requested_framed q
  accepted_framed (inr (inr (inr a))) = arrived_framed a

pub call_framed : (e : Entry) → Promise e → (h : List Entry) → CallFramed e h
call_framed e p h = go (plan_for e.call e.lent) refl
  where
    go : (q : Plan) → plan_for e.call e.lent ≡ q → CallFramed e h
    go (Err r) is = refused_framed e p r is h
    go (Ok step) is = accepted_framed e p step is (effect e p step is).accepted.way h
