-- An Invoke of class 1 or 2 is shown as the PDU that opened its record, also after verification; one of class 0 as the PDU of this very call. Assumes nothing.
use Prim.Native.Nat.{ℕ, ◌+◌, ◌*◌, ◌%◌, ◌≤◌}
use native.Mathlib.Omega.{arith}
use mathlib.Core.Path.{◌≡◌, refl, sym, ap, ◌∙◌}
use mathlib.Core.Bool.{Bool, true, false}
use mathlib.Core.List.{List, ◌∷◌}
use mathlib.Core.Logic.{◌⊎◌, inl, inr}
use lib.ListN.{length}
use Rattle.std.specs.Prelude.{None, Some, Ok, Err}
use Rattle.base_layout.specs.Layout.{cell_size}
use Rattle.base_lists.specs.Seq.{part}
use Rattle.base_lists.proofs.StoresAndParts.{true_false}
use Rattle.table_record.specs.declared.Record.{Record}
use Rattle.codec_pdu.specs.declared.Pdu.{Pdu}
use Rattle.codec_reading.specs.Read.{pdu_of}
use Rattle.table_layout.specs.Table.{record_at}
use Rattle.table_layout.specs.declared.Settings.{Settings}
use Rattle.law_places.proofs.Places.{live_range}
use Rattle.row_events.specs.declared.Opening.{Opening}
use Rattle.row_choice.specs.Rows.{requested_of}
use Rattle.step_arrivals.specs.Arrivals.{wanted_of, arrived_of}
use Rattle.row_columns.specs.Columns.{act_with, stored}
use Rattle.row_columns.specs.declared.Indication.TheVariants as Indication
use Rattle.row_entries.specs.Acts.{opening_act}
use Rattle.row_turns.specs.Turns.{turn_of, opening_turn}
use Rattle.row_turns.specs.declared.Given.{Given}
use Rattle.row_turns.specs.declared.Turn.{Turn}
use Rattle.step_commit.specs.declared.Changes.{Changes}
use Rattle.step_opening.specs.Opens.{opened_turn, opening_step}
use Rattle.step_live.specs.Turning.{holder_of, live_turn, live_step}
use Rattle.step_shown.specs.Kinds.{by_kind}
use Rattle.step_shown.specs.Parts.{data_of}
use Rattle.step_shown.specs.Shows.{invoke_place}
use Rattle.step_shown.specs.declared.Source.TheVariants as From
use Rattle.step_shown.specs.declared.Place.{Place}
use Rattle.step_shown.specs.declared.Shown.{Shown}
use Rattle.step_shown.specs.declared.Shown.TheVariants as Shown
use Rattle.step_shown.proofs.Data.{data_part}
use Rattle.step_plan.specs.Steps.{cell_of, place_in, context_of, step_of, idle_step, Plan}
use Rattle.step_plan.specs.declared.Holder.{Holder}
use Rattle.step_plan.specs.declared.Call.{Call as Asked}
use Rattle.step_plan.specs.declared.Step.{Step}
use Rattle.call_request.specs.Requests.{requester, request_given, request_call, request_step}
use Rattle.call_request.specs.declared.Request.{Request}
use Rattle.call_receive.specs.Receives.{user_part, arriver_of, opened_given, opened_call, opened_step, arrival_opening, unmatched_step}
use Rattle.call_receive.proofs.Ways.{Unmatched}
use Rattle.step_outcome.specs.Carry.{carried_out, outcome}
use Rattle.law_steps_sound.specs.Sound.{Fits}
use Rattle.call_plans.specs.Calls.{Call, plan_for}
use Rattle.law_history.specs.Tally.{lives}
use Rattle.table_record.specs.Record.{class_of, state_number}
use Rattle.table_record.specs.declared.Role.TheVariants.{Responder}
use Rattle.law_history.specs.Trace.{Entry, Promise}
use Rattle.law_history.specs.Moves.{before}
use Rattle.law_history.specs.Start.{Start}
use Rattle.law_history.specs.Demand.{Shows, user_data, responder, InvokeFrom, InvokeExact, Invoke0Taken, Invoke0Exact}
use Rattle.law_one_turn.proofs.Roles.{class_some}
use Rattle.law_data_shown.specs.Cells.{CellsHold}
use Rattle.law_ways.proofs.Ways.{Lived, Way}
use Rattle.law_data_shown.proofs.Indicated.{shows_invoke}
use Rattle.law_data_shown.proofs.Results.{StepShows, same_shows, shows_as_holds, user_shown}
use Rattle.law_data_shown.proofs.Effects.{Left, Effect, done_is, effect}
use Rattle.law_data_shown.proofs.Living.{called_lives, invoke_stays, opener_is}
use Rattle.law_data_shown.proofs.Verifying.{Indicates, live_shows, is_shown0, opens_class, no_invokes, ShownAtOnce, opening_shows}
use Rattle.law_data_shown.proofs.Openings.{requested_one, arrival_fits, opening, holder, turn, Invoking, invoking, names_it, lived_not, some_opened, opened_now}
use Rattle.law_data_shown.proofs.Held.{waits_called}

-- a request shows no Invoke
requested_shows_none : (class : ℕ) (r : Record) (g : Given) (s : Settings) (rows : List (List ℕ)) (v : Bool) → Indicates (opening_turn (requested_of class) r g s rows) (Indication.Invoke v) → ⊥
unfolding opening_turn turn_of opening_act act_with stored
requested_shows_none class r g s rows v =
    requested_one (λ (o : Opening). Indicates (opening_turn o r g s rows) (Indication.Invoke v) → ⊥) (λ e. no_invokes v e) (λ e. no_invokes v e) (λ e. no_invokes v e) class

-- an Invoke that an opening's turn indicates
opened_shows : (t : List ℕ) (opening : Opening) (h : Holder) (g : Given) (v : Bool) → Indicates (opened_turn t opening h g) (Indication.Invoke v) → ShownAtOnce opening (opened_turn t opening h g).after v
unfolding opened_turn
opened_shows t opening h g v i = opening_shows _ g _ _ opening v i

module _ (peer tid class : ℕ) (up : Bool) (place : Place) where
  abbrev invoke : Shown
  invoke = Shown.Invoke peer tid class up place

  -- an Invoke that a step shows is indicated by its turn, for its holder
  record InvokeOf (turn : Turn) (h : Holder) (c : Asked) : Type 0 where
    verified : Bool
    indicates : Indicates turn (Indication.Invoke verified)
    peer_is : h.peer ≡ peer
    tid_is : h.tid ≡ tid
    class_is : h.class ≡ class
    up_is : h.up ≡ up
    place_is : invoke_place verified (context_of h c) ≡ place

  step_invoke : (turn : Turn) (changes : Changes) (h : Holder) (c : Asked) → StepShows (step_of turn changes h c) invoke → InvokeOf turn h c
  unfolding step_of context_of
  step_invoke turn changes h c (inl s) =
      let x = shows_invoke turn.first (context_of h c) peer tid class up place s in
      record { verified = x.verified; indicates = inl x.indicated; peer_is = x.peer_is; tid_is = x.tid_is; class_is = x.class_is; up_is = x.up_is; place_is = x.place_is }
  step_invoke turn changes h c (inr s) =
      let x = shows_invoke turn.second (context_of h c) peer tid class up place s in
      record { verified = x.verified; indicates = inr x.indicated; peer_is = x.peer_is; tid_is = x.tid_is; class_is = x.class_is; up_is = x.up_is; place_is = x.place_is }

  request_none : (t : List ℕ) (at : ℕ) (q : Request) → StepShows (request_step t at q) invoke → ⊥
  unfolding request_step opening_step opened_turn
  request_none t at q s =
      let x = step_invoke (opened_turn t (requested_of (q.class % 256)) (requester t at q) (request_given q)) _ (requester t at q) (request_call q) s in
      requested_shows_none (q.class % 256) _ (request_given q) _ _ x.verified x.indicates

  nothing_shown : (Shown.Nothing ≡ invoke) ⊎ (Shown.Nothing ≡ invoke) → ⊥
  nothing_shown (inl s) = true_false (sym (ap (by_kind false true false false false) s))
  nothing_shown (inr s) = true_false (sym (ap (by_kind false true false false false) s))

  module _ (start : Start) (e : Entry) (h : List Entry) (was : CellsHold start (before e) e.lent.store h) where
    abbrev ItsInvoke : Type 0
    ItsInvoke = InvokeFrom start (e ∷ h) peer tid class up (data_of e.lent.given e.done.store place)

    abbrev Data : Entry → Type 0
    Data o = data_of e.lent.given e.done.store place ≡ user_data o.lent.given

    -- after verification: from the cell
    module _ (step : Step) (k : Lived e.call e.lent step) (fits : Fits e.lent)
        (left : Left e.lent (live_step (before e) k.place k.event k.given k.asked) e.done) where
      abbrev r : Record
      r = record_at (before e) k.place

      abbrev cell : Place
      cell = place_in From.Store (cell_of (holder_of r k.place))

      cell_inside : k.place * cell_size + r.len ≤ length e.done.store
      cell_inside =
          let room : r.len ≤ cell_size = (live_range (before e) fits.formed k.place k.live).bounds.message in
          omega (arith, room, k.live.inside, fits.cells, left.same_store)

      cell_shown : data_of e.lent.given e.done.store cell ≡ part e.done.store (k.place * cell_size) r.len
      unfolding place_in cell_of holder_of
      cell_shown = data_part e.lent.given e.done.store cell cell_inside

      cell_kept : (live_turn (before e) k.place k.event k.given).cell ≡ false → part e.done.store (k.place * cell_size) r.len ≡ part e.lent.store (k.place * cell_size) r.len
      unfolding live_step step_of
      cell_kept unwritten = ap (λ (u : List ℕ). part u (k.place * cell_size) r.len) (left.unwritten unwritten)

      -- what its record shows, and what is so of it
      its_invoke : StepShows (live_step (before e) k.place k.event k.given k.asked) invoke → InvokeOf (live_turn (before e) k.place k.event k.given) (holder_of r k.place) k.asked
      unfolding live_step
      its_invoke s = step_invoke (live_turn (before e) k.place k.event k.given) _ (holder_of r k.place) k.asked s

      lived_exact : StepShows (live_step (before e) k.place k.event k.given k.asked) invoke → ItsInvoke
      unfolding context_of holder_of invoke_place
      lived_exact s =
          let x = its_invoke s in
          let f = live_shows (before e) k.place k.event k.given x.verified x.indicates in
          let at : place ≡ cell = sym x.place_is ∙ ap (λ (b : Bool). invoke_place b (context_of (holder_of r k.place) k.asked)) f.was_verified in
          let lived : lives (before e) (responder r.peer r.tid) ≡ true = called_lives (before e) r.peer r.tid k.place k.live.inside (waits_called r f.waited) in
          let data_is : data_of e.lent.given e.done.store place ≡ part e.lent.store (k.place * cell_size) r.len = ap (data_of e.lent.given e.done.store) at ∙ (cell_shown ∙ cell_kept f.unwritten) in
          rw data_is (rw (x.peer_is, x.tid_is, x.class_is, x.up_is) at (invoke_stays start e h r.peer r.tid (class_of r.state) r.user_ack (part e.lent.store (k.place * cell_size) r.len) lived (was k.place k.live.inside f.waited)))

      -- a live record shows none of class 0
      lived_not_0 : StepShows (live_step (before e) k.place k.event k.given k.asked) invoke → 1 ≤ class
      unfolding holder_of
      lived_not_0 s = rw (its_invoke s).class_is at (class_some r.state k.live.live)

    -- at once: from the PDU
    module _ (time from : ℕ) (called : e.call ≡ Call.Receive time from) (u : Unmatched (before e) time from e.lent.given) where
      abbrev p : Pdu
      p = pdu_of e.lent.given

      abbrev arrives : Opening
      arrives = opening e time from called u

      abbrev arriver : Holder
      arriver = holder e time from called u

      abbrev opened : Turn
      opened = turn e time from called u

      abbrev arrived : Step
      arrived = opening_step (before e) arrives arriver (opened_given time p) None (opened_call p)

      its_shown : StepShows arrived invoke → InvokeOf opened arriver (opened_call p)
      unfolding opening_step
      its_shown s = step_invoke opened _ arriver (opened_call p) s

      at_once : (v : Bool) → Indicates opened (Indication.Invoke v) → ShownAtOnce arrives opened.after v
      at_once v i = opened_shows (before e) arrives arriver (opened_given time p) v i

      -- the data is the PDU's
      at_pdu : InvokeOf opened arriver (opened_call p) → Data e
      unfolding context_of invoke_place opened_call
      at_pdu x =
          let f = at_once x.verified x.indicates in
          let at : place ≡ place_in From.Datagram (user_part p) = sym x.place_is ∙ ap (λ (b : Bool). invoke_place b (context_of arriver (opened_call p))) f.unverified in
          ap (data_of e.lent.given e.done.store) at ∙ user_shown e.lent.given e.done.store

      -- an Invoke of class 1 or 2 isn't shown without a record
      not_shown_0 : 1 ≤ class → arriver.class ≡ class → is_shown0 arrives ≡ false
      unfolding arriver_of arrival_opening arrived_of
      not_shown_0 big same = go (is_shown0 arrives) refl
        where
          go : (b : Bool) → is_shown0 arrives ≡ b → b ≡ false
          go true q =
              let zero : (wanted_of p.kind).class ≡ 0 = (arrival_fits _).of_class_0 q in
              absurd (omega (arith, big, zero, same))
          go false q = refl

      arrived_exact : 1 ≤ class → Left e.lent arrived e.done → StepShows arrived invoke → ItsInvoke
      unfolding arriver_of
      arrived_exact big left s =
          let x = its_shown s in
          let f = at_once x.verified x.indicates in
          let live = f.of_record (not_shown_0 big x.class_is) in
          let o = opened_now e time from called u left live in
          let k = invoking e time from called u (inr (opens_some live)) in
          inl (record {
            opener = e;
            opened = rw (x.peer_is, x.tid_is) at (opener_is e h from u.tid o.opens_is);
            time = time;
            received = called ∙ ap (Call.Receive time) x.peer_is;
            names = names_it e time from called u k ∙ ap (λ (n : ℕ). Some (Responder, n)) x.tid_is;
            invoke = rw (x.class_is, x.up_is) at k.invoke;
            exact = at_pdu x;
          })
        where
          opens_some : 1 ≤ state_number opened.after.state → 1 ≤ opens_class arrives
          opens_some live = some_opened e time from called u live

      -- one of class 0 opens no record, and no record of its name lives
      arrived_0 : class ≡ 0 → StepShows arrived invoke → Invoke0Taken e peer tid up place
      unfolding arriver_of
      arrived_0 zero s = go (is_shown0 arrives) refl
        where
          x : InvokeOf opened arriver (opened_call p)
          x = its_shown s

          built : Invoking e time from called u → Invoke0Taken e peer tid up place
          built k = record {
            time = time;
            received = called ∙ ap (Call.Receive time) x.peer_is;
            names = names_it e time from called u k ∙ ap (λ (n : ℕ). Some (Responder, n)) x.tid_is;
            invoke = rw (x.class_is ∙ zero, x.up_is) at k.invoke;
            none_lives = rw (x.peer_is, x.tid_is) at (lived_not e time from called u k);
            exact = at_pdu x;
          }

          go : (b : Bool) → is_shown0 arrives ≡ b → Invoke0Taken e peer tid up place
          go true q = built (invoking e time from called u (inl q))
          go false q =
              let some = some_opened e time from called u ((at_once x.verified x.indicates).of_record q) in
              let k = invoking e time from called u (inr some) in
              absurd (omega (arith, some, k.of_class some, x.class_is, zero))

    by_way : 1 ≤ class → (step : Step) → Fits e.lent → Left e.lent step e.done → Way e.call e.lent step → StepShows step invoke → ItsInvoke
    unfolding idle_step unmatched_step opened_step
    by_way big step fits left (inl i) s = absurd (nothing_shown (same_shows i.step_is s))
    by_way big step fits left (inr (inl k)) s = lived_exact step k fits (rw k.step_is at left) (same_shows k.step_is s)
    by_way big step fits left (inr (inr (inl q))) s = absurd (request_none e.lent.table _ _ (same_shows q.accepted.step_is s))
    by_way big step fits left (inr (inr (inr a))) s = arrived_exact a.time a.peer a.call_is a.unmatched big (rw a.step_is at left) (same_shows a.step_is s)

    by_way_0 : class ≡ 0 → (step : Step) → Fits e.lent → Left e.lent step e.done → Way e.call e.lent step → StepShows step invoke → Invoke0Taken e peer tid up place
    unfolding idle_step unmatched_step opened_step
    by_way_0 zero step fits left (inl i) s = absurd (nothing_shown (same_shows i.step_is s))
    by_way_0 zero step fits left (inr (inl k)) s = absurd (omega (arith, zero, lived_not_0 step k fits (rw k.step_is at left) (same_shows k.step_is s)))
    by_way_0 zero step fits left (inr (inr (inl q))) s = absurd (request_none e.lent.table _ _ (same_shows q.accepted.step_is s))
    by_way_0 zero step fits left (inr (inr (inr a))) s = arrived_0 a.time a.peer a.call_is a.unmatched zero (same_shows a.step_is s)

-- of an accepted call that shows an Invoke: what it left, and the step that shows it
module _ (e : Entry) (p : Promise e) (peer tid class : ℕ) (up : Bool) (place : Place) (s : Shows e (Shown.Invoke peer tid class up place)) where
  accepted : {A : Type 0} → ((step : Step) → Effect e step → StepShows step (Shown.Invoke peer tid class up place) → A) → A
  unfolding outcome carried_out
  accepted {A = A} then = go (plan_for e.call e.lent) refl
    where
      go : (q : Plan) → plan_for e.call e.lent ≡ q → A
      go (Err r) is = absurd (shows_as_holds (Shown.Invoke peer tid class up place) (done_is e p (Err r) is) s)
      go (Ok step) is = then step (effect e p step is) (shows_as_holds (Shown.Invoke peer tid class up place) (done_is e p (Ok step) is) s)

pub invoke_exact : (start : Start) (e : Entry) → Promise e → (h : List Entry) → CellsHold start (before e) e.lent.store h → InvokeExact start e h
invoke_exact start e p h was peer tid class up place s big =
    accepted e p peer tid class up place s (λ step f shows. by_way peer tid class up place start e h was big step f.accepted.fits f.left f.accepted.way shows)

pub invoke_0_exact : (start : Start) (e : Entry) → Promise e → (h : List Entry) → CellsHold start (before e) e.lent.store h → Invoke0Exact e h
invoke_0_exact start e p h was peer tid up place s =
    accepted e p peer tid 0 up place s (λ step f shows. by_way_0 peer tid 0 up place start e h was refl step f.accepted.fits f.left f.accepted.way shows)
