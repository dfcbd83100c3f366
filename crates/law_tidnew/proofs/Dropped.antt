-- An accepted Invoke with TIDnew drops its peer's cached TID and no other's; then nothing is cached for that peer until a verification of its ends. Assumes nothing.
use Prim.Native.Nat.{ℕ, ◌<◌}
use native.Mathlib.Omega.{arith}
use mathlib.Core.Path.{◌≡◌, refl, sym, ap, ◌∙◌}
use mathlib.Core.Bool.{Bool, true, false, ◌||◌, not}
use mathlib.Core.List.{List}
use mathlib.Core.Logic.{◌⊎◌, inl, inr}
use lib.ListN.{length}
use lib.Dec.{eqb}
use borrow.Author.Tests.{le-ltb, ne_eqb}
use Rattle.std.specs.Prelude.{Option, Some, is_some, Ok, Err}
use Rattle.base_layout.specs.Layout.{peers}
use Rattle.base_lists.specs.Seq.{pick, every}
use Rattle.base_lists.proofs.StoresAndParts.{true_false}
use Rattle.codec_pdu.specs.Pdu.{sound_of}
use Rattle.codec_pdu.specs.declared.Pdu.{Pdu}
use Rattle.codec_reading.specs.Read.{pdu_of}
use Rattle.table_record.specs.declared.Role.TheVariants.{Responder}
use Rattle.table_layout.specs.Table.{count, cached_of, record_at}
use Rattle.table_finding.specs.Finding.{free_of}
use Rattle.table_tids.specs.Tids.{test_of}
use Rattle.law_formed_kept.proofs.InRecord.{equal_or}
use Rattle.row_events.specs.Events.{same_row_is}
use Rattle.row_events.specs.declared.Row.{Row}
use Rattle.row_events.specs.declared.Opening.{Opening}
use Rattle.row_events.proofs.Finite.{at_row, same_row}
use Rattle.row_columns.specs.Columns.{act_with, taken, acked, stored, shown}
use Rattle.row_columns.specs.declared.Cache.{Cache}
use Rattle.row_choice.specs.Rows.{requested_of, opening_of, invoke0_of, by_class, invoke12_of}
use Rattle.row_choice.specs.declared.Arrived.{Arrived}
use Rattle.row_entries.specs.Acts.{act_of, opening_act}
use Rattle.row_turns.specs.Turns.{turn_of, row_turn, opening_turn}
use Rattle.step_arrivals.specs.Arrivals.{wanted_of, arrived_of}
use Rattle.step_changes.specs.Changes.{cached_after, turn_changes}
use Rattle.step_plan.specs.Steps.{step_of, idle_changes, idle_step, Plan}
use Rattle.step_plan.specs.declared.Step.{Step}
use Rattle.step_live.specs.Turning.{row_at, live_turn, live_step}
use Rattle.step_opening.specs.Opens.{opened_turn, opening_changes, opening_step}
use Rattle.step_outcome.specs.Carry.{Lent, table_then, carried_out, outcome}
use Rattle.call_request.specs.Requests.{request_step}
use Rattle.call_receive.specs.Receives.{is_valid, arriver_of, arrival_opening, opened_step, unmatched_step, receive_step}
use Rattle.call_receive.proofs.Accepted.{receive_accepted}
use Rattle.call_receive.proofs.Dispatch.{none_takes}
use Rattle.call_plans.specs.Calls.{Call, Lends, promised, plan_for}
use Rattle.law_commit.proofs.Frame.{commit_frames}
use Rattle.law_commit.proofs.Left.{header_then, cached_left}
use Rattle.law_ways.proofs.Ways.{Way}
use Rattle.law_ways.proofs.CallWays.{call_ways}
use Rattle.law_plans_sound.proofs.CallSound.{way_sound}
use Rattle.law_plans_sound.proofs.Receives.{picked}
use Rattle.law_history.specs.Tally.{accepted}
use Rattle.law_tidnew.specs.Dropped.{Restarts, Dropped, VerificationEnds, StaysNone}

-- what the changes leave cached, of their own peer and of any other
module _ (c : Call) (l : Lent) (step : Step) (lends : Lends c l) (goes : plan_for c l ≡ Ok step) where
  abbrev t : List ℕ
  t = l.table

  left : cached_of (table_then l step) step.changes.peer ≡ header_then step.changes.cached (cached_of t step.changes.peer)
  unfolding table_then
  left = let a = call_ways c l step goes in cached_left t step.changes l.exit a.fits.formed (way_sound c l step lends a).allowed

  left_at : (p : ℕ) (x : Option ℕ) → step.changes.peer ≡ p → step.changes.cached ≡ x → cached_of (table_then l step) p ≡ header_then x (cached_of t p)
  left_at p x is e =
      ap (cached_of (table_then l step)) (sym is)
      ∙ (left ∙ (ap (λ (y : Option ℕ). header_then y (cached_of t step.changes.peer)) e ∙ ap (λ (q : ℕ). header_then x (cached_of t q)) is))

  other : (p : ℕ) → p < peers → (p ≡ step.changes.peer → ⊥) → cached_of (table_then l step) p ≡ cached_of t p
  unfolding table_then
  other p h d = let a = call_ways c l step goes in (commit_frames t step.changes l.exit a.fits.formed (way_sound c l step lends a).allowed).other_peers p h d

-- ---- dropped

restarted : (a : Arrived) → a.invoke ≡ true → a.malformed ≡ false → eqb a.class 0 ≡ false → a.wrong_version ≡ false → a.ttr_clear ≡ false → a.too_long ≡ false → a.full ≡ false → a.tidnew ≡ true
    → opening_of a ≡ by_class a.class Opening.Restarted1 Opening.Restarted2
unfolding opening_of invoke12_of
restarted a i m z v t l f n = rw (i, m, z, v, t, l, f, n) refl

drops : (class cached tid : ℕ) → cached_after (opening_act (by_class class Opening.Restarted1 Opening.Restarted2)).cache cached tid ≡ Some 0
unfolding by_class opening_act stored cached_after
drops class cached tid = go (eqb class 1)
  where
    go : (b : Bool) → cached_after (opening_act (pick b Opening.Restarted1 Opening.Restarted2)).cache cached tid ≡ Some 0
    go true = refl
    go false = refl

module _ (l : Lent) (time peer : ℕ) (r : Restarts l peer) where
  abbrev s : List ℕ
  s = l.given

  abbrev p : Pdu
  p = pdu_of s

  opening_is : arrival_opening l.table peer r.tid s p ≡ by_class (wanted_of p.kind).class Opening.Restarted1 Opening.Restarted2
  unfolding arrival_opening arrived_of wanted_of sound_of
  opening_is =
      let z : eqb r.class 0 ≡ false = ne_eqb r.class 0 (λ e. omega (arith, e, r.some)) in
      restarted (arrived_of s p (not (is_some (free_of l.table (count l.table)))) (is_valid (test_of (cached_of l.table peer) r.tid)))
      r.to_us (rw r.invoke refl) (rw r.invoke z) (rw r.invoke refl) (rw r.invoke refl) (le-ltb _ _ r.short) (rw r.free refl) (rw r.invoke refl)

  by_step : (step : Step) → step ≡ receive_step l.table time peer s → (step.changes.peer ≡ peer) × (step.changes.cached ≡ Some 0)
  unfolding unmatched_step opened_step opening_step opened_turn opening_turn turn_of opening_changes step_of arriver_of
  by_step step e =
      rw (e, none_takes l.table time peer s Responder r.tid r.names r.no_record)
      (refl, ap (λ (o : Opening). cached_after (opening_act o).cache (cached_of l.table peer) r.tid) opening_is ∙ drops (wanted_of p.kind).class (cached_of l.table peer) r.tid)

  of_plan : Lends (Call.Receive time peer) l → (q : Plan) → plan_for (Call.Receive time peer) l ≡ q → accepted (outcome l q).answer ≡ true → Dropped l.table (outcome l q).table peer
  unfolding outcome carried_out
  of_plan lends (Err x) e k = true_false (sym k)
  of_plan lends (Ok step) e k =
      let b = by_step step (receive_accepted l.table (length l.store) (length l.output) time peer s step e).step_is in
      record {
        none = left_at (Call.Receive time peer) l step lends e peer (Some 0) b.0 b.1;
        others = λ q h d. other (Call.Receive time peer) l step lends e q h (λ (x : q ≡ step.changes.peer). d (x ∙ b.0));
      }

  -- THE CACHED TID IS DROPPED, AND NO OTHER PEER'S
  pub restart_drops : Lends (Call.Receive time peer) l → accepted (promised (Call.Receive time peer) l).answer ≡ true → Dropped l.table (promised (Call.Receive time peer) l).table peer
  unfolding promised
  restart_drops lends k = of_plan lends (plan_for (Call.Receive time peer) l) refl k

-- ---- and stays so

-- a cache that is none stays none under these changes
abbrev KeepsNone : Option ℕ → Type 0
KeepsNone x = header_then x 0 ≡ 0

is_same : Cache → Bool
is_same Cache.Same = true
is_same Cache.Set = false
is_same Cache.SetIfNone = false
is_same Cache.Drop = false

same_none : (x : Cache) (tid : ℕ) → is_same x ≡ true → KeepsNone (cached_after x 0 tid)
unfolding is_same cached_after
same_none Cache.Same tid e = refl
same_none Cache.Set tid e = true_false (sym e)
same_none Cache.SetIfNone tid e = true_false (sym e)
same_none Cache.Drop tid e = true_false (sym e)

-- a row leaves LastTID, or is "TIDok: as valid"
row_says : (row : Row) (tidok : Bool) (kind reason : ℕ) → (is_same (act_of row tidok kind reason).cache || (same_row_is row Row.Verified1 || same_row_is row Row.Verified2)) ≡ true
unfolding every is_same act_of act_with taken acked stored shown
row_says row true kind reason = at_row (λ x. is_same (act_of x true kind reason).cache || (same_row_is x Row.Verified1 || same_row_is x Row.Verified2)) refl row
row_says row false kind reason = at_row (λ x. is_same (act_of x false kind reason).cache || (same_row_is x Row.Verified1 || same_row_is x Row.Verified2)) refl row

row_leaves : (row : Row) (tidok : Bool) (kind reason tid : ℕ) → KeepsNone (cached_after (act_of row tidok kind reason).cache 0 tid) ⊎ ((row ≡ Row.Verified1) ⊎ (row ≡ Row.Verified2))
row_leaves row tidok kind reason tid = go (is_same (act_of row tidok kind reason).cache) (same_row_is row Row.Verified1) (same_row_is row Row.Verified2) refl refl refl (row_says row tidok kind reason)
  where
    go : (a b c : Bool) → is_same (act_of row tidok kind reason).cache ≡ a → same_row_is row Row.Verified1 ≡ b → same_row_is row Row.Verified2 ≡ c → (a || (b || c)) ≡ true
        → KeepsNone (cached_after (act_of row tidok kind reason).cache 0 tid) ⊎ ((row ≡ Row.Verified1) ⊎ (row ≡ Row.Verified2))
    go true b c e f g k = inl (same_none (act_of row tidok kind reason).cache tid e)
    go false true c e f g k = inr (inl (same_row row Row.Verified1 f))
    go false false true e f g k = inr (inr (same_row row Row.Verified2 g))
    go false false false e f g k = true_false (sym k)

-- where nothing is cached no TID is valid, and what comes leaves it so
arrival_leaves : (a : Arrived) (tid : ℕ) → a.valid ≡ false → KeepsNone (cached_after (opening_act (opening_of a)).cache 0 tid)
unfolding opening_of invoke0_of by_class invoke12_of opening_act act_with stored shown cached_after
arrival_leaves a tid v =
    rw v (picked P a.invoke _ _
    (picked P a.malformed _ _ refl
    (picked P (eqb a.class 0) _ _
    (picked P a.wrong_version _ _ refl (picked P a.ttr_clear _ _ refl (picked P a.too_long _ _ refl refl)))
    (picked P a.wrong_version _ _ refl (picked P a.ttr_clear _ _ refl (picked P a.too_long _ _ refl (picked P a.full _ _ refl
    (picked P a.tidnew _ _ (picked P (eqb a.class 1) _ _ refl refl) (picked P (eqb a.class 1) _ _ refl refl))))))))
    (picked P a.malformed _ _ refl (picked P a.tidve _ _ refl refl)))
  where
    P : Opening → Type 0
    P o = KeepsNone (cached_after (opening_act o).cache 0 tid)

request_leaves : (class tid : ℕ) → KeepsNone (cached_after (opening_act (requested_of class)).cache 0 tid)
unfolding requested_of opening_act act_with stored cached_after
request_leaves class tid = picked P (eqb class 0) _ _ refl (picked P (eqb class 1) _ _ refl refl)
  where
    P : Opening → Type 0
    P o = KeepsNone (cached_after (opening_act o).cache 0 tid)

module _ (c : Call) (l : Lent) (p : ℕ) (none : cached_of l.table p ≡ 0) where
  -- the way of a step whose changes are of this peer
  by_way : (step : Step) → Way c l step → step.changes.peer ≡ p → KeepsNone step.changes.cached ⊎ VerificationEnds l.table p
  unfolding idle_step idle_changes live_step live_turn row_turn turn_of step_of turn_changes request_step opening_step opened_turn opening_turn opening_changes unmatched_step opened_step arrival_opening arrived_of arriver_of test_of is_valid
  by_way step (inl i) e = inl (rw i.step_is refl)
  by_way step (inr (inl k)) e = go (row_leaves (row_at l.table k.place k.event) (record_at l.table k.place).tidok_sent k.given.kind k.given.reason (record_at l.table k.place).tid)
    where
      own : (record_at l.table k.place).peer ≡ p
      own = ap (λ (y : Step). y.changes.peer) (sym k.step_is) ∙ e

      empty : cached_of l.table (record_at l.table k.place).peer ≡ 0
      empty = ap (cached_of l.table) own ∙ none

      go : KeepsNone (cached_after (act_of (row_at l.table k.place k.event) (record_at l.table k.place).tidok_sent k.given.kind k.given.reason).cache 0 (record_at l.table k.place).tid)
          ⊎ ((row_at l.table k.place k.event ≡ Row.Verified1) ⊎ (row_at l.table k.place k.event ≡ Row.Verified2)) → KeepsNone step.changes.cached ⊎ VerificationEnds l.table p
      go (inl x) = inl (rw (k.step_is, empty) x)
      go (inr x) = inr (record { place = k.place; event = k.event; live = k.live.live; of_peer = own; row = x })
  by_way step (inr (inr (inl q))) e =
      let own = ap (λ (y : Step). y.changes.peer) (sym q.accepted.step_is) ∙ e in
      inl (rw (q.accepted.step_is, ap (cached_of l.table) own ∙ none) (request_leaves _ _))
  by_way step (inr (inr (inr u))) e =
      let own : u.peer ≡ p = ap (λ (y : Step). y.changes.peer) (sym u.step_is) ∙ e in
      inl (rw (u.step_is, ap (cached_of l.table) own ∙ none) (arrival_leaves _ _ refl))

  stays : Lends c l → p < peers → (q : Plan) → plan_for c l ≡ q → StaysNone l.table (outcome l q).table p
  unfolding outcome carried_out
  stays lends h (Err x) e = inl none
  stays lends h (Ok step) e = go (equal_or p step.changes.peer)
    where
      here : step.changes.peer ≡ p → KeepsNone step.changes.cached ⊎ VerificationEnds l.table p → StaysNone l.table (table_then l step) p
      here is (inl x) = inl (left_at c l step lends e p step.changes.cached is refl ∙ (ap (header_then step.changes.cached) none ∙ x))
      here is (inr v) = inr v

      go : (p ≡ step.changes.peer) ⊎ (p ≡ step.changes.peer → ⊥) → StaysNone l.table (table_then l step) p
      go (inl is) = here (sym is) (by_way step (call_ways c l step e).way (sym is))
      go (inr d) = inl (other c l step lends e p h d ∙ none)

  -- NOTHING IS CACHED UNTIL A VERIFICATION ENDS
  pub none_until_verified : Lends c l → p < peers → StaysNone l.table (promised c l).table p
  unfolding promised
  none_until_verified lends h = stays lends h (plan_for c l) refl
