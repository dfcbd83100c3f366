-- An opening that leaves a live record opens its name, and no other; a request of class 0 opens a name and no record. Assumes nothing.
use Prim.Native.Nat.{ℕ, ◌≤◌, ◌<◌}
use native.Mathlib.Omega.{arith}
use mathlib.Core.Path.{◌≡◌, refl, ap, ◌∙◌}
use mathlib.Core.Bool.{Bool, true, false}
use mathlib.Core.List.{List}
use lib.Dec.{eqb}
use borrow.Author.Tests.{ne_eqb}
use Rattle.std.specs.Prelude.{Option, Ok}
use Rattle.base_layout.specs.Layout.{tid_bound}
use Rattle.base_lists.specs.Seq.{pick}
use Rattle.table_record.specs.Record.{state_number}
use Rattle.table_record.specs.declared.Role.TheVariants.{Initiator}
use Rattle.table_record.specs.declared.State.TheVariants.{Free}
use Rattle.table_layout.specs.Table.{count, settings_of, intervals_of, record_at}
use Rattle.table_record_ok.specs.OneRecord.{Live}
use Rattle.table_finding.specs.Searched.{Called, NoneOf}
use Rattle.row_events.specs.declared.Opening.{Opening}
use Rattle.row_events.specs.declared.Opening.TheVariants as Opening
use Rattle.row_columns.specs.Columns.{act_with}
use Rattle.row_columns.specs.declared.Next.TheVariants.{Ends}
use Rattle.row_entries.specs.Acts.{opening_act}
use Rattle.row_turns.specs.Turns.{new_record, cost_of, record_after, turn_of, opening_turn}
use Rattle.row_turns.specs.declared.Given.{Given}
use Rattle.row_turns.specs.declared.Turn.{Turn}
use Rattle.step_commit.specs.declared.Change.TheVariants as Change
use Rattle.step_commit.specs.declared.GenTid.{GenTid}
use Rattle.step_changes.specs.Changes.{change_of}
use Rattle.step_plan.specs.Steps.{message_of, step_of}
use Rattle.step_plan.specs.declared.Holder.{Holder}
use Rattle.step_plan.specs.declared.Call.{Call as Asked}
use Rattle.step_plan.specs.declared.Step.{Step}
use Rattle.step_opening.specs.Opens.{opening_changes, opened_turn, opening_step}
use Rattle.step_outcome.specs.Carry.{Lent, sent_then}
use Rattle.c_answers.specs.Answers.{no_cost, change_cost, cost_by}
use Rattle.c_answers.specs.Handed.{plan_cost}
use Rattle.law_steps_sound.specs.Sound.{Fits, GivenOk, Sound}
use Rattle.law_plans_sound.proofs.Openings.{opened_role, OpenedAs, opened_as}
use Rattle.law_counting.specs.Counting.{none, requested}
use Rattle.call_plans.specs.Calls.{Call, plan_for}
use Rattle.law_history.specs.Trace.{Entry}
use Rattle.law_history.specs.Tally.{Name, is_named, lives, accepts_by, told_of_is, peer_of, adds, opens}
use Rattle.law_history.specs.Cost.{weight, charged, class_asked, cost_told, Meant}
use Rattle.law_history.specs.Moves.{name_of, turn_adds, before, after, SameRecords, Silent, is_plain, Asks, Opened, Once}
use Rattle.law_plans_sound.proofs.Receives.{not_free}
use Rattle.law_one_turn.proofs.Names.{name, named_self, not_named, it_lives, none_lives}
use Rattle.law_one_turn.proofs.Shown.{ClassShown}
use Rattle.law_one_turn.proofs.Roles.{InRole, opened_in_role}
use Rattle.law_one_turn.proofs.Counted.{entry_of, turn_charges, turn_weighs, turn_adds_holds}
use Rattle.law_one_turn.proofs.Openings.{CalledBy, called_name, not_opened, still_lived, same_lived}
use Rattle.law_one_turn.proofs.Left.{left_put, left_others, left_same, left_count}

module _ (call : Call) (l : Lent) (opening : Opening) (h : Holder) (g : Given) (gen_tid : Option GenTid) (c : Asked) where
  abbrev t : List ℕ
  t = l.table

  abbrev turn : Turn
  turn = opened_turn t opening h g

  abbrev step : Step
  step = opening_step t opening h g gen_tid c

  abbrev entry : Entry
  entry = entry_of call l step

  abbrev own : Name
  own = name h.role h.peer h.tid

  -- what an opening knows of the call and the name that it is for
  pub record OpensFor : Type 0 where
    pub fits : Fits l
    pub sound : Sound l step
    pub tid : h.tid ≤ tid_bound
    pub role : opened_role opening ≡ h.role
    pub peer : peer_of call entry.done.answer ≡ h.peer
    pub first : ClassShown h.class turn.first
    pub second : ClassShown h.class turn.second
    pub unused : NoneOf (Called h.role h.peer h.tid) t (count t)
    pub others_asked : (n : Name) → (n ≡ own → ⊥) → accepts_by call (told_of_is entry.done.answer) n ≡ false
    pub plan : plan_for call l ≡ Ok step
    pub meant : Meant entry own

  module _ (k : OpensFor) where
    its_adds : (n : Name) → adds entry n ≡ pick (is_named n h.role h.peer h.tid) (turn_adds turn) none
    unfolding opening_step
    its_adds n =
        let in_role : InRole h.role turn = rw k.role at (opened_in_role t opening h g) in
        turn_adds_holds call l turn _ h c k.fits k.sound k.tid k.peer in_role n k.first k.second

    own_adds : adds entry own ≡ turn_adds turn
    own_adds = its_adds own ∙ ap (λ (x : Bool). pick x (turn_adds turn) none) (named_self h.role h.peer h.tid)

    its_charges : (n : Name) → charged entry n ≡ pick (is_named n h.role h.peer h.tid) (weight (sent_then l step)) 0
    unfolding opening_step
    its_charges n = turn_charges call l turn _ h c k.fits k.sound k.tid k.peer n

    -- its first PDU
    pub own_weighs : is_plain turn.send ≡ true → charged entry own ≡ cost_of turn.send (message_of turn.send h c).len
    unfolding opening_step
    own_weighs plain =
        its_charges own
        ∙ ap (λ (x : Bool). pick x (weight (sent_then l step)) 0) (named_self h.role h.peer h.tid)
        ∙ turn_weighs call l turn _ h c k.fits k.sound k.tid k.peer plain (opened_in_role t opening h g).proper

    silent : (n : Name) → (n ≡ own → ⊥) → (lives (after entry) n ≡ true → lives (before entry) n ≡ true) → Silent entry n
    silent n d still =
        let b : is_named n h.role h.peer h.tid ≡ false = not_named n h.role h.peer h.tid d in
        record {
          adds_none = its_adds n ∙ ap (λ (x : Bool). pick x (turn_adds turn) none) b;
          not_opened = not_opened entry n (k.others_asked n d) still;
          uncharged = its_charges n ∙ ap (λ (x : Bool). pick x (weight (sent_then l step)) 0) b;
        }

    not_before : lives t own ≡ false
    not_before = none_lives t own k.unused

    module _ (live : Live turn.after) where
      is_put : record_at (after entry) h.place ≡ turn.after
      unfolding opening_step step_of opening_changes change_of
      is_put =
          let e : eqb (state_number turn.after.state) 0 ≡ false = ne_eqb (state_number turn.after.state) 0 (λ d. absurd (omega (arith, live, d))) in
          left_put call l step k.fits k.sound turn.after (rw e refl)

      is_rest : (j : ℕ) → (j ≡ h.place → ⊥) → record_at (after entry) j ≡ record_at t j
      unfolding opening_step step_of opening_changes
      is_rest = left_others call l step k.fits k.sound

      as_opened : OpenedAs opening (new_record h.peer h.tid h.up h.tidnew) turn.after
      unfolding opened_turn
      as_opened = opened_as opening (new_record h.peer h.tid h.up h.tidnew) g (settings_of t) (intervals_of t) live

      is_named_holds : name_of turn.after ≡ own
      unfolding new_record
      is_named_holds = rw (as_opened.role, as_opened.peer, as_opened.tid, k.role) refl

      other_gone : (n : Name) → (n ≡ own → ⊥) → CalledBy n (record_at (after entry) h.place) → ⊥
      other_gone n d called = d (called_name n (record_at (after entry) h.place) called ∙ (ap name_of is_put ∙ is_named_holds))

      called_own : CalledBy own turn.after
      called_own = record { live = not_free turn.after.state live; role_is = ap (λ (n : Name). n.role) is_named_holds; peer_is = ap (λ (n : Name). n.peer) is_named_holds; tid_is = ap (λ (n : Name). n.tid) is_named_holds }

      pub lives_then : h.place < count t → lives (after entry) own ≡ true
      lives_then inside =
          it_lives (after entry) own (record { at = h.place; inside = rw (left_count call l step k.fits k.sound) inside; called = rw is_put called_own })

      tells : cost_told entry ≡ change_cost (Change.Put turn.after) (record_at t h.place)
      unfolding cost_told plan_cost cost_by opening_step step_of opening_changes change_of
      tells =
          let e : eqb (state_number turn.after.state) 0 ≡ false = ne_eqb (state_number turn.after.state) 0 (λ d. absurd (omega (arith, live, d))) in
          rw (k.plan, e) refl

      pub opened : GivenOk g → h.place < count t → (record_at t h.place).state ≡ Free → opens entry own ≡ true → (h.role ≡ Initiator → Asks entry turn g own) → Opened entry
      unfolding opened_turn
      opened given inside free opens_own asks = record {
        name = own;
        place = h.place;
        opening = opening;
        user_ack = h.up;
        tidnew = h.tidnew;
        given = g;
        given_ok = given;
        inside = inside;
        was_free = free;
        unused = not_before;
        live = live;
        named = is_named_holds;
        opened = opens_own;
        own = own_adds;
        others = λ n d. silent n d (still_lived entry n (left_count call l step k.fits k.sound) h.place is_rest (other_gone n d));
        put = is_put;
        rest = is_rest;
        meant = k.meant;
        asks = asks;
        told = tells;
      }

-- an opening that ends changes no record
pub ends_none : (t : List ℕ) (opening : Opening) (h : Holder) (g : Given) (gen_tid : Option GenTid) (c : Asked) → (opening_act opening).next ≡ Ends
    → (opening_step t opening h g gen_tid c).changes.change ≡ Change.Nothing
unfolding opening_step step_of opening_changes change_of opened_turn opening_turn turn_of record_after new_record
ends_none t opening h g gen_tid c e = rw e refl

module _ (call : Call) (l : Lent) (h : Holder) (g : Given) (gen_tid : Option GenTid) (c : Asked) (k : OpensFor call l Opening.Requested0 h g gen_tid c) where
  one_invoke : turn_adds (opened_turn l.table Opening.Requested0 h g) ≡ requested 1 0 0
  unfolding opened_turn opening_turn turn_of opening_act act_with
  one_invoke = refl

  unchanged : SameRecords (entry_of call l (opening_step l.table Opening.Requested0 h g gen_tid c))
  unfolding opening_act act_with
  unchanged = left_same call l _ k.fits k.sound (ends_none l.table Opening.Requested0 h g gen_tid c refl)

  tells_none : cost_told (entry_of call l (opening_step l.table Opening.Requested0 h g gen_tid c)) ≡ no_cost
  unfolding cost_told plan_cost cost_by change_cost opening_act act_with
  tells_none = rw (k.plan, ends_none l.table Opening.Requested0 h g gen_tid c refl) refl

  -- a request of class 0
  pub once : opens (entry_of call l (opening_step l.table Opening.Requested0 h g gen_tid c)) (name h.role h.peer h.tid) ≡ true
      → class_asked call ≡ 0 → Once (entry_of call l (opening_step l.table Opening.Requested0 h g gen_tid c))
  once opens_own zero =
      let e : Entry = entry_of call l (opening_step l.table Opening.Requested0 h g gen_tid c) in
      record {
        name = name h.role h.peer h.tid;
        unused = not_before call l Opening.Requested0 h g gen_tid c k;
        opened = opens_own;
        own = own_adds call l Opening.Requested0 h g gen_tid c k ∙ one_invoke;
        others = λ n d. silent call l Opening.Requested0 h g gen_tid c k n d (same_lived e n (left_count call l _ k.fits k.sound) unchanged);
        same = unchanged;
        meant = k.meant;
        class_0 = zero;
        untold = tells_none;
      }
