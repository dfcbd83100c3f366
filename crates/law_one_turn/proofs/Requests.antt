-- An accepted request opens its name: with a record, or without one for class 0. Assumes nothing.
use Prim.Native.Nat.{ℕ, ◌%◌, ◌≤◌, ◌<◌}
use native.Mathlib.Omega.{arith}
use mathlib.Core.Path.{◌≡◌, refl, sym, ap, ◌∙◌}
use mathlib.Core.Bool.{Bool, true, false}
use mathlib.Core.List.{List}
use mathlib.Core.Logic.{◌⊎◌, inl, inr}
use lib.ListN.{length}
use lib.Dec.{eqb}
use borrow.Author.Tests.{eqb-true, eqb-false}
use Rattle.std.specs.Prelude.{Ok}
use Rattle.table_ranges.specs.Ranges.{none as no-identity}
use Rattle.base_layout.specs.Layout.{peers}
use Rattle.base_lists.specs.Seq.{pick}
use Rattle.table_record.specs.Record.{class_of}
use Rattle.table_record.specs.declared.State.TheVariants.{Free}
use Rattle.table_record.specs.declared.Role.TheVariants.{Initiator}
use Rattle.table_layout.specs.Table.{count, gen_tid_of, record_at}
use Rattle.table_record_ok.specs.OneRecord.{Live}
use Rattle.table_finding.specs.Searched.{Called, NoneOf}
use Rattle.law_places.proofs.Places.{live_number}
use Rattle.row_events.specs.declared.Opening.{Opening}
use Rattle.row_events.specs.declared.Opening.TheVariants as Opening
use Rattle.row_choice.specs.Rows.{requested_of}
use Rattle.row_columns.specs.Columns.{act_with, stored}
use Rattle.row_columns.specs.declared.Indication.TheVariants as Indication
use Rattle.row_columns.specs.declared.Send.TheVariants as Send
use Rattle.row_entries.specs.Acts.{opening_act}
use Rattle.row_turns.specs.Turns.{cost_of, moved_to, record_after, turn_of, opening_turn}
use Rattle.step_sending.specs.Sending.{source_of}
use Rattle.step_plan.specs.Steps as Steps
use Rattle.step_plan.specs.declared.Step.{Step}
use Rattle.step_opening.specs.Opens.{opened_turn, opening_step}
use Rattle.call_request.specs.Requests.{requester, counted_by, request_given, request_call, request_step}
use Rattle.call_request.specs.declared.Request.{Request}
use Rattle.call_request.proofs.Accepted.{place_of, Admitted, Accepted, peer_octet}
use Rattle.step_outcome.specs.Carry.{Lent, carried_out}
use Rattle.law_steps_sound.specs.Sound.{Fits, GivenOk, Sound}
use Rattle.law_plans_sound.proofs.Openings.{opened_role}
use Rattle.call_plans.specs.Calls.{Call, as_request, plan_for}
use Rattle.law_history.specs.Tally.{Name, is_named, accepts_by, told_of_is, peer_of, opens}
use Rattle.law_history.specs.Cost.{charged, Meant}
use Rattle.law_history.specs.Moves.{Opened, Once}
use Rattle.law_one_turn.proofs.Names.{name, named_self, not_named}
use Rattle.law_one_turn.proofs.Counted.{entry_of}
use Rattle.law_one_turn.proofs.Opened.{OpensFor, own_weighs, opened, once}

-- an opening of an initiator's record that shows nothing
record AskedBy (o : Opening) : Type 0 where
  role : opened_role o ≡ Initiator
  first : (opening_act o).first ≡ Indication.Nothing
  second : (opening_act o).second ≡ Indication.Nothing

module _ (l : Lent) (time peer class : ℕ) (user_ack : Bool) (f : Fits l) (a : Admitted l.table (length l.store) (length l.output) (as_request time peer class user_ack (length l.given))) (place : ℕ) where
  abbrev call : Call
  call = Call.Request time peer class user_ack

  abbrev t : List ℕ
  t = l.table

  abbrev q : Request
  q = as_request time peer class user_ack (length l.given)

  abbrev stepWith : Opening → Step
  stepWith o = opening_step t o (requester t place q) (request_given q) (counted_by t q) (request_call q)

  abbrev own : Name
  own = name Initiator (peer % peers) (gen_tid_of t)

  own_peer : peer % peers ≡ peer
  own_peer = peer_octet t _ _ q a

  -- the answer tells the TID
  asked : (o : Opening) (n : Name) → accepts_by call (told_of_is (carried_out l (stepWith o)).answer) n ≡ is_named n Initiator (peer % peers) (gen_tid_of t)
  unfolding carried_out opening_step Steps.step_of Steps.told_of_is request_call requester
  asked o n = ap (λ (p : ℕ). is_named n Initiator p (gen_tid_of t)) (sym own_peer)

  its_peer : (o : Opening) → peer_of call (carried_out l (stepWith o)).answer ≡ peer % peers
  unfolding carried_out opening_step Steps.step_of Steps.told_of_is request_call
  its_peer o = sym own_peer

  no_other : NoneOf (Called Initiator (peer % peers) (gen_tid_of t)) t (count t)
  no_other m h c = a.tid_unused m (record { inside = h; live = live_number (record_at t m).state c.live; initiator = c.role_is; tid = c.tid_is })

  -- it means the name that it opens
  its_meant : (o : Opening) → Meant (entry_of call l (stepWith o)) own
  unfolding carried_out opening_step Steps.step_of Steps.told_of_is request_call requester
  its_meant o = (refl, (own_peer, refl))

  known : (o : Opening) → AskedBy o → plan_for call l ≡ Ok (stepWith o) → Sound l (stepWith o) → OpensFor call l o (requester t place q) (request_given q) (counted_by t q) (request_call q)
  unfolding requester opened_turn opening_turn turn_of
  known o k plan ok = record {
    fits = f;
    sound = ok;
    tid = f.formed.header.gen_tid;
    role = k.role;
    peer = its_peer o;
    first = rw k.first tt;
    second = rw k.second tt;
    unused = no_other;
    others_asked = λ n d. asked o n ∙ not_named n Initiator (peer % peers) (gen_tid_of t) d;
    plan = plan;
    meant = its_meant o;
  }

  opens_own : (o : Opening) → opens (entry_of call l (stepWith o)) own ≡ true
  unfolding opens
  opens_own o = asked o own ∙ named_self Initiator (peer % peers) (gen_tid_of t)

  given_ok : GivenOk (request_given q)
  unfolding request_given
  given_ok = record { time = a.enters.bounded; len = a.data_fits; exit_len = omega arith; unknown = no-identity refl }

  -- its first Invoke, with the data that it was lent
  first_weighs : (o : Opening) (k : OpensFor call l o (requester t place q) (request_given q) (counted_by t q) (request_call q)) → (opening_act o).send ≡ Send.Invoke false
      → charged (entry_of call l (stepWith o)) own ≡ cost_of (opening_act o).send (request_given q).len
  unfolding requester opened_turn opening_turn turn_of Steps.message_of source_of request_call request_given
  first_weighs o k e =
      own_weighs call l o (requester t place q) (request_given q) (counted_by t q) (request_call q) k (rw e refl) ∙ rw e refl

  with_record : (o : Opening) → AskedBy o → (opening_act o).send ≡ Send.Invoke false → (live : Live (opened_turn t o (requester t place q) (request_given q)).after) → class_of (opened_turn t o (requester t place q) (request_given q)).after.state ≡ class
      → plan_for call l ≡ Ok (stepWith o) → Sound l (stepWith o) → place < count t → (record_at t place).state ≡ Free → Opened (entry_of call l (stepWith o))
  unfolding requester opened_turn opening_turn turn_of request_given
  with_record o k sends live is plan ok inside free =
      opened call l o (requester t place q) (request_given q) (counted_by t q) (request_call q) (known o k plan ok) live given_ok inside free (opens_own o)
      (λ role. record { class = is; data_len = refl; weighs = first_weighs o (known o k plan ok) sends })

  without : class ≡ 0 → plan_for call l ≡ Ok (stepWith Opening.Requested0) → Sound l (stepWith Opening.Requested0) → Once (entry_of call l (stepWith Opening.Requested0))
  unfolding requester opening_act act_with
  without zero plan ok =
      once call l (requester t place q) (request_given q) (counted_by t q) (request_call q)
      (known Opening.Requested0 (record { role = refl; first = refl; second = refl }) plan ok) (opens_own Opening.Requested0) zero

  requested1 : class ≡ 1 → plan_for call l ≡ Ok (stepWith Opening.Requested1) → Sound l (stepWith Opening.Requested1) → place < count t → (record_at t place).state ≡ Free → Opened (entry_of call l (stepWith Opening.Requested1))
  unfolding opened_turn opening_turn turn_of opening_act stored record_after moved_to
  requested1 is = with_record Opening.Requested1 (record { role = refl; first = refl; second = refl }) refl (omega arith) (sym is)

  requested2 : class ≡ 2 → plan_for call l ≡ Ok (stepWith Opening.Requested2) → Sound l (stepWith Opening.Requested2) → place < count t → (record_at t place).state ≡ Free → Opened (entry_of call l (stepWith Opening.Requested2))
  unfolding opened_turn opening_turn turn_of opening_act stored record_after moved_to
  requested2 is = with_record Opening.Requested2 (record { role = refl; first = refl; second = refl }) refl (omega arith) (sym is)

  not_zero : eqb (class % 256) 0 ≡ false → (class ≡ 0) ⊎ ((record_at t place).state ≡ Free) → (record_at t place).state ≡ Free
  not_zero e (inl z) = absurd (omega (arith, eqb-false (class % 256) 0 e))
  not_zero e (inr free) = free

  its_move : class ≤ 2 → place < count t → (class ≡ 0) ⊎ ((record_at t place).state ≡ Free) → plan_for call l ≡ Ok (request_step t place q) → Sound l (request_step t place q) → Opened (entry_of call l (request_step t place q)) ⊎ Once (entry_of call l (request_step t place q))
  unfolding request_step requested_of
  its_move small inside free = go (eqb (class % 256) 0) (eqb (class % 256) 1) refl refl
    where
      go : (b c : Bool) → eqb (class % 256) 0 ≡ b → eqb (class % 256) 1 ≡ c → plan_for call l ≡ Ok (stepWith (pick b Opening.Requested0 (pick c Opening.Requested1 Opening.Requested2))) → Sound l (stepWith (pick b Opening.Requested0 (pick c Opening.Requested1 Opening.Requested2)))
          → Opened (entry_of call l (stepWith (pick b Opening.Requested0 (pick c Opening.Requested1 Opening.Requested2)))) ⊎ Once (entry_of call l (stepWith (pick b Opening.Requested0 (pick c Opening.Requested1 Opening.Requested2))))
      go true c e d plan ok = inr (without (omega (arith, small, eqb-true (class % 256) 0 e)) plan ok)
      go false true e d plan ok = inl (requested1 (omega (arith, small, eqb-true (class % 256) 1 d)) plan ok inside (not_zero e free))
      go false false e d plan ok = inl (requested2 (omega (arith, small, eqb-false (class % 256) 0 e, eqb-false (class % 256) 1 d)) plan ok inside (not_zero e free))

pub request_move : (l : Lent) (time peer class : ℕ) (user_ack : Bool) → Fits l → (step : Step) → Accepted l.table (length l.store) (length l.output) (as_request time peer class user_ack (length l.given)) step
    → plan_for (Call.Request time peer class user_ack) l ≡ Ok step → Sound l step → Opened (entry_of (Call.Request time peer class user_ack) l step) ⊎ Once (entry_of (Call.Request time peer class user_ack) l step)
request_move l time peer class user_ack f step a plan ok =
    rw a.step_is (its_move l time peer class user_ack f a.admits (place_of l.table) a.admits.class_known a.inside a.place_free (rw a.step_is at plan) (rw a.step_is at ok))
