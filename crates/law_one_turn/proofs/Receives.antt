-- A PDU without a live record opens a responder's record, or is quiet. Assumes nothing.
use Prim.Native.Nat.{ℕ, ◌≤◌, ◌<◌}
use native.Mathlib.Omega.{arith}
use mathlib.Core.Path.{◌≡◌, refl, sym, ap, ◌∙◌}
use mathlib.Core.List.{List}
use mathlib.Core.Logic.{◌⊎◌, inl, inr}
use lib.ListN.{length}
use Rattle.std.specs.Prelude.{None, Option, Some, Ok}
use Rattle.call_receive.proofs.Identity.{identity_fine}
use Rattle.table_record.specs.Record.{state_number, role_number}
use Rattle.table_record.specs.declared.Role.{Role}
use Rattle.table_record.specs.declared.Role.TheVariants.{Responder}
use Rattle.table_layout.specs.Table.{count}
use Rattle.codec_reading.specs.Read.{pdu_of}
use Rattle.codec_pdu.specs.declared.Pdu.{Pdu}
use Rattle.table_finding.specs.Finding.{free_of}
use Rattle.table_finding.proofs.Searches.{free_found}
use Rattle.law_places.proofs.Places.{free_place_holds}
use Rattle.row_events.specs.declared.Opening.{Opening}
use Rattle.row_columns.specs.declared.Next.TheVariants.{Ends}
use Rattle.row_entries.specs.Acts.{opening_act}
use Rattle.step_arrivals.specs.Arrivals.{tid_of, name_of, wanted_of}
use Rattle.step_plan.specs.Steps as Steps
use Rattle.step_plan.specs.declared.Holder.{Holder}
use Rattle.step_plan.specs.declared.Step.{Step}
use Rattle.step_opening.specs.Opens.{place_for, opened_turn, opening_step}
use Rattle.call_receive.specs.Receives.{arriver_of, opened_given, opened_call, opened_step, arrival_opening, unmatched_step}
use Rattle.call_receive.proofs.Accepted.{Accepted}
use Rattle.call_receive.proofs.KeptData.{kept_small}
use Rattle.call_receive.proofs.Ways.{Unmatched, Opens, leaves_or_opens}
use Rattle.step_outcome.specs.Carry.{Lent, carried_out}
use Rattle.law_steps_sound.specs.Sound.{Fits, GivenOk, Sound}
use Rattle.law_plans_sound.proofs.Receives.{ends_free, same_role}
use Rattle.call_plans.specs.Calls.{Call, plan_for}
use Rattle.law_history.specs.Trace.{Entry}
use Rattle.law_history.specs.Tally.{peer_of}
use Rattle.law_history.specs.Moves.{Quiet, Opened}
use Rattle.law_one_turn.proofs.Names.{name, none_lives}
use Rattle.law_one_turn.proofs.Shown.{class_shown}
use Rattle.law_one_turn.proofs.Counted.{entry_of}
use Rattle.law_one_turn.proofs.Openings.{is_opened}
use Rattle.law_one_turn.proofs.Opened.{OpensFor, lives_then, opened}
use Rattle.law_one_turn.proofs.Arrivals.{CountsNone, OpensRecord, arrival}
use Rattle.law_one_turn.proofs.Quiet.{Unmeant, ended}

same_tid : (n : Option (Role × ℕ)) (r r' : Role) (i i' : ℕ) → n ≡ Some (r, i) → n ≡ Some (r', i') → i ≡ i'
same_tid n r r' i i' e e' = ap tid_in (sym e ∙ e')
  where
    tid_in : Option (Role × ℕ) → ℕ
    tid_in None = i
    tid_in (Some (x, j)) = j

module _ (l : Lent) (time peer : ℕ) (f : Fits l) (step : Step) (a : Accepted l.table (length l.store) (length l.output) time peer l.given step) where
  abbrev call : Call
  call = Call.Receive time peer

  abbrev t : List ℕ
  t = l.table

  abbrev p : Pdu
  p = pdu_of l.given

  module _ (u : Unmatched t time peer l.given) where
    abbrev opening : Opening
    opening = arrival_opening t peer u.tid l.given p

    abbrev holder : Holder
    holder = arriver_of (place_for (free_of t (count t))) u.role peer u.tid p.kind

    abbrev itsStep : Step
    itsStep = opening_step t opening holder (opened_given time p) None (opened_call p)

    -- the answer tells nothing
    its_peer : peer_of call (carried_out l itsStep).answer ≡ peer
    unfolding carried_out opening_step Steps.step_of Steps.told_of_is opened_call
    its_peer = refl

    its_given : GivenOk (opened_given time p)
    unfolding opened_given
    its_given = record { time = a.enters.bounded; len = kept_small p; exit_len = omega arith; unknown = identity_fine l.given }

    -- its PDU names no live record
    unmeant : Unmeant call l itsStep
    unmeant n (names, is) =
        let role : n.role ≡ u.role = same_role (name_of l.given) n.role u.role n.tid u.tid names u.names in
        let tid : n.tid ≡ u.tid = same_tid (name_of l.given) n.role u.role n.tid u.tid names u.names in
        none_lives t n (rw (role, is, tid) u.none)

    nothing_opened : plan_for call l ≡ Ok itsStep → Sound l itsStep → CountsNone holder.class opening → Quiet (entry_of call l itsStep)
    unfolding arriver_of
    nothing_opened plan ok q = ended call l opening holder (opened_given time p) None (opened_call p) q f ok u.bound its_peer (λ n. refl) plan unmeant

    record_opened : plan_for call l ≡ Ok itsStep → Sound l itsStep → OpensRecord holder.class opening → ((opening_act opening).next ≡ Ends) ⊎ Opens t l.given → Opened (entry_of call l itsStep)
    unfolding arriver_of opened_turn
    record_opened plan ok o (inl ends) = absurd (ends_free opening t holder (opened_given time p) ends (o.lives _ _ _ _))
    record_opened plan ok o (inr there) =
        let role : u.role ≡ Responder = same_role (name_of l.given) u.role Responder u.tid (tid_of l.given) u.names there.invokes in
        let inside : place_for (free_of t (count t)) < count t = free_place_holds t f.formed in
        let live : 1 ≤ state_number (opened_turn t opening holder (opened_given time p)).after.state = o.lives _ _ _ _ in
        let k : OpensFor call l opening holder (opened_given time p) None (opened_call p) = record {
          fits = f;
          sound = ok;
          tid = u.bound;
          role = o.role ∙ sym role;
          peer = its_peer;
          first = class_shown _ o.some (opened_turn t opening holder (opened_given time p)).first;
          second = class_shown _ o.some (opened_turn t opening holder (opened_given time p)).second;
          unused = u.none;
          others_asked = λ n d. refl;
          plan = plan;
          meant = (u.names, refl);
        } in
        opened call l opening holder (opened_given time p) None (opened_call p) k live its_given inside (free_found t (count t) _ there.free).is_so
        (is_opened (entry_of call l itsStep) (name u.role peer u.tid) role (none_lives t (name u.role peer u.tid) u.none)
        (lives_then call l opening holder (opened_given time p) None (opened_call p) k live inside))
        (λ asks. absurd (omega (arith, ap role_number (sym role ∙ asks))))

    pub unmatched_move : plan_for call l ≡ Ok (unmatched_step t u.role peer u.tid time l.given p) → Sound l (unmatched_step t u.role peer u.tid time l.given p) → let e : Entry = entry_of call l (unmatched_step t u.role peer u.tid time l.given p) in Quiet e ⊎ Opened e
    unfolding unmatched_step opened_step arriver_of
    unmatched_move plan ok = go (arrival t peer u.tid l.given p)
      where
        go : CountsNone (wanted_of p.kind).class opening ⊎ OpensRecord (wanted_of p.kind).class opening → Quiet (entry_of call l itsStep) ⊎ Opened (entry_of call l itsStep)
        go (inl q) = inl (nothing_opened plan ok q)
        go (inr o) = inr (record_opened plan ok o (leaves_or_opens t peer u.tid l.given p))
