-- A received PDU's step is sound. Assumes nothing.
use Prim.Native.Nat.{ℕ, ◌≤◌}
use native.Mathlib.Omega.{arith}
use mathlib.Core.Path.{◌≡◌, refl, sym, ap, ◌∙◌}
use mathlib.Core.List.{List}
use mathlib.Core.Bool.{Bool, true, false}
use mathlib.Core.Logic.{◌⊎◌, inl, inr}
use lib.ListN.{length}
use lib.Dec.{eqb}
use Rattle.std.specs.Prelude.{None, Option, Some}
use Rattle.call_receive.proofs.Identity.{identity_fine}
use Rattle.base_layout.specs.Layout.{exit_bound}
use Rattle.base_lists.specs.Seq.{pick}
use Rattle.base_lists.proofs.StoresAndParts.{true_false}
use Rattle.table_record.specs.Record.{state_number}
use Rattle.table_record.specs.declared.State.{State}
use Rattle.table_record.specs.declared.State.TheVariants.{Free}
use Rattle.table_record.specs.declared.Role.{Role}
use Rattle.table_record.specs.declared.Role.TheVariants.{Responder}
use Rattle.table_record.specs.declared.Record.{Record}
use Rattle.codec_pdu.specs.declared.Pdu.{Pdu}
use Rattle.codec_reading.specs.Read.{pdu_of}
use Rattle.table_layout.specs.Table.{count, record_at, settings_of, intervals_of}
use Rattle.law_formed_kept.specs.UnusedName.{Unused}
use Rattle.table_finding.specs.Finding.{free_of}
use Rattle.row_events.specs.declared.Opening.{Opening}
use Rattle.row_events.specs.declared.Opening.TheVariants as Opening
use Rattle.row_choice.specs.Rows.{opening_of, invoke0_of, by_class, invoke12_of}
use Rattle.row_choice.specs.declared.Arrived.{Arrived}
use Rattle.step_arrivals.specs.Arrivals.{tid_of, name_of, event_of}
use Rattle.row_entries.specs.Acts.{opening_act}
use Rattle.row_columns.specs.Columns.{act_with, stored, shown}
use Rattle.row_columns.specs.declared.Next.TheVariants.{Ends}
use Rattle.row_turns.specs.Turns.{new_record, record_after, turn_of, opening_turn}
use Rattle.row_turns.specs.declared.Given.{Given}
use Rattle.law_commit.specs.Allowed.{CountOk}
use Rattle.law_sending.specs.SendingLaws.{ClassFits}
use Rattle.step_opening.specs.Opens.{place_for, opened_turn}
use Rattle.law_places.specs.Places.{LiveAt}
use Rattle.law_places.proofs.Places.{free_place_holds}
use Rattle.step_plan.specs.Steps.{no_part, idle_step, Plan}
use Rattle.step_plan.specs.declared.Holder.{Holder}
use Rattle.step_plan.specs.declared.Step.{Step}
use Rattle.call_receive.specs.Receives.{taken_given, taken_call, taken_step, arriver_of, opened_given, opened_call, opened_step, arrival_opening, unmatched_step, receive_step, receive_plan}
use Rattle.call_receive.proofs.KeptData.{kept_inside, kept_small}
use Rattle.call_receive.proofs.Ways.{Taken, Unmatched, Opens, ways, leaves_or_opens}
use Rattle.call_receive.proofs.Accepted.{Accepted, receive_accepted}
use Rattle.step_outcome.specs.Carry.{Lent}
use Rattle.law_steps_sound.specs.Sound.{Sound}
use Rattle.law_steps_sound.proofs.Steps.{live_sound, opening_sound, idle_sound}
use Rattle.law_plans_sound.specs.Plans.{PlanSound}
use Rattle.law_plans_sound.proofs.Openings.{opened_role, opened_as}

-- what is said of two is said of the one that is picked
pub picked : (P : Opening → Type 0) (b : Bool) (x y : Opening) → P x → P y → P (pick b x y)
picked P true x y p q = p
picked P false x y p q = q

-- an opening that is no request's
abbrev arrives : Opening → Bool
arrives Opening.Ignored = true
arrives Opening.Requested0 = false
arrives Opening.Requested1 = false
arrives Opening.Requested2 = false
arrives Opening.Malformed = true
arrives Opening.WrongVersion = true
arrives Opening.Unsupported = true
arrives Opening.TooLong = true
arrives Opening.Shown0 = true
arrives Opening.Valid1 = true
arrives Opening.Valid2 = true
arrives Opening.ToVerify1 = true
arrives Opening.ToVerify2 = true
arrives Opening.UnknownTidve = true
arrives Opening.Restarted1 = true
arrives Opening.Restarted2 = true

-- it is a responder's, and sends no Invoke
record Arriving (class : ℕ) (o : Opening) : Type 0 where
  responder : opened_role o ≡ Responder
  class_fits : ClassFits (opening_act o).send class

arriving : (class : ℕ) (o : Opening) → arrives o ≡ true → Arriving class o
unfolding opening_act act_with stored shown
arriving class Opening.Ignored e = record { responder = refl; class_fits = tt }
arriving class Opening.Requested0 e = true_false (sym e)
arriving class Opening.Requested1 e = true_false (sym e)
arriving class Opening.Requested2 e = true_false (sym e)
arriving class Opening.Malformed e = record { responder = refl; class_fits = tt }
arriving class Opening.WrongVersion e = record { responder = refl; class_fits = tt }
arriving class Opening.Unsupported e = record { responder = refl; class_fits = tt }
arriving class Opening.TooLong e = record { responder = refl; class_fits = tt }
arriving class Opening.Shown0 e = record { responder = refl; class_fits = tt }
arriving class Opening.Valid1 e = record { responder = refl; class_fits = tt }
arriving class Opening.Valid2 e = record { responder = refl; class_fits = tt }
arriving class Opening.ToVerify1 e = record { responder = refl; class_fits = tt }
arriving class Opening.ToVerify2 e = record { responder = refl; class_fits = tt }
arriving class Opening.UnknownTidve e = record { responder = refl; class_fits = tt }
arriving class Opening.Restarted1 e = record { responder = refl; class_fits = tt }
arriving class Opening.Restarted2 e = record { responder = refl; class_fits = tt }

arrival : (a : Arrived) → arrives (opening_of a) ≡ true
unfolding opening_of invoke0_of by_class invoke12_of
arrival a =
    picked P a.invoke _ _
    (picked P a.malformed _ _ refl
    (picked P (eqb a.class 0) _ _
    (picked P a.wrong_version _ _ refl (picked P a.ttr_clear _ _ refl (picked P a.too_long _ _ refl refl)))
    (picked P a.wrong_version _ _ refl (picked P a.ttr_clear _ _ refl (picked P a.too_long _ _ refl (picked P a.full _ _ refl
    (picked P a.tidnew _ _ (picked P (eqb a.class 1) _ _ refl refl)
    (picked P a.valid _ _ (picked P (eqb a.class 1) _ _ refl refl) (picked P (eqb a.class 1) _ _ refl refl)))))))))
    (picked P a.malformed _ _ refl (picked P a.tidve _ _ refl refl))
  where
    P : Opening → Type 0
    P o = arrives o ≡ true

-- a live record's state isn't free
pub not_free : (s : State) → 1 ≤ state_number s → s ≡ Free → ⊥
not_free s h e = absurd (omega (arith, h, ap state_number e))

-- an opening that ends leaves a free record
pub ends_free : (opening : Opening) (t : List ℕ) (h : Holder) (g : Given) → (opening_act opening).next ≡ Ends → 1 ≤ state_number (opened_turn t opening h g).after.state → ⊥
unfolding opened_turn opening_turn turn_of record_after new_record
ends_free opening t h g e l = absurd (omega (arith, rw e at l))

-- two names of one PDU are one
pub same_role : (n : Option (Role × ℕ)) (r r' : Role) (i i' : ℕ) → n ≡ Some (r, i) → n ≡ Some (r', i') → r ≡ r'
same_role n r r' i i' e e' = ap role_in (sym e ∙ e')
  where
    role_in : Option (Role × ℕ) → Role
    role_in None = r
    role_in (Some (x, j)) = x

module _ (l : Lent) (time peer : ℕ) (exit : length l.exit ≤ exit_bound) (step : Step) (a : Accepted l.table (length l.store) (length l.output) time peer l.given step) where
  abbrev t : List ℕ
  t = l.table

  abbrev p : Pdu
  p = pdu_of l.given

  module _ (u : Unmatched t time peer l.given) where
    abbrev opening : Opening
    opening = arrival_opening t peer u.tid l.given p

    abbrev holder : Holder
    holder = arriver_of (place_for (free_of t (count t))) u.role peer u.tid p.kind

    abbrev opened : Record
    opened = (opened_turn t opening holder (opened_given time p)).after

    is_arrival : arrives opening ≡ true
    unfolding arrival_opening
    is_arrival = arrival _

    -- a record that it opens has a name that no live record has
    unused : 1 ≤ state_number opened.state → ((opening_act opening).next ≡ Ends) ⊎ Opens t l.given → Unused t (place_for (free_of t (count t))) opened
    unfolding opened_turn arriver_of new_record
    unused live (inl ends) = absurd (ends_free opening t holder (opened_given time p) ends live)
    unused live (inr opens) =
        let o = opened_as opening (new_record peer u.tid _ _) (opened_given time p) (settings_of t) (intervals_of t) live in
        let role : u.role ≡ Responder = same_role (name_of l.given) u.role Responder u.tid (tid_of l.given) u.names opens.invokes in
        λ j k d lives same. u.none j k (record {
          live = not_free (record_at t j).state lives;
          role_is = sym same.role ∙ (o.role ∙ ((arriving 0 opening is_arrival).responder ∙ sym role));
          peer_is = sym same.peer ∙ o.peer;
          tid_is = sym same.tid ∙ o.tid;
        })

    pub unmatched_sound : Sound l (unmatched_step t u.role peer u.tid time l.given p)
    unfolding unmatched_step opened_step opened_given opened_call arriver_of CountOk
    unmatched_sound =
        opening_sound l opening holder (opened_given time p) None (opened_call p) a.enters.fitting
        (record { time = a.enters.bounded; len = kept_small p; exit_len = omega arith; unknown = identity_fine l.given })
        (record { message_inside = kept_inside l.given; message_fits = kept_small p; exit_fits = exit })
        tt
        (free_place_holds t a.enters.fitting.formed) a.known u.bound (omega arith) (omega arith)
        (arriving _ opening is_arrival).class_fits
        (λ live. unused live (leaves_or_opens t peer u.tid l.given p))
