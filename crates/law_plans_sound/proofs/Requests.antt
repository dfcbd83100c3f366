-- A request's step is sound. Assumes nothing.
use Prim.Native.Nat.{ℕ, ◌%◌, ◌≤◌, ◌<◌}
use native.Mathlib.Omega.{arith}
use mathlib.Core.Path.{◌≡◌, refl, ◌∙◌}
use mathlib.Core.Bool.{Bool, true, false}
use mathlib.Core.List.{List}
use lib.ListN.{length}
use lib.Dec.{eqb}
use Rattle.table_ranges.specs.Ranges.{none as no-identity}
use Rattle.base_layout.specs.Layout.{exit_bound}
use Rattle.base_lists.specs.Seq.{pick}
use Rattle.base_lists.proofs.StoresAndParts.{bit_le}
use Rattle.table_record.specs.Record.{state_number, role_of}
use Rattle.table_record.specs.declared.State.TheVariants.{Free}
use Rattle.table_record.specs.declared.Role.TheVariants.{Initiator}
use Rattle.table_record.specs.declared.Record.{Record}
use Rattle.table_layout.specs.Table.{count, gen_tid_of, settings_of, intervals_of}
use Rattle.law_formed_kept.specs.UnusedName.{Unused}
use Rattle.row_events.specs.declared.Opening.{Opening}
use Rattle.row_events.specs.declared.Opening.TheVariants as Opening
use Rattle.row_choice.specs.Rows.{requested_of}
use Rattle.row_columns.specs.Columns.{act_with, stored}
use Rattle.row_entries.specs.Acts.{opening_act}
use Rattle.law_rows.specs.Shown.{living_state}
use Rattle.row_turns.specs.Turns.{new_record}
use Rattle.law_commit.specs.Allowed.{CountOk}
use Rattle.step_opening.specs.Opens.{opened_turn}
use Rattle.step_plan.specs.Steps.{Plan}
use Rattle.call_request.specs.Requests.{requester, counted_by, request_given, request_call, request_step, request_plan}
use Rattle.call_request.specs.declared.Request.{Request}
use Rattle.call_request.proofs.Accepted.{place_of, Admitted, Accepted, request_accepted, name_unused}
use Rattle.step_outcome.specs.Carry.{Lent}
use Rattle.law_steps_sound.specs.Sound.{Sound}
use Rattle.law_steps_sound.proofs.Sends.{class_fits}
use Rattle.law_steps_sound.proofs.Steps.{opening_sound}
use Rattle.law_plans_sound.specs.Plans.{PlanSound}
use Rattle.law_plans_sound.proofs.Openings.{opened_role, opened_as}

-- a request's row is one of three, each an initiator's
pub requested_role : (class : ℕ) → opened_role (requested_of class) ≡ Initiator
unfolding requested_of
requested_role class = go (eqb class 0) (eqb class 1)
  where
    go : (a b : Bool) → opened_role (pick a Opening.Requested0 (pick b Opening.Requested1 Opening.Requested2)) ≡ Initiator
    go true b = refl
    go false true = refl
    go false false = refl

-- and so it may carry TIDnew
requested_state : (class : ℕ) → role_of (living_state (opening_act (requested_of class)).next Free) ≡ Initiator
unfolding requested_of opening_act act_with stored
requested_state class = go (eqb class 0) (eqb class 1)
  where
    go : (a b : Bool) → role_of (living_state (opening_act (pick a Opening.Requested0 (pick b Opening.Requested1 Opening.Requested2))).next Free) ≡ Initiator
    go true b = refl
    go false true = refl
    go false false = refl

counted : (t : List ℕ) (q : Request) → CountOk (counted_by t q)
unfolding CountOk counted_by
counted t q = omega arith

module _ (l : Lent) (q : Request) (given : q.len ≡ length l.given) (exit : length l.exit ≤ exit_bound) (a : Admitted l.table (length l.store) (length l.output) q)
    (place : ℕ) (inside : place < count l.table) where
  abbrev opened : Record
  opened = (opened_turn l.table (requested_of (q.class % 256)) (requester l.table place q) (request_given q)).after

  unused : 1 ≤ state_number opened.state → Unused l.table place opened
  unfolding opened_turn requester new_record
  unused h =
      let o = opened_as (requested_of (q.class % 256)) (new_record (q.peer % 256) (gen_tid_of l.table) q.user_ack _) (request_given q) (settings_of l.table) (intervals_of l.table) h in
      λ j k d live same. name_unused l.table _ _ q a opened (o.role ∙ requested_role (q.class % 256)) o.tid j k live same

  pub request_sound : Sound l (request_step l.table place q)
  unfolding request_step requester request_given request_call
  request_sound =
      opening_sound l (requested_of (q.class % 256)) (requester l.table place q) (request_given q) (counted_by l.table q) (request_call q)
      a.enters.fitting
      (record { time = a.enters.bounded; len = a.data_fits; exit_len = omega arith; unknown = no-identity refl })
      (record { message_inside = omega arith; message_fits = a.data_fits; exit_fits = exit })
      (counted l.table q)
      inside (omega arith) a.enters.fitting.formed.header.gen_tid (rw (requested_state (q.class % 256)) (bit_le (requester l.table place q).tidnew)) (omega arith)
      (class_fits (opening_act (requested_of (q.class % 256))).send (q.class % 256) (omega (arith, a.class_known)))
      unused
