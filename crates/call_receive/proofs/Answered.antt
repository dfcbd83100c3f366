-- What a PDU without a live record is answered where it opens none: an Abort or nothing, and nothing else is done. Assumes nothing.
use Prim.Native.Nat.{ℕ}
use mathlib.Core.Path.{◌≡◌, refl}
use mathlib.Core.List.{List, [], ◌∷◌}
use mathlib.Core.Bool.{true, false}
use Rattle.std.specs.Prelude.{Some, None}
use Rattle.codec_pdu.specs.Pdu.{sound_of, bare_of}
use Rattle.codec_pdu.specs.declared.Pdu.{Pdu}
use Rattle.codec_reading.specs.Read.{pdu_of, head_of, kind_of, items_after, after_head, finished}
use Rattle.table_record.specs.declared.Role.{Role}
use Rattle.table_record.specs.declared.Role.TheVariants.{Initiator}
use Rattle.table_layout.specs.Table.{count}
use Rattle.table_finding.specs.Finding.{named_of}
use Rattle.row_events.specs.declared.Opening.{Opening}
use Rattle.row_columns.specs.Columns.{act_with, provider, protoerr, invalidtid, ended}
use Rattle.row_columns.specs.declared.Send.{Send}
use Rattle.row_columns.specs.declared.Indication.TheVariants as Indication
use Rattle.row_entries.specs.Acts.{opening_act}
use Rattle.row_choice.specs.Rows.{opening_of}
use Rattle.step_arrivals.specs.Arrivals.{tid_of, name_of, invokes_us, is_tidve, arrived_of}
use Rattle.row_turns.specs.Turns.{new_record, turn_of, record_after, opening_turn}
use Rattle.step_changes.specs.Changes.{change_of, cached_after}
use Rattle.step_shown.specs.Shows.{shown_of}
use Rattle.step_plan.specs.Steps.{step_of, sender_of, told_of_is}
use Rattle.step_plan.specs.declared.Holder.{Holder}
use Rattle.step_opening.specs.Opens.{opening_step, opened_turn, opening_changes}
use Rattle.call_receive.specs.Receives.{arriver_of, opened_given, opened_call, opened_step, arrival_opening, unmatched_step, receive_step}
use Rattle.call_receive.proofs.Dispatch.{none_takes}
use Rattle.call_receive.specs.Sends.{OnlySends}

-- an opening that ends at once and shows nothing
ended_sends : (t : List ℕ) (opening : Opening) (h : Holder) (time : ℕ) (p : Pdu) (send : Send) → opening_act opening ≡ ended send Indication.Nothing
    → OnlySends (opened_step t opening h time p) time send h.role h.tid
unfolding opened_step opening_step opened_turn opening_turn opened_given opened_call opening_changes step_of sender_of turn_of record_after new_record change_of cached_after shown_of told_of_is act_with
ended_sends t opening h time p send e =
    record {
      sends = rw e refl;
      by_role = refl;
      by_tid = refl;
      at_time = refl;
      no_record = rw e refl;
      no_exit = refl;
      same_gen_tid = refl;
      same_cached = rw e refl;
      no_cell = rw e refl;
      none_first = rw e refl;
      none_second = rw e refl;
      none_told = refl;
    }

module _ (t : List ℕ) (time peer : ℕ) (s : List ℕ) (role : Role) (tid : ℕ) (names : name_of s ≡ Some (role, tid)) (none : named_of t (count t) role peer tid ≡ None) where
  answered : (opening : Opening) (send : Send) → arrival_opening t peer tid s (pdu_of s) ≡ opening → opening_act opening ≡ ended send Indication.Nothing
      → OnlySends (receive_step t time peer s) time send role tid
  unfolding unmatched_step arriver_of
  answered opening send opens acts = rw (none_takes t time peer s role tid names none, opens) (ended_sends t opening _ time (pdu_of s) send acts)

  -- 01: "without one, Abort 1 only if type 1, at least three octets and top bit 0"
  pub malformed_answered : invokes_us s ≡ true → sound_of (pdu_of s).kind ≡ false → OnlySends (receive_step t time peer s) time (Send.Abort provider protoerr) role tid
  unfolding arrival_opening opening_of arrived_of opening_act
  malformed_answered i m = answered Opening.Malformed (Send.Abort provider protoerr) (rw (i, m) refl) refl

  -- 01: "Ack with TIDve (top bit 1), no live initiator record: Abort 2"
  pub tidve_answered : invokes_us s ≡ false → sound_of (pdu_of s).kind ≡ true → is_tidve (pdu_of s).kind (pdu_of s).tid ≡ true → OnlySends (receive_step t time peer s) time (Send.Abort provider invalidtid) role tid
  unfolding arrival_opening opening_of arrived_of opening_act
  tidve_answered i m v = answered Opening.UnknownTidve (Send.Abort provider invalidtid) (rw (i, m, v) refl) refl

  -- 01: "All else without a record is ignored"
  pub else_ignored : invokes_us s ≡ false → sound_of (pdu_of s).kind ≡ true → is_tidve (pdu_of s).kind (pdu_of s).tid ≡ false → OnlySends (receive_step t time peer s) time Send.Nothing role tid
  unfolding arrival_opening opening_of arrived_of opening_act
  else_ignored i m v = answered Opening.Ignored Send.Nothing (rw (i, m, v) refl) refl

  -- what is malformed too, where it is no Invoke with top bit 0
  pub malformed_ignored : invokes_us s ≡ false → sound_of (pdu_of s).kind ≡ false → OnlySends (receive_step t time peer s) time Send.Nothing role tid
  unfolding arrival_opening opening_of arrived_of opening_act
  malformed_ignored i m = answered Opening.Ignored Send.Nothing (rw (i, m) refl) refl

-- 01: "TIDve 1C 80 05 unmatched gives 20 00 05 02": Abort 2 by an initiator with TID 5
pub tidve_unmatched : (t : List ℕ) (time peer : ℕ) → named_of t (count t) Initiator peer 5 ≡ None
    → OnlySends (receive_step t time peer (0x1C ∷ 0x80 ∷ 0x05 ∷ [])) time (Send.Abort 0 2) Initiator 5
unfolding name_of tid_of invokes_us is_tidve pdu_of head_of kind_of items_after after_head finished sound_of bare_of
tidve_unmatched t time peer none = tidve_answered t time peer (0x1C ∷ 0x80 ∷ 0x05 ∷ []) Initiator 5 refl none refl refl refl
