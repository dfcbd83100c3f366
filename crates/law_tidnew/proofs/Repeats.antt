-- A repeated Invoke is the first one with RID set: its TID, TIDnew, U/P, class and data are the same. Assumes nothing.
use Prim.Native.Nat.{ℕ, ◌*◌, ◌%◌, ◌≤◌}
use native.Mathlib.Omega.{arith}
use mathlib.Core.Path.{◌≡◌, refl, sym, ap, ◌∙◌}
use mathlib.Core.Bool.{Bool, true, false}
use mathlib.Core.List.{List, ◌∷◌}
use mathlib.Core.Logic.{◌⊎◌, inl, inr}
use lib.Dec.{eqb}
use borrow.Author.Tests.{eqb-true, eqb-false}
use Rattle.base_layout.specs.Layout.{cell_size}
use Rattle.base_lists.specs.Seq.{part}
use Rattle.table_record.specs.Record.{role_of, class_of}
use Rattle.table_record.specs.declared.Role.TheVariants.{Initiator}
use Rattle.table_record.specs.declared.Record.{Record}
use Rattle.table_layout.specs.Table.{record_at}
use Rattle.row_events.specs.declared.Event.{Event}
use Rattle.row_events.specs.declared.Row.TheVariants as Row
use Rattle.row_columns.specs.Columns.{act_with, stored}
use Rattle.row_columns.specs.declared.Send.TheVariants as Send
use Rattle.row_choice.specs.Rows.{requested_of}
use Rattle.row_entries.specs.Acts.{act_of, opening_act}
use Rattle.row_turns.specs.Turns.{new_record, moved_to, record_after, turn_of, row_turn, opening_turn}
use Rattle.row_turns.specs.declared.Given.{Given}
use Rattle.row_turns.specs.declared.Turn.{Turn}
use Rattle.step_sending.specs.Sending.{tid_of, source_of}
use Rattle.step_sending.specs.Octets.{octets_sent, with_tid}
use Rattle.step_plan.specs.Steps.{cell_of, message_of, sender_of, step_of}
use Rattle.step_plan.specs.declared.Holder.{Holder}
use Rattle.step_plan.specs.declared.Call.{Call as Asked}
use Rattle.step_live.specs.Turning.{row_at, holder_of, live_turn, live_step}
use Rattle.step_opening.specs.Opens.{opened_turn}
use Rattle.call_request.specs.Requests.{requester, request_given, request_step}
use Rattle.call_request.specs.declared.Request.{Request}
use Rattle.step_outcome.specs.Carry.{Lent, octets_out, store_then, sent_then}
use Rattle.law_tidnew.specs.TidNew.{invoke_octet}
use Rattle.law_tidnew.specs.Repeats.{with_rid, StillOpen}
use Rattle.law_tidnew.proofs.Wire.{request_octets}

-- the octets of a repeated Invoke, from its holder and its cell
repeat_octets : (given store table : List ℕ) (turn : Turn) (h : Holder) (c : Asked) → turn.send ≡ Send.Invoke true
    → octets_out given store table turn.send (sender_of turn h c) ≡ with_tid (sender_of turn h c) 0x0F (invoke_octet h.tidnew h.up h.class ∷ part store (h.place * cell_size) h.len)
unfolding octets_out octets_sent sender_of message_of cell_of source_of tid_of
repeat_octets given store table turn h c e = rw e refl

module _ (l later : Lent) (place : ℕ) (q : Request) where
  abbrev opened : Record
  opened = (opened_turn l.table (requested_of (q.class % 256)) (requester l.table place q) (request_given q)).after

  abbrev again : Record
  again = record_at later.table place

  -- the record that a request opens: an initiator's of its class, with the TID, U/P and TIDnew of its Invoke
  record OpenedFor : Type 0 where
    role : role_of opened.state ≡ Initiator
    class : class_of opened.state ≡ q.class % 256
    tid : opened.tid ≡ (requester l.table place q).tid
    up : opened.user_ack ≡ q.user_ack
    tidnew : opened.tidnew ≡ (requester l.table place q).tidnew

  opened_for : (q.class ≡ 1) ⊎ (q.class ≡ 2) → OpenedFor
  unfolding opened_turn opening_turn turn_of record_after moved_to new_record requester requested_of opening_act stored
  opened_for (inl e) = rw e (record { role = refl; class = refl; tid = refl; up = refl; tidnew = refl })
  opened_for (inr e) = rw e (record { role = refl; class = refl; tid = refl; up = refl; tidnew = refl })

  one_or_two : 1 ≤ q.class → q.class ≤ 2 → (q.class ≡ 1) ⊎ (q.class ≡ 2)
  one_or_two some most = go (eqb q.class 1) refl
    where
      go : (b : Bool) → eqb q.class 1 ≡ b → (q.class ≡ 1) ⊎ (q.class ≡ 2)
      go true e = inl (eqb-true q.class 1 e)
      go false e = inr (omega (arith, some, most, eqb-false q.class 1 e))

  module _ (event : Event) (g : Given) (c : Asked) (row : row_at later.table place event ≡ Row.Resent) where
    abbrev turn : Turn
    turn = live_turn later.table place event g

    kept_store : store_then later (live_step later.table place event g c) ≡ later.store
    unfolding store_then live_step step_of live_turn row_turn turn_of act_of act_with
    kept_store = rw row refl

    sends_again : again.tidok_sent ≡ false → turn.send ≡ Send.Invoke true
    unfolding live_turn row_turn turn_of act_of act_with
    sends_again none = rw (row, none) refl

    from_cell : again.tidok_sent ≡ false → sent_then later (live_step later.table place event g c)
        ≡ with_tid (sender_of turn (holder_of again place) c) 0x0F (invoke_octet again.tidnew again.user_ack (class_of again.state) ∷ part later.store (place * cell_size) again.len)
    unfolding sent_then live_step step_of holder_of
    from_cell none = rw kept_store (repeat_octets later.given later.store _ turn (holder_of again place) c (sends_again none))

    -- THE REPEAT IS THE FIRST BUT FOR RID
    pub repeat_sets_rid : StillOpen l later place q opened → sent_then later (live_step later.table place event g c) ≡ with_rid (sent_then l (request_step l.table place q))
    unfolding sender_of holder_of requester tid_of
    repeat_sets_rid o =
        let f = opened_for (one_or_two o.some o.most) in
        let role = o.same.role ∙ f.role in
        let class = o.same.class ∙ f.class in
        let tid = o.same.tid ∙ f.tid in
        let up = o.same.user_ack ∙ f.up in
        let tidnew = o.same.tidnew ∙ f.tidnew in
        from_cell o.no_tidok ∙ (rw (role, class, tid, up, tidnew, o.len, o.cell) refl ∙ sym (ap with_rid (request_octets l place q)))
