-- What an accepted request sends: an Invoke, with TIDnew where its record has it. Assumes nothing.
use Prim.Native.Nat.{ℕ, ◌%◌, ◌≤◌}
use native.Mathlib.Omega.{arith}
use mathlib.Core.Path.{◌≡◌, refl}
use mathlib.Core.Bool.{Bool, true, false}
use mathlib.Core.List.{List, ◌∷◌}
use lib.ListN.{length, get_or}
use lib.Dec.{eqb}
use Rattle.base_layout.specs.Layout.{output_least}
use Rattle.base_lists.specs.Seq.{pick, part, put}
use Rattle.base_lists.proofs.StoresAndParts.{length_part}
use Rattle.base_octets.proofs.StoredAndRead.{get_same}
use Rattle.table_layout.specs.Table.{tidnew_due_of}
use Rattle.table_tids.specs.Tids.{carries_tidnew}
use Rattle.row_events.specs.declared.Opening.TheVariants as Opening
use Rattle.row_columns.specs.Columns.{act_with, stored}
use Rattle.row_columns.specs.declared.Send.TheVariants as Send
use Rattle.row_choice.specs.Rows.{requested_of}
use Rattle.row_entries.specs.Acts.{opening_act}
use Rattle.row_turns.specs.Turns.{turn_of, opening_turn}
use Rattle.row_turns.specs.declared.Turn.{Turn}
use Rattle.step_sending.specs.Sending.{tid_of, source_of}
use Rattle.step_sending.specs.Octets.{octets_sent, with_tid}
use Rattle.step_plan.specs.Steps.{message_of, sender_of, step_of}
use Rattle.step_plan.specs.declared.Holder.{Holder}
use Rattle.step_plan.specs.declared.Call.{Call as Asked}
use Rattle.step_opening.specs.Opens.{opened_turn, opening_step}
use Rattle.call_request.specs.Requests.{requester, request_given, request_call, request_step}
use Rattle.call_request.specs.declared.Request.{Request}
use Rattle.step_outcome.specs.Carry.{Lent, octets_out, sent_then}
use Rattle.law_tidnew.specs.TidNew.{invoke_octet}

-- every class of request sends its Invoke for the first time
requested_sends : (class : ℕ) → (opening_act (requested_of class)).send ≡ Send.Invoke false
unfolding requested_of opening_act act_with stored
requested_sends class = go (eqb class 0) (eqb class 1)
  where
    go : (a b : Bool) → (opening_act (pick a Opening.Requested0 (pick b Opening.Requested1 Opening.Requested2))).send ≡ Send.Invoke false
    go true b = refl
    go false true = refl
    go false false = refl

-- the octets of a first Invoke, from its holder and the message that the call was lent
invoke_octets : (given store table : List ℕ) (turn : Turn) (h : Holder) (c : Asked) → turn.send ≡ Send.Invoke false
    → octets_out given store table turn.send (sender_of turn h c) ≡ with_tid (sender_of turn h c) 0x0E (invoke_octet h.tidnew h.up h.class ∷ part given c.message.start c.message.len)
unfolding octets_out octets_sent sender_of message_of source_of tid_of
invoke_octets given store table turn h c e = rw e refl

module _ (l : Lent) (place : ℕ) (q : Request) where
  abbrev t : List ℕ
  t = l.table

  abbrev turn : Turn
  turn = opened_turn t (requested_of (q.class % 256)) (requester t place q) (request_given q)

  pub request_octets : sent_then l (request_step t place q) ≡ with_tid (sender_of turn (requester t place q) (request_call q)) 0x0E (invoke_octet (carries_tidnew (q.class % 256) (tidnew_due_of t)) q.user_ack (q.class % 256) ∷ part l.given 0 q.len)
  unfolding sent_then request_step opening_step step_of requester request_call opened_turn opening_turn turn_of
  request_octets = invoke_octets l.given _ _ turn (requester t place q) (request_call q) (requested_sends (q.class % 256))

  -- and in the output
  pub request_octet : q.len ≡ length l.given → q.len ≤ 1024 → output_least ≤ length l.output
      → get_or (put l.output 0 (sent_then l (request_step t place q))) 3 0 ≡ invoke_octet (carries_tidnew (q.class % 256) (tidnew_due_of t)) q.user_ack (q.class % 256)
  request_octet given small room =
      let w : List ℕ = with_tid (sender_of turn (requester t place q) (request_call q)) 0x0E (invoke_octet (carries_tidnew (q.class % 256) (tidnew_due_of t)) q.user_ack (q.class % 256) ∷ part l.given 0 q.len) in
      let n : length (part l.given 0 q.len) ≡ q.len = length_part l.given 0 q.len (omega (arith, given)) in
      rw request_octets (get_same w l.output 0 3 (omega (arith, n, small, room)) (omega arith))
