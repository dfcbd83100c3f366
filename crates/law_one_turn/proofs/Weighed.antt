-- The octets that a record's turn sends weigh under its own name, and what they weigh is what its turn costs. Assumes nothing.
use Prim.Native.Nat.{ℕ, ◌+◌, ◌/◌, ◌%◌, ◌≤◌}
use native.Mathlib.Omega.{arith}
use mathlib.Core.Path.{◌≡◌, refl, sym, ap, ◌∙◌}
use mathlib.Core.Bool.{Bool, true, false}
use mathlib.Core.List.{List, []}
use lib.ListN.{length}
use lib.Dec.{ltb, eqb}
use Rattle.base_layout.specs.Layout.{tid_bound}
use Rattle.base_lists.specs.Seq.{pick, bit}
use Rattle.base_lists.proofs.StoresAndParts.{true_false, length_part}
use Rattle.table_record.specs.Record.{send_tid}
use Rattle.table_record.specs.declared.Role.{Role}
use Rattle.table_record.specs.declared.Role.TheVariants.{Initiator, Responder}
use Rattle.row_columns.specs.declared.Send.{Send}
use Rattle.row_columns.specs.declared.Send.TheVariants as Send
use Rattle.row_turns.specs.Turns.{cost_of}
use Rattle.law_rows.specs.Shown.{SendProper}
use Rattle.step_arrivals.specs.Arrivals.{tid_of}
use Rattle.step_sending.specs.Octets.{with_tid, message, octets_sent, ack_octets, FitSend}
use Rattle.step_sending.specs.declared.Sender.{Sender}
use Rattle.step_outcome.specs.Carry.{is_nothing}
use Rattle.law_history.specs.Tally.{Name, is_named, sender_role}
use Rattle.law_history.specs.Cost.{weight, length_for}
use Rattle.law_history.specs.Moves.{is_plain}
use Rattle.law_one_turn.proofs.Sent.{sender_role_holds, low_bits, tid_read}

pub pick_zero : (b : Bool) → ◌≡◌ {A = ℕ} (pick b 0 0) 0
pick_zero true = refl
pick_zero false = refl

-- no octets weigh nothing
pub no_weight : (n : Name) (peer : ℕ) → length_for n peer [] ≡ 0
unfolding length_for
no_weight n peer = pick_zero (is_named n (sender_role []) peer (tid_of [] % 32768))

module _ (n : Name) (peer : ℕ) (by : Sender) (h : by.tid ≤ tid_bound) where
  -- octets with a header weigh under the sender's name
  weighed : (first : ℕ) (rest : List ℕ) → length_for n peer (with_tid by first rest) ≡ pick (is_named n by.role peer by.tid) (weight (with_tid by first rest)) 0
  unfolding length_for
  weighed first rest =
      ap (λ (i : ℕ). pick (is_named n (pick (ltb i 32768) Initiator Responder) peer (i % 32768)) (weight (with_tid by first rest)) 0) (tid_read n peer by h first rest)
      ∙ ap (λ (r : Role). pick (is_named n r peer (send_tid by.role by.tid % 32768)) (weight (with_tid by first rest)) 0) (sender_role_holds by.role by.tid h)
      ∙ ap (λ (i : ℕ). pick (is_named n by.role peer i) (weight (with_tid by first rest)) 0) (low_bits by.role by.tid h)

  abbrev Weighs : List ℕ → Type 0
  Weighs s = length_for n peer s ≡ pick (is_named n by.role peer by.tid) (weight s) 0

  ack_weighs : (s : List ℕ) (again known bare : Bool) → Weighs (ack_octets s again known bare by)
  unfolding ack_octets
  ack_weighs s again true true = weighed _ _
  ack_weighs s again true false = weighed _ _
  ack_weighs s again false true = weighed _ _
  ack_weighs s again false false = weighed _ _

  pub sent_weighs : (s : List ℕ) (send : Send) → Weighs (octets_sent s send by)
  unfolding octets_sent
  sent_weighs s Send.Nothing = no_weight n peer ∙ sym (pick_zero (is_named n by.role peer by.tid))
  sent_weighs s (Send.Invoke again) = weighed _ _
  sent_weighs s (Send.Tidok again) = weighed _ _
  sent_weighs s (Send.LastAck again) = ack_weighs s again (eqb by.unknown 0) (eqb by.exit_len 0)
  sent_weighs s (Send.HoldOn again) = ack_weighs s again (eqb by.unknown 0) true
  sent_weighs s (Send.Tidve again) = weighed _ _
  sent_weighs s (Send.Result again) = weighed _ _
  sent_weighs s (Send.Abort kind reason) = weighed _ _

-- an Invoke or TIDok is no Abort, and an Abort is one
plain_weight : (again : Bool) (length : ℕ) → pick (eqb ((0x0E + bit again) / 8 % 16) 4) 0 length ≡ length
plain_weight true length = refl
plain_weight false length = refl

tidok_weight : (again : Bool) → ◌≡◌ {A = ℕ} (pick (eqb ((0x1C + bit again) / 8 % 16) 4) 0 3) 3
tidok_weight true = refl
tidok_weight false = refl

abort_weight : (type length : ℕ) → type ≡ 4 → pick (eqb type 4) 0 length ≡ 0
abort_weight type length e = rw e refl

-- what weighs as much as it costs
pub own_weight : (s : List ℕ) (send : Send) (by : Sender) → is_plain send ≡ true → SendProper send → (is_nothing send ≡ false → FitSend s send by) → weight (octets_sent s send by) ≡ cost_of send by.len
unfolding octets_sent FitSend
own_weight s Send.Nothing by p proper fit = refl
own_weight s (Send.Invoke again) by p proper fit =
    let k : length (message s by) ≡ by.len = length_part s by.start by.len (fit refl).1 in
    plain_weight again _ ∙ omega (arith, k)
own_weight s (Send.Tidok again) by p proper fit = tidok_weight again
own_weight s (Send.LastAck again) by p proper fit = true_false (sym p)
own_weight s (Send.HoldOn again) by p proper fit = true_false (sym p)
own_weight s (Send.Tidve again) by p proper fit = true_false (sym p)
own_weight s (Send.Result again) by p proper fit = true_false (sym p)
own_weight s (Send.Abort kind reason) by p proper fit = abort_weight ((0x20 + kind) / 8 % 16) 4 (omega (arith, proper))
