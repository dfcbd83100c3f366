-- The octets that a record's turn sends count under its own name, and as what its turn sends. Assumes nothing.
use Prim.Native.Nat.{ℕ, ◌+◌, ◌*◌, ◌/◌, ◌%◌, ◌≤◌}
use native.Mathlib.Omega.{arith}
use mathlib.Core.Path.{◌≡◌, refl, sym, ap, ◌∙◌}
use mathlib.Core.Bool.{Bool, true, false}
use mathlib.Core.List.{List, []}
use lib.Dec.{ltb, eqb}
use borrow.Author.Tests.{lt-ltb, le-ltb}
use Rattle.base_layout.specs.Layout.{tid_bound}
use Rattle.base_lists.specs.Seq.{pick, bit}
use Rattle.base_lists.proofs.StoresAndParts.{true_false}
use Rattle.table_record.specs.Record.{role_number, send_tid}
use Rattle.table_record.specs.declared.Role.{Role}
use Rattle.table_record.specs.declared.Role.TheVariants.{Initiator, Responder}
use Rattle.step_arrivals.specs.Arrivals.{tid_of}
use Rattle.row_columns.specs.declared.Send.{Send}
use Rattle.row_columns.specs.declared.Send.TheVariants as Send
use Rattle.law_rows.specs.Shown.{SendProper}
use Rattle.step_sending.specs.Octets.{with_tid, octets_sent, ack_octets}
use Rattle.step_sending.specs.Sending as Sending
use Rattle.step_sending.specs.declared.Sender.{Sender}
use Rattle.step_sending.proofs.Octets.{tid_whole}
use Rattle.law_counting.specs.Counting.{Counts, none, requested, invoked, aborted, of_send}
use Rattle.law_history.specs.Tally.{Name, is_named, sender_role, of_type, of_sent}

-- who sends what: Invoke and TIDok an initiator, TIDve and Result a responder
abbrev pub is_initiator : Role → Bool
is_initiator Initiator = true
is_initiator Responder = false

abbrev pub is_responder : Role → Bool
is_responder Initiator = false
is_responder Responder = true

abbrev pub sends_as : Role → Send → Bool
sends_as role Send.Nothing = true
sends_as role (Send.Invoke again) = is_initiator role
sends_as role (Send.Tidok again) = is_initiator role
sends_as role (Send.LastAck again) = true
sends_as role (Send.HoldOn again) = true
sends_as role (Send.Tidve again) = is_responder role
sends_as role (Send.Result again) = is_responder role
sends_as role (Send.Abort kind reason) = true

pub pick_none : (b : Bool) → pick b none none ≡ none
pick_none true = refl
pick_none false = refl

-- no octets count nothing
pub no_octets : (n : Name) (peer : ℕ) → of_sent n peer [] ≡ none
unfolding of_sent tid_of of_type
no_octets n peer = go n.role
  where
    go : (r : Role) → pick (is_named n (sender_role []) peer (tid_of [] % 32768)) (of_type r 0 0) none ≡ none
    go Initiator = pick_none (is_named n (sender_role []) peer (tid_of [] % 32768))
    go Responder = pick_none (is_named n (sender_role []) peer (tid_of [] % 32768))

-- under a name the sender's role is the name's
own_role : (n : Name) (role : Role) (peer tid type first : ℕ)
    → pick (is_named n role peer tid) (of_type n.role type first) none ≡ pick (is_named n role peer tid) (of_type role type first) none
own_role n role peer tid type first = go n.role role
  where
    go : (a b : Role) → pick (pick (eqb (role_number a) (role_number b)) (pick (eqb n.peer peer) (eqb n.tid tid) false) false) (of_type a type first) none
        ≡ pick (pick (eqb (role_number a) (role_number b)) (pick (eqb n.peer peer) (eqb n.tid tid) false) false) (of_type b type first) none
    go Initiator Initiator = refl
    go Initiator Responder = refl
    go Responder Initiator = refl
    go Responder Responder = refl

-- a TID's top bit and its low 15 bits
pub sender_role_holds : (role : Role) (tid : ℕ) → tid ≤ tid_bound → pick (ltb (send_tid role tid) 32768) Initiator Responder ≡ role
sender_role_holds Initiator tid h = rw (lt-ltb tid 32768 (omega arith)) refl
sender_role_holds Responder tid h = rw (le-ltb (tid + 32768) 32768 (omega arith)) refl

pub low_bits : (role : Role) (tid : ℕ) → tid ≤ tid_bound → send_tid role tid % 32768 ≡ tid
low_bits Initiator tid h = omega arith
low_bits Responder tid h = omega arith

module _ (n : Name) (peer : ℕ) (by : Sender) (h : by.tid ≤ tid_bound) where
  pub tid_read : (first : ℕ) (rest : List ℕ) → tid_of (with_tid by first rest) ≡ send_tid by.role by.tid
  unfolding tid_of
  tid_read first rest =
      let whole : Sending.tid_of by ≡ send_tid by.role by.tid = tid_whole by (omega arith) in
      let e : Sending.tid_of by / 256 * 256 + Sending.tid_of by % 256 ≡ Sending.tid_of by = omega arith in
      e ∙ whole

  -- octets with a header count under the sender's name
  headed : (first : ℕ) (rest : List ℕ) → of_sent n peer (with_tid by first rest) ≡ pick (is_named n by.role peer by.tid) (of_type by.role (first / 8 % 16) first) none
  unfolding of_sent
  headed first rest =
      ap (λ (i : ℕ). pick (is_named n (pick (ltb i 32768) Initiator Responder) peer (i % 32768)) (of_type n.role (first / 8 % 16) first) none) (tid_read first rest)
      ∙ ap (λ (r : Role). pick (is_named n r peer (send_tid by.role by.tid % 32768)) (of_type n.role (first / 8 % 16) first) none) (sender_role_holds by.role by.tid h)
      ∙ ap (λ (i : ℕ). pick (is_named n by.role peer i) (of_type n.role (first / 8 % 16) first) none) (low_bits by.role by.tid h)
      ∙ own_role n by.role peer by.tid (first / 8 % 16) first

  abbrev Counted : List ℕ → Counts → Type 0
  Counted octets c = of_sent n peer octets ≡ pick (is_named n by.role peer by.tid) c none

  counted : (first : ℕ) (rest : List ℕ) (c : Counts) → of_type by.role (first / 8 % 16) first ≡ c → Counted (with_tid by first rest) c
  counted first rest c e = headed first rest ∙ ap (λ (x : Counts). pick (is_named n by.role peer by.tid) x none) e

  nothing_counts : Counted [] none
  nothing_counts = no_octets n peer ∙ sym (pick_none (is_named n by.role peer by.tid))

-- what each PDU counts for its sender
invoke_type : (role : Role) (again : Bool) → is_initiator role ≡ true → of_type role ((0x0E + bit again) / 8 % 16) (0x0E + bit again) ≡ requested 1 0 0
unfolding of_type
invoke_type Initiator true e = refl
invoke_type Initiator false e = refl
invoke_type Responder again e = true_false (sym e)

tidok_type : (role : Role) (again : Bool) → is_initiator role ≡ true → of_type role ((0x1C + bit again) / 8 % 16) (0x1C + bit again) ≡ requested 1 0 0
unfolding of_type
tidok_type Initiator true e = refl
tidok_type Initiator false e = refl
tidok_type Responder again e = true_false (sym e)

tidve_type : (role : Role) (again : Bool) → is_responder role ≡ true → of_type role ((0x1C + bit again) / 8 % 16) (0x1C + bit again) ≡ none
unfolding of_type
tidve_type Initiator again e = true_false (sym e)
tidve_type Responder true e = refl
tidve_type Responder false e = refl

result_type : (role : Role) (again : Bool) → is_responder role ≡ true → of_type role ((0x16 + bit again) / 8 % 16) (0x16 + bit again) ≡ invoked 1 0
unfolding of_type
result_type Initiator again e = true_false (sym e)
result_type Responder true e = refl
result_type Responder false e = refl

plain_type : (role : Role) (again : Bool) → of_type role ((0x18 + bit again) / 8 % 16) (0x18 + bit again) ≡ none
unfolding of_type
plain_type Initiator true = refl
plain_type Initiator false = refl
plain_type Responder true = refl
plain_type Responder false = refl

-- with items
items_type : (role : Role) (again : Bool) → of_type role ((0x98 + bit again) / 8 % 16) (0x98 + bit again) ≡ none
unfolding of_type
items_type Initiator true = refl
items_type Initiator false = refl
items_type Responder true = refl
items_type Responder false = refl

-- an Abort's type is its three flags
abort_flags : (role : Role) (type first kind : ℕ) → type ≡ 4 → first % 8 ≡ kind → of_type role type first ≡ aborted (bit (eqb kind 1))
unfolding of_type
abort_flags Initiator type first kind d e = rw (d, e) refl
abort_flags Responder type first kind d e = rw (d, e) refl

abort_type : (role : Role) (kind : ℕ) → kind ≤ 1 → of_type role ((0x20 + kind) / 8 % 16) (0x20 + kind) ≡ aborted (bit (eqb kind 1))
abort_type role kind h = abort_flags role ((0x20 + kind) / 8 % 16) (0x20 + kind) kind (omega arith) (omega arith)

-- a plain Ack counts for nothing, with items or without
ack_counts : (n : Name) (peer : ℕ) (by : Sender) → by.tid ≤ tid_bound → (s : List ℕ) (again known bare : Bool) → of_sent n peer (ack_octets s again known bare by) ≡ pick (is_named n by.role peer by.tid) none none
unfolding ack_octets
ack_counts n peer by h s again true true = counted n peer by h _ _ _ (plain_type by.role again)
ack_counts n peer by h s again true false = counted n peer by h _ _ _ (items_type by.role again)
ack_counts n peer by h s again false true = counted n peer by h _ _ _ (items_type by.role again)
ack_counts n peer by h s again false false = counted n peer by h _ _ _ (items_type by.role again)

pub sent_counts : (n : Name) (peer : ℕ) (by : Sender) → by.tid ≤ tid_bound → (s : List ℕ) (send : Send) → sends_as by.role send ≡ true → SendProper send
    → of_sent n peer (octets_sent s send by) ≡ pick (is_named n by.role peer by.tid) (of_send send) none
unfolding octets_sent
sent_counts n peer by h s Send.Nothing e p = nothing_counts n peer by h
sent_counts n peer by h s (Send.Invoke again) e p = counted n peer by h _ _ _ (invoke_type by.role again e)
sent_counts n peer by h s (Send.Tidok again) e p = counted n peer by h _ _ _ (tidok_type by.role again e)
sent_counts n peer by h s (Send.LastAck again) e p = ack_counts n peer by h s again (eqb by.unknown 0) (eqb by.exit_len 0)
sent_counts n peer by h s (Send.HoldOn again) e p = ack_counts n peer by h s again (eqb by.unknown 0) true
sent_counts n peer by h s (Send.Tidve again) e p = counted n peer by h _ _ _ (tidve_type by.role again e)
sent_counts n peer by h s (Send.Result again) e p = counted n peer by h _ _ _ (result_type by.role again e)
sent_counts n peer by h s (Send.Abort kind reason) e p = counted n peer by h _ _ _ (abort_type by.role kind p)
