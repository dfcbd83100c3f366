-- What is counted in the history under a name (demand 3): indications as they were shown, PDUs as their octets read.
use Rattle.std.specs.Prelude.{ℕ, ◌/◌, ◌%◌, Bool, true, false, List, [], ◌∷◌, get_or, ltb, eqb, is_some, Ok, Err}
use Rattle.base_layout.specs.Layout.{tid_count}
use Rattle.base_lists.specs.Seq.{pick, bit, part}
use Rattle.table_record.specs.Record.{role_number}
use Rattle.table_record.specs.declared.Role.{Role}
use Rattle.table_record.specs.declared.Role.TheVariants.{Initiator, Responder}
use Rattle.table_layout.specs.Table.{count}
use Rattle.codec_reading.specs.Read.{type_of}
use Rattle.step_arrivals.specs.Arrivals.{tid_of}
use Rattle.table_finding.specs.Finding.{named_of}
use Rattle.law_counting.specs.Counting.{Counts, none, plus, requested, invoked, aborted}
use Rattle.step_shown.specs.declared.Shown.{Shown}
use Rattle.step_shown.specs.declared.Shown.TheVariants as Shown
use Rattle.step_plan.specs.declared.Told.{Told}
use Rattle.step_plan.specs.declared.Told.TheVariants as Told
use Rattle.step_outcome.specs.Carry.{Answer}
use Rattle.call_plans.specs.Calls.{Call, peer_in, is_request}
use Rattle.law_history.specs.Trace.{Entry}

-- "role, peer and TID"
pub record Name : Type 0 where
  pub role : Role
  pub peer : ℕ
  pub tid : ℕ

abbrev pub is_named : Name → Role → ℕ → ℕ → Bool
is_named n role peer tid = pick (eqb (role_number n.role) (role_number role)) (pick (eqb n.peer peer) (eqb n.tid tid) false) false

-- what an indication adds under a name; an Invoke of class 0 opens no record and isn't counted
unfoldable pub of_shown : Name → Shown → Counts
of_shown n Shown.Nothing = none
of_shown n (Shown.Invoke peer tid class up place) = pick (eqb class 0) none (pick (is_named n Responder peer tid) (invoked 0 1) none)
of_shown n (Shown.Confirm role peer tid place) = pick (is_named n role peer tid) (requested 0 1 0) none
of_shown n (Shown.Result peer tid place) = pick (is_named n Initiator peer tid) (requested 0 0 1) none
of_shown n (Shown.Abort role peer tid type reason) = pick (is_named n role peer tid) (aborted 1) none

-- the octets that a call sent
abbrev pub sent_of : Answer → List ℕ → List ℕ
sent_of (Err r) output = []
sent_of (Ok a) output = part output 0 a.sent

-- what an accepted call tells: the TID that a request was given, the record that was fired
abbrev pub told_of_is : Answer → Told
told_of_is (Err r) = Told.Nothing
told_of_is (Ok a) = a.told

-- a call was accepted
abbrev pub accepted : Answer → Bool
accepted (Err r) = false
accepted (Ok a) = true

-- whom they go to: the peer that the call names, or that of the record that was fired
abbrev pub peer_told : Told → ℕ → ℕ
peer_told Told.Nothing peer = peer
peer_told (Told.Tid tid) peer = peer
peer_told (Told.Fired role fired tid) peer = fired

abbrev pub peer_of : Call → Answer → ℕ
peer_of c a = peer_told (told_of_is a) (peer_in c)

-- what a PDU of this type and first octet adds for its sender: an initiator's Invoke (type 1) or TIDok (type 3, Tve/Tok set), a responder's Result (type 2), an Abort (type 4) of the user (flags 1)
unfoldable pub of_type : Role → ℕ → ℕ → Counts
of_type Initiator type first =
    pick (eqb type 1) (requested 1 0 0) (pick (eqb type 3) (requested (bit (eqb (first / 4 % 2) 1)) 0 0) (pick (eqb type 4) (aborted (bit (eqb (first % 8) 1))) none))
of_type Responder type first =
    pick (eqb type 2) (invoked 1 0) (pick (eqb type 4) (aborted (bit (eqb (first % 8) 1))) none)

-- who sent octets: "The top bit is 0 towards the responder, 1 towards the initiator"
abbrev pub sender_role : List ℕ → Role
sender_role s = pick (ltb (tid_of s) tid_count) Initiator Responder

-- what octets sent to a peer add under a name, which the low 15 TID bits give
unfoldable pub of_sent : Name → ℕ → List ℕ → Counts
of_sent n peer s = pick (is_named n (sender_role s) peer (tid_of s % tid_count)) (of_type n.role (type_of s) (get_or s 0 0)) none

-- what an answer shows under a name
abbrev pub of_answer : Name → Answer → Counts
of_answer n (Err r) = none
of_answer n (Ok a) = plus (of_shown n a.first) (of_shown n a.second)

-- what a call adds under a name
unfoldable pub adds : Entry → Name → Counts
adds e n = plus (of_sent n (peer_of e.call e.done.answer) (sent_of e.done.answer e.done.output)) (of_answer n e.done.answer)

-- a live record has this name
abbrev pub lives : List ℕ → Name → Bool
lives t n = is_some (named_of t (count t) n.role n.peer n.tid)

-- a request that was accepted with this TID, of class 0 too
abbrev pub given_tid : Told → ℕ → Name → Bool
given_tid Told.Nothing peer n = false
given_tid (Told.Tid tid) peer n = is_named n Initiator peer tid
given_tid (Told.Fired role fired tid) peer n = false

abbrev pub accepts_by : Call → Told → Name → Bool
accepts_by c told n = pick (is_request c) (given_tid told (peer_in c) n) false

-- "counted by its acceptance", "A record opened by a received Invoke": the count under a name starts anew
abbrev pub opens_for : Role → Entry → Name → Bool
opens_for Initiator e n = accepts_by e.call (told_of_is e.done.answer) n
opens_for Responder e n = pick (lives e.lent.table n) false (lives e.done.table n)

unfoldable pub opens : Entry → Name → Bool
opens e n = opens_for n.role e n

-- what was counted under a name since it was last opened, or since the start, with what counts as sent and shown before it
unfoldable pub tally : (Name → Counts) → List Entry → Name → Counts
tally start [] n = start n
tally start (e ∷ h) n = plus (pick (opens e n) none (tally start h n)) (adds e n)
