-- Finding a record: by its name, a free one, a TID in use, the due one (01, "Numbers given back" and "Events").
use Rattle.std.specs.Prelude.{ℕ, zero, suc, ◌+◌, ◌%◌, ◌≤◌, List, Bool, false, not, length, ltb, leb, eqb, Option, Some, None, is_some}
use Rattle.base_layout.specs.Layout.{record_size, base, tid_count}
use Rattle.base_lists.specs.Seq.{pick}
use Rattle.base_tids.specs.declared.RcvTid.{RcvTid}
use Rattle.table_record.specs.Record.{role_of, state_number, role_number, rcv_tid}
use Rattle.table_record.specs.declared.Role.{Role}
use Rattle.table_record.specs.declared.Role.TheVariants.{Initiator}
use Rattle.table_record.specs.declared.Record.{Record}
use Rattle.table_layout.specs.Table.{record_at}

-- the lowest of the k places from i on that p holds of
unfoldable pub first : (ℕ → Bool) → ℕ → ℕ → Option ℕ
first p zero i = None
first p (suc k) i = pick (p i) (Some i) (first p k (i + 1))

-- a record that is not live
abbrev pub is_free : Record → Bool
is_free r = eqb (state_number r.state) 0

-- a live record of this role
unfoldable pub has_role : Role → Record → Bool
has_role role r = pick (is_free r) false (eqb (role_number (role_of r.state)) (role_number role))

-- a live record of this role and peer
abbrev pub is_of : Role → ℕ → Record → Bool
is_of role peer r = pick (eqb r.peer peer) (has_role role r) false

-- 01, number 8: "the named role, peer and TID has no live record"
unfoldable pub is_named : Role → ℕ → ℕ → Record → Bool
is_named role peer tid r = pick (eqb r.tid tid) (is_of role peer r) false

-- 01: "The top bit is 0 towards the responder, 1 towards the initiator": the TID that the peer writes towards a record of this role
unfoldable pub is_receiver : Role → ℕ → RcvTid → Record → Bool
is_receiver role peer tid r = pick (eqb (rcv_tid role (r.tid % tid_count)) tid.0) (is_of role peer r) false

-- 01, number 6: "the TID of a live initiator record, any peer"
unfoldable pub uses_tid : ℕ → Record → Bool
uses_tid tid r = pick (eqb r.tid tid) (has_role Initiator r) false

-- the live record of this role, peer and TID among the n of a table
unfoldable pub named_of : List ℕ → ℕ → Role → ℕ → ℕ → Option ℕ
named_of t n role peer tid = first (λ (i : ℕ). is_named role peer tid (record_at t i)) n 0

-- the live record of this role and peer towards which the peer writes this TID
unfoldable pub receiver_of : List ℕ → ℕ → Role → ℕ → RcvTid → Option ℕ
receiver_of t n role peer tid = first (λ (i : ℕ). is_receiver role peer tid (record_at t i)) n 0

-- 01: "takes the lowest free record"
unfoldable pub free_of : List ℕ → ℕ → Option ℕ
free_of t n = first (λ (i : ℕ). is_free (record_at t i)) n 0

-- whether some live initiator record has this TID
unfoldable pub tid_in_use : List ℕ → ℕ → ℕ → Bool
tid_in_use t n tid = is_some (first (λ (i : ℕ). uses_tid tid (record_at t i)) n 0)

-- 01: "the due record (deadline not after now)"; the deadline 0 is no timer
unfoldable pub is_due : ℕ → Record → Bool
is_due time r = pick (eqb r.deadline 0) false (pick (leb r.deadline time) (not (is_free r)) false)

-- 01: "the earliest deadline, lowest place on ties": of record i and the best so far the one that fires first
unfoldable pub earlier_of : List ℕ → ℕ → Option ℕ → Option ℕ
earlier_of t i (Some j) = pick (ltb (record_at t i).deadline (record_at t j).deadline) (Some i) (Some j)
earlier_of t i None = Some i

-- the best of record i, which counts only where it is due, and the best so far
unfoldable pub better_of : List ℕ → ℕ → ℕ → Option ℕ → Option ℕ
better_of t time i b = pick (is_due time (record_at t i)) (earlier_of t i b) b

-- the best of b and the k places from i on
unfoldable pub best : (ℕ → Option ℕ → Option ℕ) → ℕ → ℕ → Option ℕ → Option ℕ
best f zero i b = b
best f (suc k) i b = best f k (i + 1) (f i b)

-- 01: "the due record … with the earliest deadline, lowest place on ties, or says none is due"
unfoldable pub due_of : List ℕ → ℕ → ℕ → Option ℕ
due_of t n time = best (better_of t time) n 0 None

-- what was found lies in the table
abbrev pub Within : List ℕ → Option ℕ → Type 0
Within t (Some j) = base j + record_size ≤ length t
Within t None = Unit
