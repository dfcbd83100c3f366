-- The fields of a record read from their octets, and the numbers of its states. Assumes nothing.
use mathlib.Core.Path.{◌≡◌, refl, sym, ap}
use mathlib.Core.List.{List}
use mathlib.Core.Bool.{false}
use Prim.Native.Nat.{ℕ, zero, suc, ◌+◌, ◌≤◌, ◌<◌}
use native.Mathlib.Omega.{arith}
use lib.ListN.{get_or}
use lib.Dec.{leb, eqb}
use borrow.Author.Tests.{ne_eqb, eqb-true}
use Rattle.base_layout.specs.Layout.{fields_size, tid_offset, deadline_offset, base, state_bound}
use Rattle.base_lists.specs.Seq.{pick, every}
use Rattle.base_lists.proofs.StoresAndParts.{every_at}
use Rattle.base_octets.specs.Octets.{num, gets}
use Rattle.base_octets.proofs.StoredAndRead.{get_gets}
use Rattle.table_record.specs.Record.{role_of, state_number, state_of, role_number, decoded}
use Rattle.table_record.specs.declared.Role.TheVariants.{Initiator, Responder}
use Rattle.table_record.specs.declared.State.{State}
use Rattle.table_record.specs.declared.State.TheVariants.{Free, IResultWait1, IResultWait2, IResultRespWait, IWaitTimeout, RTidokWait1, RTidokWait2, RInvokeRespWait1, RInvokeRespWait2, RResultWait, RResultRespWait, RWaitTimeout}
use Rattle.table_record.specs.declared.Record.{Record}
use Rattle.table_layout.specs.Table.{record_at}
use Rattle.table_finding.specs.Finding.{has_role}

-- a part of the octets that were taken
gets_gets : (n k m a : ℕ) (t : List ℕ) → k + n ≤ m → gets n k (gets m a t) ≡ gets n (a + k) t
unfolding gets
gets_gets zero k m a t h = refl
gets_gets (suc n) k m a t h =
    let e : a + (k + 1) ≡ a + k + 1 = omega arith in
    rw (get_gets m a t k (omega arith), gets_gets n (k + 1) m a t (omega arith), e) refl

module _ (t : List ℕ) (i : ℕ) where
  pub peer_read : (record_at t i).peer ≡ get_or t (base i + 1) 0
  unfolding record_at decoded gets
  peer_read = refl

  pub tid_read : (record_at t i).tid ≡ num (gets 2 (base i + 2) t)
  unfolding record_at decoded
  tid_read = ap num (gets_gets 2 tid_offset fields_size (base i) t (omega arith))

  pub deadline_read : (record_at t i).deadline ≡ num (gets 8 (base i + 8) t)
  unfolding record_at decoded
  deadline_read = ap num (gets_gets 8 deadline_offset fields_size (base i) t (omega arith))

of_number : (n : ℕ) → n ≤ 11 → state_number (state_of n) ≡ n
unfolding state_of every
of_number n h = eqb-true (state_number (state_of n)) n (every_at (λ (k : ℕ). eqb (state_number (state_of k)) k) (state_bound + 1) refl n (omega arith))

beyond : (n k : ℕ) → k < n → eqb n k ≡ false
beyond n k h = ne_eqb n k (λ (e : n ≡ k). omega arith)

of_no_number : (n : ℕ) → 11 < n → state_number (state_of n) ≡ 0
unfolding state_of
of_no_number n h = simp (beyond n 1 (omega arith), beyond n 2 (omega arith), beyond n 3 (omega arith), beyond n 4 (omega arith), beyond n 5 (omega arith), beyond n 6 (omega arith), beyond n 7 (omega arith), beyond n 8 (omega arith), beyond n 9 (omega arith), beyond n 10 (omega arith), beyond n 11 (omega arith))

-- the number of a record's state is its octet, or 0 where the octet is no state
module _ (t : List ℕ) (i : ℕ) where
  pub state_number_holds : get_or t (base i) 0 ≤ 11 → get_or t (base i) 0 ≡ state_number (record_at t i).state
  unfolding record_at decoded gets
  state_number_holds h = sym (of_number (get_or t (base i) 0) h)

  pub no_state : 11 < get_or t (base i) 0 → 0 ≡ state_number (record_at t i).state
  unfolding record_at decoded gets
  no_state h = sym (of_no_number (get_or t (base i) 0) h)

-- the live states of a role, by their numbers
abbrev Numbered : State → Type 0
Numbered s =
    (pick (eqb (state_number s) 0) false (eqb (role_number (role_of s)) 0) ≡ pick (leb 1 (state_number s)) (leb (state_number s) 4) false)
    × (pick (eqb (state_number s) 0) false (eqb (role_number (role_of s)) 1) ≡ leb 5 (state_number s))

numbered : (s : State) → Numbered s
numbered Free = (refl, refl)
numbered IResultWait1 = (refl, refl)
numbered IResultWait2 = (refl, refl)
numbered IResultRespWait = (refl, refl)
numbered IWaitTimeout = (refl, refl)
numbered RTidokWait1 = (refl, refl)
numbered RTidokWait2 = (refl, refl)
numbered RInvokeRespWait1 = (refl, refl)
numbered RInvokeRespWait2 = (refl, refl)
numbered RResultWait = (refl, refl)
numbered RResultRespWait = (refl, refl)
numbered RWaitTimeout = (refl, refl)

-- the states of an initiator have the numbers 1 to 4
pub initiator_numbers : (r : Record) → has_role Initiator r ≡ pick (leb 1 (state_number r.state)) (leb (state_number r.state) 4) false
unfolding has_role
initiator_numbers r = (numbered r.state).0

-- those of a responder 5 to 11
pub responder_numbers : (r : Record) → has_role Responder r ≡ leb 5 (state_number r.state)
unfolding has_role
responder_numbers r = (numbered r.state).1
