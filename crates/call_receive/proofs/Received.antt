-- The record towards which a PDU's TID was written is the one that the PDU names. Assumes nothing.
use Prim.Native.Nat.{ℕ, ◌<◌}
use mathlib.Core.Path.{◌≡◌, ◌∙◌}
use mathlib.Core.List.{List}
use Rattle.std.specs.Prelude.{Some, Option}
use Rattle.base_tids.specs.declared.RcvTid.{RcvTid}
use Rattle.table_record.specs.declared.Role.{Role}
use Rattle.table_layout.specs.Table.{count}
use Rattle.table_well_formed.specs.WellFormed.{WellFormed}
use Rattle.table_finding.specs.Finding.{named_of, receiver_of}
use Rattle.step_arrivals.specs.Arrivals.{tid_of, name_of}
use Rattle.step_arrivals.proofs.Names.{named_aimed}
use Rattle.law_places.proofs.Receivers.{receiver_named}

module _ (t s : List ℕ) (w : WellFormed t) (role : Role) (peer tid : ℕ) (names : name_of s ≡ Some (role, tid)) where
  -- what a search among n records gave for the TID of the octets s
  pub named_by_tid : (rcv : RcvTid) (n : ℕ) (f : Option ℕ) → rcv.0 ≡ tid_of s → rcv.0 < 65536 → n ≡ count t → f ≡ receiver_of t n role peer rcv → f ≡ named_of t (count t) role peer tid
  named_by_tid rcv n f read fits = receiver_named t w role peer tid rcv (read ∙ (named_aimed s role tid names).1 (rw read at fits)) n f
