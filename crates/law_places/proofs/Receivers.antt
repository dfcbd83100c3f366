-- In a well-formed table the record towards which a peer writes a TID is the one that this TID names. Assumes nothing.
use Prim.Native.Nat.{ℕ, ◌<◌}
use native.Mathlib.Omega.{arith}
use mathlib.Core.Path.{◌≡◌, ◌∙◌}
use mathlib.Core.List.{List}
use mathlib.Core.Logic.{inl, inr}
use Rattle.std.specs.Prelude.{Option}
use Rattle.base_tids.specs.declared.RcvTid.{RcvTid}
use Rattle.table_record.specs.declared.Role.{Role}
use Rattle.table_record.specs.Record.{rcv_tid}
use Rattle.table_layout.specs.Table.{count, settings_of, record_at}
use Rattle.table_record_ok.specs.OneRecord.{RecordOk}
use Rattle.table_record_ok.proofs.RecordTest.{free_state}
use Rattle.table_well_formed.specs.WellFormed.{WellFormed}
use Rattle.table_finding.specs.Finding.{is_named, is_receiver, named_of, receiver_of}
use Rattle.table_finding.proofs.Receivers.{live_receiver, free_receiver, same_found}

module _ (t : List ℕ) (w : WellFormed t) (role : Role) (peer tid : ℕ) (rcv : RcvTid) (aimed : rcv.0 ≡ rcv_tid role tid) where
  same : (i : ℕ) → i < count t → is_receiver role peer rcv (record_at t i) ≡ is_named role peer tid (record_at t i)
  same i inside = go (w.records i inside)
    where
      go : RecordOk t (settings_of t) i → is_receiver role peer rcv (record_at t i) ≡ is_named role peer tid (record_at t i)
      go (inl free) = free_receiver role peer tid rcv (record_at t i) (free_state t i free)
      go (inr ok) = live_receiver role peer tid rcv (record_at t i) aimed (omega (arith, ok.range.bounds.tid))

  -- what a search among n records gave
  pub receiver_named : (n : ℕ) (f : Option ℕ) → n ≡ count t → f ≡ receiver_of t n role peer rcv → f ≡ named_of t (count t) role peer tid
  receiver_named n f counted searched = (rw counted at searched) ∙ same_found t (count t) role peer tid rcv same
