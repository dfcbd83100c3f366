-- 01: "TIDve 1C 80 05 unmatched gives 20 00 05 02", whatever the table, the time and the peer. Assumes nothing.
use Prim.Native.Nat.{ℕ}
use mathlib.Core.Path.{◌≡◌, refl}
use mathlib.Core.List.{List, [], ◌∷◌}
use lib.ListN.{length}
use Rattle.table_record.specs.declared.Role.TheVariants.{Initiator}
use Rattle.step_arrivals.specs.Arrivals as Arrivals
use Rattle.row_columns.specs.declared.Send.{Send}
use Rattle.row_columns.specs.declared.Send.TheVariants as Send
use Rattle.step_sending.specs.Sending.{tid_of}
use Rattle.step_sending.specs.Octets.{octets_sent}
use Rattle.step_sending.specs.declared.Sender.{Sender}
use Rattle.call_receive.proofs.Accepted.{receive_accepted}
use Rattle.call_receive.specs.Sends.{OnlySends}
use Rattle.call_receive.proofs.Answered.{tidve_unmatched}
use Rattle.step_outcome.specs.Carry.{octets_out, sent_then}
use Rattle.law_starred.specs.Starred.{Says, unmatched}

abbrev tidve : List ℕ
tidve = 0x1C ∷ 0x80 ∷ 0x05 ∷ []

abbrev abort : List ℕ
abort = 0x20 ∷ 0x00 ∷ 0x05 ∷ 0x02 ∷ []

-- Abort 2 of an initiator with TID 5, written out
abort_octets_holds : (given store table : List ℕ) (send : Send) (by : Sender) → send ≡ Send.Abort 0 2 → by.role ≡ Initiator → by.tid ≡ 5 → octets_out given store table send by ≡ abort
unfolding octets_out octets_sent tid_of
abort_octets_holds given store table send by s r i = rw (s, r, i) refl

pub tidve_case : Says (unmatched tidve abort)
unfolding Says Arrivals.tid_of sent_then
tidve_case l time peer step e none p =
    let a = receive_accepted l.table (length l.store) (length l.output) time peer l.given step p in
    let only : OnlySends step time (Send.Abort 0 2) Initiator 5 = rw (a.step_is, e) (tidve_unmatched l.table time peer none) in
    abort_octets_holds _ _ _ step.send step.by only.sends only.by_role only.by_tid
