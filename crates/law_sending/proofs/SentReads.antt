-- The octets of each PDU that we send, written out, read back as that PDU. Assumes nothing.
use Prim.Native.Nat.{ℕ}
use native.Mathlib.Omega.{arith}
use mathlib.Core.Path.{sym, ap, ◌∙◌}
use mathlib.Core.List.{List}
use Rattle.codec_reading.specs.Read.{pdu_of}
use Rattle.law_reads_back.specs.ReadsBack.{meaning_of}
use Rattle.law_reads_back.proofs.ReadsItself.{reads_itself}
use Rattle.row_columns.specs.declared.Send.{Send}
use Rattle.step_sending.specs.declared.Sender.{Sender}
use Rattle.step_sending.specs.Sending.{parts_in, sent_pdu}
use Rattle.step_sending.specs.Octets.{FitSend, Sendable}
use Rattle.step_sending.proofs.Octets.{octets_are}
use Rattle.step_sending.proofs.Fits.{sendable}
use Rattle.law_sending.specs.SendingLaws.{ReadsAsMeant}

pub sent_reads : (s : List ℕ) (send : Send) (by : Sender) → FitSend s send by
    → ReadsAsMeant s send by
sent_reads s send by f =
    let w : Sendable (parts_in s by) (sent_pdu send by) = sendable s send by f in
    ap (λ (o : List ℕ). meaning_of o (pdu_of o)) (sym (octets_are s send by f))
    ∙ reads_itself (parts_in s by) (sent_pdu send by) w.fits w.no_fault (omega (arith, w.room_enough))
