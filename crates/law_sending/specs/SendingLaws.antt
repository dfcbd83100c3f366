-- What is said of the PDUs that we send (01, demand 2, "Bytes on the air").
use Rattle.std.specs.Prelude.{ℕ, ◌+◌, ◌≤◌, ◌≡◌, List, length}
use Rattle.base_layout.specs.Layout.{exit_bound, cell_size}
use Rattle.codec_reading.specs.Read.{pdu_of}
use Rattle.law_reads_back.specs.ReadsBack.{meaning_of}
use Rattle.row_columns.specs.declared.Send.{Send}
use Rattle.row_columns.specs.declared.Send.TheVariants.{Nothing, Invoke, Tidok, LastAck, HoldOn, Tidve, Result, Abort}
use Rattle.step_sending.specs.declared.Sender.{Sender}
use Rattle.step_sending.specs.declared.Source.{Source}
use Rattle.step_sending.specs.Sending.{parts_in, sent_pdu}
use Rattle.step_sending.specs.Octets.{octets_sent}

-- what is sent, read again, is the PDU that was meant
abbrev pub ReadsAsMeant : List ℕ → Send → Sender → Type 0
ReadsAsMeant s send by = meaning_of (octets_sent s send by) (pdu_of (octets_sent s send by)) ≡ meaning_of (parts_in s by) (sent_pdu send by)

-- a message of at most 1,024 octets, or exit information of at most 128, lies in the source that is named
abbrev pub FitSource : Source → List ℕ → Sender → Type 0
FitSource Source.Nothing s by = Unit
FitSource Source.Given s by = (by.start + by.len ≤ length s) × (by.len ≤ cell_size)
FitSource Source.Cell s by = (by.start + by.len ≤ length s) × (by.len ≤ cell_size)
FitSource Source.Table s by = (by.exit_start + by.exit_len ≤ length s) × (by.exit_len ≤ exit_bound)

-- there is a PDU to send; an abort's type is "0 provider, 1 user"
abbrev pub Proper : Send → Type 0
Proper Nothing = ⊥
Proper (Invoke again) = Unit
Proper (Tidok again) = Unit
Proper (LastAck again) = Unit
Proper (HoldOn again) = Unit
Proper (Tidve again) = Unit
Proper (Result again) = Unit
Proper (Abort kind reason) = kind ≤ 1

-- an Invoke's class is one of 0, 1 and 2
abbrev pub ClassFits : Send → ℕ → Type 0
ClassFits Nothing class = Unit
ClassFits (Invoke again) class = class ≤ 2
ClassFits (Tidok again) class = Unit
ClassFits (LastAck again) class = Unit
ClassFits (HoldOn again) class = Unit
ClassFits (Tidve again) class = Unit
ClassFits (Result again) class = Unit
ClassFits (Abort kind reason) class = Unit
