-- Each PDU that we send carries just the items that document 02 names: an Error item exactly where an identity is kept. Assumes nothing.
use Prim.Native.Nat.{ℕ, ◌+◌}
use mathlib.Core.Path.{◌≡◌, refl, ap, ◌∙◌}
use mathlib.Core.List.{List, [], ◌∷◌, ◌++◌, map, append-nil}
use mathlib.Core.Bool.{Bool, true, false}
use lib.Dec.{ltb, eqb}
use Rattle.base_lists.specs.Seq.{pick, part}
use Rattle.codec_encoding.specs.Write.{items_of}
use Rattle.law_reads_back.specs.ReadsBack.{ItemMeaning, Meaning, item_meaning, meaning_of}
use Rattle.row_columns.specs.declared.Send.{Send}
use Rattle.row_columns.specs.declared.Send.TheVariants.{Nothing, Invoke, Tidok, LastAck, HoldOn, Tidve, Result, Abort}
use Rattle.step_sending.specs.declared.Sender.{Sender}
use Rattle.step_sending.specs.Sending.{parts_in, plain_pdu, ack_items, ack_pdu, plain_ack, sent_pdu}
use Rattle.step_sending.specs.Octets.{FitSend}
use Rattle.law_sending.specs.ItemsSaid.{items_said, CarriesItems}
use Rattle.law_sending.proofs.SentReads.{sent_reads}

abbrev error_meant : Sender → ItemMeaning
error_meant by = record { identity = 0; long = false; octets = (16 + by.unknown) ∷ [] }

abbrev exit_meant : List ℕ → Sender → ItemMeaning
exit_meant s by = record { identity = 1; long = ltb 3 by.exit_len; octets = part s by.exit_start by.exit_len }

-- the items of a plain Ack, by what the record keeps
ack_said : (s : List ℕ) (again known bare : Bool) (by : Sender)
    → map (item_meaning (parts_in s by)) (items_of (ack_pdu false again (ack_items known bare by) by)) ≡ pick known [] (error_meant by ∷ []) ++ pick bare [] (exit_meant s by ∷ [])
unfolding ack_pdu ack_items
ack_said s again true true by = refl
ack_said s again true false by = refl
ack_said s again false true by = refl
ack_said s again false false by = refl

meant : (s : List ℕ) (send : Send) (by : Sender) → FitSend s send by → (meaning_of (parts_in s by) (sent_pdu send by)).items ≡ items_said s send by
unfolding meaning_of sent_pdu plain_pdu plain_ack ack_pdu items_said FitSend
meant s Nothing by f = absurd f
meant s (Invoke again) by f = refl
meant s (Tidok again) by f = refl
meant s (LastAck again) by f = ack_said s again (eqb by.unknown 0) (eqb by.exit_len 0) by
meant s (HoldOn again) by f = ack_said s again (eqb by.unknown 0) true by ∙ append-nil _
meant s (Tidve again) by f = refl
meant s (Result again) by f = refl
meant s (Abort kind reason) by f = refl

-- EACH PDU THAT WE SEND CARRIES JUST THE ITEMS THAT DOCUMENT 02 NAMES
pub items_carried : (s : List ℕ) (send : Send) (by : Sender) → FitSend s send by → CarriesItems s send by
items_carried s send by f = ap (λ (m : Meaning). m.items) (sent_reads s send by f) ∙ meant s send by f
