-- The PDU that is sent (01, "Events", in the form of "Bytes on the air"), and where its parts lie.
use Rattle.std.specs.Prelude.{ℕ, suc, ◌+◌, ◌-◌, ◌%◌, List, [], ◌∷◌, ◌++◌, Bool, true, false, length, replicate, ltb, eqb}
use Rattle.base_layout.specs.Layout.{tid_count}
use Rattle.base_numbers.specs.declared.Malformed.TheVariants.{D2}
use Rattle.codec_items.specs.declared.Item.{Item}
use Rattle.codec_items.specs.Items.{no_item}
use Rattle.codec_pdu.specs.declared.Kind.{Kind}
use Rattle.codec_pdu.specs.declared.Kind.TheVariants as Kind
use Rattle.codec_pdu.specs.declared.Pdu.{Pdu}
use Rattle.codec_pdu.specs.Pdu.{blank_pdu}
use Rattle.table_record.specs.Record.{send_tid}
use Rattle.row_columns.specs.declared.Send.{Send}
use Rattle.row_columns.specs.declared.Send.TheVariants.{Nothing, Invoke, Tidok, LastAck, HoldOn, Tidve, Result, Abort}
use Rattle.step_sending.specs.declared.Sender.{Sender}
use Rattle.step_sending.specs.declared.Source.{Source}
use Rattle.step_sending.specs.declared.Source.TheVariants as Source

-- 01: "The top bit is 0 towards the responder, 1 towards the initiator", over the low 15 bits
unfoldable pub tid_of : Sender → ℕ
tid_of by = send_tid by.role (by.tid % tid_count)

-- 02, L4: "an Error item (8.4.2) naming it": error code 1 in the high half, the identity in the low half
abbrev pub error_octet : Sender → ℕ
error_octet by = 0x10 + by.unknown

-- where the parts of a PDU lie: that octet, then those of its source s
abbrev pub parts_in : List ℕ → Sender → List ℕ
parts_in s by = error_octet by ∷ s

-- a PDU without items: its user data is the len octets from start on
unfoldable pub plain_pdu : Kind → Sender → ℕ → ℕ → Pdu
plain_pdu kind by start len = record { kind = kind; tid = tid_of by; count = 0; list = replicate 16 no_item; start = start; len = len }

-- a PDU whose user data is the message
abbrev pub message_pdu : Kind → Sender → Pdu
message_pdu kind by = plain_pdu kind by (suc by.start) by.len

-- "We write [..] GTR = TTR = 1"; version 0; 02, L2: "Our initiator sets the flag" TIDnew where it is due; U/P is the user acknowledgement
abbrev pub invoke_kind : Bool → Sender → Kind
invoke_kind rid by = Kind.Invoke true true rid 0 by.tidnew by.user_ack by.class

-- 01: "We write exit information as Info item 1, short to length 3": in its source, and in `parts_in`
abbrev pub exit_in : ℕ → Sender → Item
exit_in start by = record { identity = 1; long = ltb 3 by.exit_len; start = start; len = by.exit_len }

abbrev pub exit_item : Sender → Item
exit_item by = exit_in by.exit_start by

-- 002, 8.4.2: the Error item, identity 0, of one octet
abbrev pub error_item : Item
error_item = record { identity = 0; long = false; start = 0; len = 1 }

-- the items of a plain Ack: 02, L4: "an Error item [..] before exit information"; `known` where the record keeps no identity, `bare` where there is no exit information
unfoldable pub ack_items : (known bare : Bool) → Sender → List Item
ack_items true true by = []
ack_items true false by = exit_in (suc by.exit_start) by ∷ []
ack_items false true by = error_item ∷ []
ack_items false false by = error_item ∷ exit_in (suc by.exit_start) by ∷ []

-- an Ack with these items
unfoldable pub ack_pdu : (tve rid : Bool) → List Item → Sender → Pdu
ack_pdu tve rid items by = record { kind = Kind.Ack tve rid; tid = tid_of by; count = length items; list = items ++ replicate (16 - length items) no_item; start = 0; len = 0 }

-- a plain Ack of a record: 02, L4: "the first hold-on or last Ack it then sends carries an Error item [..]; repeats of that Ack carry it too"
unfoldable pub plain_ack : (again bare : Bool) → Sender → Pdu
plain_ack again bare by = ack_pdu false again (ack_items (eqb by.unknown 0) bare by) by

-- there is no PDU of type 0 (01: "D2 type 0 or over 7")
abbrev pub no_pdu : Pdu
no_pdu = blank_pdu (Kind.Wrong D2)

-- the PDU to send, its parts in `parts_in`; `again`: "A repeat sets RID"
unfoldable pub sent_pdu : Send → Sender → Pdu
sent_pdu Nothing by = no_pdu
-- the message: "User data is the rest (types 1, 2, 5, 6)"
sent_pdu (Invoke again) by = message_pdu (invoke_kind again by) by
-- "3 Ack: Tve/Tok, reserved, RID": TIDok towards the responder, TIDve towards the initiator; 02, L4: "TIDve and TIDok stay as they were"
sent_pdu (Tidok again) by = ack_pdu true again [] by
-- the last Ack: exit information is an item where there is any
sent_pdu (LastAck again) by = plain_ack again (eqb by.exit_len 0) by
-- "hold-on Ack": a plain one without exit information
sent_pdu (HoldOn again) by = plain_ack again true by
sent_pdu (Tidve again) by = ack_pdu true again [] by
sent_pdu (Result again) by = message_pdu (Kind.Result true true again) by
-- "4 Abort: three bits: 0 provider, 1 user; reason octet"
sent_pdu (Abort kind reason) by = plain_pdu (Kind.Abort kind reason) by 0 0

-- the message: first as the call gives it, then from the record's cell
abbrev pub message_source : Bool → Source
message_source true = Source.Cell
message_source false = Source.Given

-- where the parts of the PDU lie
unfoldable pub source_of : Send → Source
source_of Nothing = Source.Nothing
source_of (Invoke again) = message_source again
source_of (Tidok again) = Source.Nothing
source_of (LastAck again) = Source.Table
source_of (HoldOn again) = Source.Nothing
source_of (Tidve again) = Source.Nothing
source_of (Result again) = message_source again
source_of (Abort kind reason) = Source.Nothing
