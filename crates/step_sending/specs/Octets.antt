-- The octets that are sent, written out (01, "Bytes on the air"), and what a sender owes for them.
use Rattle.std.specs.Prelude.{ℕ, ◌+◌, ◌*◌, ◌/◌, ◌%◌, ◌≤◌, ◌<◌, ◌≡◌, List, [], ◌∷◌, Bool, true, false, length, ltb, eqb, Ok}
use Rattle.base_layout.specs.Layout.{exit_bound, cell_size, output_least}
use Rattle.base_lists.specs.Seq.{pick, bit, part}
use Rattle.codec_pdu.specs.declared.Pdu.{Pdu}
use Rattle.codec_encoding.specs.Write.{Fit, fault_of, octets_of}
use Rattle.row_columns.specs.declared.Send.{Send}
use Rattle.row_columns.specs.declared.Send.TheVariants.{Nothing, Invoke, Tidok, LastAck, HoldOn, Tidve, Result, Abort}
use Rattle.step_sending.specs.declared.Sender.{Sender}
use Rattle.step_sending.specs.Sending.{tid_of, error_octet}

-- the first octet, then "the TID, high octet first", then the rest
abbrev pub with_tid : Sender → ℕ → List ℕ → List ℕ
with_tid by first rest = first ∷ tid_of by / 256 ∷ tid_of by % 256 ∷ rest

-- the message in its source, and the exit information in its own
abbrev pub message : List ℕ → Sender → List ℕ
message s by = part s by.start by.len

abbrev pub exit : List ℕ → Sender → List ℕ
exit s by = part s by.exit_start by.exit_len

-- Info item 1: 08 + length to length 3, else 0C and the length
abbrev pub exit_octets : List ℕ → Sender → List ℕ
exit_octets s by = pick (ltb 3 by.exit_len) (0x0C ∷ by.exit_len ∷ exit s by) ((0x08 + by.exit_len) ∷ exit s by)

-- 02, L4: the first octet of "an Error item (8.4.2)", identity 0, short, length 1; CON where exit information follows
abbrev pub error_head : Bool → ℕ
error_head true = 0x01
error_head false = 0x81

-- a plain Ack's octets: `known` where the record keeps no identity, `bare` where there is no exit information; 02, L4: "naming it, before exit information"
unfoldable pub ack_octets : List ℕ → (again known bare : Bool) → Sender → List ℕ
ack_octets s again true true by = with_tid by (0x18 + bit again) []
ack_octets s again true false by = with_tid by (0x98 + bit again) (exit_octets s by)
ack_octets s again false true by = with_tid by (0x98 + bit again) (error_head true ∷ error_octet by ∷ [])
ack_octets s again false false by = with_tid by (0x98 + bit again) (error_head false ∷ error_octet by ∷ exit_octets s by)

-- a repeat's first octet is one more: "A repeat sets RID"
unfoldable pub octets_sent : List ℕ → Send → Sender → List ℕ
octets_sent s Nothing by = []
octets_sent s (Invoke again) by = with_tid by (0x0E + bit again) ((bit by.tidnew * 32 + bit by.user_ack * 16 + by.class) ∷ message s by)
octets_sent s (Tidok again) by = with_tid by (0x1C + bit again) []
octets_sent s (LastAck again) by = ack_octets s again (eqb by.unknown 0) (eqb by.exit_len 0) by
octets_sent s (HoldOn again) by = ack_octets s again (eqb by.unknown 0) true by
octets_sent s (Tidve again) by = with_tid by (0x1C + bit again) []
octets_sent s (Result again) by = with_tid by (0x16 + bit again) (message s by)
octets_sent s (Abort kind reason) by = with_tid by (0x20 + kind) (reason ∷ [])

-- exit information, where there is any, lies in s and is within its limit
abbrev pub FitExit : List ℕ → (bare : Bool) → Sender → Type 0
FitExit s true by = Unit
FitExit s false by = (by.exit_start + by.exit_len ≤ length s) × (by.exit_len ≤ exit_bound)

-- an identity has four bits
abbrev pub FitAck : List ℕ → (bare : Bool) → Sender → Type 0
FitAck s bare by = (by.unknown < 16) × FitExit s bare by

-- there is a PDU to send, its class or abort type is one of 01's, and its parts are within their limits and lie in s
unfoldable pub FitSend : List ℕ → Send → Sender → Type 0
FitSend s Nothing by = ⊥
FitSend s (Invoke again) by = (by.class ≤ 2) × (by.start + by.len ≤ length s) × (by.len ≤ cell_size)
FitSend s (Tidok again) by = Unit
FitSend s (LastAck again) by = FitAck s (eqb by.exit_len 0) by
FitSend s (HoldOn again) by = FitAck s true by
FitSend s (Tidve again) by = Unit
FitSend s (Result again) by = (by.start + by.len ≤ length s) × (by.len ≤ cell_size)
FitSend s (Abort kind reason) by = kind ≤ 1

-- the writer writes it, within the 1,028 octets of output that a call asks for
pub record Sendable (s : List ℕ) (p : Pdu) : Type 0 where
  pub fits : Fit s p
  pub items_listed : p.count ≤ 16
  pub no_fault : fault_of p ≡ Ok tt
  pub room_enough : length (octets_of s p) ≤ output_least
