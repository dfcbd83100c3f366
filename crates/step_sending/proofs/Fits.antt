-- Each PDU that is sent fits its places, has no fault and is at most 1,028 octets long, so that the writer writes it. Assumes nothing.
use Prim.Native.Nat.{ℕ, suc, ◌+◌, ◌%◌, ◌<◌, ◌≤◌}
use native.Mathlib.Omega.{arith}
use borrow.Author.Tests.{ltb-false, le-ltb, ne_eqb}
use mathlib.Core.Path.{◌≡◌, refl, ap}
use mathlib.Core.List.{List, []}
use mathlib.Core.Bool.{Bool, true, false}
use lib.ListN.{length}
use lib.Dec.{ltb, eqb}
use Rattle.base_layout.specs.Layout.{exit_bound}
use Rattle.std.specs.Prelude.{Ok}
use Rattle.codec_pdu.specs.Pdu.{bare_of}
use Rattle.codec_pdu.specs.declared.Kind.{Kind}
use Rattle.codec_pdu.specs.declared.Kind.TheVariants as Kind
use Rattle.codec_pdu.specs.declared.Pdu.{Pdu}
use Rattle.table_record.specs.declared.Role.{Role}
use Rattle.table_record.specs.declared.Role.TheVariants.{Initiator, Responder}
use Rattle.table_record.specs.Record.{send_tid}
use Rattle.codec_encoding.specs.Write.{longest, FitItem, FitItems, FitKind, Fit, kind_fault, rest_fault, fault_of}
use Rattle.row_columns.specs.declared.Send.{Send}
use Rattle.row_columns.specs.declared.Send.TheVariants.{Nothing, Invoke, Tidok, LastAck, HoldOn, Tidve, Result, Abort}
use Rattle.step_sending.specs.declared.Sender.{Sender}
use Rattle.step_sending.specs.Sending.{tid_of, parts_in, plain_pdu, exit_in, error_item, ack_items, ack_pdu, plain_ack, sent_pdu}
use Rattle.step_sending.specs.Octets.{FitAck, FitSend, Sendable}
use Rattle.step_sending.proofs.Octets.{octets_are, sent_length}

send_tid_fits : (role : Role) (t : ℕ) → t < 32768 → send_tid role t < 65536
send_tid_fits Initiator t h = omega arith
send_tid_fits Responder t h = omega arith

tid_fits : (by : Sender) → tid_of by < 65536
unfolding tid_of
tid_fits by = send_tid_fits by.role (by.tid % 32768) (omega arith)

plain_fits : (s : List ℕ) (kind : Kind) (by : Sender) (start len : ℕ) → FitKind s kind → start + len ≤ length s → Fit s (plain_pdu kind by start len)
unfolding plain_pdu FitItems
plain_fits s kind by start len k h = record { kind_fits = k; tid_fits = tid_fits by; list_full = refl; items_fit = tt; user_fits = h }

short_enough : (long : Bool) (len : ℕ) → ltb 3 len ≡ long → len ≤ exit_bound → len ≤ longest long
short_enough true len e h = omega arith
short_enough false len e h = ltb-false 3 len e

pub exit_fits : (s : List ℕ) (start : ℕ) (by : Sender) → start + by.exit_len ≤ length s → by.exit_len ≤ exit_bound → FitItem s (exit_in start by)
exit_fits s start by inside short = record { identity_fits = omega arith; len_fits = short_enough (ltb 3 by.exit_len) by.exit_len refl short; inside = inside }

error_fits : (s : List ℕ) (by : Sender) → FitItem (parts_in s by) error_item
error_fits s by = record { identity_fits = omega arith; len_fits = omega arith; inside = omega arith }

-- exit information lies one place further in `parts_in`
behind_fits : (s : List ℕ) (by : Sender) → by.exit_start + by.exit_len ≤ length s → by.exit_len ≤ exit_bound → FitItem (parts_in s by) (exit_in (suc by.exit_start) by)
behind_fits s by inside short = exit_fits (parts_in s by) (suc by.exit_start) by (omega (arith, inside)) short

-- an Ack's items lie where `parts_in` has them
ack_fits : (s : List ℕ) (again known bare : Bool) (by : Sender) → FitAck s bare by → Fit (parts_in s by) (ack_pdu false again (ack_items known bare by) by)
unfolding ack_pdu ack_items FitItems FitKind
ack_fits s again true true by f = record { kind_fits = tt; tid_fits = tid_fits by; list_full = refl; items_fit = tt; user_fits = omega arith }
ack_fits s again false true by f = record { kind_fits = tt; tid_fits = tid_fits by; list_full = refl; items_fit = (error_fits s by, tt); user_fits = omega arith }
ack_fits s again true false by f = record { kind_fits = tt; tid_fits = tid_fits by; list_full = refl; items_fit = (behind_fits s by f.1.0 f.1.1, tt); user_fits = omega arith }
ack_fits s again false false by f = record { kind_fits = tt; tid_fits = tid_fits by; list_full = refl; items_fit = (error_fits s by, (behind_fits s by f.1.0 f.1.1, tt)); user_fits = omega arith }

tid_ack_fits : (s : List ℕ) (again : Bool) (by : Sender) → Fit (parts_in s by) (ack_pdu true again [] by)
unfolding ack_pdu FitItems FitKind
tid_ack_fits s again by = record { kind_fits = tt; tid_fits = tid_fits by; list_full = refl; items_fit = tt; user_fits = omega arith }

pub sent_fits : (s : List ℕ) (send : Send) (by : Sender) → FitSend s send by → Fit (parts_in s by) (sent_pdu send by)
unfolding sent_pdu plain_ack FitSend FitKind
sent_fits s Nothing by f = absurd f
sent_fits s (Invoke again) by f = plain_fits (parts_in s by) _ by (suc by.start) by.len (omega arith, omega (arith, f.0)) (omega (arith, f.1))
sent_fits s (Tidok again) by f = tid_ack_fits s again by
sent_fits s (LastAck again) by f = ack_fits s again (eqb by.unknown 0) (eqb by.exit_len 0) by f
sent_fits s (HoldOn again) by f = ack_fits s again (eqb by.unknown 0) true by f
sent_fits s (Tidve again) by f = tid_ack_fits s again by
sent_fits s (Result again) by f = plain_fits (parts_in s by) _ by (suc by.start) by.len tt (omega (arith, f.0))
sent_fits s (Abort kind reason) by f = plain_fits (parts_in s by) _ by 0 0 (omega (arith, f)) (omega arith)

-- at most two items, and no fault
abbrev Right : Pdu → Type 0
Right p = (p.count ≤ 16) × (fault_of p ≡ Ok tt)

ack_right : (again known bare : Bool) (by : Sender) → Right (ack_pdu false again (ack_items known bare by) by)
unfolding ack_pdu ack_items fault_of kind_fault rest_fault bare_of
ack_right again true true by = (omega arith, refl)
ack_right again false true by = (omega arith, refl)
ack_right again true false by = (omega arith, refl)
ack_right again false false by = (omega arith, refl)

class_right : (s : List ℕ) (again : Bool) (by : Sender) → FitSend s (Invoke again) by → eqb by.class 3 ≡ false
unfolding FitSend
class_right s again by f = ne_eqb by.class 3 (λ e. absurd (omega (arith, f.0, e)))

pub sent_right : (s : List ℕ) (send : Send) (by : Sender) → FitSend s send by → Right (sent_pdu send by)
unfolding sent_pdu plain_pdu plain_ack ack_pdu fault_of kind_fault rest_fault bare_of FitSend
sent_right s Nothing by f = absurd f
sent_right s (Invoke again) by f = (omega arith, rw (class_right s again by f))
sent_right s (Tidok again) by f = (omega arith, refl)
sent_right s (LastAck again) by f = ack_right again (eqb by.unknown 0) (eqb by.exit_len 0) by
sent_right s (HoldOn again) by f = ack_right again (eqb by.unknown 0) true by
sent_right s (Tidve again) by f = (omega arith, refl)
sent_right s (Result again) by f = (omega arith, refl)
sent_right s (Abort kind reason) by f = (omega arith, rw (le-ltb 1 kind f))

pub sendable : (s : List ℕ) (send : Send) (by : Sender) → FitSend s send by → Sendable (parts_in s by) (sent_pdu send by)
sendable s send by f = record {
  fits = sent_fits s send by f;
  items_listed = (sent_right s send by f).0;
  no_fault = (sent_right s send by f).1;
  room_enough = omega (arith, ap length (octets_are s send by f), sent_length s send by f);
}
