-- The octets of each PDU that is sent are those written out, and at most 1,028. Assumes nothing.
use Prim.Native.Nat.{ℕ, ◌+◌, ◌*◌, ◌%◌, ◌<◌, ◌≤◌}
use native.Mathlib.Omega.{arith}
use mathlib.Core.Path.{◌≡◌, refl, ap, ◌∙◌}
use mathlib.Core.List.{List, [], ◌∷◌, ◌++◌, append-nil}
use mathlib.Core.Bool.{Bool, true, false}
use lib.ListN.{length}
use lib.Dec.{ltb, eqb}
use Rattle.base_layout.specs.Layout.{exit_bound, output_least}
use Rattle.base_lists.specs.Seq.{pick, bit}
use Rattle.base_lists.proofs.StoresAndParts.{length_part}
use Rattle.table_record.specs.Record.{send_tid}
use Rattle.codec_encoding.specs.Write.{type_number, flags_of, extra_of, header_of_is, form_of, item_octets, items_octets, octets_of}
use Rattle.row_columns.specs.declared.Send.{Send}
use Rattle.row_columns.specs.declared.Send.TheVariants.{Nothing, Invoke, Tidok, LastAck, HoldOn, Tidve, Result, Abort}
use Rattle.step_sending.specs.declared.Sender.{Sender}
use Rattle.step_sending.specs.Sending.{tid_of, error_octet, parts_in, plain_pdu, ack_items, ack_pdu, plain_ack, sent_pdu}
use Rattle.step_sending.specs.Octets.{with_tid, message, exit, exit_octets, ack_octets, octets_sent, FitAck, FitSend}

-- a TID of 15 bits is sent whole
pub tid_whole : (by : Sender) → by.tid < 32768 → tid_of by ≡ send_tid by.role by.tid
unfolding tid_of
tid_whole by h = let e : by.tid % 32768 ≡ by.tid = omega arith in ap (send_tid by.role) e

pub exit_form : (long : Bool) (len : ℕ) (body : List ℕ) → form_of long 8 len body ≡ pick long (0x0C ∷ len ∷ body) ((0x08 + len) ∷ body)
exit_form true len body = refl
exit_form false len body = refl

exit_item_holds : (s : List ℕ) (by : Sender) → (form_of (ltb 3 by.exit_len) 8 by.exit_len (exit s by) ++ []) ++ [] ≡ exit_octets s by
exit_item_holds s by =
    append-nil _ ∙ append-nil _ ∙ exit_form (ltb 3 by.exit_len) by.exit_len (exit s by)

ack_octets_holds : (s : List ℕ) (again known bare : Bool) (by : Sender) → octets_of (parts_in s by) (ack_pdu false again (ack_items known bare by) by) ≡ ack_octets s again known bare by
unfolding ack_pdu ack_items octets_of header_of_is type_number flags_of extra_of items_octets item_octets ack_octets
ack_octets_holds s true true true by = refl
ack_octets_holds s false true true by = refl
ack_octets_holds s true true false by = ap (with_tid by 0x99) (exit_item_holds s by)
ack_octets_holds s false true false by = ap (with_tid by 0x98) (exit_item_holds s by)
ack_octets_holds s true false true by = refl
ack_octets_holds s false false true by = refl
ack_octets_holds s true false false by = ap (λ (x : List ℕ). with_tid by 0x99 (0x81 ∷ error_octet by ∷ x)) (exit_item_holds s by)
ack_octets_holds s false false false by = ap (λ (x : List ℕ). with_tid by 0x98 (0x81 ∷ error_octet by ∷ x)) (exit_item_holds s by)

-- version 0 leaves TIDnew, U/P and the class
invoke_octet_holds : (s : List ℕ) (by : Sender) (first : ℕ)
    → with_tid by first ((0 + bit by.tidnew * 32 + bit by.user_ack * 16 + by.class) ∷ message s by) ≡ with_tid by first ((bit by.tidnew * 32 + bit by.user_ack * 16 + by.class) ∷ message s by)
invoke_octet_holds s by first =
    let e : 0 + bit by.tidnew * 32 + bit by.user_ack * 16 + by.class ≡ bit by.tidnew * 32 + bit by.user_ack * 16 + by.class = omega arith in
    ap (λ (o : ℕ). with_tid by first (o ∷ message s by)) e

pub octets_are : (s : List ℕ) (send : Send) (by : Sender) → FitSend s send by → octets_of (parts_in s by) (sent_pdu send by) ≡ octets_sent s send by
unfolding sent_pdu plain_pdu plain_ack ack_pdu octets_of header_of_is type_number flags_of extra_of items_octets octets_sent FitSend
octets_are s Nothing by f = absurd f
octets_are s (Invoke true) by f = invoke_octet_holds s by 0x0F
octets_are s (Invoke false) by f = invoke_octet_holds s by 0x0E
octets_are s (Tidok true) by f = refl
octets_are s (Tidok false) by f = refl
octets_are s (LastAck again) by f = ack_octets_holds s again (eqb by.unknown 0) (eqb by.exit_len 0) by
octets_are s (HoldOn again) by f = ack_octets_holds s again (eqb by.unknown 0) true by
octets_are s (Tidve true) by f = refl
octets_are s (Tidve false) by f = refl
octets_are s (Result true) by f = refl
octets_are s (Result false) by f = refl
octets_are s (Abort kind reason) by f = refl

pub exit_length : (long : Bool) (len : ℕ) (body : List ℕ) → length body ≡ len → len ≤ exit_bound
    → length (pick long (0x0C ∷ len ∷ body) ((0x08 + len) ∷ body)) ≤ 130
exit_length true len body e h = omega arith
exit_length false len body e h = omega arith

pub exit_room : (s : List ℕ) (by : Sender) → by.exit_start + by.exit_len ≤ length s → by.exit_len ≤ exit_bound → length (exit_octets s by) ≤ 130
exit_room s by inside short = exit_length (ltb 3 by.exit_len) by.exit_len (exit s by) (length_part s by.exit_start by.exit_len inside) short

-- 02, L4: 3 octets of header, 2 of the Error item, 2 and 128 of exit information at most
pub ack_length : (s : List ℕ) (again known bare : Bool) (by : Sender) → FitAck s bare by → length (ack_octets s again known bare by) ≤ 135
unfolding ack_octets
ack_length s again true true by f = omega arith
ack_length s again false true by f = omega arith
ack_length s again true false by f = omega (arith, exit_room s by f.1.0 f.1.1)
ack_length s again false false by f = omega (arith, exit_room s by f.1.0 f.1.1)

pub sent_length : (s : List ℕ) (send : Send) (by : Sender) → FitSend s send by → length (octets_sent s send by) ≤ output_least
unfolding octets_sent FitSend
sent_length s Nothing by f = absurd f
sent_length s (Invoke again) by f = omega (arith, length_part s by.start by.len f.1, f.2)
sent_length s (Tidok again) by f = omega arith
sent_length s (LastAck again) by f = omega (arith, ack_length s again (eqb by.unknown 0) (eqb by.exit_len 0) by f)
sent_length s (HoldOn again) by f = omega (arith, ack_length s again (eqb by.unknown 0) true by f)
sent_length s (Tidve again) by f = omega arith
sent_length s (Result again) by f = omega (arith, length_part s by.start by.len f.0, f.1)
sent_length s (Abort kind reason) by f = omega arith
