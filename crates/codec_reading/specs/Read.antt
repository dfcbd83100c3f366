-- Reading a PDU (01, "Bytes on the air"; 002, 8.2 and 8.3).
use Rattle.std.specs.Prelude.{ℕ, ◌+◌, ◌-◌, ◌/◌, ◌%◌, List, Bool, false, length, get_or, replicate, ltb, leb, eqb, Ok, Err}
use Rattle.base_layout.specs.Layout.{datagram_bound}
use Rattle.base_lists.specs.Seq.{pick}
use Rattle.base_numbers.specs.declared.Malformed.TheVariants.{D1, D2, D5, D6, D7}
use Rattle.base_numbers.specs.declared.Malformed.{Malformed}
use Rattle.base_numbers.specs.declared.Refusal.TheVariants.{WrongLength}
use Rattle.base_tids.specs.Tids.{received_tid}
use Rattle.codec_items.specs.Items.{Verdict, Items, walk_from, no_item, no_items_is}
use Rattle.codec_pdu.specs.Pdu.{sound_of, bare_of, blank_pdu}
use Rattle.codec_pdu.specs.declared.Kind.{Kind}
use Rattle.codec_pdu.specs.declared.Kind.TheVariants.{Invoke, Result, Ack, Abort, SegInvoke, SegResult, Nack, Wrong, Refused}
use Rattle.codec_reading.specs.declared.Head.{Head}
use Rattle.codec_pdu.specs.declared.Pdu.{Pdu}

-- the flag of weight w in an octet; the lowest is weight 1
abbrev pub flag : ℕ → ℕ → Bool
flag w x = eqb (x / w % 2) 1

abbrev pub lowest : ℕ → Bool
lowest x = eqb (x % 2) 1

-- 01's table of types: the flags f and the octet x after the TID (0 where there is none); class 3 is D5, abort type over 1 is D6
unfoldable pub kind_of : ℕ → ℕ → ℕ → Kind
kind_of t f x =
    pick (eqb t 1) (pick (eqb (x % 4) 3) (Wrong D5) (Invoke (flag 4 f) (flag 2 f) (lowest f) (x / 64) (flag 32 x) (flag 16 x) (x % 4)))
    (pick (eqb t 2) (Result (flag 4 f) (flag 2 f) (lowest f))
    (pick (eqb t 3) (Ack (flag 4 f) (lowest f))
    (pick (eqb t 4) (pick (ltb 1 f) (Wrong D6) (Abort f x))
    (pick (eqb t 5) (SegInvoke (flag 4 f) (flag 2 f) (lowest f) x)
    (pick (eqb t 6) (SegResult (flag 4 f) (flag 2 f) (lowest f) x)
    (pick (eqb t 7) (Nack (lowest f) x 4) (Wrong D2)))))))

-- no header, for the reason d
abbrev pub bad_head : Malformed → Head
bad_head d = record { kind = Wrong d; con = false; tid = record { 0 = 0 }; end = 0 }

-- 01: "First octet: CON, four bits of type, three flags; then the TID, high octet first"
abbrev pub type_of : List ℕ → ℕ
type_of s = get_or s 0 0 / 8 % 16

abbrev pub good_head : List ℕ → ℕ → ℕ → ℕ → Head
good_head s t x end = record {
  kind = kind_of t (get_or s 0 0 % 8) x;
  con = leb 128 (get_or s 0 0);
  tid = received_tid (get_or s 1 0) (get_or s 2 0);
  end = end;
}

-- a fixed header of four octets or, of a Nack, of its list too
abbrev pub long_head : List ℕ → Head
long_head s =
    pick (ltb (length s) 4) (bad_head D1)
    (pick (eqb (type_of s) 7)
    (pick (ltb (length s) (get_or s 3 0 + 4)) (bad_head D1) (good_head s 7 (get_or s 3 0) (get_or s 3 0 + 4)))
    (good_head s (type_of s) (get_or s 3 0) 4))

-- 01: "D2 type 0 or over 7; D1 fixed header cut short, Nack list included"
unfoldable pub head_of : List ℕ → Head
head_of s =
    pick (eqb (type_of s) 0) (bad_head D2)
    (pick (ltb 7 (type_of s)) (bad_head D2)
    (pick (ltb (length s) 3) (bad_head D1)
    (pick (eqb (type_of s) 2) (good_head s 2 0 3)
    (pick (eqb (type_of s) 3) (good_head s 3 0 3)
    (long_head s)))))

-- a PDU of a header and its items, whose user data starts at `start`
abbrev pub whole : Head → Items → ℕ → ℕ → Pdu
whole h i start len = record { kind = h.kind; tid = h.tid.0; count = i.count; list = i.list; start = start; len = len }

-- what the items' verdict leaves: a fault of theirs; else the user data, or D7 for bytes left after Ack, Abort or Nack
abbrev pub finish_by : Verdict → List ℕ → Head → Items → Pdu
finish_by (Err d) s h i = blank_pdu (Wrong d)
finish_by (Ok tt) s h i =
    pick (bare_of h.kind)
    (pick (eqb (length s - i.end) 0) (whole h i 0 0) (blank_pdu (Wrong D7)))
    (whole h i i.end (length s - i.end))

unfoldable pub finished : List ℕ → Head → Items → Pdu
finished s h i = finish_by i.verdict s h i

-- 01: "If CON is set, information items follow", at most 16
unfoldable pub items_after : List ℕ → Head → Items
items_after s h = pick h.con (walk_from 16 s h.end (replicate 16 no_item)) (no_items_is (Ok tt) h.end)

-- what follows the fixed header
unfoldable pub after_head : List ℕ → Head → Pdu
after_head s h = pick (sound_of h.kind) (finished s h (items_after s h)) (blank_pdu h.kind)

-- the PDU that s holds; 01: number 11 for a "PDU length outside 1 to 1,500", before what is malformed
unfoldable pub pdu_of : List ℕ → Pdu
pdu_of s =
    pick (eqb (length s) 0) (blank_pdu (Refused WrongLength))
    (pick (ltb datagram_bound (length s)) (blank_pdu (Refused WrongLength))
    (after_head s (head_of s)))
