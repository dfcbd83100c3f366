-- What a PDU that was written reads back as (01, "Bytes on the air"; demand 2: each PDU we can write reads back as itself).
use Rattle.std.specs.Prelude.{ℕ, ◌+◌, ◌-◌, List, [], ◌∷◌, ◌++◌, map, Bool, true, false, length, replicate, ltb, Ok, Err}
use Rattle.base_lists.specs.Seq.{pick, part}
use Rattle.codec_items.specs.Items.{Verdict, no_item}
use Rattle.codec_items.specs.declared.Item.{Item}
use Rattle.codec_pdu.specs.Pdu.{bare_of, blank_pdu}
use Rattle.codec_pdu.specs.declared.Kind.{Kind}
use Rattle.codec_pdu.specs.declared.Kind.TheVariants.{Invoke, Result, Ack, Abort, SegInvoke, SegResult, Nack, Wrong, Refused}
use Rattle.codec_pdu.specs.declared.Pdu.{Pdu}
use Rattle.codec_encoding.specs.Write.{header_of_is, items_octets, items_of, fault_of}

-- the kind with a Nack's list of packet numbers at another place
unfoldable pub kind_at : ℕ → Kind → Kind
kind_at at (Invoke a b c v n u l) = Invoke a b c v n u l
kind_at at (Result a b c) = Result a b c
kind_at at (Ack a c) = Ack a c
kind_at at (Abort t r) = Abort t r
kind_at at (SegInvoke a b c p) = SegInvoke a b c p
kind_at at (SegResult a b c p) = SegResult a b c p
kind_at at (Nack c n l) = Nack c n at
kind_at at (Wrong d) = Wrong d
kind_at at (Refused r) = Refused r

-- the octets of an item before its data: one in the short form, two in the long
abbrev pub lead : Bool → ℕ
lead true = 2
lead false = 1

-- an item whose first octet is octet `at`
abbrev pub item_placed : ℕ → Item → Item
item_placed at it = record { identity = it.identity; long = it.long; start = at + lead it.long; len = it.len }

-- items one after another from octet `at` on
unfoldable pub items_placed : ℕ → List Item → List Item
items_placed at [] = []
items_placed at (it ∷ l) = item_placed at it ∷ items_placed (at + (lead it.long + it.len)) l

-- where the items start: after the header
abbrev pub items_start : List ℕ → Pdu → ℕ
items_start s p = length (header_of_is s (ltb 0 p.count) p.kind p.tid)

-- where the user data starts: after the items
abbrev pub user_start : List ℕ → Pdu → ℕ
user_start s p = items_start s p + length (items_octets s (ltb 16 p.count) (items_of p))

-- the PDU p of the source s with its places counted from the first octet of what is written; Ack, Abort and Nack have no user data, at 0
unfoldable pub placed : List ℕ → Pdu → Pdu
placed s p = record {
  kind = kind_at 4 p.kind;
  tid = p.tid;
  count = p.count;
  list = items_placed (items_start s p) (items_of p) ++ replicate (16 - p.count) no_item;
  start = pick (bare_of p.kind) 0 (user_start s p);
  len = p.len;
}

-- what p reads as, by the fault of its fields: malformed, or p
abbrev pub read_by : Verdict → List ℕ → Pdu → Pdu
read_by (Err d) s p = blank_pdu (Wrong d)
read_by (Ok tt) s p = placed s p

-- 01: "The writer answers the same for fields that would read so": what p, once written, reads as
unfoldable pub read_as_is : List ℕ → Pdu → Pdu
read_as_is s p = read_by (fault_of p) s p

-- what an item says, wherever it lies: "an item keeps its short or long form"
pub record ItemMeaning : Type 0 where
  pub identity : ℕ
  pub long : Bool
  pub octets : List ℕ

-- what a PDU says, wherever its parts lie
pub record Meaning : Type 0 where
  pub kind : Kind
  pub tid : ℕ
  pub nacks : List ℕ
  pub items : List ItemMeaning
  pub user : List ℕ

-- what an item of the source s says
abbrev pub item_meaning : List ℕ → Item → ItemMeaning
item_meaning s it = record { identity = it.identity; long = it.long; octets = part s it.start it.len }

-- 01: "count N, then N packet numbers", of a Nack
unfoldable pub nacks_of : List ℕ → Kind → List ℕ
nacks_of s (Invoke a b c v n u l) = []
nacks_of s (Result a b c) = []
nacks_of s (Ack a c) = []
nacks_of s (Abort t r) = []
nacks_of s (SegInvoke a b c p) = []
nacks_of s (SegResult a b c p) = []
nacks_of s (Nack c n l) = part s l n
nacks_of s (Wrong d) = []
nacks_of s (Refused r) = []

-- what the PDU p of the source s says
unfoldable pub meaning_of : List ℕ → Pdu → Meaning
meaning_of s p = record {
  kind = kind_at 0 p.kind;
  tid = p.tid;
  nacks = nacks_of s p.kind;
  items = map (item_meaning s) (items_of p);
  user = part s p.start p.len;
}
