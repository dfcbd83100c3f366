-- The PDU that words say (the C interface, "Words of a PDU"), whatever is wrong with it: too wide a value is cut to its place.
use Rattle.std.specs.Prelude.{ℕ, ◌+◌, ◌*◌, ◌%◌, ◌<◌, ◌≡◌, List, Bool, length, get_or, eqb}
use Rattle.base_lists.specs.Seq.{pick, tab}
use Rattle.base_numbers.specs.declared.Malformed.TheVariants.{D2}
use Rattle.codec_items.specs.Items.{no_item}
use Rattle.codec_items.specs.declared.Item.{Item}
use Rattle.codec_pdu.specs.declared.Kind.{Kind}
use Rattle.codec_pdu.specs.declared.Kind.TheVariants.{Invoke, Result, Ack, Abort, SegInvoke, SegResult, Nack, Wrong, Refused}
use Rattle.codec_pdu.specs.declared.Pdu.{Pdu}

-- the C interface: the word i of a PDU
abbrev pub word : List ℕ → ℕ → ℕ
word w i = get_or w i 0

-- a flag is set where its word is 1
abbrev pub set? : List ℕ → ℕ → Bool
set? w i = eqb (word w i) 1

-- the C interface: "1 GTR, 2 TTR, 3 RID", "5 version, 6 TIDnew, 7 U/P, 8 class"
abbrev pub invoke_said : List ℕ → Kind
invoke_said w = Invoke (set? w 1) (set? w 2) (set? w 3) (word w 5 % 256) (set? w 6) (set? w 7) (word w 8 % 256)

-- the C interface: words 0 to 14, by the type; a type that there isn't is D2
unfoldable pub kind_said : List ℕ → Kind
kind_said w =
    pick (eqb (word w 0) 1) (invoke_said w)
    (pick (eqb (word w 0) 2) (Result (set? w 1) (set? w 2) (set? w 3))
    (pick (eqb (word w 0) 3) (Ack (set? w 9) (set? w 3))
    (pick (eqb (word w 0) 4) (Abort (word w 10 % 256) (word w 11 % 256))
    (pick (eqb (word w 0) 5) (SegInvoke (set? w 1) (set? w 2) (set? w 3) (word w 12 % 256))
    (pick (eqb (word w 0) 6) (SegResult (set? w 1) (set? w 2) (set? w 3) (word w 12 % 256))
    (pick (eqb (word w 0) 7) (Nack (set? w 3) (word w 13 % 256) (word w 14)) (Wrong D2)))))))

-- the C interface: "24 + 4k to 27 + 4k the item k: identity, 1 for the long form or 0, start and length of its data"
unfoldable pub item_said : List ℕ → ℕ → Item
item_said w k = record {
  identity = word w (24 + 4 * k) % 256;
  long = set? w (24 + 4 * k + 1);
  start = word w (24 + 4 * k + 2);
  len = word w (24 + 4 * k + 3);
}

-- 01: "At most 16 items": all 16 places
unfoldable pub items_said : List ℕ → List Item
items_said w = tab (item_said w) 16 0

-- the C interface: words 4, 15, 16 and 17 are TID, number of items, start and length of the user data
unfoldable pub pdu_said : List ℕ → Pdu
pdu_said w = record { kind = kind_said w; tid = word w 4 % 65536; count = word w 15; list = items_said w; start = word w 16; len = word w 17 }

-- every octet of a kind is one: the two kinds that are no PDU have no words
unfoldable pub NarrowKind : Kind → Type 0
NarrowKind (Invoke a b c v n u l) = (v < 256) × (l < 256)
NarrowKind (Result a b c) = Unit
NarrowKind (Ack a c) = Unit
NarrowKind (Abort t r) = (t < 256) × (r < 256)
NarrowKind (SegInvoke a b c p) = p < 256
NarrowKind (SegResult a b c p) = p < 256
NarrowKind (Nack c n l) = n < 256
NarrowKind (Wrong d) = ⊥
NarrowKind (Refused r) = ⊥

-- a PDU, each of whose numbers is as narrow as the type that holds it
pub record Narrow (p : Pdu) : Type 0 where
  pub kind_narrow : NarrowKind p.kind
  pub tid_narrow : p.tid < 65536
  pub list_full : length p.list ≡ 16
  pub identity_narrow : (k : ℕ) → k < 16 → (get_or p.list k no_item).identity < 256
