-- The octets of a PDU (01, "Bytes on the air"; 002, 8.2 to 8.4). Items, Nack list and user data are parts of a source s.
use Rattle.std.specs.Prelude.{ℕ, ◌+◌, ◌*◌, ◌/◌, ◌%◌, ◌≤◌, ◌<◌, ◌≡◌, List, [], ◌∷◌, ◌++◌, Bool, true, false, length, take, ltb, eqb, Ok, Err}
use Rattle.base_lists.specs.Seq.{pick, bit, part}
use Rattle.base_numbers.specs.declared.Malformed.TheVariants.{D4, D5, D6, D7}
use Rattle.codec_items.specs.Items.{Verdict}
use Rattle.codec_items.specs.declared.Item.{Item}
use Rattle.codec_pdu.specs.Pdu.{bare_of}
use Rattle.codec_pdu.specs.declared.Kind.{Kind}
use Rattle.codec_pdu.specs.declared.Kind.TheVariants.{Invoke, Result, Ack, Abort, SegInvoke, SegResult, Nack, Wrong, Refused}
use Rattle.codec_pdu.specs.declared.Pdu.{Pdu}

-- 01's table of types: the number of a kind (0: it has none)
unfoldable pub type_number : Kind → ℕ
type_number (Invoke a b c v n u l) = 1
type_number (Result a b c) = 2
type_number (Ack a c) = 3
type_number (Abort t r) = 4
type_number (SegInvoke a b c p) = 5
type_number (SegResult a b c p) = 6
type_number (Nack c n l) = 7
type_number (Wrong d) = 0
type_number (Refused r) = 0

-- GTR, TTR and RID as three bits
abbrev pub three : Bool → Bool → Bool → ℕ
three a b c = bit a * 4 + bit b * 2 + bit c

-- 01's table of types: the three flags; reserved bits are written zero
unfoldable pub flags_of : Kind → ℕ
flags_of (Invoke a b c v n u l) = three a b c
flags_of (Result a b c) = three a b c
flags_of (Ack a c) = three a false c
flags_of (Abort t r) = t
flags_of (SegInvoke a b c p) = three a b c
flags_of (SegResult a b c p) = three a b c
flags_of (Nack c n l) = bit c
flags_of (Wrong d) = 0
flags_of (Refused r) = 0

-- 01's table of types: what stands after the TID
unfoldable pub extra_of : List ℕ → Kind → List ℕ
extra_of s (Invoke a b c v n u l) = (v * 64 + bit n * 32 + bit u * 16 + l) ∷ []
extra_of s (Result a b c) = []
extra_of s (Ack a c) = []
extra_of s (Abort t r) = r ∷ []
extra_of s (SegInvoke a b c p) = p ∷ []
extra_of s (SegResult a b c p) = p ∷ []
extra_of s (Nack c n l) = n ∷ part s l n
extra_of s (Wrong d) = []
extra_of s (Refused r) = []

-- 01: "First octet: CON, four bits of type, three flags; then the TID, high octet first"
unfoldable pub header_of_is : List ℕ → Bool → Kind → ℕ → List ℕ
header_of_is s con k tid = (bit con * 128 + type_number k * 8 + flags_of k) ∷ tid / 256 ∷ tid % 256 ∷ extra_of s k

-- an item's first octet h with CON and identity, by its form: "an item keeps its short or long form"
abbrev pub form_of : Bool → ℕ → ℕ → List ℕ → List ℕ
form_of true h len body = (h + 4) ∷ len ∷ body
form_of false h len body = (h + len) ∷ body

unfoldable pub item_octets : List ℕ → Bool → Item → List ℕ
item_octets s con it = form_of it.long (bit con * 128 + it.identity * 8) it.len (part s it.start it.len)

-- whether an item is followed by another: CON of the last item is `last`
abbrev pub followed : List Item → Bool → Bool
followed [] last = last
followed (it ∷ l) last = true

unfoldable pub items_octets : List ℕ → Bool → List Item → List ℕ
items_octets s last [] = []
items_octets s last (it ∷ l) = item_octets s (followed l last) it ++ items_octets s last l

-- the items of a PDU that there is room for
abbrev pub items_of : Pdu → List Item
items_of p = take p.count p.list

-- header, items, user data; the sixteenth item has CON set where more than 16 are said
unfoldable pub octets_of : List ℕ → Pdu → List ℕ
octets_of s p = header_of_is s (ltb 0 p.count) p.kind p.tid ++ (items_octets s (ltb 16 p.count) (items_of p) ++ part s p.start p.len)

-- the longest data of an item of the form
abbrev pub longest : Bool → ℕ
longest true = 255
longest false = 3

-- no field of the item is too wide for its place, and its data lies in s
pub record FitItem (s : List ℕ) (it : Item) : Type 0 where
  pub identity_fits : it.identity < 16
  pub len_fits : it.len ≤ longest it.long
  pub inside : it.start + it.len ≤ length s

unfoldable pub FitItems : List ℕ → List Item → Type 0
FitItems s [] = Unit
FitItems s (it ∷ l) = FitItem s it × FitItems s l

-- no field of the header is too wide for its place, and a Nack list lies in s
unfoldable pub FitKind : List ℕ → Kind → Type 0
FitKind s (Invoke a b c v n u l) = (v < 4) × (l < 4)
FitKind s (Result a b c) = Unit
FitKind s (Ack a c) = Unit
FitKind s (Abort t r) = t < 8
FitKind s (SegInvoke a b c p) = Unit
FitKind s (SegResult a b c p) = Unit
FitKind s (Nack c n l) = l + n ≤ length s
FitKind s (Wrong d) = ⊥
FitKind s (Refused r) = ⊥

-- 01: "D1 for a value too wide for its place": there is none, and all parts lie in the source
pub record Fit (s : List ℕ) (p : Pdu) : Type 0 where
  pub kind_fits : FitKind s p.kind
  pub tid_fits : p.tid < 65536
  pub list_full : length p.list ≡ 16
  pub items_fit : FitItems s (items_of p)
  pub user_fits : p.start + p.len ≤ length s

-- the first fault of two, in order
abbrev pub or_else : Verdict → Verdict → Verdict
or_else (Err d) v = Err d
or_else (Ok tt) v = v

-- 01: "D5 class 3; D6 abort type over 1", of fields that fit
unfoldable pub kind_fault : Kind → Verdict
kind_fault (Invoke a b c v n u l) = pick (eqb l 3) (Err D5) (Ok tt)
kind_fault (Result a b c) = Ok tt
kind_fault (Ack a c) = Ok tt
kind_fault (Abort t r) = pick (ltb 1 t) (Err D6) (Ok tt)
kind_fault (SegInvoke a b c p) = Ok tt
kind_fault (SegResult a b c p) = Ok tt
kind_fault (Nack c n l) = Ok tt
kind_fault (Wrong d) = Err d
kind_fault (Refused r) = Ok tt

-- 01: "D4 the sixteenth, complete, has CON set"; "D7 bytes left after Ack, Abort or Nack"
unfoldable pub rest_fault : Pdu → Verdict
rest_fault p =
    pick (ltb 16 p.count) (Err D4)
    (pick (bare_of p.kind) (pick (eqb p.len 0) (Ok tt) (Err D7)) (Ok tt))

-- 01: "The writer answers the same for fields that would read so", of a PDU that fits
unfoldable pub fault_of : Pdu → Verdict
fault_of p = or_else (kind_fault p.kind) (rest_fault p)
