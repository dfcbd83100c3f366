-- 01: "Read then written, a PDU gives its bytes with reserved bits cleared; an item keeps its short or long form".
use Rattle.std.specs.Prelude.{ℕ, zero, suc, ◌-◌, ◌*◌, ◌/◌, ◌%◌, ◌≤◌, ◌<◌, ◌≡◌, List, ◌++◌, true, length, get_or, set, replicate, leb, eqb, Ok}
use Rattle.base_lists.specs.Seq.{pick}
use Rattle.codec_items.specs.Items.{no_item}
use Rattle.codec_pdu.specs.Pdu.{bare_of}
use Rattle.codec_reading.specs.Read.{type_of, pdu_of}
use Rattle.codec_encoding.specs.Write.{Fit, items_of, octets_of, fault_of}
use Rattle.law_reading_order.specs.Layout.{fixed_length, item_end}

-- an octet without its bit of weight w
abbrev pub without : ℕ → ℕ → ℕ
without w x = x - x / w % 2 * w

-- b with the bit of weight w of its octet i cleared
abbrev pub clear_bit : List ℕ → ℕ → ℕ → List ℕ
clear_bit b i w = set b i (without w (get_or b i 0))

-- 01's table of types: two reserved bits after an Invoke's TID, one reserved flag of an Ack, two of a Nack
unfoldable pub clear_header : ℕ → List ℕ → List ℕ
clear_header t b =
    pick (eqb t 1) (clear_bit (clear_bit b 3 8) 3 4)
    (pick (eqb t 3) (clear_bit b 0 2)
    (pick (eqb t 7) (clear_bit (clear_bit b 0 4) 0 2) b))

-- 01: "then 0 and a 2-bit length, or 1, two reserved bits and a length octet"
unfoldable pub clear_item : List ℕ → ℕ → List ℕ
clear_item b at = pick (eqb (get_or b at 0 / 4 % 2) 0) b (clear_bit (clear_bit b at 2) at 1)

-- 01: "An item is followed by another as long as its own CON bit is set": k items at most, from `at` on
unfoldable pub clear_items : ℕ → List ℕ → ℕ → List ℕ
clear_items zero b at = b
clear_items (suc k) b at = pick (leb 128 (get_or b at 0)) (clear_items k (clear_item b at) (item_end b at)) (clear_item b at)

-- the octets of a PDU with its reserved bits cleared, and everything else as it is
unfoldable pub cleared : List ℕ → List ℕ
cleared b = pick (leb 128 (get_or b 0 0)) (clear_items 16 (clear_header (type_of b) b) (fixed_length b)) (clear_header (type_of b) b)

-- every element is an octet
abbrev pub Octets : List ℕ → Type 0
Octets b = (i : ℕ) → i < length b → get_or b i 0 < 256

-- what was read may be written: all fields fit, nothing is malformed, and it takes the octets that it was read from
pub record Readable (b : List ℕ) : Type 0 where
  pub fits : Fit b (pdu_of b)
  pub few : (pdu_of b).count ≤ 16
  pub sound : fault_of (pdu_of b) ≡ Ok tt
  pub same_length : length (octets_of b (pdu_of b)) ≡ length b
  pub unused : (pdu_of b).list ≡ items_of (pdu_of b) ++ replicate (16 - (pdu_of b).count) no_item
  pub bare_start : bare_of (pdu_of b).kind ≡ true → (pdu_of b).start ≡ 0
  pub bare_len : bare_of (pdu_of b).kind ≡ true → (pdu_of b).len ≡ 0
