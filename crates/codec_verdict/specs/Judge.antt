-- How the words of a PDU to be written are judged. The C interface: "In this order: 1 (sizes), D2, 11, D1, D5, D6, D3 and D4, D7".
use Rattle.std.specs.Prelude.{ℕ, ◌≤◌, ◌<◌, ◌≡◌, List, Bool, true, length, get_or, ltb, eqb, Ok, Err}
use Rattle.base_layout.specs.Layout.{datagram_bound}
use Rattle.base_lists.specs.Seq.{pick, every}
use Rattle.base_numbers.specs.declared.Malformed.TheVariants.{D1, D2, D3}
use Rattle.base_numbers.specs.declared.Refusal.TheVariants.{WrongLength}
use Rattle.codec_items.specs.Items.{Verdict, no_item}
use Rattle.codec_items.specs.declared.Item.{Item}
use Rattle.codec_pdu.specs.Pdu.{bare_of, blank_pdu}
use Rattle.codec_pdu.specs.declared.Kind.TheVariants.{Wrong, Refused}
use Rattle.codec_pdu.specs.declared.Pdu.{Pdu}
use Rattle.codec_said.specs.Said.{word, pdu_said, NarrowKind}
use Rattle.codec_encoding.specs.Write.{octets_of, Fit, or_else, kind_fault, rest_fault, fault_of}
use Rattle.codec_verdict.specs.Length.{placed, length_said}
use Rattle.codec_verdict.specs.Widths.{any, inside, fits}

-- the data of item k lies within n bytes
abbrev pub item_inside : ℕ → List Item → ℕ → Bool
item_inside n l k = inside n (get_or l k no_item).start (get_or l k no_item).len

-- of all items that there are places for
unfoldable pub items_inside : ℕ → List Item → ℕ → Bool
items_inside n l count = every (item_inside n l) (placed count)

-- the C interface: "D5, D6, D3 and D4, D7"; "D3 is an item whose data runs past BYTES, D4 a number of items over 16"
unfoldable pub fault_in : ℕ → Pdu → Verdict
fault_in n p = or_else (kind_fault p.kind) (pick (items_inside n p.list p.count) (rest_fault p) (Err D3))

-- the PDU where there is no fault, else the fault
abbrev pub ruled : Verdict → Pdu → Pdu
ruled (Err d) p = blank_pdu (Wrong d)
ruled (Ok tt) p = p

-- what 88 words and n bytes give: the PDU said, or the first reason not to write it
unfoldable pub judged_of : List ℕ → ℕ → Pdu
judged_of w n =
    pick (eqb (word w 0) 0) (blank_pdu (Wrong D2))
    (pick (ltb 7 (word w 0)) (blank_pdu (Wrong D2))
    (pick (ltb datagram_bound (length_said w)) (blank_pdu (Refused WrongLength))
    (pick (fits w n) (ruled (fault_in n (pdu_said w)) (pdu_said w)) (blank_pdu (Wrong D1)))))

-- a PDU that can be written from the source s
pub record Writable (s : List ℕ) (p : Pdu) : Type 0 where
  pub fit : Fit s p
  pub few : p.count ≤ 16
  pub sound : fault_of p ≡ Ok tt
  pub short : length (octets_of s p) ≤ datagram_bound

-- a PDU as the reader leaves one, with its parts in s: its octets are octets, and unused places hold nothing
pub record AsRead (s : List ℕ) (p : Pdu) : Type 0 where
  pub writable : Writable s p
  pub octets : NarrowKind p.kind
  pub unused : (k : ℕ) → p.count ≤ k → k < 16 → get_or p.list k no_item ≡ no_item
  pub no_data : bare_of p.kind ≡ true → p.start ≡ 0
  pub addressable : length s ≤ any
