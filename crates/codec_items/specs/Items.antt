-- Information items (01, "Bytes on the air"; 002, 8.4): what stands at a place, and the walk.
use Rattle.std.specs.Prelude.{ℕ, zero, suc, ◌+◌, ◌-◌, ◌/◌, ◌%◌, List, Bool, true, false, length, get_or, set, replicate, ltb, leb, eqb, Option, Some, None, Result, Ok, Err}
use Rattle.base_lists.specs.Seq.{pick}
use Rattle.base_numbers.specs.declared.Malformed.TheVariants.{D3, D4}
use Rattle.base_numbers.specs.declared.Malformed.{Malformed}
use Rattle.codec_items.specs.declared.Item.{Item}
use Rattle.codec_items.specs.declared.Got.{Got}

-- the item with first octet h whose len octets of data start at b: CON is bit 7, the identity bits 6 to 3
abbrev pub item_of : List ℕ → ℕ → Bool → ℕ → ℕ → Option Got
item_of s h long b len =
    pick (leb len (length s - b))
    (Some (record { item = record { identity = h / 8 % 16; long = long; start = b; len = len }; con = leb 128 h; next = b + len }))
    None

-- 01: "CON, identity (4), then 0 and a 2-bit length, or 1, two reserved bits and a length octet"
abbrev pub item_at : List ℕ → ℕ → Option Got
item_at s at =
    pick (ltb at (length s))
    (pick (eqb (get_or s at 0 / 4 % 2) 0)
    (item_of s (get_or s at 0) false (at + 1) (get_or s at 0 % 4))
    (pick (ltb (at + 1) (length s)) (item_of s (get_or s at 0) true (at + 1 + 1) (get_or s (at + 1) 0)) None))
    None

-- what stands in an unused place of a list of items
abbrev pub no_item : Item
no_item = record { identity = 0; long = false; start = 0; len = 0 }

-- whether something is sound, or how it is malformed
abbrev pub Verdict : Type 0
Verdict = Result Unit Malformed

-- what the walk finds: the items, how many they are and the place after them; or how they are malformed
pub record Items : Type 0 where
  pub verdict : Verdict
  pub count : ℕ
  pub end : ℕ
  pub list : List Item

-- no items, up to the place `end`
abbrev pub no_items_is : Verdict → ℕ → Items
no_items_is verdict end = record { verdict = verdict; count = 0; end = end; list = replicate 16 no_item }

-- what follows what stands at a place, where `left` items were permitted: `rest` is the walk with one fewer
abbrev pub after_item : ℕ → (ℕ → List Item → Items) → List Item → Option Got → Items
after_item left rest read None = no_items_is (Err D3) 0
after_item left rest read (Some got) =
    pick got.con
    (rest got.next (set read (16 - left) got.item))
    (record { verdict = Ok tt; count = 17 - left; end = got.next; list = set read (16 - left) got.item })

-- 01: "An item is followed by another as long as its own CON bit is set. At most 16 items": `left` are still permitted
unfoldable pub walk_from : ℕ → List ℕ → ℕ → List Item → Items
walk_from zero s at read = no_items_is (Err D4) 0
walk_from (suc k) s at read = after_item (suc k) (walk_from k s) read (item_at s at)
