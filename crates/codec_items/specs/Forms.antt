-- The two forms of an item (01, "Bytes on the air"), by its octets.
use Rattle.std.specs.Prelude.{ℕ, ◌+◌, ◌/◌, ◌%◌, ◌≤◌, ◌≡◌, List, Bool, true, false, length, get_or, leb}
use Rattle.codec_items.specs.declared.Item.{Item}

-- 01: "then 0 and a 2-bit length": an item of the short form at `at`
pub record Short (s : List ℕ) (at : ℕ) (it : Item) (con : Bool) (next : ℕ) : Type 0 where
  pub form : get_or s at 0 / 4 % 2 ≡ 0
  pub item : it ≡ record { identity = get_or s at 0 / 8 % 16; long = false; start = at + 1; len = get_or s at 0 % 4 }
  pub more : con ≡ leb 128 (get_or s at 0)
  pub ends : next ≡ at + 1 + get_or s at 0 % 4
  pub inside : at + 1 + get_or s at 0 % 4 ≤ length s

-- 01: "or 1, two reserved bits and a length octet": an item of the long form
pub record Long (s : List ℕ) (at : ℕ) (it : Item) (con : Bool) (next : ℕ) : Type 0 where
  pub form : get_or s at 0 / 4 % 2 ≡ 0 → ⊥
  pub item : it ≡ record { identity = get_or s at 0 / 8 % 16; long = true; start = at + 1 + 1; len = get_or s (at + 1) 0 }
  pub more : con ≡ leb 128 (get_or s at 0)
  pub ends : next ≡ at + 1 + 1 + get_or s (at + 1) 0
  pub inside : at + 1 + 1 + get_or s (at + 1) 0 ≤ length s
