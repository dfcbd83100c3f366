-- Where the parts of a PDU lie (01, "Bytes on the air").
use Rattle.std.specs.Prelude.{ℕ, ◌+◌, ◌/◌, ◌%◌, List, get_or, eqb}
use Rattle.base_lists.specs.Seq.{pick}
use Rattle.codec_reading.specs.Read.{type_of}

-- 01's table of types: after the TID stands nothing (2, 3), a count x and x packet numbers (7), or one octet x
unfoldable pub header_length : ℕ → ℕ → ℕ
header_length t x = pick (eqb t 2) 3 (pick (eqb t 3) 3 (pick (eqb t 7) (x + 4) 4))

-- the length of the fixed header
abbrev pub fixed_length : List ℕ → ℕ
fixed_length s = header_length (type_of s) (get_or s 3 0)

-- 01: "then 0 and a 2-bit length, or 1, two reserved bits and a length octet": the place after the item at `at`
unfoldable pub item_end : List ℕ → ℕ → ℕ
item_end s at = pick (eqb (get_or s at 0 / 4 % 2) 0) (at + 1 + get_or s at 0 % 4) (at + 2 + get_or s (at + 1) 0)
