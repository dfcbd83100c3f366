-- The length that words say. The C interface: "header, Nack list, items and user data as the words say, whatever else is wrong with them".
use Rattle.std.specs.Prelude.{ℕ, ◌+◌, ◌*◌, min, List, eqb}
use Rattle.base_lists.specs.Seq.{pick, total}
use Rattle.codec_said.specs.Said.{word}

-- 01: "At most 16 items": how many there are places for
abbrev pub placed : ℕ → ℕ
placed count = min count 16

-- 01's table of types: a Result and an Ack have nothing after the TID, a Nack its count and list, the others one octet
unfoldable pub header_said : List ℕ → ℕ
header_said w = pick (eqb (word w 0) 2) 3 (pick (eqb (word w 0) 3) 3 (pick (eqb (word w 0) 7) (4 + word w 13) 4))

-- 01: "then 0 and a 2-bit length, or 1, two reserved bits and a length octet": one octet before the data, or two
abbrev pub form_length : ℕ → ℕ
form_length form = pick (eqb form 0) 1 2

-- the octets of item k: form and data
unfoldable pub item_length : List ℕ → ℕ → ℕ
item_length w k = form_length (word w (24 + 4 * k + 1)) + word w (24 + 4 * k + 3)

-- the length that 11 judges
unfoldable pub length_said : List ℕ → ℕ
length_said w = header_said w + word w 17 + total (item_length w) (placed (word w 15))
