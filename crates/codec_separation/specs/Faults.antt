-- When a datagram can't be separated, said by its octets.
use Rattle.std.specs.Prelude.{ℕ, ◌+◌, ◌*◌, ◌%◌, ◌<◌, ◌≤◌, ◌≡◌, List, length, get_or}
use Rattle.base_layout.specs.Layout.{datagram_bound}

-- 01: "Length is 7 bits, or 15 after a leading 1": the length at `at` announces a PDU of len octets from start on
pub data Announced (d : List ℕ) (at : ℕ) : ℕ → ℕ → Type 0 where
  seven : at < length d → get_or d at 0 < 128 → Announced d at (at + 1) (get_or d at 0)
  fifteen : at + 1 < length d → 128 ≤ get_or d at 0 → Announced d at (at + 1 + 1) (get_or d at 0 % 128 * 256 + get_or d (at + 1) 0)

-- 01: "octet 0, then a length and a PDU, repeated": the place after some of them, each of an octet or more and all there
pub data Reached (d : List ℕ) : ℕ → Type 0 where
  first : Reached d 1
  next : {at start len : ℕ} → Reached d at → Announced d at start len → 1 ≤ len → start + len ≤ length d → Reached d (start + len)

-- 01, number 11: "length outside 1 to 1,500"; "Zero length, an overrun or no PDU"; a length that is cut
pub data Faulty (d : List ℕ) : Type 0 where
  empty : length d ≡ 0 → Faulty d
  over : datagram_bound < length d → Faulty d
  no_pdu_holds : get_or d 0 0 ≡ 0 → length d ≡ 1 → Faulty d
  zero_length : {at start : ℕ} → get_or d 0 0 ≡ 0 → Reached d at → Announced d at start 0 → Faulty d
  overrun : {at start len : ℕ} → get_or d 0 0 ≡ 0 → Reached d at → Announced d at start len → length d < start + len → Faulty d
  cut_length : {at : ℕ} → get_or d 0 0 ≡ 0 → Reached d at → at + 1 ≡ length d → 128 ≤ get_or d at 0 → Faulty d
