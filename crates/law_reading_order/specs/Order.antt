-- The conditions D1 to D7, each on its own, and their order (01, "Malformed, in this order").
use Rattle.std.specs.Prelude.{ℕ, suc, ◌%◌, ◌<◌, ◌≤◌, ◌≡◌, List, [], ◌∷◌, true, ◌⊎◌, ◌↔◌, length, get_or}
use Rattle.base_layout.specs.Layout.{datagram_bound}
use Rattle.base_numbers.specs.declared.Malformed.{Malformed}
use Rattle.base_numbers.specs.declared.Malformed.TheVariants.{D1, D2, D3, D4, D5, D6, D7}
use Rattle.base_numbers.specs.declared.Refusal.TheVariants.{WrongLength}
use Rattle.codec_pdu.specs.declared.Kind.TheVariants.{Wrong, Refused}
use Rattle.codec_pdu.specs.Pdu.{sound_of, blank_pdu}
use Rattle.codec_reading.specs.Read.{type_of, pdu_of}
use Rattle.law_reading_order.specs.Layout.{fixed_length, item_end}

-- 01: "D2 type 0 or over 7"
abbrev pub WrongType : List ℕ → Type 0
WrongType s = (type_of s ≡ 0) ⊎ (7 < type_of s)

-- 01: "D1 fixed header cut short, Nack list included"
abbrev pub HeaderCut : List ℕ → Type 0
HeaderCut s = length s < fixed_length s

-- 01: "D5 class 3": the last two bits of an Invoke's fourth octet
abbrev pub ClassThree : List ℕ → Type 0
ClassThree s = (type_of s ≡ 1) × (get_or s 3 0 % 4 ≡ 3)

-- 01: "D6 abort type over 1": the three flags of an Abort
abbrev pub AbortTypeOver : List ℕ → Type 0
AbortTypeOver s = (type_of s ≡ 4) × (1 < get_or s 0 0 % 8)

-- 01, "Bits run from the most significant": CON is the first
abbrev pub Con : ℕ → Type 0
Con x = 128 ≤ x

-- 01: "If CON is set, information items follow": the place `at` is reached after k whole items, each with CON set
pub data Reached (s : List ℕ) : ℕ → ℕ → Type 0 where
  items_follow : Con (get_or s 0 0) → Reached s 0 (fixed_length s)
  another : {k at : ℕ} → Reached s k at → item_end s at ≤ length s → Con (get_or s at 0) → Reached s (suc k) (item_end s at)

-- 01: "D3 an item runs past the end", one of the sixteen that there may be
pub record ItemCut (s : List ℕ) : Type 0 where
  pub before : ℕ
  pub place : ℕ
  pub reached : Reached s before place
  pub permitted : before < 16
  pub cut : length s < item_end s place

-- 01: "D4 the sixteenth, complete, has CON set"
pub record TooMany (s : List ℕ) : Type 0 where
  pub place : ℕ
  pub reached : Reached s 16 place

-- the place after all items, which are whole and at most sixteen
pub data ItemsEnd (s : List ℕ) : ℕ → Type 0 where
  no_items : get_or s 0 0 < 128 → ItemsEnd s (fixed_length s)
  last_item : {k at : ℕ} → Reached s k at → k < 16 → item_end s at ≤ length s → get_or s at 0 < 128 → ItemsEnd s (item_end s at)

-- 01: "Ack, Abort or Nack"
abbrev pub Bare : ℕ → Type 0
Bare t = (t ≡ 3) ⊎ (t ≡ 4) ⊎ (t ≡ 7)

-- 01: "D7 bytes left after Ack, Abort or Nack"
pub record BytesLeft (s : List ℕ) : Type 0 where
  pub bare : Bare (type_of s)
  pub end : ℕ
  pub all : ItemsEnd s end
  pub left : end < length s

-- 01: "Malformed, in this order"
abbrev pub conditions : List ℕ → List (Type 0 × Malformed)
conditions s = (WrongType s, D2) ∷ (HeaderCut s, D1) ∷ (ClassThree s, D5) ∷ (AbortTypeOver s, D6) ∷ (ItemCut s, D3) ∷ (TooMany s, D4) ∷ (BytesLeft s, D7) ∷ []

-- d's condition holds and no earlier one does
abbrev pub First : List (Type 0 × Malformed) → Malformed → Type 0
First [] d = ⊥
First (c ∷ cs) d = (c.0 × (d ≡ c.1)) ⊎ ((c.0 → ⊥) × First cs d)

-- no condition holds
abbrev pub NoneHolds : List (Type 0 × Malformed) → Type 0
NoneHolds [] = Unit
NoneHolds (c ∷ cs) = (c.0 → ⊥) × NoneHolds cs

-- 01, number 11: "PDU length outside 1 to 1,500"
abbrev pub OutsideLength : List ℕ → Type 0
OutsideLength s = (length s < 1) ⊎ (datagram_bound < length s)

-- what the reader answers, exactly when: "The numbers of the table above come before these"
pub record InOrder (s : List ℕ) : Type 0 where
  pub refused : (pdu_of s ≡ blank_pdu (Refused WrongLength)) ↔ OutsideLength s
  pub malformed : (d : Malformed) → (pdu_of s ≡ blank_pdu (Wrong d)) ↔ ((OutsideLength s → ⊥) × First (conditions s) d)
  pub sound : (sound_of (pdu_of s).kind ≡ true) ↔ ((OutsideLength s → ⊥) × NoneHolds (conditions s))
