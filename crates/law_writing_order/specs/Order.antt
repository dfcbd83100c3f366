-- Why words are not written, each reason on its own, and their order. The C interface: "In this order: 1 (sizes), D2, 11, D1, D5, D6, D3 and D4, D7".
use Rattle.std.specs.Prelude.{ℕ, ◌+◌, ◌*◌, ◌≤◌, ◌<◌, ◌≡◌, List, [], ◌∷◌, ◌⊎◌}
use Rattle.base_layout.specs.Layout.{datagram_bound}
use Rattle.base_numbers.specs.declared.Malformed.TheVariants.{D1, D2, D3, D4, D5, D6, D7}
use Rattle.base_numbers.specs.declared.Refusal.TheVariants.{WrongLength}
use Rattle.codec_pdu.specs.Pdu.{blank_pdu}
use Rattle.codec_pdu.specs.declared.Kind.{Kind}
use Rattle.codec_pdu.specs.declared.Kind.TheVariants.{Wrong, Refused}
use Rattle.codec_pdu.specs.declared.Pdu.{Pdu}
use Rattle.codec_said.specs.Said.{word}
use Rattle.codec_verdict.specs.Length.{length_said}
use Rattle.codec_verdict.specs.Widths.{widest}

-- 01: "D2 type 0 or over 7"
abbrev pub WrongType : List ℕ → Type 0
WrongType w = (word w 0 ≡ 0) ⊎ (7 < word w 0)

-- 01: number 11 for a "PDU length outside 1 to 1,500 .. to be written"; it is never 0
abbrev pub OverLong : List ℕ → Type 0
OverLong w = datagram_bound < length_said w

-- the C interface: "D1 is any value too wide for its place, a Nack list or user data that runs past BYTES"
abbrev pub TooWide : List ℕ → ℕ → Type 0
TooWide w n = ((i : ℕ) × (i < 88) × (widest w i < word w i)) ⊎ ((n < word w 14 + word w 13) ⊎ (n < word w 16 + word w 17))

-- 01: "D5 class 3"
abbrev pub ClassThree : List ℕ → Type 0
ClassThree w = (word w 0 ≡ 1) × (word w 8 ≡ 3)

-- 01: "D6 abort type over 1"
abbrev pub AbortTypeOver : List ℕ → Type 0
AbortTypeOver w = (word w 0 ≡ 4) × (1 < word w 10)

-- the C interface: "D3 is an item whose data runs past BYTES", among the 16 that there are places for
abbrev pub ItemPast : List ℕ → ℕ → Type 0
ItemPast w n = (k : ℕ) × (k < 16) × (k < word w 15) × (n < word w (24 + 4 * k + 2) + word w (24 + 4 * k + 3))

-- the C interface: "D4 a number of items over 16"
abbrev pub TooMany : List ℕ → Type 0
TooMany w = 16 < word w 15

-- 01: the types without user data
abbrev pub Bare : ℕ → Type 0
Bare t = (t ≡ 3) ⊎ ((t ≡ 4) ⊎ (t ≡ 7))

-- the C interface: "D7 is a user data length (word 17) other than 0 with an Ack, Abort or Nack"
abbrev pub DataLeft : List ℕ → Type 0
DataLeft w = Bare (word w 0) × (1 ≤ word w 17)

-- a reason, and what is given back for it
pub record Reason : Type 1 where
  pub holds : Type 0
  pub answer : Kind

-- the reason c, for which the kind k is given back
abbrev pub reason : Type 0 → Kind → Reason
reason c k = record { holds = c; answer = k }

-- D4, D7
abbrev pub rest_reasons : List ℕ → List Reason
rest_reasons w = reason (TooMany w) (Wrong D4) ∷ reason (DataLeft w) (Wrong D7) ∷ []

-- D3, D4, D7
abbrev pub item_reasons : List ℕ → ℕ → List Reason
item_reasons w n = reason (ItemPast w n) (Wrong D3) ∷ rest_reasons w

-- D5, D6, and then others
abbrev pub kind_reasons : List ℕ → List Reason → List Reason
kind_reasons w cs = reason (ClassThree w) (Wrong D5) ∷ reason (AbortTypeOver w) (Wrong D6) ∷ cs

-- D1, D5, D6, D3, D4, D7
abbrev pub width_reasons : List ℕ → ℕ → List Reason
width_reasons w n = reason (TooWide w n) (Wrong D1) ∷ kind_reasons w (item_reasons w n)

-- all of them: D2, 11, D1, D5, D6, D3, D4, D7
abbrev pub reasons : List ℕ → ℕ → List Reason
reasons w n = reason (WrongType w) (Wrong D2) ∷ reason (OverLong w) (Refused WrongLength) ∷ width_reasons w n

-- r is the answer of the first reason that holds, or p where none does
abbrev pub FirstOf : List Reason → Pdu → Pdu → Type 0
FirstOf [] p r = r ≡ p
FirstOf (c ∷ cs) p r = (c.holds × (r ≡ blank_pdu c.answer)) ⊎ ((c.holds → ⊥) × FirstOf cs p r)
