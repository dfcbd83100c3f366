-- 02, L4: "Reading a PDU must also tell the identity and place of the first item it does not know (not in 8.4)", by the octets of the PDU.
use Rattle.std.specs.Prelude.{ℕ, ◌/◌, ◌%◌, ◌<◌, ◌≡◌, List, ◌↔◌, get_or}
use Rattle.codec_items.specs.Unknown.{no_unknown}
use Rattle.codec_items.specs.FirstUnknown.{Known}
use Rattle.codec_items.specs.declared.Unknown.{Unknown}
use Rattle.law_reading_order.specs.Order.{Reached}

-- 01: "CON, identity (4)": the identity of the item whose first octet stands at a place
abbrev pub identity_at : List ℕ → ℕ → ℕ
identity_at s at = get_or s at 0 / 8 % 16

-- an item that isn't known stands at the place told, with the identity told, and all before it are known
pub record FirstUnknown (s : List ℕ) (u : Unknown) : Type 0 where
  pub before : ℕ
  pub permitted : before < 16
  pub reached : Reached s before u.place
  pub same_identity : u.identity ≡ identity_at s u.place
  pub not_known : Known (identity_at s u.place) → ⊥
  pub known_before : (k at : ℕ) → k < before → Reached s k at → Known (identity_at s at)

-- every item is known
abbrev pub AllKnown : List ℕ → Type 0
AllKnown s = (k at : ℕ) → k < 16 → Reached s k at → Known (identity_at s at)

-- the reading: "0, 0 none", exactly where every item is known; else the first that isn't
pub record TellsUnknown (s : List ℕ) (u : Unknown) : Type 0 where
  pub none : (u ≡ no_unknown) ↔ AllKnown s
  pub first : (AllKnown s → ⊥) → FirstUnknown s u
