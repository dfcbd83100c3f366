-- 02, L4: "the first item it does not know (not in 8.4)": which item of a list that is.
use Rattle.std.specs.Prelude.{ℕ, ◌+◌, ◌≤◌, ◌<◌, ◌≡◌, List, ◌⊎◌}
use Rattle.codec_items.specs.Info.{item_in}
use Rattle.codec_items.specs.Unknown.{no_unknown, named_by}
use Rattle.codec_items.specs.declared.Item.{Item}
use Rattle.codec_items.specs.declared.Unknown.{Unknown}

-- 002, 8.4, table 25: the identities that it has
pub data Known (identity : ℕ) : Type 0 where
  error : identity ≡ 0 → Known identity
  info : identity ≡ 1 → Known identity
  option : identity ≡ 2 → Known identity
  packet_sequence_number : identity ≡ 3 → Known identity
  sdu_boundary : identity ≡ 4 → Known identity
  frame_boundary : identity ≡ 5 → Known identity

-- item i of a list is known
abbrev pub IsKnown : List Item → ℕ → Type 0
IsKnown list i = Known (item_in list i).identity

-- item i is the first of the n from `at` on that isn't known
pub record FirstUnknown (list : List Item) (at n i : ℕ) : Type 0 where
  pub from : at ≤ i
  pub below : i < at + n
  pub is_unknown : IsKnown list i → ⊥
  pub known_before : (m : ℕ) → at ≤ m → m < i → IsKnown list m

-- all of the n items from `at` on are known
abbrev pub AllKnown : List Item → ℕ → ℕ → Type 0
AllKnown list at n = (m : ℕ) → at ≤ m → m < at + n → IsKnown list m

-- what is told of the n items from `at` on
abbrev pub Says : List Item → ℕ → ℕ → Unknown → Type 0
Says list at n u = ((i : ℕ) × FirstUnknown list at n i × (u ≡ named_by (item_in list i))) ⊎ (AllKnown list at n × (u ≡ no_unknown))
