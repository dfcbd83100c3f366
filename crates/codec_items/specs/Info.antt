-- The first item of a list that is sought, and so the first Info item.
use Rattle.std.specs.Prelude.{ℕ, zero, suc, ◌+◌, List, Bool, get_or, leb, eqb}
use Rattle.base_lists.specs.Seq.{pick}
use Rattle.codec_items.specs.Items.{no_item}
use Rattle.codec_items.specs.declared.Item.{Item}
use Rattle.codec_items.specs.declared.Info.{Info}
use Rattle.codec_items.specs.declared.Sought.{Sought}
use Rattle.codec_items.specs.declared.Sought.TheVariants.{InfoItem, UnknownItem}

-- which identities are sought: 1 for an Info item; 02, L4, for one "not in 8.4", whose table 25 ends with 5
abbrev pub sought_by : Sought → ℕ → Bool
sought_by InfoItem identity = eqb identity 1
sought_by UnknownItem identity = leb 6 identity

-- no Info item
abbrev pub no_info : Info
no_info = record { start = 0; len = 0 }

-- the item at a place, and its data
abbrev pub item_in : List Item → ℕ → Item
item_in list at = get_or list at no_item

abbrev pub data_of : Item → Info
data_of item = record { start = item.start; len = item.len }

-- what `tell` says of the first item sought among the items from `at` on, as many as the number says; `none` where there is none
unfoldable pub first_from : {A : Type 0} → Sought → (Item → A) → A → ℕ → List Item → ℕ → A
first_from sought tell none zero list at = none
first_from sought tell none (suc left) list at = pick (sought_by sought (item_in list at).identity) (tell (item_in list at)) (first_from sought tell none left list (at + 1))

-- the first Info item among them
unfoldable pub info_from : ℕ → List Item → ℕ → Info
info_from left list at = first_from InfoItem data_of no_info left list at
