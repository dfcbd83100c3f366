-- What the walk over the items finds, each thing by itself, without a list of the items.
use Rattle.std.specs.Prelude.{ℕ, zero, suc, List, [], ◌∷◌, Option, Some, None, Result, Ok, Err}
use Rattle.base_lists.specs.Seq.{pick}
use Rattle.base_numbers.specs.declared.Malformed.TheVariants.{D3, D4}
use Rattle.base_numbers.specs.declared.Malformed.{Malformed}
use Rattle.codec_items.specs.declared.Got.{Got}
use Rattle.codec_items.specs.declared.Info.{Info}
use Rattle.codec_items.specs.declared.Item.{Item}
use Rattle.codec_items.specs.declared.Sought.{Sought}
use Rattle.codec_items.specs.declared.Unknown.{Unknown}
use Rattle.codec_items.specs.Items.{item_at}
use Rattle.codec_items.specs.Info.{sought_by, no_info, data_of}
use Rattle.codec_items.specs.Unknown.{no_unknown}

-- the place after what stands at a place and what `rest` says of the items after it; D3 for an item cut short
abbrev pub end_after_is : (ℕ → Result ℕ Malformed) → Option Got → Result ℕ Malformed
end_after_is rest None = Err D3
end_after_is rest (Some got) = pick got.con (rest got.next) (Ok got.next)

-- the place after the items from `at` on, `left` still permitted; D3, or D4, "the sixteenth, complete, has CON set"
unfoldable pub end_from : ℕ → List ℕ → ℕ → Result ℕ Malformed
end_from zero s at = Err D4
end_from (suc left) s at = end_after_is (end_from left s) (item_at s at)

-- what stands at a place, if it is an item, and what `rest` says of the items after it
abbrev pub list_after : (ℕ → List Item) → Option Got → List Item
list_after rest None = []
list_after rest (Some got) = got.item ∷ pick got.con (rest got.next) []

-- the items from `at` on, `left` at most
unfoldable pub items_from : ℕ → List ℕ → ℕ → List Item
items_from zero s at = []
items_from (suc left) s at = list_after (items_from left s) (item_at s at)

-- the place `at` of what stands there if that is sought, else what `rest` says
abbrev pub place_after : Sought → ℕ → (ℕ → Option ℕ) → Option Got → Option ℕ
place_after sought at rest None = None
place_after sought at rest (Some got) = pick (sought_by sought got.item.identity) (Some at) (pick got.con (rest got.next) None)

-- the place of the first item sought from `at` on, `left` items at most
unfoldable pub place_from : Sought → ℕ → List ℕ → ℕ → Option ℕ
place_from sought zero s at = None
place_from sought (suc left) s at = place_after sought at (place_from sought left s) (item_at s at)

-- what `tell` says of what stands at a place
abbrev pub told_of_is : {A : Type 0} → (Item → A) → A → Option Got → A
told_of_is tell none None = none
told_of_is tell none (Some got) = tell got.item

-- the data of the item at a place
abbrev pub info_in : List ℕ → Option ℕ → Info
info_in s None = no_info
info_in s (Some place) = told_of_is data_of no_info (item_at s place)

-- the identity of the item at a place, and the place
abbrev pub unknown_in : List ℕ → Option ℕ → Unknown
unknown_in s None = no_unknown
unknown_in s (Some place) = told_of_is (λ item. record { identity = item.identity; place = place }) no_unknown (item_at s place)
