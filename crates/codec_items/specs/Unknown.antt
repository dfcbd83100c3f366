-- The first item of a list that isn't known (02, L4).
use Rattle.std.specs.Prelude.{ℕ, ◌-◌, List}
use Rattle.base_lists.specs.Seq.{pick}
use Rattle.codec_items.specs.Info.{first_from}
use Rattle.codec_items.specs.declared.Item.{Item}
use Rattle.codec_items.specs.declared.Sought.TheVariants.{UnknownItem}
use Rattle.codec_items.specs.declared.Unknown.{Unknown}

-- no unknown item
abbrev pub no_unknown : Unknown
no_unknown = record { identity = 0; place = 0 }

-- the place of an item's first octet, before its data and, in the long form, the length octet
abbrev pub first_octet : Item → ℕ
first_octet item = pick item.long (item.start - 2) (item.start - 1)

-- 02, L4: "the identity and place" of an item
abbrev pub named_by : Item → Unknown
named_by item = record { identity = item.identity; place = first_octet item }

-- 02, L4: "the first item it does not know", among the items from `at` on, as many as the first argument says
unfoldable pub unknown_from : ℕ → List Item → ℕ → Unknown
unknown_from left list at = first_from UnknownItem named_by no_unknown left list at
