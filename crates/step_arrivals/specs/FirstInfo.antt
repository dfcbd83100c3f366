-- 01: "A confirmation's data is that of the first Info item of its Ack, else empty": which item that is.
use Rattle.std.specs.Prelude.{ℕ, ◌+◌, ◌≤◌, ◌<◌, ◌≡◌, List, ◌⊎◌}
use Rattle.codec_items.specs.declared.Item.{Item}
use Rattle.codec_items.specs.declared.Info.{Info}
use Rattle.codec_items.specs.Info.{no_info, item_in, data_of}

-- item i of a list is an Info item
abbrev pub IsInfo : List Item → ℕ → Type 0
IsInfo list i = (item_in list i).identity ≡ 1

-- item i is the first Info item of the n from `at` on
pub record First (list : List Item) (at n i : ℕ) : Type 0 where
  pub from : at ≤ i
  pub below : i < at + n
  pub is_info : IsInfo list i
  pub none_before : (m : ℕ) → at ≤ m → m < i → IsInfo list m → ⊥

-- none of the n items from `at` on is an Info item
abbrev pub NoneIn : List Item → ℕ → ℕ → Type 0
NoneIn list at n = (m : ℕ) → at ≤ m → m < at + n → IsInfo list m → ⊥

-- what the data taken from the n items from `at` on says
abbrev pub Says : List Item → ℕ → ℕ → Info → Type 0
Says list at n r = ((i : ℕ) × First list at n i × (r ≡ data_of (item_in list i))) ⊎ (NoneIn list at n × (r ≡ no_info))
