-- The words of a PDU from its octets, item by item, without a list of its items.
use Rattle.std.specs.Prelude.{ℕ, zero, suc, ◌+◌, List, [], ◌∷◌, ◌++◌, Option, Some, None, is_some}
use Rattle.base_lists.specs.Seq.{pick, bit}
use Rattle.codec_items.specs.Items.{item_at, no_item}
use Rattle.codec_items.specs.declared.Item.{Item}
use Rattle.codec_items.specs.declared.Got.{Got}
use Rattle.codec_pdu.specs.declared.Brief.{Brief}
use Rattle.codec_words.specs.Words.{front_words, invoke_words, other_words, rest_words, items_words}

-- what stands at a place
abbrev pub placed_at : List ℕ → Option ℕ → Option Got
placed_at s None = None
placed_at s (Some at) = item_at s at

-- its item; no item where nothing stands
abbrev pub item_of : Option Got → Item
item_of None = no_item
item_of (Some got) = got.item

-- it counts one
abbrev pub one_of : Option Got → ℕ
one_of got = bit (is_some got)

-- the place of the item after it, which follows if its CON bit is set
abbrev pub next_of : Option Got → Option ℕ
next_of None = None
next_of (Some got) = pick got.con (Some got.next) None

-- n places of a list of items, from the item at `at` on
unfoldable pub list_from : ℕ → List ℕ → Option ℕ → List Item
list_from zero s at = []
list_from (suc n) s at = item_of (placed_at s at) ∷ list_from n s (next_of (placed_at s at))

-- how many items they have
unfoldable pub count_from : ℕ → List ℕ → Option ℕ → ℕ
count_from zero s at = 0
count_from (suc n) s at = one_of (placed_at s at) + count_from n s (next_of (placed_at s at))

-- the words of a PDU in s, whose first item stands at `first`
unfoldable pub words_from : List ℕ → Option ℕ → Brief → List ℕ
words_from s first b =
    (front_words b.kind b.tid.0 ++ (invoke_words b.kind ++ (other_words b.kind ++ rest_words (count_from 16 s first) b.start b.len b.unknown)))
    ++ items_words (list_from 16 s first)
