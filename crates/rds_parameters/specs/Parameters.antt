-- The items of SET_PARAMETERS (RDS.md, section 1; TS 24.250, 5.4.2.5).
use Rattle.std.specs.Prelude.{ℕ, zero, suc, ◌+◌, List, Bool, true, false, length, get_or, drop, ltb, eqb}
use Rattle.base_lists.specs.Seq.{pick}

-- section 1: "Type, Length, then Length octets. Type 0 (RDS_Version) has Length 1"; 0 where the item that s begins with is cut short or a Type 0 of another Length
unfoldable pub item_length : List ℕ → ℕ
item_length s =
    pick (ltb (length s) 2) 0
    (pick (ltb (length s) (2 + get_or s 1 0)) 0
    (pick (eqb (get_or s 0 0) 0) (pick (eqb (2 + get_or s 1 0) 3) 3 0)
    (2 + get_or s 1 0)))

-- what follows an item of n octets: `rest` is the walk with one fewer to come
abbrev pub after_item : (List ℕ → Bool) → List ℕ → ℕ → Bool
after_item rest s n = pick (eqb n 0) false (rest (drop n s))

-- section 1: "items to the end, perhaps none": at most `left` are still to come
unfoldable pub items_from : ℕ → List ℕ → Bool
items_from zero s = pick (eqb (length s) 0) true false
items_from (suc left) s = pick (eqb (length s) 0) true (after_item (items_from left) s (item_length s))
