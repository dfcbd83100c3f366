-- The walk's definition, a step at a time. Assumes nothing.
use mathlib.Core.Path.{◌≡◌, refl}
use mathlib.Core.List.{List}
use mathlib.Core.Bool.{true, false}
use Prim.Native.Nat.{ℕ, zero, suc, ◌-◌}
use native.Mathlib.Numerals.{sub-one}
use lib.ListN.{length}
use lib.Dec.{eqb}
use Rattle.base_lists.specs.Seq.{pick}
use Rattle.rds_parameters.specs.Parameters.{items_from, after_item, item_length}

pub items_none : (k : ℕ) (s : List ℕ) → k ≡ 0 → items_from k s ≡ pick (eqb (length s) 0) true false
unfolding items_from
items_none k s e = rw e

pub items_more : (k : ℕ) (s : List ℕ) → (k ≡ 0 → ⊥) → items_from k s ≡ pick (eqb (length s) 0) true (after_item (items_from (k - 1)) s (item_length s))
unfolding items_from
items_more zero s h = absurd (h refl)
items_more (suc k) s h = rw sub-one

pub items_empty : (k : ℕ) (s : List ℕ) → eqb (length s) 0 ≡ true → items_from k s ≡ true
unfolding items_from
items_empty zero s e = rw e
items_empty (suc k) s e = rw e
