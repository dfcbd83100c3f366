-- Laws of the walk's definitions, step by step: k of the items that are permitted have been passed. Assumes nothing.
use mathlib.Core.Path.{◌≡◌}
use mathlib.Core.List.{List}
use Prim.Native.Nat.{ℕ, suc, ◌+◌, ◌-◌, ◌≤◌, ◌<◌}
use Rattle.std.specs.Prelude.{Err, None}
use Rattle.base_numbers.specs.declared.Malformed.TheVariants.{D4}
use native.Mathlib.Omega.{arith}
use Rattle.codec_items.specs.Found.{end_from, end_after_is, place_from, place_after}
use Rattle.codec_items.specs.Items.{item_at}
use Rattle.codec_items.specs.declared.Sought.{Sought}

none_left : (left k : ℕ) → left ≤ k → left - k ≡ 0
none_left left k h = omega arith

one_less : (left k : ℕ) → k < left → left - k ≡ suc (left - (k + 1))
one_less left k h = omega arith

module _ (s : List ℕ) (at : ℕ) (left k : ℕ) where
  pub end_none : left ≤ k → end_from (left - k) s at ≡ Err D4
  unfolding end_from
  end_none h = rw (none_left left k h)

  pub end_more : k < left → end_from (left - k) s at ≡ end_after_is (end_from (left - (k + 1)) s) (item_at s at)
  unfolding end_from
  end_more h = rw (one_less left k h)

  module _ (sought : Sought) where
    pub place_none : left ≤ k → place_from sought (left - k) s at ≡ None
    unfolding place_from
    place_none h = rw (none_left left k h)

    pub place_more : k < left → place_from sought (left - k) s at ≡ place_after sought at (place_from sought (left - (k + 1)) s) (item_at s at)
    unfolding place_from
    place_more h = rw (one_less left k h)
