-- An item is whole exactly when its end is not past the octets' end. Assumes nothing.
use Prim.Native.Nat.{ℕ, ◌+◌, ◌-◌, ◌/◌, ◌%◌, ◌<◌, ◌≤◌}
use native.Mathlib.Omega.{arith}
use borrow.Author.Tests.{lt-ltb, le-leb, ltb-true, ltb-false, ne_eqb}
use mathlib.Core.Path.{◌≡◌, refl, sym, ◌∙◌}
use mathlib.Core.List.{List}
use mathlib.Core.Bool.{Bool, true, false}
use mathlib.Core.Logic.{◌⊎◌, inl, inr}
use lib.ListN.{length, get_or}
use Rattle.std.specs.Prelude.{Option, Some, None}
use lib.Dec.{ltb, leb, eqb}
use Rattle.codec_items.specs.declared.Item.{Item}
use Rattle.codec_items.specs.declared.Got.{Got}
use Rattle.codec_items.specs.Items.{item_at}
use Rattle.codec_items.specs.Forms.{Short, Long}
use Rattle.codec_items.proofs.Forms.{met, item_forms, none_some}
use Rattle.law_reading_order.specs.Layout.{item_end}

module _ (s : List ℕ) (at : ℕ) where
  abbrev h : ℕ
  h = get_or s at 0

  -- what an item that is found tells of its octets
  pub record Told (con : Bool) (next : ℕ) : Type 0 where
    pub more : con ≡ leb 128 h
    pub ends : next ≡ item_end s at
    pub inside : next ≤ length s

  pub item_told_holds : (it : Item) (con : Bool) (next : ℕ) → item_at s at ≡ met it con next → Told con next
  unfolding item_end
  item_told_holds it con next e = go (item_forms s at _ e)
    where
      go : Short s at it con next ⊎ Long s at it con next → Told con next
      go (inl f) = record { more = f.more; ends = rw f.form f.ends; inside = omega (arith, f.ends, f.inside) }
      go (inr f) = record { more = f.more; ends = rw (ne_eqb (h / 4 % 2) 0 f.form) (omega (arith, f.ends)); inside = omega (arith, f.ends, f.inside) }

  pub item_whole : item_end s at ≤ length s → (it : Item) × (item_at s at ≡ met it (leb 128 h) (item_end s at))
  unfolding item_end
  item_whole l = go (eqb (h / 4 % 2) 0) refl
    where
      go : (b : Bool) → eqb (h / 4 % 2) 0 ≡ b → (it : Item) × (item_at s at ≡ met it (leb 128 h) (item_end s at))
      go true e =
          let k : at + 1 + h % 4 ≤ length s = rw e at l in
          (record { identity = h / 8 % 16; long = false; start = at + 1; len = h % 4 }, rw (lt-ltb at (length s) (omega arith), e, le-leb (h % 4) (length s - (at + 1)) (omega arith)))
      go false e =
          let x : ℕ = get_or s (at + 1) 0 in
          let k : at + 2 + x ≤ length s = rw e at l in
          let two : at + 2 ≡ at + 1 + 1 = omega arith in
          (record { identity = h / 8 % 16; long = true; start = at + 1 + 1; len = x }, rw (lt-ltb at (length s) (omega arith), e, lt-ltb (at + 1) (length s) (omega arith), two, le-leb x (length s - (at + 1 + 1)) (omega arith)))

  pub item_cut : length s < item_end s at → item_at s at ≡ None
  item_cut l = go (item_at s at) refl
    where
      go : (g : Option Got) → item_at s at ≡ g → item_at s at ≡ None
      go None e = e
      go (Some g) e = let t : Told g.con g.next = item_told_holds g.item g.con g.next e in absurd (omega (arith, t.ends, t.inside))

  pub cut_told : item_at s at ≡ None → length s < item_end s at
  cut_told e = go (ltb (length s) (item_end s at)) refl
    where
      go : (b : Bool) → ltb (length s) (item_end s at) ≡ b → length s < item_end s at
      go true q = ltb-true (length s) (item_end s at) q
      go false q =
          let w : (it : Item) × (item_at s at ≡ met it (leb 128 h) (item_end s at)) = item_whole (ltb-false (length s) (item_end s at) q) in
          none_some _ (sym e ∙ w.1)
