-- An item that is found has the short form or the long one, and lies within its octets. Assumes nothing.
use Prim.Native.Nat.{ℕ, zero, suc, ◌+◌, ◌-◌, ◌/◌, ◌%◌, ◌<◌, ◌≤◌}
use native.Mathlib.Omega.{arith}
use borrow.Author.Tests.{ltb-true, leb-true, eqb-true, eqb-false}
use mathlib.Core.Path.{◌≡◌, refl}
use mathlib.Core.List.{List}
use mathlib.Core.Bool.{Bool, true, false}
use mathlib.Core.Logic.{◌⊎◌, inl, inr}
use lib.ListN.{length, get_or, set}
use lib.Dec.{leb, ltb, eqb}
use Rattle.base_lists.specs.Seq.{pick}
use Rattle.codec_items.specs.declared.Item.{Item}
use Rattle.codec_items.specs.declared.Got.{Got}
use Rattle.std.specs.Prelude.{Option, Some, None, Ok}
use Rattle.codec_items.specs.Forms.{Short, Long}
use Rattle.codec_items.specs.Items.{item_at, walk_from, after_item}
use Rattle.codec_items.specs.Unknown.{first_octet}

-- a whole item that stands at a place
abbrev pub met : Item → Bool → ℕ → Option Got
met it con next = Some (record { item = it; con = con; next = next })

pub none_some : {A : Type 0} (g : Got) → None ≡ Some g → A
none_some g e = absurd cc

same : (a b : Got) → Some a ≡ Some b → (b.item ≡ a.item) × (b.con ≡ a.con) × (b.next ≡ a.next)
same a b e = (cc, cc, cc)

module _ (s : List ℕ) (at : ℕ) (g : Got) where
  abbrev h : ℕ
  h = get_or s at 0

  pub item_forms : item_at s at ≡ Some g → Short s at g.item g.con g.next ⊎ Long s at g.item g.con g.next
  item_forms e =
      go (ltb at (length s)) refl (eqb (h / 4 % 2) 0) refl (ltb (at + 1) (length s)) refl (leb (h % 4) (length s - (at + 1))) refl (leb (get_or s (at + 1) 0) (length s - (at + 1 + 1))) refl e
    where
      go : (b1 : Bool) → ltb at (length s) ≡ b1 → (b2 : Bool) → eqb (h / 4 % 2) 0 ≡ b2 → (b3 : Bool) → ltb (at + 1) (length s) ≡ b3
          → (b4 : Bool) → leb (h % 4) (length s - (at + 1)) ≡ b4 → (b5 : Bool) → leb (get_or s (at + 1) 0) (length s - (at + 1 + 1)) ≡ b5
          → pick b1 (pick b2 (pick b4 (Some (record { item = record { identity = h / 8 % 16; long = false; start = at + 1; len = h % 4 }; con = leb 128 h; next = at + 1 + h % 4 })) None)
          (pick b3 (pick b5 (Some (record { item = record { identity = h / 8 % 16; long = true; start = at + 1 + 1; len = get_or s (at + 1) 0 }; con = leb 128 h; next = at + 1 + 1 + get_or s (at + 1) 0 })) None) None)) None
          ≡ Some g
          → Short s at g.item g.con g.next ⊎ Long s at g.item g.con g.next
      go false p1 b2 p2 b3 p3 b4 p4 b5 p5 e = none_some g e
      go true p1 true p2 b3 p3 false p4 b5 p5 e = none_some g e
      go true p1 true p2 b3 p3 true p4 b5 p5 e =
          let q = same _ g e in
          inl (record { form = eqb-true (h / 4 % 2) 0 p2; item = q.0; more = q.1; ends = q.2; inside = omega (arith, ltb-true at (length s) p1, leb-true (h % 4) (length s - (at + 1)) p4) })
      go true p1 false p2 false p3 b4 p4 b5 p5 e = none_some g e
      go true p1 false p2 true p3 b4 p4 false p5 e = none_some g e
      go true p1 false p2 true p3 b4 p4 true p5 e =
          let q = same _ g e in
          inr (record { form = eqb-false (h / 4 % 2) 0 p2; item = q.0; more = q.1; ends = q.2; inside = omega (arith, ltb-true (at + 1) (length s) p3, leb-true (get_or s (at + 1) 0) (length s - (at + 1 + 1)) p5) })

  pub item_inside_holds : item_at s at ≡ Some g → (at < g.next) × (g.next ≤ length s)
  item_inside_holds e = go (item_forms e)
    where
      go : Short s at g.item g.con g.next ⊎ Long s at g.item g.con g.next → (at < g.next) × (g.next ≤ length s)
      go (inl f) = (omega (arith, f.ends), omega (arith, f.ends, f.inside))
      go (inr f) = (omega (arith, f.ends), omega (arith, f.ends, f.inside))

  -- the first octet of an item is where it was found
  pub first_octet_holds : item_at s at ≡ Some g → first_octet g.item ≡ at
  first_octet_holds e = go (item_forms e)
    where
      go : Short s at g.item g.con g.next ⊎ Long s at g.item g.con g.next → first_octet g.item ≡ at
      go (inl f) = rw f.item (omega arith)
      go (inr f) = rw f.item (omega arith)

pub walk_inside : (k : ℕ) (s : List ℕ) (at : ℕ) (read : List Item) → (walk_from k s at read).end ≤ length s
unfolding walk_from
walk_inside zero s at read = omega arith
walk_inside (suc k) s at read = go (walk_inside k s) (item_at s at) refl
  where
    go : ((at : ℕ) (read : List Item) → (walk_from k s at read).end ≤ length s) → (g : Option Got) → item_at s at ≡ g → (after_item (suc k) (walk_from k s) read g).end ≤ length s
    go ih None e = omega arith
    go ih (Some g) e = by g.con
      where
        by : (c : Bool) → (pick c (walk_from k s g.next (set read (16 - suc k) g.item)) (record { verdict = Ok tt; count = 17 - suc k; end = g.next; list = set read (16 - suc k) g.item })).end ≤ length s
        by true = ih g.next _
        by false = (item_inside_holds s at g e).1
