-- Items with their reserved bits cleared are read as they were. Assumes nothing.
use Prim.Native.Nat.{ℕ, zero, suc, ◌+◌, ◌-◌, ◌*◌, ◌/◌, ◌%◌, ◌<◌}
use native.Mathlib.Omega.{arith}
use borrow.Author.Tests.{ltb-true, eqb-false, ne_eqb}
use mathlib.Core.Path.{◌≡◌, refl, sym, ap, ◌∙◌}
use mathlib.Core.List.{List}
use mathlib.Core.Bool.{Bool, true, false}
use lib.ListN.{length, get_or, set}
use lib.Seq.{get_or-set_same, get_or-set_other}
use Rattle.std.specs.Prelude.{Option, Some, None}
use lib.Dec.{leb, ltb, eqb}
use Rattle.base_lists.specs.Seq.{pick}
use Rattle.codec_items.specs.declared.Item.{Item}
use Rattle.codec_items.specs.declared.Got.{Got}
use Rattle.codec_items.specs.Items.{item_at, after_item, walk_from}
use Rattle.codec_items.proofs.Forms.{met}
use Rattle.law_reading_order.specs.Layout.{item_end}
use Rattle.law_reading_order.proofs.Places.{Told, item_told_holds}
use Rattle.law_writes_back.specs.WritesBack.{clear_bit, clear_item, clear_items}
use Rattle.law_writes_back.proofs.Bits.{clear_21, same_top}
use Rattle.law_writes_back.proofs.Agree.{Agree, clear_form, clear_sets, agree_at, agree_after, agree_end, item_agree}
use Rattle.law_writes_back.proofs.Lengths.{items_length}

end_after : (c : List ℕ) (at : ℕ) → at < item_end c at
unfolding item_end
end_after c at = go (eqb (get_or c at 0 / 4 % 2) 0)
  where
    go : (t : Bool) → at < pick t (at + 1 + get_or c at 0 % 4) (at + 2 + get_or c (at + 1) 0)
    go true = omega arith
    go false = omega arith

-- only the octets where items start are changed
item_other : (c : List ℕ) (at i : ℕ) → (i ≡ at → ⊥) → get_or (clear_item c at) i 0 ≡ get_or c i 0
unfolding clear_item
item_other c at i n = go (eqb (get_or c at 0 / 4 % 2) 0) refl
  where
    go : (t : Bool) → eqb (get_or c at 0 / 4 % 2) 0 ≡ t → get_or (clear_item c at) i 0 ≡ get_or c i 0
    go true e = rw e
    go false e = rw e (get_or-set_other (clear_bit c at 2) at i _ 0 n ∙ get_or-set_other c at i _ 0 n)

pub before_items : (k : ℕ) (c : List ℕ) (at i : ℕ) → i < at → get_or (clear_items k c at) i 0 ≡ get_or c i 0
unfolding clear_items
before_items zero c at i l = refl
before_items (suc k) c at i l = go (leb 128 (get_or c at 0)) (before_items k (clear_item c at) (item_end c at) i (omega (arith, end_after c at)))
  where
    go : (t : Bool) → get_or (clear_items k (clear_item c at) (item_end c at)) i 0 ≡ get_or (clear_item c at) i 0
        → get_or (pick t (clear_items k (clear_item c at) (item_end c at)) (clear_item c at)) i 0 ≡ get_or c i 0
    go true e = e ∙ item_other c at i (omega arith)
    go false e = item_other c at i (omega arith)

-- an item with its reserved bits cleared
module _ (s c : List ℕ) (at : ℕ) where
  abbrev h : ℕ
  h = get_or c at 0

  item_cleared : length s ≡ length c → get_or s at 0 ≡ clear_form h → ((h / 4 % 2 ≡ 0 → ⊥) → get_or s (at + 1) 0 ≡ get_or c (at + 1) 0) → item_at s at ≡ item_at c at
  item_cleared long e after = go (eqb (h / 4 % 2) 0) refl
    where
      go : (t : Bool) → eqb (h / 4 % 2) 0 ≡ t → item_at s at ≡ item_at c at
      go true q = let z : get_or s at 0 ≡ h = e ∙ rw q in rw (long, z, q)
      go false q =
          let z : get_or s at 0 ≡ h / 4 * 4 = e ∙ rw q (clear_21 h) in
          let f : h / 4 * 4 / 4 ≡ h / 4 = omega arith in
          let i : h / 4 * 4 / 8 ≡ h / 8 = omega arith in
          rw (long, z, f, i, same_top (h / 4 * 4) h i, after (eqb-false (h / 4 % 2) 0 q), q)

module _ (k : ℕ) (c : List ℕ) (at : ℕ) where
  -- up to the item's end only that item is cleared
  this_item : (i : ℕ) → i < item_end c at → get_or (clear_items (suc k) c at) i 0 ≡ get_or (clear_item c at) i 0
  unfolding clear_items
  this_item i l = go (leb 128 (get_or c at 0))
    where
      go : (t : Bool) → get_or (pick t (clear_items k (clear_item c at) (item_end c at)) (clear_item c at)) i 0 ≡ get_or (clear_item c at) i 0
      go true = before_items k (clear_item c at) (item_end c at) i l
      go false = refl

  second_inside : (get_or c at 0 / 4 % 2 ≡ 0 → ⊥) → at + 1 < item_end c at
  unfolding item_end
  second_inside n = rw (ne_eqb (get_or c at 0 / 4 % 2) 0 n) (omega arith)

  item_again : item_at (clear_items (suc k) c at) at ≡ item_at c at
  item_again = go (ltb at (length c)) refl
    where
      long : length (clear_items (suc k) c at) ≡ length c
      long = items_length (suc k) c at

      go : (t : Bool) → ltb at (length c) ≡ t → item_at (clear_items (suc k) c at) at ≡ item_at c at
      go true q =
          let l : at < length c = ltb-true at (length c) q in
          item_cleared (clear_items (suc k) c at) c at long (this_item at (end_after c at) ∙ ap (λ (d : List ℕ). get_or d at 0) (clear_sets c at l) ∙ get_or-set_same c at _ 0 l)
          (λ n. this_item (at + 1) (second_inside n) ∙ item_other c at (at + 1) (omega arith))
      go false q = rw (long, q)

items_on : (k : ℕ) (c : List ℕ) (at next : ℕ) → leb 128 (get_or c at 0) ≡ true → item_end c at ≡ next → clear_items (suc k) c at ≡ clear_items k (clear_item c at) next
unfolding clear_items
items_on k c at next m e = rw (m, e)

agree_item : (at : ℕ) (c b : List ℕ) → Agree at c b → item_at c at ≡ item_at b at
agree_item at c b g = rw (g.long, agree_at at c b g, agree_after at c b g 1)

pub walk_again : (k : ℕ) (c b : List ℕ) (at : ℕ) (read : List Item) → Agree at c b → walk_from k (clear_items k c at) at read ≡ walk_from k b at read
unfolding walk_from
walk_again zero c b at read g = refl
walk_again (suc k) c b at read g = ap (after_item (suc k) (walk_from k (clear_items (suc k) c at)) read) (item_again k c at ∙ agree_item at c b g) ∙ go (walk_again k (clear_item c at) b) (item_at b at) refl
  where
    go : ((at' : ℕ) (read : List Item) → Agree at' (clear_item c at) b → walk_from k (clear_items k (clear_item c at) at') at' read ≡ walk_from k b at' read) → (i : Option Got) → item_at b at ≡ i
        → after_item (suc k) (walk_from k (clear_items (suc k) c at)) read i ≡ after_item (suc k) (walk_from k b) read i
    go ih None q = refl
    go ih (Some i) q = by i.con q
      where
        by : (con : Bool) → item_at b at ≡ met i.item con i.next
            → after_item (suc k) (walk_from k (clear_items (suc k) c at)) read (met i.item con i.next) ≡ after_item (suc k) (walk_from k b) read (met i.item con i.next)
        by false q = refl
        by true q =
            let t : Told b at true i.next = item_told_holds b at i.item true i.next q in
            let e : item_end c at ≡ i.next = agree_end at c b g ∙ sym t.ends in
            let l : at < i.next = rw e at (end_after c at) in
            let m : leb 128 (get_or c at 0) ≡ true = ap (leb 128) (agree_at at c b g) ∙ sym t.more in
            ap (λ (d : List ℕ). walk_from k d i.next (set read (16 - suc k) i.item)) (items_on k c at i.next m e) ∙ ih i.next _ (item_agree at c b g i.next (omega (arith, t.inside, g.long)) l)
