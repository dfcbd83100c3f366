-- The verdict on the items, by what stands at the places that are reached. Assumes nothing.
use Prim.Native.Nat.{ℕ, zero, suc, ◌+◌, ◌-◌, ◌≤◌}
use native.Mathlib.Omega.{arith}
use borrow.Author.Tests.{le-leb, lt-leb, leb-true, leb-false}
use mathlib.Core.Path.{◌≡◌, refl, sym, ap, ◌∙◌}
use mathlib.Core.List.{List}
use mathlib.Core.Bool.{Bool, true, false}
use mathlib.Core.Logic.{◌⊎◌, inl, inr}
use lib.ListN.{length, get_or, set, replicate}
use lib.Dec.{leb}
use Rattle.base_lists.specs.Seq.{pick}
use Rattle.base_numbers.specs.declared.Malformed.TheVariants.{D3, D4}
use Rattle.std.specs.Prelude.{Option, Some, None, Ok, Err}
use Rattle.codec_items.specs.declared.Item.{Item}
use Rattle.codec_items.specs.declared.Got.{Got}
use Rattle.codec_items.specs.Items.{Items, item_at, after_item, walk_from, no_item, no_items_is}
use Rattle.codec_items.proofs.Forms.{met}
use Rattle.law_reading_order.specs.Layout.{fixed_length, item_end}
use Rattle.law_reading_order.specs.Order.{Reached, items_follow, another, ItemCut, TooMany, ItemsEnd, no_items, last_item}
use Rattle.law_reading_order.proofs.Places.{Told, item_told_holds, item_whole, item_cut, cut_told}

module _ (s : List ℕ) where
  -- a walk with one item more permitted, past a whole item
  walk_on : (k at : ℕ) (read : List Item) → item_end s at ≤ length s
      → (it : Item) × (walk_from (suc k) s at read ≡ pick (leb 128 (get_or s at 0)) (walk_from k s (item_end s at) (set read (16 - suc k) it)) (record { verdict = Ok tt; count = 17 - suc k; end = item_end s at; list = set read (16 - suc k) it }))
  unfolding walk_from
  walk_on k at read l =
      let w : (it : Item) × (item_at s at ≡ met it (leb 128 (get_or s at 0)) (item_end s at)) = item_whole s at l in
      (w.0, ap (after_item (suc k) (walk_from k s) read) w.1)

  -- the walk goes through every place that is reached
  reached_walk : (read : List Item) {k at : ℕ} → Reached s k at → k ≤ 16 → (read' : List Item) × (walk_from 16 s (fixed_length s) read ≡ walk_from (16 - k) s at read')
  reached_walk read (items_follow c) l = (read, refl)
  reached_walk read (another {k = k} {at = at} r w c) l =
      let ih : (read' : List Item) × (walk_from 16 s (fixed_length s) read ≡ walk_from (16 - k) s at read') = reached_walk read r (omega arith) in
      let n : 16 - k ≡ suc (16 - suc k) = omega arith in
      let on = walk_on (16 - suc k) at ih.0 w in
      (set ih.0 (16 - suc (16 - suc k)) on.0, ih.1 ∙ ap (λ (m : ℕ). walk_from m s at ih.0) n ∙ on.1 ∙ rw (le-leb 128 (get_or s at 0) c))

  -- the items after the fixed header, as the reader finds them
  abbrev pub found : Items
  found = pick (leb 128 (get_or s 0 0)) (walk_from 16 s (fixed_length s) (replicate 16 no_item)) (no_items_is (Ok tt) (fixed_length s))

  pub reached_con : {k at : ℕ} → Reached s k at → 128 ≤ get_or s 0 0
  reached_con (items_follow c) = c
  reached_con (another r w c) = reached_con r

  found_on : {k at : ℕ} → Reached s k at → k ≤ 16 → (read : List Item) × (found ≡ walk_from (16 - k) s at read)
  found_on r l = rw (le-leb 128 (get_or s 0 0) (reached_con r)) (reached_walk (replicate 16 no_item) r l)

  pub cut_verdict : ItemCut s → found.verdict ≡ Err D3
  unfolding walk_from
  cut_verdict c =
      let f = found_on c.reached (omega arith) in
      let n : 16 - c.before ≡ suc (15 - c.before) = omega arith in
      ap (λ (w : Items). w.verdict) f.1 ∙ rw (n, item_cut s c.place c.cut)

  pub many_verdict : TooMany s → found.verdict ≡ Err D4
  unfolding walk_from
  many_verdict c = ap (λ (w : Items). w.verdict) (found_on c.reached (omega arith)).1

  pub end_verdict : {e : ℕ} → ItemsEnd s e → (found.verdict ≡ Ok tt) × (found.end ≡ e)
  end_verdict (no_items c) = rw (lt-leb 128 (get_or s 0 0) c) (refl, refl)
  end_verdict (last_item {k = k} {at = at} r l w c) =
      let f = found_on r (omega arith) in
      let n : 16 - k ≡ suc (15 - k) = omega arith in
      let on = walk_on (15 - k) at f.0 w in
      let e = f.1 ∙ ap (λ (m : ℕ). walk_from m s at f.0) n ∙ on.1 in
      rw (e, lt-leb 128 (get_or s at 0) c) (refl, refl)

  -- what the verdict tells
  unfoldable pub Outcome : Items → Type 0
  Outcome w = ((w.verdict ≡ Err D3) × ItemCut s) ⊎ ((w.verdict ≡ Err D4) × TooMany s) ⊎ ((w.verdict ≡ Ok tt) × ItemsEnd s w.end)

  walk_outcome : (m k at : ℕ) (read : List Item) → k + m ≡ 16 → Reached s k at → Outcome (walk_from m s at read)
  unfolding Outcome walk_from
  walk_outcome zero k at read e r = let n : k ≡ 16 = omega arith in inr (inl (refl, record { place = at; reached = rw n at r }))
  walk_outcome (suc m) k at read e r = go (walk_outcome m (suc k)) (item_at s at) refl
    where
      go : ((at : ℕ) (read : List Item) → suc k + m ≡ 16 → Reached s (suc k) at → Outcome (walk_from m s at read)) → (g : Option Got) → item_at s at ≡ g → Outcome (after_item (suc m) (walk_from m s) read g)
      go ih None q = inl (refl, record { before = k; place = at; reached = r; permitted = omega arith; cut = cut_told s at q })
      go ih (Some g) q = by g.con q
        where
          by : (con : Bool) → item_at s at ≡ met g.item con g.next → Outcome (after_item (suc m) (walk_from m s) read (met g.item con g.next))
          by true q =
              let t : Told s at true g.next = item_told_holds s at g.item true g.next q in
              ih g.next _ (omega arith) (rw t.ends (another r (omega (arith, t.ends, t.inside)) (leb-true 128 (get_or s at 0) (sym t.more))))
          by false q =
              let t : Told s at false g.next = item_told_holds s at g.item false g.next q in
              inr (inr (refl, rw t.ends (last_item r (omega arith) (omega (arith, t.ends, t.inside)) (leb-false 128 (get_or s at 0) (sym t.more)))))

  pub found_outcome : Outcome found
  unfolding Outcome
  found_outcome = go (leb 128 (get_or s 0 0)) refl
    where
      go : (b : Bool) → leb 128 (get_or s 0 0) ≡ b → Outcome found
      go true e = rw e (walk_outcome 16 0 (fixed_length s) (replicate 16 no_item) refl (items_follow (leb-true 128 (get_or s 0 0) e)))
      go false e = rw e (inr (inr (refl, no_items (leb-false 128 (get_or s 0 0) e))))
