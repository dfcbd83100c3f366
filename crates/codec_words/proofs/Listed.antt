-- The items as they are stored, one after the other, are those that the walk finds. Assumes nothing.
use Prim.Native.Nat.{ℕ, zero, suc, ◌+◌, ◌-◌, ◌*◌, ◌<◌, ◌≤◌}
use native.Mathlib.Omega.{arith}
use mathlib.Core.Path.{◌≡◌, refl, sym, ap, ◌∙◌}
use mathlib.Core.List.{List, [], ◌∷◌, ◌++◌}
use mathlib.Core.Bool.{Bool, true, false}
use Rattle.std.specs.Prelude.{Option, Some, None, Ok}
use lib.ListN.{length, drop, replicate}
use lib.Seq.{sets-eq}
use Rattle.base_lists.specs.Seq.{pick, put}
use Rattle.base_lists.proofs.StoresAndParts.{put_append}
use Rattle.codec_items.specs.declared.Got.{Got}
use Rattle.codec_items.specs.declared.Item.{Item}
use Rattle.codec_items.specs.Items.{Items, item_at, no_item}
use Rattle.codec_items.specs.Found.{end_from, end_after_is, items_from, list_after}
use Rattle.codec_items.proofs.Finds.{Whole, items_few}
use Rattle.codec_words.specs.Words.{item_words, items_words}
use Rattle.codec_words.specs.Listed.{placed_at, item_of, one_of, next_of, list_from, count_from}

pub one_at_most : (g : Option Got) → one_of g ≤ 1
one_at_most None = omega arith
one_at_most (Some g) = omega arith

module _ (s : List ℕ) where
  module _ (at : Option ℕ) (k : ℕ) (below : k < 16) (g : Option Got) (e : g ≡ placed_at s at) where
    left : 16 - k ≡ suc (16 - (k + 1))
    left = omega arith

    -- one item more is counted
    pub one_counted : one_of g + count_from (16 - (k + 1)) s (next_of g) ≡ count_from (16 - k) s at
    unfolding count_from
    one_counted = rw (left, e)

    -- one item more is stored
    pub one_stored : (fields : List ℕ) → put (put fields (24 + 4 * k) (item_words (item_of g))) (24 + 4 * (k + 1)) (items_words (list_from (16 - (k + 1)) s (next_of g)))
        ≡ put fields (24 + 4 * k) (items_words (list_from (16 - k) s at))
    unfolding list_from items_words item_words
    one_stored fields =
        let on : 24 + 4 * (k + 1) ≡ 24 + 4 * k + 4 = omega arith in
        rw (left, on, e) (sym (put_append (item_words (item_of (placed_at s at))) (items_words (list_from (16 - (k + 1)) s (next_of (placed_at s at)))) fields (24 + 4 * k)))

  pub length_list : (n : ℕ) (at : Option ℕ) → length (list_from n s at) ≡ n
  unfolding list_from
  length_list zero at = refl
  length_list (suc n) at = ap suc (length_list n (next_of (placed_at s at)))

  pub none_listed : (n : ℕ) → list_from n s None ≡ replicate n no_item
  unfolding list_from
  none_listed zero = refl
  none_listed (suc n) = ap (λ (l : List Item). no_item ∷ l) (none_listed n)

  pub none_counted : (n : ℕ) → count_from n s None ≡ 0
  unfolding count_from
  none_counted zero = refl
  none_counted (suc n) = omega (arith, none_counted n)

  -- what is stored and counted from a place on is what a walk finds there that ends well
  abbrev Listed : ℕ → Option ℕ → List Item → Type 0
  Listed n at items = (list_from n s at ≡ items ++ drop (length items) (replicate n no_item)) × (count_from n s at ≡ length items)

  pub listed_found : (n at end : ℕ) → end_from n s at ≡ Ok end → Listed n (Some at) (items_from n s at)
  unfolding list_from items_from end_from count_from
  listed_found zero at end l = absurd cc
  listed_found (suc n) at end l = go (λ (next : ℕ). listed_found n next end) (item_at s at) l
    where
      go : ((next : ℕ) → end_from n s next ≡ Ok end → Listed n (Some next) (items_from n s next)) → (g : Option Got) → end_after_is (end_from n s) g ≡ Ok end
          → (item_of g ∷ list_from n s (next_of g) ≡ list_after (items_from n s) g ++ drop (length (list_after (items_from n s) g)) (replicate (suc n) no_item))
          × (one_of g + count_from n s (next_of g) ≡ length (list_after (items_from n s) g))
      go ih None l = absurd cc
      go ih (Some g) l = by g.con l
        where
          by : (c : Bool) → pick c (end_from n s g.next) (Ok g.next) ≡ Ok end
              → (g.item ∷ list_from n s (pick c (Some g.next) None) ≡ (g.item ∷ pick c (items_from n s g.next) []) ++ drop (length (g.item ∷ pick c (items_from n s g.next) [])) (replicate (suc n) no_item))
              × (1 + count_from n s (pick c (Some g.next) None) ≡ length (g.item ∷ pick c (items_from n s g.next) []))
          by true l = let h = ih g.next l in (ap (λ (l : List Item). g.item ∷ l) h.0, omega (arith, h.1))
          by false l = (ap (λ (l : List Item). g.item ∷ l) (none_listed n), omega (arith, none_counted n))

  -- the list of a walk that ended well
  pub listed_as : (at end : ℕ) (i : Items) → end_from 16 s at ≡ Ok end → Whole 16 (replicate 16 no_item) (items_from 16 s at) end i → (count_from 16 s (Some at) ≡ i.count) × (list_from 16 s (Some at) ≡ i.list)
  listed_as at end i e w =
      let items : List Item = items_from 16 s at in
      let found : Listed 16 (Some at) items = listed_found 16 at end e in
      let few : length items ≤ 16 = items_few s 16 at in
      let fit : 0 + length items ≤ length (replicate 16 no_item) = omega (arith, few) in
      let none : 0 + length items ≡ length items = omega arith in (
        omega (arith, found.1, w.counted),
        found.0 ∙ ap (λ (k : ℕ). items ++ drop k (replicate 16 no_item)) (sym none) ∙ sym (sets-eq items (replicate 16 no_item) 0 fit) ∙ sym w.listed,
      )
