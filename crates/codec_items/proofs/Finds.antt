-- What the walk finds, each thing by itself, is what it finds with the list of items. Assumes nothing.
use Prim.Native.Nat.{ℕ, zero, suc, ◌+◌, ◌-◌, ◌<◌, ◌≤◌}
use native.Mathlib.Omega.{arith}
use borrow.Author.Tests.{le-leb}
use mathlib.Core.Path.{◌≡◌, refl, sym, ap, ◌∙◌}
use mathlib.Core.List.{List, [], ◌∷◌, ◌++◌}
use mathlib.Core.Bool.{Bool, true, false}
use mathlib.Core.Logic.{◌⊎◌, inl, inr}
use Rattle.std.specs.Prelude.{Option, Some, None, Result, Ok, Err}
use lib.ListN.{length, set, drop, replicate}
use lib.Seq.{sets, sets-eq}
use lib.Dec.{leb}
use Rattle.base_lists.specs.Seq.{pick}
use Rattle.base_numbers.specs.declared.Malformed.TheVariants.{D3, D4}
use Rattle.base_numbers.specs.declared.Malformed.{Malformed}
use Rattle.codec_items.specs.declared.Got.{Got}
use Rattle.codec_items.specs.declared.Item.{Item}
use Rattle.codec_items.specs.declared.Sought.{Sought}
use Rattle.codec_items.specs.declared.Sought.TheVariants.{InfoItem, UnknownItem}
use Rattle.codec_items.specs.Items.{Items, item_at, no_item, no_items_is, walk_from, after_item}
use Rattle.codec_items.specs.Info.{sought_by, no_info, item_in, data_of, first_from, info_from}
use Rattle.codec_items.specs.Unknown.{no_unknown, named_by, unknown_from}
use Rattle.codec_items.specs.Found.{end_from, end_after_is, items_from, list_after, place_from, place_after, info_in, unknown_in}
use Rattle.codec_items.proofs.Forms.{item_inside_holds, first_octet_holds}

-- a walk after those of `read`, with k still permitted, that finds these items up to `end`
pub record Whole (k : ℕ) (read items : List Item) (end : ℕ) (w : Items) : Type 0 where
  pub far : 2 ≤ end
  pub sound : w.verdict ≡ Ok tt
  pub counted : w.count ≡ 16 - k + length items
  pub ends : w.end ≡ end
  pub listed : w.list ≡ sets read (16 - k) items

-- what the place after the items says of the walk
abbrev pub Finds : ℕ → List Item → List Item → Result ℕ Malformed → Items → Type 0
Finds k read items end w = ((d : Malformed) × (end ≡ Err d) × (w ≡ no_items_is (Err d) 0)) ⊎ ((n : ℕ) × (end ≡ Ok n) × Whole k read items n w)

-- one item before those that a walk finds
one_before : (k : ℕ) (read items : List Item) (it : Item) (end : Result ℕ Malformed) (w : Items) → suc k ≤ 16 → Finds k (set read (16 - suc k) it) items end w
    → Finds (suc k) read (it ∷ items) end w
one_before k read items it end w l (inl h) = inl h
one_before k read items it end w l (inr (n, e, h)) =
    let next : 16 - k ≡ suc (16 - suc k) = omega arith in
    inr (n, e, record { far = h.far; sound = h.sound; counted = omega (arith, h.counted); ends = h.ends; listed = rw next at h.listed })

module _ (s : List ℕ) where
  pub finds : (k at : ℕ) (read : List Item) → k ≤ 16 → 1 ≤ at → Finds k read (items_from k s at) (end_from k s at) (walk_from k s at read)
  unfolding items_from end_from walk_from
  finds zero at read l a = inl (D4, refl, refl)
  finds (suc k) at read l a = go (λ (next : ℕ) (r : List Item) (h : 1 ≤ next). finds k next r (omega arith) h) (item_at s at) refl
    where
      go : ((next : ℕ) (r : List Item) → 1 ≤ next → Finds k r (items_from k s next) (end_from k s next) (walk_from k s next r))
          → (g : Option Got) → item_at s at ≡ g → Finds (suc k) read (list_after (items_from k s) g) (end_after_is (end_from k s) g) (after_item (suc k) (walk_from k s) read g)
      go ih None e = inl (D3, refl, refl)
      go ih (Some g) e = by g.con
        where
          past : at < g.next
          past = (item_inside_holds s at g e).0

          by : (c : Bool) → Finds (suc k) read (g.item ∷ pick c (items_from k s g.next) []) (pick c (end_from k s g.next) (Ok g.next))
              (pick c (walk_from k s g.next (set read (16 - suc k) g.item)) (record { verdict = Ok tt; count = 17 - suc k; end = g.next; list = set read (16 - suc k) g.item }))
          by true = one_before k read (items_from k s g.next) g.item _ _ l (ih g.next _ (omega (arith, past)))
          by false = inr (g.next, refl, record { far = omega (arith, past); sound = refl; counted = omega arith; ends = refl; listed = refl })

  pub end_inside : (k at n : ℕ) → end_from k s at ≡ Ok n → n ≤ length s
  unfolding end_from
  end_inside zero at n l = absurd cc
  end_inside (suc k) at n l = go (λ (next : ℕ). end_inside k next n) (item_at s at) refl l
    where
      go : ((next : ℕ) → end_from k s next ≡ Ok n → n ≤ length s) → (g : Option Got) → item_at s at ≡ g → end_after_is (end_from k s) g ≡ Ok n → n ≤ length s
      go ih None e l = absurd cc
      go ih (Some g) e l = by g.con l
        where
          by : (c : Bool) → pick c (end_from k s g.next) (Ok g.next) ≡ Ok n → n ≤ length s
          by true l = ih g.next l
          by false l = let q : g.next ≡ n = cc in omega (arith, (item_inside_holds s at g e).1)

  pub items_few : (k at : ℕ) → length (items_from k s at) ≤ k
  unfolding items_from
  items_few zero at = omega arith
  items_few (suc k) at = go (λ (next : ℕ). items_few k next) (item_at s at)
    where
      go : ((next : ℕ) → length (items_from k s next) ≤ k) → (g : Option Got) → length (list_after (items_from k s) g) ≤ suc k
      go ih None = omega arith
      go ih (Some g) = by g.con
        where
          by : (c : Bool) → length (g.item ∷ pick c (items_from k s g.next) []) ≤ suc k
          by true = omega (arith, ih g.next)
          by false = omega arith

  -- what is told of the first item sought: `said` tells it from the item's place, and nothing where there is none
  module _ {A : Type 0} (sought : Sought) (tell : Item → A) (none : A) (said : Option ℕ → A) (nothing : said None ≡ none)
      (here : (at : ℕ) (g : Got) → item_at s at ≡ Some g → tell g.item ≡ said (Some at)) where
    abbrev first : ℕ → List Item → ℕ → A
    first = first_from sought tell none

    -- the search in a list begins anew behind its first item
    behind : (n : ℕ) (it : Item) (l : List Item) (at : ℕ) → first n (it ∷ l) (suc at) ≡ first n l at
    unfolding first_from
    behind zero it l at = refl
    behind (suc n) it l at =
        let on : suc at + 1 ≡ suc (at + 1) = omega arith in
        ap (pick (sought_by sought (item_in l at).identity) (tell (item_in l at))) (ap (first n (it ∷ l)) on ∙ behind n it l (at + 1))

    first_over : (k at : ℕ) (rest : List Item) → first (length (items_from k s at)) (items_from k s at ++ rest) 0 ≡ said (place_from sought k s at)
    unfolding items_from first_from place_from
    first_over zero at rest = sym nothing
    first_over (suc k) at rest = go (λ (next : ℕ). first_over k next rest) (item_at s at) refl
      where
        go : ((next : ℕ) → first (length (items_from k s next)) (items_from k s next ++ rest) 0 ≡ said (place_from sought k s next)) → (g : Option Got) → item_at s at ≡ g
            → first (length (list_after (items_from k s) g)) (list_after (items_from k s) g ++ rest) 0 ≡ said (place_after sought at (place_from sought k s) g)
        go ih None e = sym nothing
        go ih (Some g) e = by g.con (sought_by sought g.item.identity)
          where
            by : (c b : Bool) → pick b (tell g.item) (first (length (pick c (items_from k s g.next) [])) (g.item ∷ (pick c (items_from k s g.next) [] ++ rest)) 1)
                ≡ said (pick b (Some at) (pick c (place_from sought k s g.next) None))
            by c true = here at g e
            by true false = behind (length (items_from k s g.next)) g.item (items_from k s g.next ++ rest) 0 ∙ ih g.next
            by false false = sym nothing

    -- the same of the list that a walk finds
    first_found : (at end : ℕ) (w : Items) → Whole 16 (replicate 16 no_item) (items_from 16 s at) end w
        → first (pick (leb w.count 16) w.count 16) w.list 0 ≡ said (place_from sought 16 s at)
    first_found at end w h =
        let items : List Item = items_from 16 s at in
        let n : w.count ≡ length items = omega (arith, h.counted) in
        let few : length items ≤ 16 = items_few 16 at in
        let fit : 0 + length items ≤ length (replicate 16 no_item) = omega (arith, few) in
        rw (n, le-leb (length items) 16 few, h.listed, sets-eq items (replicate 16 no_item) 0 fit) (first_over 16 at (drop (0 + length items) (replicate 16 no_item)))

  module _ (at : ℕ) (g : Got) (e : item_at s at ≡ Some g) where
    info_here : data_of g.item ≡ info_in s (Some at)
    info_here = rw e

    unknown_here : named_by g.item ≡ unknown_in s (Some at)
    unknown_here = rw e (ap (λ (x : ℕ). record { identity = g.item.identity; place = x }) (first_octet_holds s at g e))

  module _ (at end : ℕ) (w : Items) (found : Whole 16 (replicate 16 no_item) (items_from 16 s at) end w) where
    -- the first Info item of the list that a walk finds
    pub info_found : info_from (pick (leb w.count 16) w.count 16) w.list 0 ≡ info_in s (place_from InfoItem 16 s at)
    unfolding info_from
    info_found = first_found InfoItem data_of no_info (info_in s) refl info_here at end w found

    -- and the first that isn't known
    pub unknown_found : unknown_from (pick (leb w.count 16) w.count 16) w.list 0 ≡ unknown_in s (place_from UnknownItem 16 s at)
    unfolding unknown_from
    unknown_found = first_found UnknownItem named_by no_unknown (unknown_in s) refl unknown_here at end w found
