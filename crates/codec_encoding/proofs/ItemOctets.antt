-- The octets of an item by its form, and of the items from one on. Assumes nothing.
use Prim.Native.Nat.{ℕ, suc, ◌+◌, ◌-◌, ◌*◌, ◌<◌, ◌≤◌}
use native.Mathlib.Omega.{arith}
use native.Mathlib.Numerals.{add-one}
use borrow.Author.Tests.{ltb-true, ltb-false}
use mathlib.Core.Path.{◌≡◌, refl, ap, ◌∙◌}
use mathlib.Core.List.{List, [], ◌∷◌, ◌++◌}
use mathlib.Core.Bool.{Bool, true, false}
use lib.ListN.{length, take, drop, get_or, length-append}
use lib.Seq.{drop-cons}
use lib.Dec.{ltb}
use Rattle.base_lists.specs.Seq.{bit, part}
use Rattle.base_lists.proofs.StoresAndParts.{length_part}
use Rattle.codec_items.specs.declared.Item.{Item}
use Rattle.codec_encoding.specs.Write.{item_octets, items_octets, followed, longest, FitItem, FitItems}

module _ (s : List ℕ) (con : Bool) (it : Item) where
  abbrev top : ℕ
  top = bit con * 128 + it.identity * 8

  pub long_octets : it.long ≡ true → item_octets s con it ≡ (top + 4) ∷ it.len ∷ part s it.start it.len
  unfolding item_octets
  long_octets e = rw e

  pub short_octets : it.long ≡ false → item_octets s con it ≡ (top + it.len) ∷ part s it.start it.len
  unfolding item_octets
  short_octets e = rw e

  pub long_length : it.long ≡ true → FitItem s it → (length (item_octets s con it) ≡ it.len + 2) × (it.len ≤ 255)
  long_length e f =
      let r : longest it.long ≡ 255 = ap longest e in
      (rw (long_octets e, length_part s it.start it.len f.inside) (omega arith), omega (arith, f.len_fits))

  pub short_length : it.long ≡ false → FitItem s it → (length (item_octets s con it) ≡ it.len + 1) × (it.len ≤ 3)
  short_length e f =
      let r : longest it.long ≡ 3 = ap longest e in
      (rw (short_octets e, length_part s it.start it.len f.inside) (omega arith), omega (arith, f.len_fits))

-- the items k to n of a list
abbrev pub items_from : List Item → ℕ → ℕ → List Item
items_from l k n = take (n - k) (drop k l)

pub items_none : (l : List Item) (k n : ℕ) → n ≤ k → items_from l k n ≡ []
items_none l k n h = let z : n - k ≡ 0 = omega arith in rw z

module _ (l : List Item) (d : Item) where
  pub items_more : (k n : ℕ) → k < n → n ≤ length l → items_from l k n ≡ get_or l k d ∷ items_from l (k + 1) n
  items_more k n h b =
      let z : n - k ≡ suc (n - (k + 1)) = omega arith in
      let lt : k < length l = omega arith in
      rw (z, drop-cons l k d lt, add-one)

  followed_is : (k n : ℕ) → n ≤ length l → followed (items_from l k n) false ≡ ltb k n
  followed_is k n b = go (ltb k n) refl
    where
      go : (t : Bool) → ltb k n ≡ t → followed (items_from l k n) false ≡ t
      go true e = rw (items_more k n (ltb-true k n e) b)
      go false e = rw (items_none l k n (ltb-false k n e))

  module _ (s : List ℕ) (k n : ℕ) (h : k < n) (b : n ≤ length l) where
    pub octets_more : items_octets s false (items_from l k n) ≡ item_octets s (ltb (k + 1) n) (get_or l k d) ++ items_octets s false (items_from l (k + 1) n)
    unfolding items_octets
    octets_more = rw (items_more k n h b, followed_is (k + 1) n b)

    pub length_more : length (items_octets s false (items_from l k n)) ≡ length (item_octets s (ltb (k + 1) n) (get_or l k d)) + length (items_octets s false (items_from l (k + 1) n))
    length_more = ap length octets_more ∙ simp length-append

    pub fit_more : FitItems s (items_from l k n) → FitItem s (get_or l k d) × FitItems s (items_from l (k + 1) n)
    unfolding FitItems
    fit_more f = rw (items_more k n h b) at f

pub octets_none : (s : List ℕ) (l : List Item) (k n : ℕ) → n ≤ k → items_octets s false (items_from l k n) ≡ []
unfolding items_octets
octets_none s l k n h = rw (items_none l k n h)
