-- Items of a list, place by place: that they fit, and the length of their octets. Assumes nothing.
use Prim.Native.Nat.{ℕ, zero, suc, ◌+◌, ◌≤◌, ◌<◌}
use native.Mathlib.Omega.{arith}
use mathlib.Core.Path.{◌≡◌, refl, ◌∙◌}
use mathlib.Core.List.{List, [], ◌∷◌}
use mathlib.Core.Bool.{Bool, true, false}
use lib.ListN.{length, get_or, take, length-append}
use Rattle.base_lists.specs.Seq.{pick, total}
use Rattle.base_lists.proofs.StoresAndParts.{total_first}
use Rattle.codec_items.specs.Items.{no_item}
use Rattle.codec_items.specs.declared.Item.{Item}
use Rattle.codec_encoding.specs.Write.{item_octets, items_octets, followed, FitItem, FitItems}
use Rattle.codec_encoding.proofs.ItemOctets.{long_length, short_length}

-- the octets of an item
abbrev pub octets_in : Item → ℕ
octets_in it = pick it.long 2 1 + it.len

module _ (s : List ℕ) where
  pub item_octets_length : (con : Bool) (it : Item) → FitItem s it → length (item_octets s con it) ≡ octets_in it
  item_octets_length con it f = go it.long refl
    where
      go : (b : Bool) → it.long ≡ b → length (item_octets s con it) ≡ octets_in it
      go true e = (long_length s con it e f).0 ∙ rw e (omega arith)
      go false e = (short_length s con it e f).0 ∙ rw e (omega arith)

  pub fit_all : (l : List Item) (n : ℕ) → n ≤ length l → ((k : ℕ) → k < n → FitItem s (get_or l k no_item)) → FitItems s (take n l)
  unfolding FitItems
  fit_all l zero h f = tt
  fit_all [] (suc n) h f = absurd (omega arith)
  fit_all (it ∷ l) (suc n) h f = (f 0 (omega arith), fit_all l n (omega arith) (λ k g. f (suc k) (omega arith)))

  pub fit_at : (l : List Item) (n : ℕ) → n ≤ length l → FitItems s (take n l) → (k : ℕ) → k < n → FitItem s (get_or l k no_item)
  unfolding FitItems
  fit_at l zero h f k g = absurd (omega arith)
  fit_at [] (suc n) h f k g = absurd (omega arith)
  fit_at (it ∷ l) (suc n) h f zero g = f.0
  fit_at (it ∷ l) (suc n) h f (suc k) g = fit_at l n (omega arith) f.1 k (omega arith)

  pub items_length : (last : Bool) (l : List Item) (n : ℕ) → n ≤ length l → FitItems s (take n l)
      → length (items_octets s last (take n l)) ≡ total (λ k. octets_in (get_or l k no_item)) n
  unfolding FitItems items_octets total
  items_length last l zero h f = refl
  items_length last [] (suc n) h f = absurd (omega arith)
  items_length last (it ∷ l) (suc n) h f =
      length-append (item_octets s (followed (take n l) last) it) (items_octets s last (take n l))
      ∙ omega (arith, item_octets_length (followed (take n l) last) it f.0, items_length last l n (omega arith) f.1, total_first (λ k. octets_in (get_or (it ∷ l) k no_item)) n)
