-- What the loop over the items keeps: storing the items that are left completes the store of all. Assumes nothing.
use Prim.Native.Nat.{ℕ, ◌+◌, ◌<◌, ◌≤◌}
use native.Mathlib.Omega.{arith}
use native.Mathlib.Nat.{sub-zero}
use mathlib.Core.Path.{◌≡◌, refl, sym, ap, ◌∙◌}
use mathlib.Core.List.{List, []}
use mathlib.Core.Bool.{false}
use lib.ListN.{length, take, get_or}
use lib.Dec.{ltb}
use Rattle.base_lists.specs.Seq.{put}
use Rattle.base_lists.proofs.StoresAndParts.{put_append, put_nil, length_put}
use Rattle.codec_items.specs.declared.Item.{Item}
use Rattle.codec_encoding.specs.Write.{item_octets, items_octets, FitItem, FitItems}
use Rattle.codec_encoding.proofs.ItemOctets.{items_from, octets_more, length_more, fit_more, octets_none}

-- in o, at the place `at`, the items k to n are still to be stored; o₀ and at₀ are where it began
pub record Left (s : List ℕ) (l : List Item) (n : ℕ) (o₀ : List ℕ) (at₀ : ℕ) (o : List ℕ) (at k : ℕ) : Type 0 where
  pub few : k ≤ n
  pub fits : FitItems s (items_from l k n)
  pub same : length o ≡ length o₀
  pub ends : at + length (items_octets s false (items_from l k n)) ≡ at₀ + length (items_octets s false (take n l))
  pub done : put o at (items_octets s false (items_from l k n)) ≡ put o₀ at₀ (items_octets s false (take n l))

module _ (s : List ℕ) (l : List Item) (n : ℕ) (o₀ : List ℕ) (at₀ : ℕ) where
  pub left_all : FitItems s (take n l) → Left s l n o₀ at₀ o₀ at₀ 0
  left_all f = record { few = omega arith; fits = rw sub-zero f; same = refl; ends = rw sub-zero refl; done = rw sub-zero refl }

  module _ (d : Item) (o : List ℕ) (at k : ℕ) (h : k < n) (b : n ≤ length l) (left : Left s l n o₀ at₀ o at k) where
    abbrev one : List ℕ
    one = item_octets s (ltb (k + 1) n) (get_or l k d)

    pub next_fits : FitItem s (get_or l k d)
    next_fits = (fit_more l d s k n h b left.fits).0

    pub next_room : at₀ + length (items_octets s false (take n l)) ≤ length o₀ → at + length one ≤ length o
    next_room r = omega (arith, length_more l d s k n h b, left.ends, left.same)

    pub left_fewer : Left s l n o₀ at₀ (put o at one) (at + length one) (k + 1)
    left_fewer = record {
      few = omega arith;
      fits = (fit_more l d s k n h b left.fits).1;
      same = length_put o at one ∙ left.same;
      ends = omega (arith, length_more l d s k n h b, left.ends);
      done = sym (put_append one (items_octets s false (items_from l (k + 1) n)) o at) ∙ rw (octets_more l d s k n h b) at left.done;
    }

  pub left_none : (o : List ℕ) (at k : ℕ) → n ≤ k → Left s l n o₀ at₀ o at k
      → (at ≡ at₀ + length (items_octets s false (take n l))) × (o ≡ put o₀ at₀ (items_octets s false (take n l)))
  left_none o at k h left =
      let z : items_octets s false (items_from l k n) ≡ [] = octets_none s l k n h in
      (omega (arith, ap length z, left.ends), sym (put_nil o at) ∙ rw z at left.done)
