-- The items that fitting words say fit, and are as long as said. Assumes nothing.
use Prim.Native.Nat.{ℕ, ◌+◌, ◌*◌, ◌≤◌, ◌<◌}
use native.Mathlib.Omega.{arith}
use mathlib.Core.Path.{◌≡◌, ap, ◌∙◌}
use mathlib.Core.List.{List, [], ◌∷◌}
use mathlib.Core.Logic.{◌⊎◌, inl, inr}
use lib.ListN.{length, get_or}
use lib.Dec.{eqb}
use borrow.Author.Tests.{lt-ltb}
use Rattle.base_lists.specs.Seq.{pick}
use Rattle.base_lists.proofs.StoresAndParts.{lt_or_le, length_tab, get_tab}
use Rattle.codec_items.specs.Items.{no_item}
use Rattle.codec_items.specs.declared.Item.{Item}
use Rattle.codec_said.specs.Said.{word, item_said, items_said}
use Rattle.codec_encoding.specs.Write.{longest, FitItem}
use Rattle.codec_verdict.specs.Length.{form_length, item_length}
use Rattle.codec_verdict.specs.Widths.{any, longest_said, widest_item, inside}
use Rattle.codec_verdict.specs.Judge.{item_inside}
use Rattle.codec_verdict.proofs.Bounds.{Fitting, at_item}
use Rattle.codec_verdict.proofs.ItemLists.{octets_in}

module _ (w : List ℕ) where
  pub said_full : length (items_said w) ≡ 16
  unfolding items_said
  said_full = length_tab (item_said w) 16 0

  pub said_at : (k : ℕ) → k < 16 → get_or (items_said w) k no_item ≡ item_said w k
  unfolding items_said
  said_at k h = let z : 0 + k ≡ k = omega arith in get_tab (item_said w) 16 0 k no_item h ∙ ap (item_said w) z

  pub said_inside : (n k : ℕ) → k < 16 → item_inside n (items_said w) k ≡ inside n (word w (24 + 4 * k + 2)) (word w (24 + 4 * k + 3))
  unfolding item_said
  said_inside n k h = ap (λ (it : Item). inside n it.start it.len) (said_at k h)

  -- the bound of a word of an item that there is
  pub widest_there : (k j : ℕ) → k < word w 15 → widest_item w k j ≡ get_or (15 ∷ 1 ∷ any ∷ longest_said (word w (24 + 4 * k + 1)) ∷ []) j 0
  unfolding widest_item
  widest_there k j h = rw (lt-ltb k (word w 15) h)

-- a form word of 0 or 1 is told by the flag
module _ (form : ℕ) (h : form ≤ 1) where
  zero_or_one : (form ≡ 0) ⊎ (form ≡ 1)
  zero_or_one = go (lt_or_le form 1)
    where
      go : (form < 1) ⊎ (1 ≤ form) → (form ≡ 0) ⊎ (form ≡ 1)
      go (inl e) = inl (omega arith)
      go (inr e) = inr (omega arith)

  form_longest : longest_said form ≡ longest (eqb form 1)
  form_longest = go zero_or_one
    where
      go : (form ≡ 0) ⊎ (form ≡ 1) → longest_said form ≡ longest (eqb form 1)
      go (inl e) = rw e
      go (inr e) = rw e

  form_octets : pick (eqb form 1) 2 1 ≡ form_length form
  form_octets = go zero_or_one
    where
      go : (form ≡ 0) ⊎ (form ≡ 1) → pick (eqb form 1) 2 1 ≡ form_length form
      go (inl e) = rw e
      go (inr e) = rw e

module _ (w : List ℕ) (n k : ℕ) (f : Fitting w n) (there : k < 16) (used : k < word w 15) where
  at : (j : ℕ) → j < 4 → word w (24 + 4 * k + j) ≤ get_or (15 ∷ 1 ∷ any ∷ longest_said (word w (24 + 4 * k + 1)) ∷ []) j 0
  at j h = rw (widest_there w k j used) at (at_item w n f k j there h)

  form_narrow : word w (24 + 4 * k + 1) ≤ 1
  form_narrow = at 1 (omega arith)

  pub item_fits : (s : List ℕ) → word w (24 + 4 * k + 2) + word w (24 + 4 * k + 3) ≤ length s → FitItem s (item_said w k)
  unfolding item_said
  item_fits s lies =
      let z : 24 + 4 * k + 0 ≡ 24 + 4 * k = omega arith in
      let identity : word w (24 + 4 * k) ≤ 15 = rw z at (at 0 (omega arith)) in
      let len : word w (24 + 4 * k + 3) ≤ longest_said (word w (24 + 4 * k + 1)) = at 3 (omega arith) in
      record { identity_fits = omega arith; len_fits = rw (form_longest (word w (24 + 4 * k + 1)) form_narrow) at len; inside = lies }

  pub item_long : octets_in (item_said w k) ≡ item_length w k
  unfolding item_said item_length
  item_long = ap (λ (x : ℕ). x + word w (24 + 4 * k + 3)) (form_octets (word w (24 + 4 * k + 1)) form_narrow)
