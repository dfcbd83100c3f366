-- The words tested by rows are all words tested: words 0 to 23 by the type, eight at a time, then four for each item. Assumes nothing.
use Prim.Native.Nat.{ℕ, zero, suc, ◌+◌, ◌-◌, ◌*◌, ◌/◌, ◌≤◌, ◌<◌}
use native.Mathlib.Omega.{arith}
use mathlib.Core.Path.{◌≡◌, refl, sym, ap, subst, ◌∙◌}
use mathlib.Core.List.{List, [], ◌∷◌}
use mathlib.Core.Bool.{Bool, true, false}
use mathlib.Core.Logic.{◌⊎◌, inl, inr}
use lib.ListN.{length, get_or}
use lib.Dec.{leb, ltb}
use Rattle.base_lists.specs.Seq.{pick, every}
use Rattle.base_lists.proofs.StoresAndParts.{lt_or_le, both, both_fst, both_snd, every_at, every_all, length_tab, get_tab}
use Rattle.base_lists.proofs.Every.{same_test}
use Rattle.codec_said.specs.Said.{word}
use Rattle.codec_verdict.specs.Widths.{any, widths, longest_said, widest_item, widest, narrow_at, none_too_wide, widths_of, widest_four, row_narrow, head_narrow, item_narrow, items_narrow}
use Rattle.codec_verdict.proofs.Bounds.{widest_head, widest_of_item}

-- the words from a to b are narrow
abbrev Span : List ℕ → ℕ → ℕ → Type 0
Span w a b = (i : ℕ) → a ≤ i → i < b → narrow_at w i ≡ true

-- a row of n bounds that are those of the words from `at` on
module _ (w : List ℕ) (at : ℕ) (most : List ℕ) (n : ℕ) (long : length most ≡ n) (bounds : (j : ℕ) → j < n → get_or most j 0 ≡ widest w (at + j)) where
  row_tells : row_narrow w at most ≡ true → Span w at (at + n)
  unfolding row_narrow
  row_tells e i a b =
      let j : ℕ = i - at in
      let here : at + j ≡ i = omega arith in
      subst (λ (x : ℕ). narrow_at w x ≡ true) here
      (sym (ap (leb (word w (at + j))) (bounds j (omega arith))) ∙ every_at (λ j. leb (word w (at + j)) (get_or most j 0)) (length most) e j (omega arith))

  row_holds : Span w at (at + n) → row_narrow w at most ≡ true
  unfolding row_narrow
  row_holds f =
      every_all (λ j. leb (word w (at + j)) (get_or most j 0)) (length most)
      (λ (j : ℕ) (h : j < length most). ap (leb (word w (at + j))) (bounds j (omega arith)) ∙ f (at + j) (omega arith) (omega arith))

module _ (w : List ℕ) where
  -- the rows of words 0 to 23
  abbrev row : ℕ → List ℕ
  row at = widths_of (word w 0) at

  row_long : (at : ℕ) → length (row at) ≡ 8
  unfolding widths_of
  row_long at = length_tab (λ (i : ℕ). get_or (get_or widths i []) (word w 0) 0) 8 at

  row_bounds : (at : ℕ) → at ≤ 16 → (j : ℕ) → j < 8 → get_or (row at) j 0 ≡ widest w (at + j)
  unfolding widths_of
  row_bounds at b j h = get_tab (λ (i : ℕ). get_or (get_or widths i []) (word w 0) 0) 8 at j 0 h ∙ sym (widest_head w (at + j) (omega arith))

  head_tells : head_narrow w ≡ true → Span w 0 24
  unfolding head_narrow
  head_tells e i a b = go (lt_or_le i 8) (lt_or_le i 16)
    where
      last : pick (row_narrow w 8 (row 8)) (row_narrow w 16 (row 16)) false ≡ true
      last = both_snd (row_narrow w 0 (row 0)) (pick (row_narrow w 8 (row 8)) (row_narrow w 16 (row 16)) false) e

      go : (i < 8) ⊎ (8 ≤ i) → (i < 16) ⊎ (16 ≤ i) → narrow_at w i ≡ true
      go (inl x) y = row_tells w 0 (row 0) 8 (row_long 0) (row_bounds 0 (omega arith)) (both_fst (row_narrow w 0 (row 0)) (pick (row_narrow w 8 (row 8)) (row_narrow w 16 (row 16)) false) e) i (omega arith) (omega arith)
      go (inr x) (inl y) = row_tells w 8 (row 8) 8 (row_long 8) (row_bounds 8 (omega arith)) (both_fst (row_narrow w 8 (row 8)) (row_narrow w 16 (row 16)) last) i (omega arith) (omega arith)
      go (inr x) (inr y) = row_tells w 16 (row 16) 8 (row_long 16) (row_bounds 16 (omega arith)) (both_snd (row_narrow w 8 (row 8)) (row_narrow w 16 (row 16)) last) i (omega arith) (omega arith)

  head_holds : Span w 0 24 → head_narrow w ≡ true
  unfolding head_narrow
  head_holds f =
      both (row_narrow w 0 (row 0)) (pick (row_narrow w 8 (row 8)) (row_narrow w 16 (row 16)) false) (one 0 (omega arith))
      (both (row_narrow w 8 (row 8)) (row_narrow w 16 (row 16)) (one 8 (omega arith)) (one 16 (omega arith)))
    where
      one : (at : ℕ) → at ≤ 16 → row_narrow w at (row at) ≡ true
      one at b = row_holds w at (row at) 8 (row_long at) (row_bounds at b) (λ i x y. f i (omega arith) (omega arith))

  -- the four words of item k
  none_there : (j : ℕ) → get_or {A = ℕ} (0 ∷ 0 ∷ 0 ∷ 0 ∷ []) j 0 ≡ 0
  none_there zero = refl
  none_there (suc zero) = refl
  none_there (suc (suc zero)) = refl
  none_there (suc (suc (suc zero))) = refl
  none_there (suc (suc (suc (suc j)))) = refl

  abbrev there : ℕ → List ℕ
  there k = 15 ∷ 1 ∷ any ∷ longest_said (word w (24 + 4 * k + 1)) ∷ []

  four_long : (k : ℕ) → length (widest_four w k) ≡ 4
  unfolding widest_four
  four_long k = go (ltb k (word w 15))
    where
      go : (b : Bool) → length (pick b (there k) (0 ∷ 0 ∷ 0 ∷ 0 ∷ [])) ≡ 4
      go true = refl
      go false = refl

  four_bounds : (k j : ℕ) → j < 4 → get_or (widest_four w k) j 0 ≡ widest w (24 + 4 * k + j)
  unfolding widest_four widest_item
  four_bounds k j h = go (ltb k (word w 15)) ∙ sym (widest_of_item w k j h)
    where
      go : (b : Bool) → get_or (pick b (there k) (0 ∷ 0 ∷ 0 ∷ 0 ∷ [])) j 0 ≡ pick b (get_or (there k) j 0) 0
      go true = refl
      go false = none_there j

  -- ALL WORDS, ROW BY ROW
  pub by_rows : pick (head_narrow w) (items_narrow w) false ≡ none_too_wide w
  unfolding none_too_wide items_narrow
  by_rows = same_test (pick (head_narrow w) (items_narrow w) false) (none_too_wide w) tells holds
    where
      tells : pick (head_narrow w) (items_narrow w) false ≡ true → every (narrow_at w) 88 ≡ true
      tells e = every_all (narrow_at w) 88 (λ (i : ℕ) (h : i < 88). at i h (lt_or_le i 24))
        where
          at : (i : ℕ) → i < 88 → (i < 24) ⊎ (24 ≤ i) → narrow_at w i ≡ true
          at i h (inl u) = head_tells (both_fst (head_narrow w) (every (item_narrow w) 16) e) i (omega arith) u
          at i h (inr u) =
              let k : ℕ = (i - 24) / 4 in
              row_tells w (24 + 4 * k) (widest_four w k) 4 (four_long k) (four_bounds k) (every_at (item_narrow w) 16 (both_snd (head_narrow w) (every (item_narrow w) 16) e) k (omega arith)) i (omega arith) (omega arith)

      holds : every (narrow_at w) 88 ≡ true → pick (head_narrow w) (items_narrow w) false ≡ true
      holds e =
          both (head_narrow w) (every (item_narrow w) 16) (head_holds (λ i a b. every_at (narrow_at w) 88 e i (omega arith)))
          (every_all (item_narrow w) 16 (λ (k : ℕ) (h : k < 16). row_holds w (24 + 4 * k) (widest_four w k) 4 (four_long k) (four_bounds k) (λ i a b. every_at (narrow_at w) 88 e i (omega arith))))
