-- Single steps of the code: a bound read from its row, a part that lies inside, a sum that is capped. Assumes nothing.
use Prim.Native.Nat.{ℕ, ◌+◌, ◌-◌, ◌*◌, ◌≤◌, ◌<◌, min}
use native.Mathlib.Omega.{arith}
use mathlib.Core.Path.{◌≡◌, sym, ap, ◌∙◌}
use mathlib.Core.List.{List, [], ◌∷◌}
use mathlib.Core.Bool.{true, false}
use mathlib.Core.Logic.{◌⊎◌, inl, inr}
use lib.ListN.{get_or}
use lib.Dec.{leb, ltb}
use borrow.Author.Tests.{ltb-true, ltb-false, leb-true, leb-false, lt-ltb, le-ltb, le-leb, lt-leb}
use Rattle.base_lists.specs.Seq.{total}
use Rattle.base_lists.proofs.StoresAndParts.{told, total_more}
use Rattle.codec_said.specs.Said.{word}
use Rattle.codec_verdict.specs.Length.{placed, header_said, form_length, item_length, length_said}
use Rattle.codec_verdict.specs.Widths.{any, longest_said, widest_item, inside}

-- the bound of an item's word, of an item that there is
pub item_row : (w : List ℕ) (k j len : ℕ) → k < word w 15 → len ≡ longest_said (word w (24 + 4 * k + 1)) → get_or (15 ∷ 1 ∷ any ∷ len ∷ []) j 0 ≡ widest_item w k j
unfolding widest_item
item_row w k j len h e = rw (lt-ltb k (word w 15) h, e)

pub inside_after : (n start len : ℕ) → start ≤ n → leb len (n - start) ≡ inside n start len
unfolding inside
inside_after n start len h = go (told (leb len (n - start)))
  where
    go : (leb len (n - start) ≡ true) ⊎ (leb len (n - start) ≡ false) → leb len (n - start) ≡ leb (start + len) n
    go (inl e) = e ∙ sym (le-leb (start + len) n (omega (arith, leb-true len (n - start) e)))
    go (inr e) = e ∙ sym (lt-leb (start + len) n (omega (arith, leb-false len (n - start) e)))

pub not_inside : (n start len : ℕ) → n < start → false ≡ inside n start len
unfolding inside
not_inside n start len h = sym (lt-leb (start + len) n (omega arith))

-- header, user data and k items of a PDU
abbrev pub so_far : List ℕ → ℕ → ℕ
so_far w k = header_said w + word w 17 + total (item_length w) k

pub none_so_far : (w : List ℕ) (header sum : ℕ) → header ≡ min (header_said w) 1501 → sum ≡ min (header + word w 17) 1501 → sum ≡ min (so_far w 0) 1501
unfolding total
none_so_far w header sum h e = omega arith

pub one_more_item : (w : List ℕ) (k sum form both : ℕ) → sum ≡ min (so_far w k) 1501 → form ≡ min (sum + form_length (word w (24 + 4 * k + 1))) 1501
    → both ≡ min (form + word w (24 + 4 * k + 3)) 1501 → both ≡ min (so_far w (k + 1)) 1501
unfolding item_length
one_more_item w k sum form both a b c = omega (arith, total_more (item_length w) k)

pub all_so_far : (w : List ℕ) (k n sum : ℕ) → k ≤ n → n ≤ k → n ≡ placed (word w 15) → sum ≡ min (so_far w k) 1501 → ltb 1500 sum ≡ ltb 1500 (length_said w)
unfolding length_said
all_so_far w k n sum a b e s =
    let z : k ≡ placed (word w 15) = omega arith in
    ap (ltb 1500) s ∙ ap (λ (i : ℕ). ltb 1500 (min (so_far w i) 1501)) z ∙ capped_over (length_said w)
  where
    capped_over : (x : ℕ) → ltb 1500 (min x 1501) ≡ ltb 1500 x
    capped_over x = go (told (ltb 1500 x))
      where
        go : (ltb 1500 x ≡ true) ⊎ (ltb 1500 x ≡ false) → ltb 1500 (min x 1501) ≡ ltb 1500 x
        go (inl e) = lt-ltb 1500 (min x 1501) (omega (arith, ltb-true 1500 x e)) ∙ sym e
        go (inr e) = le-ltb 1500 (min x 1501) (omega (arith, ltb-false 1500 x e)) ∙ sym e
