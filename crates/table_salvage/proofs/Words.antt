-- The words of the list: zeros after the pairs, and how many places before them. Assumes nothing.
use Prim.Native.Nat.{ℕ, suc, ◌+◌, ◌-◌, ◌/◌, ◌<◌}
use native.Mathlib.Omega.{arith}
use mathlib.Core.Path.{◌≡◌, refl, sym, ap, ◌∙◌}
use mathlib.Core.List.{List, [], ◌∷◌, ◌++◌}
use lib.ListN.{length, set, replicate}
use lib.Seq.{sets, set_comm}
use Rattle.base_lists.specs.Seq.{put}
use Rattle.base_lists.proofs.StoresAndParts.{put_append}
use Rattle.table_salvage.specs.Salvage.{pairs_size, list_of}

-- a store before others can as well come first
set_first : (w l : List ℕ) (a b c : ℕ) → a < b → set (sets l b w) a c ≡ sets (set l a c) b w
set_first [] l a b c h = refl
set_first (x ∷ w) l a b c h =
    let apart : b ≡ a → ⊥ = λ (e : b ≡ a). omega arith in
    set_first w (set l b x) a (suc b) c (omega arith) ∙ ap (λ (s : List ℕ). sets s (suc b) w) (set_comm l b a x c apart)

-- the pairs, then zeros, then how many places at the front: the list
pub list_made : (l pairs : List ℕ) → put (put (put l 1 pairs) (1 + length pairs) (replicate (pairs_size - length pairs) 0)) 0 (length pairs / 2 ∷ []) ≡ put l 0 (list_of pairs)
unfolding put
list_made l pairs =
    let w : List ℕ = pairs ++ replicate (pairs_size - length pairs) 0 in
    ap (λ (s : List ℕ). set s 0 (length pairs / 2)) (sym (put_append pairs (replicate (pairs_size - length pairs) 0) l 1)) ∙ set_first w l 0 1 (length pairs / 2) (omega arith)

pub list_filled : (l l1 l2 l3 pairs : List ℕ) (k : ℕ) → k ≡ length pairs → l1 ≡ put l 1 pairs → l2 ≡ put l1 (1 + k) (replicate (pairs_size - k) 0) → l3 ≡ put l2 0 (k / 2 ∷ []) → l3 ≡ put l 0 (list_of pairs)
list_filled l l1 l2 l3 pairs k long written cleared counted = rw (counted, cleared, written, long) (list_made l pairs)
