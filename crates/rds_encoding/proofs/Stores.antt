-- Stores one after the other are one store. Assumes nothing.
use Prim.Native.Nat.{ℕ, ◌+◌}
use mathlib.Core.Path.{◌≡◌, sym, ap, ◌∙◌}
use mathlib.Core.List.{List, ◌++◌}
use lib.ListN.{length}
use Rattle.base_lists.specs.Seq.{put}
use Rattle.base_lists.proofs.StoresAndParts.{put_append}

pub two_stores : (o a b : List ℕ) (i j : ℕ) → j ≡ i + length a → put (put o i a) j b ≡ put o i (a ++ b)
two_stores o a b i j e = ap (λ (x : ℕ). put (put o i a) x b) e ∙ sym (put_append a b o i)

pub three_stores : (o a b c : List ℕ) (i j k : ℕ) → j ≡ i + length a → k ≡ j + length b → put (put (put o i a) j b) k c ≡ put o i (a ++ (b ++ c))
three_stores o a b c i j k e f = two_stores (put o i a) b c j k f ∙ two_stores o a (b ++ c) i j e

pub four_stores : (o a b c d : List ℕ) (i j k l : ℕ) → j ≡ i + length a → k ≡ j + length b → l ≡ k + length c
    → put (put (put (put o i a) j b) k c) l d ≡ put o i (a ++ (b ++ (c ++ d)))
four_stores o a b c d i j k l e f g = three_stores (put o i a) b c d j k l f g ∙ two_stores o a (b ++ (c ++ d)) i j e
