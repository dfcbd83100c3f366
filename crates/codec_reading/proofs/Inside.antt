-- The fixed header and the items end within the PDU. Assumes nothing.
use Prim.Native.Nat.{ℕ, ◌+◌, ◌≤◌}
use native.Mathlib.Omega.{arith}
use borrow.Author.Tests.{ltb-false}
use mathlib.Core.Path.{◌≡◌, refl}
use mathlib.Core.List.{List}
use mathlib.Core.Bool.{Bool, true, false}
use lib.ListN.{length, get_or, replicate}
use lib.Dec.{ltb, eqb}
use Rattle.base_lists.specs.Seq.{pick}
use Rattle.base_numbers.specs.declared.Malformed.TheVariants.{D1, D2}
use Rattle.codec_items.specs.Items.{no_item}
use Rattle.codec_items.proofs.Forms.{walk_inside}
use Rattle.codec_reading.specs.declared.Head.{Head}
use Rattle.codec_reading.specs.Read.{type_of, bad_head, good_head, long_head, head_of, items_after}

module _ (s : List ℕ) where
  long_inside : (long_head s).end ≤ length s
  long_inside = go (ltb (length s) 4) refl (eqb (type_of s) 7) (ltb (length s) (get_or s 3 0 + 4)) refl
    where
      go : (a : Bool) → ltb (length s) 4 ≡ a → (b c : Bool) → ltb (length s) (get_or s 3 0 + 4) ≡ c
          → (pick a (bad_head D1) (pick b (pick c (bad_head D1) (good_head s 7 (get_or s 3 0) (get_or s 3 0 + 4))) (good_head s (type_of s) (get_or s 3 0) 4))).end ≤ length s
      go true p b c q = omega arith
      go false p true true q = omega arith
      go false p true false q = ltb-false (length s) (get_or s 3 0 + 4) q
      go false p false c q = ltb-false (length s) 4 p

  pub head_inside : (head_of s).end ≤ length s
  unfolding head_of
  head_inside = go (eqb (type_of s) 0) (ltb 7 (type_of s)) (ltb (length s) 3) refl (eqb (type_of s) 2) (eqb (type_of s) 3)
    where
      go : (a b c : Bool) → ltb (length s) 3 ≡ c → (d e : Bool)
          → (pick a (bad_head D2) (pick b (bad_head D2) (pick c (bad_head D1) (pick d (good_head s 2 0 3) (pick e (good_head s 3 0 3) (long_head s)))))).end ≤ length s
      go true b c p d e = omega arith
      go false true c p d e = omega arith
      go false false true p d e = omega arith
      go false false false p true e = ltb-false (length s) 3 p
      go false false false p false true = ltb-false (length s) 3 p
      go false false false p false false = long_inside

  pub items_inside_holds : (h : Head) → h.end ≤ length s → (items_after s h).end ≤ length s
  unfolding items_after
  items_inside_holds h e = go h.con refl
    where
      go : (b : Bool) → h.con ≡ b → (items_after s h).end ≤ length s
      go true p = rw p (walk_inside 16 s h.end (replicate 16 no_item))
      go false p = rw p e
