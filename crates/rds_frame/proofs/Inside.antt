-- A header ends within its frame, and has at most three octets. Assumes nothing.
use mathlib.Core.Path.{◌≡◌, refl, subst}
use mathlib.Core.List.{List}
use mathlib.Core.Bool.{Bool, true, false}
use Prim.Native.Nat.{ℕ, ◌+◌, ◌/◌, ◌%◌, ◌≤◌}
use native.Mathlib.Omega.{arith}
use borrow.Author.Tests.{ltb-false, leb-false, eqb-false}
use lib.ListN.{length, get_or}
use lib.Dec.{ltb, leb, eqb}
use Rattle.std.specs.Prelude.{Option, Some, None}
use Rattle.std.proofs.lemmas.Option.{none-some}
use Rattle.base_lists.specs.Seq.{pick}
use Rattle.rds_frame.specs.declared.Kind.{Kind}
use Rattle.rds_frame.specs.declared.Head.{Head}
use Rattle.rds_frame.specs.declared.Kind.TheVariants.{Ui}
use Rattle.rds_frame.specs.Frame.{Inside, flag, kind_of, ports_after, headed, head_of}

pub same_heads : (a b : Head) → Some a ≡ Some b → a ≡ b
same_heads a b p = cc

module _ (s : List ℕ) (h : Head) where
  ports_inside : (k : Kind) (ads : Bool) (at : ℕ) → at ≤ length s → at ≤ 2 → ports_after s k ads at ≡ Some h → Inside s h
  unfolding ports_after
  ports_inside k true at l g e = go (leb (length s) at) refl e where
    go : (b : Bool) → leb (length s) at ≡ b
        → pick b None (Some (record { kind = k; ads = true; source = get_or s at 0 / 16; destination = get_or s at 0 % 16; end = at + 1 })) ≡ Some h → Inside s h
    go true p e = absurd (none-some h e)
    go false p e = subst (Inside s) (same_heads (record { kind = k; ads = true; source = get_or s at 0 / 16; destination = get_or s at 0 % 16; end = at + 1 }) h e) (omega (arith, leb-false (length s) at p), omega arith)
  ports_inside k false at l g e = subst (Inside s) (same_heads (record { kind = k; ads = false; source = 0; destination = 0; end = at }) h e) (l, omega arith)

  pub head_inside : (network : Bool) → head_of s network ≡ Some h → Inside s h
  unfolding head_of
  head_inside network = go (eqb (length s) 0) refl (leb 128 (get_or s 0 0)) (eqb (get_or s 0 0 / 32) 2) (ltb (length s) 2) refl (kind_of (get_or s 0 0) (get_or s 1 0) network) where
    go : (a : Bool) → eqb (length s) 0 ≡ a → (b c d : Bool) → ltb (length s) 2 ≡ d → (k : Option Kind)
        → pick a None (pick b None (pick c (ports_after s (Ui (get_or s 0 0 % 8)) (flag 8 (get_or s 0 0)) 1) (pick d None (headed s (flag 8 (get_or s 0 0)) k)))) ≡ Some h → Inside s h
    go true p b c d q k e = absurd (none-some h e)
    go false p true c d q k e = absurd (none-some h e)
    go false p false true d q k e = ports_inside _ _ 1 (omega (arith, eqb-false (length s) 0 p)) (omega arith) e
    go false p false false true q k e = absurd (none-some h e)
    go false p false false false q None e = absurd (none-some h e)
    go false p false false false q (Some k) e = ports_inside k _ 2 (ltb-false (length s) 2 q) (omega arith) e
