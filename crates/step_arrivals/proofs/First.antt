-- The data that is taken is that of the first item with identity 1; else no item has it. Assumes nothing.
use mathlib.Core.Path.{◌≡◌, refl}
use mathlib.Core.List.{List}
use mathlib.Core.Bool.{true, false}
use mathlib.Core.Logic.{◌⊎◌, inl, inr}
use Prim.Native.Nat.{ℕ, zero, suc, ◌+◌, ◌≤◌, ◌<◌}
use native.Mathlib.Omega.{arith}
use lib.Dec.{eqb}
use borrow.Author.Tests.{eqb-true, eqb-false, le-leb}
use Rattle.base_lists.specs.Seq.{pick}
use Rattle.base_lists.proofs.StoresAndParts.{told, lt_or_le}
use Rattle.codec_items.specs.declared.Item.{Item}
use Rattle.codec_pdu.specs.declared.Pdu.{Pdu}
use Rattle.codec_items.specs.Info.{first_from, info_from, item_in, data_of}
use Rattle.codec_pdu.specs.Pdu.{info_of}
use Rattle.step_arrivals.specs.FirstInfo.{IsInfo, Says}

-- an Info item is further on where the one at `at` is none
further : (list : List Item) (at m : ℕ) → (IsInfo list at → ⊥) → at ≤ m → IsInfo list m → at + 1 ≤ m
further list at m no-info l e = go (lt_or_le at m)
  where
    go : (at < m) ⊎ (m ≤ at) → at + 1 ≤ m
    go (inl h) = omega arith
    go (inr h) =
        let q : m ≡ at = omega arith in
        absurd (no-info (rw q at e))

pub info_says : (n : ℕ) (list : List Item) (at : ℕ) → Says list at n (info_from n list at)
unfolding info_from first_from
info_says zero list at = inr ((λ m a b e. absurd (omega arith)), refl)
info_says (suc k) list at = go (told (eqb (item_in list at).identity 1)) (info_says k list (at + 1))
  where
    go : (eqb (item_in list at).identity 1 ≡ true) ⊎ (eqb (item_in list at).identity 1 ≡ false) → Says list (at + 1) k (info_from k list (at + 1))
        → Says list at (suc k) (pick (eqb (item_in list at).identity 1) (data_of (item_in list at)) (info_from k list (at + 1)))
    go (inl e) r = inl (at, record { from = omega arith; below = omega arith; is_info = eqb-true _ _ e; none_before = λ m a b q. absurd (omega arith) }, rw e)
    go (inr e) (inl (i, f, q)) = inl (
      i,
      record {
        from = omega (arith, f.from);
        below = omega (arith, f.below);
        is_info = f.is_info;
        none_before = λ m a b x. f.none_before m (further list at m (eqb-false _ _ e) a x) b x;
      },
      rw e q,
    )
    go (inr e) (inr (f, q)) = inr ((λ m a b x. f m (further list at m (eqb-false _ _ e) a x) (omega arith) x), rw e q)

-- 01: "that of the first Info item of its Ack, else empty"
pub info_of_says : (p : Pdu) → p.count ≤ 16 → Says p.list 0 p.count (info_of p)
unfolding info_of
info_of_says p h = rw (le-leb _ _ h) (info_says p.count p.list 0)
