-- What is told of the items is the first that isn't known; else all are. Assumes nothing.
use Prim.Native.Nat.{ℕ, zero, suc, ◌+◌, ◌≤◌, ◌<◌}
use native.Mathlib.Omega.{arith}
use borrow.Author.Tests.{leb-true, leb-false}
use mathlib.Core.Path.{◌≡◌, refl}
use mathlib.Core.List.{List}
use mathlib.Core.Bool.{true, false}
use mathlib.Core.Logic.{◌⊎◌, inl, inr}
use lib.Dec.{leb}
use Rattle.base_lists.specs.Seq.{pick}
use Rattle.base_lists.proofs.StoresAndParts.{told, lt_or_le}
use Rattle.codec_items.specs.Info.{item_in, first_from}
use Rattle.codec_items.specs.Unknown.{named_by, unknown_from}
use Rattle.codec_items.specs.FirstUnknown.{Known, IsKnown, Says}
use Rattle.codec_items.specs.declared.Item.{Item}

-- the listed identities are those below 6
pub known : (identity : ℕ) → identity < 6 → Known identity
known zero h = Known.error refl
known (suc zero) h = Known.info refl
known (suc (suc zero)) h = Known.option refl
known (suc (suc (suc zero))) h = Known.packet_sequence_number refl
known (suc (suc (suc (suc zero)))) h = Known.sdu_boundary refl
known (suc (suc (suc (suc (suc zero))))) h = Known.frame_boundary refl
known (suc (suc (suc (suc (suc (suc n)))))) h = absurd (omega arith)

pub below_six : (identity : ℕ) → Known identity → identity < 6
below_six identity (Known.error e) = omega arith
below_six identity (Known.info e) = omega arith
below_six identity (Known.option e) = omega arith
below_six identity (Known.packet_sequence_number e) = omega arith
below_six identity (Known.sdu_boundary e) = omega arith
below_six identity (Known.frame_boundary e) = omega arith

-- items are known from `at` on where the one at `at` is and those after it are
with_first : (list : List Item) (at m : ℕ) → IsKnown list at → at ≤ m → (at + 1 ≤ m → IsKnown list m) → IsKnown list m
with_first list at m k l f = go (lt_or_le at m)
  where
    go : (at < m) ⊎ (m ≤ at) → IsKnown list m
    go (inl h) = f (omega arith)
    go (inr h) =
        let q : m ≡ at = omega arith in
        rw q k

pub unknown_says : (n : ℕ) (list : List Item) (at : ℕ) → Says list at n (unknown_from n list at)
unfolding unknown_from first_from
unknown_says zero list at = inr ((λ m a b. absurd (omega arith)), refl)
unknown_says (suc k) list at = go (told (leb 6 (item_in list at).identity)) (unknown_says k list (at + 1))
  where
    go : (leb 6 (item_in list at).identity ≡ true) ⊎ (leb 6 (item_in list at).identity ≡ false) → Says list (at + 1) k (unknown_from k list (at + 1))
        → Says list at (suc k) (pick (leb 6 (item_in list at).identity) (named_by (item_in list at)) (unknown_from k list (at + 1)))
    go (inl e) r = inl (
      at,
      record {
        from = omega arith;
        below = omega arith;
        is_unknown = λ x. absurd (omega (arith, leb-true 6 (item_in list at).identity e, below_six (item_in list at).identity x));
        known_before = λ m a b. absurd (omega arith);
      },
      rw e,
    )
    go (inr e) (inl (i, f, q)) = inl (
      i,
      record {
        from = omega (arith, f.from);
        below = omega (arith, f.below);
        is_unknown = f.is_unknown;
        known_before = λ m a b. with_first list at m (known (item_in list at).identity (leb-false 6 (item_in list at).identity e)) a (λ l. f.known_before m l b);
      },
      rw e q,
    )
    go (inr e) (inr (f, q)) = inr ((λ m a b. with_first list at m (known (item_in list at).identity (leb-false 6 (item_in list at).identity e)) a (λ l. f m l (omega arith))), rw e q)
