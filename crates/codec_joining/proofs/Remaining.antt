-- What is left of the sums after some PDUs. Assumes nothing.
use Prim.Native.Nat.{ℕ, ◌+◌, ◌<◌, ◌≤◌}
use native.Mathlib.Omega.{arith}
use native.Mathlib.Numerals.{add-one}
use mathlib.Core.Path.{◌≡◌, refl, sym, ap, ◌∙◌}
use mathlib.Core.List.{List, ◌∷◌}
use mathlib.Core.Bool.{true}
use lib.ListN.{length, get_or, drop}
use lib.Seq.{drop-cons}
use Rattle.codec_joining.specs.Join.{length_octets, each_in_range, sum}
use Rattle.codec_joining.specs.Joinable.{size}
use Rattle.codec_joining.proofs.Sizes.{range_first, range_rest}

-- what is left after i PDUs, which have `used` octets and with their lengths `taken`
pub record Left (lengths : List ℕ) (i used taken : ℕ) : Type 0 where
  pub sums : used + sum (drop i lengths) ≡ sum lengths
  pub sizes : taken + size (drop i lengths) ≡ size lengths
  pub each : each_in_range lengths ≡ each_in_range (drop i lengths)

pub left_none : (lengths : List ℕ) → Left lengths 0 0 0
left_none lengths = record { sums = omega arith; sizes = omega arith; each = refl }

-- what the next PDU, of n octets, adds
pub record Next (lengths : List ℕ) (i used taken n : ℕ) : Type 0 where
  pub sums : used + n + sum (drop (i + 1) lengths) ≡ sum lengths
  pub sizes : taken + (length (length_octets n) + n) + size (drop (i + 1) lengths) ≡ size lengths
  pub range : each_in_range lengths ≡ true → (1 ≤ n) × (n ≤ 1500)

module _ (lengths : List ℕ) (i : ℕ) (h : i < length lengths) where
  pub next_length : drop i lengths ≡ get_or lengths i 0 ∷ drop (i + 1) lengths
  next_length = rw (add-one, drop-cons lengths i 0 h)

  pub left_next : (used taken : ℕ) → Left lengths i used taken → Next lengths i used taken (get_or lengths i 0)
  unfolding sum
  left_next used taken v =
      let a : sum (drop i lengths) ≡ get_or lengths i 0 + sum (drop (i + 1) lengths) = ap sum next_length in
      let b : size (drop i lengths) ≡ length (length_octets (get_or lengths i 0)) + get_or lengths i 0 + size (drop (i + 1) lengths) = ap size next_length in
      record {
        sums = omega (arith, v.sums);
        sizes = omega (arith, v.sizes);
        range = λ e. range_first (get_or lengths i 0) (drop (i + 1) lengths) (sym (ap each_in_range next_length) ∙ sym v.each ∙ e);
      }

  pub left_more : (used taken : ℕ) → Left lengths i used taken → 1 ≤ get_or lengths i 0 → get_or lengths i 0 ≤ 1500
      → Left lengths (i + 1) (used + get_or lengths i 0) (taken + (length (length_octets (get_or lengths i 0)) + get_or lengths i 0))
  left_more used taken v a b =
      let w = left_next used taken v in
      record {
        sums = w.sums;
        sizes = w.sizes;
        each = v.each ∙ ap each_in_range next_length ∙ range_rest (get_or lengths i 0) (drop (i + 1) lengths) a b;
      }
