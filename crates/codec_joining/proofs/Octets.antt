-- A length takes one octet to 127 and else two. Assumes nothing.
use Prim.Native.Nat.{ℕ, ◌+◌, ◌/◌, ◌%◌, ◌<◌, ◌≤◌}
use native.Mathlib.Omega.{arith}
use borrow.Author.Tests.{le-leb, lt-leb}
use mathlib.Core.Path.{◌≡◌}
use mathlib.Core.List.{[], ◌∷◌}
use mathlib.Core.Bool.{Bool, true, false}
use lib.ListN.{length}
use lib.Dec.{leb}
use Rattle.base_lists.specs.Seq.{pick}
use Rattle.codec_joining.specs.Join.{length_octets}

pub one_octet : (n : ℕ) → n ≤ 127 → length_octets n ≡ n ∷ []
unfolding length_octets
one_octet n h = rw (le-leb n 127 h)

pub two_octets : (n : ℕ) → 127 < n → length_octets n ≡ (128 + n / 256) ∷ n % 256 ∷ []
unfolding length_octets
two_octets n h = rw (lt-leb n 127 h)

pub at_most_two : (n : ℕ) → length (length_octets n) ≤ 2
unfolding length_octets
at_most_two n = go (leb n 127)
  where
    go : (b : Bool) → length (pick b (n ∷ []) ((128 + n / 256) ∷ n % 256 ∷ [])) ≤ 2
    go true = omega arith
    go false = omega arith
