-- The octets of a number by its width are those that the library writes. Assumes nothing.
use Prim.Native.Nat.{ℕ}
use mathlib.Core.Path.{◌≡◌}
use Rattle.std.proofs.Common.{rules}
use Rattle.std.specs.Int.{to_le_bytes, w16, w32, w64}
use Rattle.base_octets.specs.Octets.{enc}

pub two_octets : (v : ℕ) → to_le_bytes w16 v ≡ enc 2 v
unfolding enc
two_octets v = search rules

pub four_octets : (v : ℕ) → to_le_bytes w32 v ≡ enc 4 v
unfolding enc
four_octets v = search rules

pub eight_octets : (v : ℕ) → to_le_bytes w64 v ≡ enc 8 v
unfolding enc
eight_octets v = search rules
