-- A flag is a bit. Assumes nothing.
use mathlib.Core.Bool.{Bool, true, false}
use Prim.Native.Nat.{◌<◌}
use native.Mathlib.Omega.{arith}
use mir.Val.{bool_byte}

pub bit_below : (b : Bool) → bool_byte b < 2
bit_below true = omega arith
bit_below false = omega arith
