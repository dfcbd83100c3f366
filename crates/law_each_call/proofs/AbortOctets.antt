-- The octets of the user's Abort PDU. Assumes nothing.
use Prim.Native.Nat.{ℕ, ◌/◌, ◌%◌}
use mathlib.Core.List.{List, [], ◌∷◌}

-- the octets of the user's Abort PDU
abbrev pub abort_octets : ℕ → ℕ → List ℕ
abort_octets tid reason = 0x21 ∷ tid / 256 ∷ tid % 256 ∷ reason ∷ []
