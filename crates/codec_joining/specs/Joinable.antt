-- When PDUs can be joined (01, number 11), with their lengths for the octets.
use Rattle.std.specs.Prelude.{ℕ, ◌+◌, ◌≤◌, ◌≡◌, List, [], ◌∷◌, true, length}
use Rattle.codec_joining.specs.Join.{length_octets, each_in_range, sum}

-- the octets of PDUs of these lengths, each with its length
abbrev pub size : List ℕ → ℕ
size [] = 0
size (n ∷ ns) = length (length_octets n) + n + size ns

-- what `joinable` asks, with the sizes of the PDUs and their lengths for the octets
pub record Joinable (bytes lengths : List ℕ) : Type 0 where
  pub some : 1 ≤ length lengths
  pub each : each_in_range lengths ≡ true
  pub adds : sum lengths ≡ length bytes
  pub short : size lengths ≤ 1499
