-- Numbers of several octets.
use Rattle.std.specs.Prelude.{ℕ, zero, suc, ◌+◌, ◌*◌, ◌%◌, ◌/◌, ◌≤◌, List, [], ◌∷◌, ◌⊎◌, get_or}

-- the number that octets spell, low octet first
unfoldable pub num : List ℕ → ℕ
num [] = 0
num (b ∷ bs) = b + 256 * num bs

-- the w octets of a number
unfoldable pub enc : ℕ → ℕ → List ℕ
enc zero v = []
enc (suc w) v = v % 256 ∷ enc w (v / 256)

-- the n octets from k on
unfoldable pub gets : ℕ → ℕ → List ℕ → List ℕ
gets zero k s = []
gets (suc n) k s = get_or s k 0 ∷ gets n (k + 1) s

-- n octets from a on and m from b on don't meet
abbrev pub Apart : ℕ → ℕ → ℕ → ℕ → Type 0
Apart a n b m = (a + n ≤ b) ⊎ (b + m ≤ a)
