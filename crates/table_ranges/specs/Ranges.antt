-- Lists of tests; an interval in its range (01, "What the reader carries"), mode and waiting limit, the identity of an unknown item (02); octets that are zero.
use Rattle.std.specs.Prelude.{ℕ, ◌+◌, ◌≤◌, ◌<◌, List, [], ◌∷◌, Bool, true, false, ◌≡◌, get_or, leb, eqb}
use Rattle.base_layout.specs.Layout.{interval_bound, unknown_least, identity_bound}
use Rattle.base_lists.specs.Seq.{pick, every}

-- all tests of a list hold
abbrev pub all_of : List Bool → Bool
all_of [] = true
all_of (b ∷ []) = b
all_of (b ∷ c ∷ bs) = pick b (all_of (c ∷ bs)) false

-- an interval in its range: as a sentence, and as a test
pub record Interval (v : ℕ) : Type 0 where
  pub least : 1 ≤ v
  pub most : v ≤ interval_bound

abbrev pub interval_tests : ℕ → List Bool
interval_tests v = leb 1 v ∷ leb v interval_bound ∷ []

unfoldable pub interval : ℕ → Bool
interval v = all_of (interval_tests v)

-- 02, L6: "1 to 86,400,000", "off or on in the settings": mode 0 with no limit, or mode 1 with one; as a sentence, and as a test
pub data ModesOk (modes limit : ℕ) : Type 0 where
  off : modes ≡ 0 → limit ≡ 0 → ModesOk modes limit
  on : modes ≡ 1 → Interval limit → ModesOk modes limit

unfoldable pub modes_ok : ℕ → ℕ → Bool
modes_ok modes limit = pick (eqb modes 0) (eqb limit 0) (pick (eqb modes 1) (interval limit) false)

-- 02, L4: "an item of unknown identity", 6 to 15, or 0 where there is none; as a sentence, and as a test
pub data UnknownOk (k : ℕ) : Type 0 where
  none : k ≡ 0 → UnknownOk k
  some : unknown_least ≤ k → k ≤ identity_bound → UnknownOk k

unfoldable pub unknown_ok : ℕ → Bool
unknown_ok k = pick (eqb k 0) true (pick (leb unknown_least k) (leb k identity_bound) false)

-- the n octets from `at` on are zero: as a sentence, and as a test
abbrev pub Zeros : List ℕ → ℕ → ℕ → Type 0
Zeros t at n = (k : ℕ) → k < n → get_or t (at + k) 0 ≡ 0

unfoldable pub zeros : List ℕ → ℕ → ℕ → Bool
zeros t at n = every (λ k. eqb (get_or t (at + k) 0) 0) n
