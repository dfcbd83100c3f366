-- Condition 9 of section 3, said without a walk: what items of SET_PARAMETERS are (RDS.md, section 1; TS 24.250, 5.4.2.5).
use Rattle.std.specs.Prelude.{ℕ, ◌≡◌, List, [], ◌∷◌, ◌++◌, length}

-- "items to the end, perhaps none: Type, Length, then Length octets. Type 0 (RDS_Version) has Length 1; other Types have any Length"
pub data Items : List ℕ → Type 0 where
  none : Items []
  one : (type len : ℕ) (value rest : List ℕ) → length value ≡ len → (type ≡ 0 → len ≡ 1) → Items rest → Items (type ∷ len ∷ (value ++ rest))
