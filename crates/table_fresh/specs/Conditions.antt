-- The conditions of the fresh-table call's numbers 1 and 10 (01, "Numbers given back"), each on its own.
use Rattle.std.specs.Prelude.{ℕ, ◌≤◌, ◌<◌, ◌≡◌, List, ◌⊎◌, length, get_or}
use Rattle.base_layout.specs.Layout.{base}
use Rattle.table_ranges.specs.Ranges.{ModesOk}

-- how many records there are, where the size is right
pub record Sized (len n : ℕ) : Type 0 where
  pub some : 1 ≤ n
  pub most : n ≤ 48
  pub exact : len ≡ base n

-- a table of 1 to 48 records
abbrev pub SomeSize : ℕ → Type 0
SomeSize len = (n : ℕ) × Sized len n

-- word k of the settings
abbrev pub word : List ℕ → ℕ → ℕ
word ws k = get_or ws k 0

-- an interval out of its range
abbrev pub NoInterval : ℕ → Type 0
NoInterval w = (w < 1) ⊎ (86400000 < w)

-- 01: "a setting or first GenTID is out of range"; 02, L6: "a bad limit gives 10"
pub data OutOfRange (ws : List ℕ) (first : ℕ) : Type 0 where
  not_32_words : (length ws ≡ 32 → ⊥) → OutOfRange ws first
  rcr_max_over_8 : 8 < word ws 0 → OutOfRange ws first
  aec_max_over_8 : 8 < word ws 1 → OutOfRange ws first
  no_interval : (k : ℕ) → 2 ≤ k → k < 22 → NoInterval (word ws k) → OutOfRange ws first
  unknown_mode : 1 < word ws 22 → OutOfRange ws first
  limit_without_mode : word ws 22 ≡ 0 → (word ws 23 ≡ 0 → ⊥) → OutOfRange ws first
  mode_without_limit : word ws 22 ≡ 1 → NoInterval (word ws 23) → OutOfRange ws first
  not_zero : (k : ℕ) → 24 ≤ k → k < 32 → (word ws k ≡ 0 → ⊥) → OutOfRange ws first
  gen_tid_over_32767 : 32767 < first → OutOfRange ws first

-- and all of them in range
pub record AllInRange (ws : List ℕ) (first : ℕ) : Type 0 where
  pub words_32 : length ws ≡ 32
  pub rcr_max : word ws 0 ≤ 8
  pub aec_max : word ws 1 ≤ 8
  pub intervals : (k : ℕ) → 2 ≤ k → k < 22 → (1 ≤ word ws k) × (word ws k ≤ 86400000)
  pub modes : ModesOk (word ws 22) (word ws 23)
  pub zero_words : (k : ℕ) → 24 ≤ k → k < 32 → word ws k ≡ 0
  pub gen_tid : first ≤ 32767
