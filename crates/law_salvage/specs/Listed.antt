-- The list that salvage writes (02, L12: "It lists each place it changed, once, with the first of these reasons"; the C interface, L12), word by word.
use Rattle.std.specs.Prelude.{ℕ, ◌+◌, ◌*◌, ◌≤◌, ◌<◌, ◌≡◌, List, length, get_or}

-- how many places there are, and the k-th with its reason
abbrev pub how_many : List ℕ → ℕ
how_many words = get_or words 0 0

abbrev pub place_in : List ℕ → ℕ → ℕ
place_in words k = get_or words (1 + k * 2) 0

abbrev pub reason_in : List ℕ → ℕ → ℕ
reason_in words k = get_or words (1 + k * 2 + 1) 0

-- a place is in the list with a reason
pub record Listed (words : List ℕ) (place reason : ℕ) : Type 0 where
  pub k : ℕ
  pub among : k < how_many words
  pub place_is : place_in words k ≡ place
  pub reason_is : reason_in words k ≡ reason

-- "each place .. once": in rising order of place
abbrev pub Rising : List ℕ → Type 0
Rising words = (k m : ℕ) → k < m → m < how_many words → place_in words k < place_in words m

-- the first 97 words are the list, zeros at its end; further ones are as they were
pub record Written (before words : List ℕ) : Type 0 where
  pub same_length : length words ≡ length before
  pub zeros : (k : ℕ) → 1 + how_many words * 2 ≤ k → k < 97 → get_or words k 0 ≡ 0
  pub further : (k : ℕ) → 97 ≤ k → get_or words k 0 ≡ get_or before k 0
