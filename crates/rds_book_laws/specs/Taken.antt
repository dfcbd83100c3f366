-- Section 5 of RDS.md, "Taken", as a sentence: on it promise 7 rests.
use Rattle.std.specs.Prelude.{ℕ, ◌≤◌, ◌≡◌, List, ◌⊎◌}
use Rattle.rds_book.specs.Book.{place_of, app_of_is}

-- "that is a Reserve with peer's port s and application X (6.3.3 a)"
pub record Collision (b app : List ℕ) (s : ℕ) : Type 0 where
  pub reserve : (place_of b 0).tag ≡ 2 → ⊥
  pub peer : (place_of b 0).peer ≡ s
  pub same : app_of_is b 0 ≡ app

-- "it is the own port of our outstanding command, unless"
pub record Engaged (b app : List ℕ) (d s : ℕ) : Type 0 where
  pub there : 1 ≤ (place_of b 0).tag
  pub own : (place_of b 0).own ≡ d
  pub no_collision : Collision b app s → ⊥

-- "port d is reserved; or"
abbrev pub Taken : List ℕ → List ℕ → ℕ → ℕ → Type 0
Taken b app d s = (1 ≤ (place_of b d).tag) ⊎ Engaged b app d s
