-- A well-formed book (RDS.md, section 4), as sentences; and promise 6 (section 9): "a well-formed book stays so".
use Rattle.std.specs.Prelude.{ℕ, zero, suc, ◌+◌, ◌-◌, ◌≤◌, ◌<◌, ◌≡◌, true, List, ◌⊎◌, length, get_or}
use Rattle.rds_book.specs.declared.Place.{Place}
use Rattle.rds_book.specs.Book.{book_size, place_size, app_most, place_at_is, place_of, app_length, well_formed}

-- section 4, "port p": "by whom (1 our command was answered Success, 2 the peer's was), the peer's port that it is paired with (0 to 15), .. the format (0 to 7)"
pub record PortRange (x : Place) : Type 0 where
  pub whom : x.tag ≤ 2
  pub own : x.own ≡ 0
  pub peer : x.peer ≤ 15
  pub format : x.format ≤ 7

-- section 4, "command": "Action 1, 5 or 2, own port (1 to 15), peer's port (0 to 15)"
pub record CommandRange (x : Place) : Type 0 where
  pub action : (x.tag ≡ 1) ⊎ ((x.tag ≡ 2) ⊎ (x.tag ≡ 5))
  pub own : 1 ≤ x.own
  pub own_most : x.own ≤ 15
  pub peer : x.peer ≤ 15
  pub format : x.format ≡ 0

-- "each field in range on its own": place 0 has the command, place p port p
abbrev pub InRange : ℕ → Place → Type 0
InRange zero x = CommandRange x
InRange (suc p) x = PortRange x

-- n octets from `at` on are zero
abbrev pub Zero : List ℕ → ℕ → ℕ → Type 0
Zero b at n = (k : ℕ) → k < n → get_or b (at + k) 0 ≡ 0

-- "an Application ID has 17 + its L octets", of which there are 17 to 272
pub record IsApp (app : List ℕ) : Type 0 where
  pub long : length app ≡ 17 + get_or app 16 0
  pub most : length app ≤ app_most

-- a place that keeps something: in range, its Application ID of 17 to 272 octets, "octets past an Application ID" zero
pub record Used (b : List ℕ) (p : ℕ) : Type 0 where
  pub kept : 1 ≤ (place_of b p).tag
  pub range : InRange p (place_of b p)
  pub most : app_length b p ≤ app_most
  pub past : Zero b (place_at_is p + 4 + app_length b p) (app_most - app_length b p)

-- "free places, the place of no command .. are zero"
abbrev pub PlaceFormed : List ℕ → ℕ → Type 0
PlaceFormed b p = Zero b (place_at_is p) place_size ⊎ Used b p

-- section 4, "Well formed"
pub record Formed (b : List ℕ) : Type 0 where
  pub size : length b ≡ book_size
  pub side : get_or b 0 0 ≤ 1
  pub formats : get_or b 1 0 ≤ 7
  pub places : (p : ℕ) → p < 16 → PlaceFormed b p

-- a frame that is lent: numbers below 256
abbrev pub Octets : List ℕ → Type 0
Octets s = (i : ℕ) → get_or s i 0 < 256

-- promise 6
abbrev pub StaysFormed : List ℕ → List ℕ → Type 0
StaysFormed b after = well_formed b ≡ true → well_formed after ≡ true
