-- 01: "no two live records share role, peer and TID": as a sentence, and as a test.
use Rattle.std.specs.Prelude.{ℕ, ◌+◌, ◌*◌, ◌-◌, ◌<◌, List, [], ◌∷◌, Bool, true, false, not, ◌≡◌, get_or, leb, ltb, eqb}
use Rattle.base_lists.specs.Seq.{pick, every}
use Rattle.table_record.specs.Record.{role_of, role_number, state_number}
use Rattle.table_record.specs.declared.Record.{Record}
use Rattle.table_layout.specs.Table.{record_at}
use Rattle.table_ranges.specs.Ranges.{all_of}
use Rattle.table_record_ok.specs.OneRecord.{Live}

-- one role, peer and TID
pub record SameName (r s : Record) : Type 0 where
  pub role : role_of r.state ≡ role_of s.state
  pub peer : r.peer ≡ s.peer
  pub tid : r.tid ≡ s.tid

-- no two live records among the first n share it
abbrev pub Unique : List ℕ → ℕ → Type 0
Unique t n =
    (i j : ℕ) → i < n → j < n → (i ≡ j → ⊥) → Live (record_at t i) → Live (record_at t j) → SameName (record_at t i) (record_at t j) → ⊥

-- the test of two records: both are live, and share role, peer and TID
abbrev pub clash_tests : Record → Record → List Bool
clash_tests r s =
    leb 1 (state_number r.state)
    ∷ leb 1 (state_number s.state)
    ∷ eqb (role_number (role_of r.state)) (role_number (role_of s.state))
    ∷ eqb r.peer s.peer
    ∷ eqb r.tid s.tid
    ∷ []

unfoldable pub clash : Record → Record → Bool
clash r s = all_of (clash_tests r s)

-- record i clashes with none before it
unfoldable pub new_name : List ℕ → ℕ → Bool
new_name t i = every (λ j. not (clash (record_at t j) (record_at t i))) i

-- the test of the first n records
unfoldable pub names_ok : List ℕ → ℕ → Bool
names_ok t n = every (new_name t) n

-- role, peer and TID of a live record as one number, and 0 for a free one
unfoldable pub key_of : Record → ℕ
key_of r = pick (eqb (state_number r.state) 0) 0 (1 + role_number (role_of r.state) + 256 * r.peer + 65536 * r.tid)

-- k is the key of r, whose peer and TID have room in it
pub record Keyed (r : Record) (k : ℕ) : Type 0 where
  pub key : k ≡ key_of r
  pub peer : r.peer < 256
  pub tid : r.tid < 65536

-- half of the places: their keys are held at a time
abbrev pub half : ℕ
half = 24

-- k is 0, or none of the keys
unfoldable pub new_key : List ℕ → ℕ → Bool
new_key keys k = pick (eqb k 0) true (every (λ j. not (eqb (get_or keys j 0) k)) half)

-- record m of those from `from` on clashes with none before it in the half that begins there
unfoldable pub new_in_half : List ℕ → ℕ → ℕ → Bool
new_in_half t from m = every (λ j. not (pick (ltb j m) (clash (record_at t (from + j)) (record_at t (from + m))) false)) half

-- the test of the first n records against the half that begins at `from`
unfoldable pub half_ok : List ℕ → ℕ → ℕ → Bool
half_ok t from n = every (new_in_half t from) (n - from)
