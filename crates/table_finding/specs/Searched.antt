-- What the searches look for, in the words of 01: the record that is named, a TID in use, the due record, the lowest and the earliest.
use Rattle.std.specs.Prelude.{ℕ, ◌≤◌, ◌<◌, ◌≡◌, List}
use Rattle.table_record.specs.Record.{role_of}
use Rattle.table_record.specs.declared.Role.{Role}
use Rattle.table_record.specs.declared.Role.TheVariants.{Initiator}
use Rattle.table_record.specs.declared.State.TheVariants.{Free}
use Rattle.table_record.specs.declared.Record.{Record}
use Rattle.table_layout.specs.Table.{record_at}

-- a record that isn't free
abbrev pub Live : Record → Type 0
Live r = r.state ≡ Free → ⊥

-- a live record of this role, peer and TID
pub record Called (role : Role) (peer tid : ℕ) (r : Record) : Type 0 where
  pub live : Live r
  pub role_is : role_of r.state ≡ role
  pub peer_is : r.peer ≡ peer
  pub tid_is : r.tid ≡ tid

-- a live initiator record of this TID, any peer
pub record Uses (tid : ℕ) (r : Record) : Type 0 where
  pub live : Live r
  pub role_is : role_of r.state ≡ Initiator
  pub tid_is : r.tid ≡ tid

-- a live record whose timer runs and whose deadline is not after the time
pub record Due (time : ℕ) (r : Record) : Type 0 where
  pub live : Live r
  pub runs : r.deadline ≡ 0 → ⊥
  pub not_after : r.deadline ≤ time

-- j is the lowest of n records of which P holds
pub record LowestOf (P : Record → Type 0) (t : List ℕ) (n j : ℕ) : Type 0 where
  pub below : j < n
  pub is_so : P (record_at t j)
  pub none_before : (m : ℕ) → m < j → P (record_at t m) → ⊥

-- P holds of none of n records
abbrev pub NoneOf : (Record → Type 0) → List ℕ → ℕ → Type 0
NoneOf P t n = (m : ℕ) → m < n → P (record_at t m) → ⊥

-- the record at a place is due, and its deadline
abbrev pub DueAt : List ℕ → ℕ → ℕ → Type 0
DueAt t time m = Due time (record_at t m)

abbrev pub deadline_at : List ℕ → ℕ → ℕ
deadline_at t m = (record_at t m).deadline

-- the record at j is due, no record below n that is due has an earlier deadline, and each one before it a later one
pub record Earliest (t : List ℕ) (time n j : ℕ) : Type 0 where
  pub below : j < n
  pub is_due_holds : DueAt t time j
  pub no_earlier : (m : ℕ) → m < n → DueAt t time m → deadline_at t j ≤ deadline_at t m
  pub before_later : (m : ℕ) → m < j → DueAt t time m → deadline_at t j < deadline_at t m
