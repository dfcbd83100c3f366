-- The timer call in two, in document 02's words (L3): "one tells the earliest deadline and its transaction, or none; the other fires the transaction named. Where a record is due, both together equal the old call".
use Rattle.std.specs.Prelude.{ℕ, ◌≤◌, ◌<◌, ◌≡◌, List, ◌⊎◌, length, get_or, Err}
use Rattle.base_numbers.specs.declared.Refusal.{Refusal}
use Rattle.table_record.specs.Record.{role_of, role_number}
use Rattle.table_record.specs.declared.Record.{Record}
use Rattle.table_layout.specs.Table.{count, record_at, clock_of}
use Rattle.table_finding.specs.Searched.{Live, Due}
use Rattle.step_outcome.specs.Carry.{Lent, done}
use Rattle.call_plans.specs.Calls.{Call, promised}

-- a live record that has a deadline, due or not
pub record Runs (r : Record) : Type 0 where
  pub live : Live r
  pub deadline : r.deadline ≡ 0 → ⊥

-- "the earliest deadline .. the lowest place on ties": the record at place j has a deadline, none has an earlier one, and none of a lower place the same
pub record Soonest (t : List ℕ) (j : ℕ) : Type 0 where
  pub inside : j < count t
  pub runs : Runs (record_at t j)
  pub none_earlier : (m : ℕ) → m < count t → Runs (record_at t m) → (record_at t j).deadline ≤ (record_at t m).deadline
  pub none_before : (m : ℕ) → m < j → Runs (record_at t m) → (record_at t m).deadline ≡ (record_at t j).deadline → ⊥

-- the C interface: "1 .., the earliest deadline, role, peer and TID of its record"
pub record WordsOf (r : Record) (words : List ℕ) : Type 0 where
  pub word_0 : get_or words 0 0 ≡ 1
  pub word_1 : get_or words 1 0 ≡ r.deadline
  pub word_2 : get_or words 2 0 ≡ role_number (role_of r.state)
  pub word_3 : get_or words 3 0 ≡ r.peer
  pub word_4 : get_or words 4 0 ≡ r.tid

-- "or none": no live record has a deadline, and all five words are 0
pub record NoneRuns (t words : List ℕ) : Type 0 where
  pub none : (m : ℕ) → m < count t → Runs (record_at t m) → ⊥
  pub zero : (k : ℕ) → k < 5 → get_or words k 0 ≡ 0

-- what is told: "the earliest deadline and its transaction, or none"
abbrev pub Told : List ℕ → List ℕ → Type 0
Told t words = ((j : ℕ) × (Soonest t j × WordsOf (record_at t j) words)) ⊎ NoneRuns t words

-- the words past the fifth are as they were
pub record Kept (due words : List ℕ) : Type 0 where
  pub size : length words ≡ length due
  pub rest : (k : ℕ) → 5 ≤ k → get_or words k 0 ≡ get_or due k 0

-- "where a record is due" at this time
abbrev pub SomeDue : List ℕ → ℕ → Type 0
SomeDue t time = (i : ℕ) × ((i < count t) × Due time (record_at t i))

-- the call that fires the record which these words name
abbrev pub fire_told : ℕ → List ℕ → Call
fire_told time words = Call.Fire time (get_or words 2 0) (get_or words 3 0) (get_or words 4 0)

-- where none is due: the old call stores its time, and each firing is refused and changes nothing
pub record NoneDue (l : Lent) (time : ℕ) : Type 0 where
  pub stores : clock_of (promised (Call.Timer time) l).table ≡ time
  pub refused : (role peer tid : ℕ) → (r : Refusal) × (promised (Call.Fire time role peer tid) l ≡ done (Err r) l.table l.store l.output)
