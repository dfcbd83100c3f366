-- Which changes keep a table well formed, and what they leave as it was.
use Rattle.std.specs.Prelude.{ℕ, ◌≤◌, ◌<◌, ◌≡◌, List, Bool, false, length, Option, Some, None}
use Rattle.base_layout.specs.Layout.{time_bound, tid_bound, cached_bound, peers, exit_bound}
use Rattle.table_layout.specs.Table.{count, settings_of, intervals_of, cached_of, record_at, clock_of}
use Rattle.table_record_ok.specs.OneRecord.{InRange}
use Rattle.law_formed_kept.specs.UnusedName.{Unused}
use Rattle.step_commit.specs.declared.Change.{Change}
use Rattle.step_commit.specs.declared.Change.TheVariants.{Nothing, Put, Clear}
use Rattle.step_commit.specs.declared.GenTid.{GenTid}
use Rattle.step_commit.specs.declared.Changes.{Changes}

-- a record that is put is in range, and no other live record has its role, peer and TID; exit information is stored only with one
unfoldable pub ChangeOk : List ℕ → ℕ → Change → Bool → Type 0
ChangeOk t place Nothing exit = exit ≡ false
ChangeOk t place (Put r) exit = InRange (settings_of t) r × Unused t place r
ChangeOk t place Clear exit = exit ≡ false

-- a cached TID that is set is in its range
unfoldable pub SetOk : Option ℕ → Type 0
SetOk None = Unit
SetOk (Some v) = v ≤ cached_bound

-- and so is GenTID
unfoldable pub CountOk : Option GenTid → Type 0
CountOk None = Unit
CountOk (Some g) = g.tid ≤ tid_bound

-- the changes of an accepted call
pub record Allowed (t : List ℕ) (c : Changes) (exit : List ℕ) : Type 0 where
  pub place : c.place < count t
  pub change : ChangeOk t c.place c.change c.exit
  pub exit_fits : length exit ≤ exit_bound
  pub gen_tid : CountOk c.gen_tid
  pub peer : c.peer < peers
  pub cached : SetOk c.cached
  pub time : c.time ≤ time_bound

-- demand 3: "A call changes no record but the one it names, opens or fires"; and the settings, the intervals and every other peer's cached TID are as they were
pub record Framed (t after : List ℕ) (c : Changes) : Type 0 where
  pub same_length : length after ≡ length t
  pub other_records : (j : ℕ) → (j ≡ c.place → ⊥) → record_at after j ≡ record_at t j
  pub settings : settings_of after ≡ settings_of t
  pub rows : intervals_of after ≡ intervals_of t
  pub other_peers : (p : ℕ) → p < peers → (p ≡ c.peer → ⊥) → cached_of after p ≡ cached_of t p
  pub clock : clock_of after ≡ c.time
