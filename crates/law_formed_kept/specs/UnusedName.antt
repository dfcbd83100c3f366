-- What leaves a well-formed table well formed needs of a record that is put.
use Rattle.std.specs.Prelude.{ℕ, ◌<◌, List, ◌≡◌}
use Rattle.table_record.specs.declared.Record.{Record}
use Rattle.table_layout.specs.Table.{count, record_at}
use Rattle.table_record_ok.specs.OneRecord.{Live}
use Rattle.table_names_ok.specs.Names.{SameName}

-- no live record at another place than i has the role, peer and TID of r
abbrev pub Unused : List ℕ → ℕ → Record → Type 0
Unused t i r = (j : ℕ) → j < count t → (j ≡ i → ⊥) → Live (record_at t j) → SameName r (record_at t j) → ⊥
