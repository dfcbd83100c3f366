-- Where a live record lies.
use Rattle.std.specs.Prelude.{ℕ, ◌<◌, List}
use Rattle.table_layout.specs.Table.{count, record_at}
use Rattle.table_record_ok.specs.OneRecord.{Live}

-- a live record inside a well-formed table
pub record LiveAt (t : List ℕ) (i : ℕ) : Type 0 where
  pub inside : i < count t
  pub live : Live (record_at t i)
