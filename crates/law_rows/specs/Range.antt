-- The ranges of document 01, "What the reader carries", for what a turn of a record is given; a record's own are `Bounded`.
use Rattle.std.specs.Prelude.{ℕ, ◌≤◌, ◌<◌, List, [], get_or}
use Rattle.base_layout.specs.Layout.{time_bound, interval_bound, exit_bound, cell_size}
use Rattle.table_layout.specs.declared.Settings.{Settings}
use Rattle.table_ranges.specs.Ranges.{UnknownOk}
use Rattle.row_turns.specs.declared.Given.{Given}

-- 01: "Times are milliseconds, 0 to 1,000,000,000,000", "The intervals A, W and R are 1 to 86,400,000", "user data to send 0 to 1,024 bytes; exit information 0 to 128"
pub record Within (g : Given) (s : Settings) (rows : List (List ℕ)) : Type 0 where
  pub time : g.time ≤ time_bound
  pub len : g.len ≤ cell_size
  pub exit_len : g.exit_len ≤ exit_bound
  -- 02, L4: the identity of an unknown item, or none
  pub unknown : UnknownOk g.unknown
  pub a : s.a ≤ interval_bound
  pub w : s.w ≤ interval_bound
  -- 02, L6: "a waiting limit, 1 to 86,400,000", or none
  pub limit : s.limit ≤ interval_bound
  pub intervals : (i n : ℕ) → i < 2 → n < 9 → get_or (get_or rows i []) n 0 ≤ interval_bound
