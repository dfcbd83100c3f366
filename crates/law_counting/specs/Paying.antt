-- What a request has cost (02, L11): the count of its record, and its bound.
use Rattle.std.specs.Prelude.{ℕ, ◌+◌, ◌*◌, ◌≤◌, ◌≡◌}
use Rattle.table_record.specs.declared.Record.{Record}

-- "the sum of those PDUs' lengths", "at most (1 + RCR_MAX) times (4 + n)" with the record's own RCR: of a request with n octets of data that has sent so many before its result
pub record Paid (r : Record) (bytes n : ℕ) : Type 0 where
  pub sum : r.sent ≡ bytes
  pub data_len : r.len ≡ n
  pub within : bytes ≤ (1 + r.rcr.0) * (4 + n)
