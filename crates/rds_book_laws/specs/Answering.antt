-- Promise 8 (RDS.md, section 9), of one frame: "A command from the peer is answered by exactly one frame, an ERROR command and a response by none."
use Rattle.std.specs.Prelude.{ℕ, ◌≤◌, ◌≡◌, true, false, List, [], length}
use Rattle.rds_frame.specs.declared.Head.{Head}
use Rattle.rds_rows.specs.declared.Row.TheVariants.{R14}
use Rattle.rds_turn.specs.declared.Turn.{Turn}
use Rattle.rds_turn.specs.Turn.{quiet, error_turn}
use Rattle.rds_lent.specs.Asked.{outstanding}
use Rattle.rds_receiving.specs.Receiving.{reply_of}

-- one frame is sent, of two octets at least
abbrev pub SentOne : List ℕ → Turn → Head → Type 0
SentOne b t h = 2 ≤ length (reply_of b t h)

-- none is
abbrev pub SentNone : List ℕ → Turn → Head → Type 0
SentNone b t h = reply_of b t h ≡ []

-- R14 and R15: "ERROR response with ADS 0 while a command is outstanding", and "ERROR with ADS 1"
pub record ErrorRow (b : List ℕ) : Type 0 where
  pub answers : outstanding b ≡ true → (error_turn b false).row ≡ R14
  pub ports : error_turn b true ≡ quiet
