-- "at most (1 + RCR_MAX) times (4 + n)" (02, L11) is attained: by a request of class 1 that is fired RCR_MAX times and never asked to verify its TID.
use Rattle.std.specs.Prelude.{ℕ, zero, suc, ◌+◌, ◌*◌, ◌≡◌, false, List}
use Rattle.table_record.specs.declared.State.TheVariants.{IResultWait1}
use Rattle.table_record.specs.declared.Record.{Record}
use Rattle.table_layout.specs.declared.Settings.{Settings}
use Rattle.row_events.specs.declared.Event.TheVariants.{Timer}
use Rattle.row_choice.specs.Rows.{row_of}
use Rattle.row_conditions.specs.Conditions.{conditions_of}
use Rattle.row_turns.specs.Turns.{row_turn}
use Rattle.row_turns.specs.declared.Given.{Given}

-- the record after one firing
unfoldable pub fired_once : Given → Settings → List (List ℕ) → Record → Record
fired_once g s rows r = (row_turn (row_of r.state Timer (conditions_of s r)) r g s rows).after

-- after so many, each with what comes with it
unfoldable pub fired_times : (ℕ → Given) → Settings → List (List ℕ) → ℕ → Record → Record
fired_times gs s rows zero r = r
fired_times gs s rows (suc k) r = fired_once (gs k) s rows (fired_times gs s rows k r)

-- a request's record that has sent its Invoke with n octets of data k times after the first
pub record AllInvokes (k n : ℕ) (r : Record) : Type 0 where
  pub waits : r.state ≡ IResultWait1
  pub no_tidok : r.tidok_sent ≡ false
  pub again : r.rcr.0 ≡ k
  pub data_len : r.len ≡ n
  pub sum : r.sent ≡ (1 + k) * (4 + n)
