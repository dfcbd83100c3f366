-- What is so after every call of the requests accepted since the start (02, L11): the record counts what the history says, and each is reported once.
use Rattle.std.specs.Prelude.{ℕ, ◌+◌, ◌*◌, ◌≤◌, ◌<◌, ◌≡◌, true, List}
use Rattle.base_lists.specs.Seq.{bit}
use Rattle.table_record.specs.Record.{role_of, class_of}
use Rattle.table_record.specs.declared.Role.TheVariants.{Initiator}
use Rattle.table_layout.specs.Table.{count, record_at}
use Rattle.table_record_ok.specs.OneRecord.{Live}
use Rattle.law_counting.specs.Counting.{Counts}
use Rattle.law_counting.specs.Paying.{Paid}
use Rattle.law_history.specs.Trace.{Entry}
use Rattle.law_history.specs.Tally.{Name, lives}
use Rattle.law_history.specs.Moves.{name_of}
use Rattle.law_cost.specs.Cost.{asked, class_in, data_in, spent, Counted, reports}

-- the record at a place counts what its request has sent, and is of its class
pub record Bill (start : Name → Counts) (t : List ℕ) (h : List Entry) (i : ℕ) : Type 0 where
  pub paid : Paid (record_at t i) (spent start h (name_of (record_at t i))) (data_in h (name_of (record_at t i)))
  pub class : class_in h (name_of (record_at t i)) ≡ class_of (record_at t i).state

-- a table, its history, where that began, and RCR_MAX
pub record Owed (start : Name → Counts) (max : ℕ) (t : List ℕ) (h : List Entry) : Type 0 where
  pub bills : (i : ℕ) → i < count t → Live (record_at t i) → role_of (record_at t i).state ≡ Initiator → asked h (name_of (record_at t i)) ≡ true → Bill start t h i
  pub once : (n : Name) → Counted h n → reports h n + bit (lives t n) ≡ 1
  pub bound : (n : Name) → Counted h n → spent start h n ≤ (1 + max) * (4 + data_in h n)
