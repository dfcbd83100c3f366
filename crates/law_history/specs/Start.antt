-- Where a history begins: with a table made fresh, or with one that has live records (02, L12: "demand 3 counts history afresh, with live records, and what the store holds for them, taken as the start").
use Rattle.std.specs.Prelude.{ℕ, ◌*◌, ◌<◌, ◌≡◌, Bool, true, ◌||◌, List, eqb, Option, Some, None}
use Rattle.base_layout.specs.Layout.{cell_size}
use Rattle.base_lists.specs.Seq.{part}
use Rattle.table_record.specs.Record.{class_of, state_number}
use Rattle.table_record.specs.declared.State.{State}
use Rattle.table_record.specs.declared.State.TheVariants.{RTidokWait1, RTidokWait2}
use Rattle.table_layout.specs.Table.{count, record_at}
use Rattle.table_finding.specs.Finding.{named_of}
use Rattle.law_counting.specs.Counting.{Counts, none, counts_in}
use Rattle.law_history.specs.Tally.{Name}

-- what counts under a name as sent and shown before the first call, and which Invokes are there to be verified: peer, TID, class, U/P and data
pub record Start : Type 1 where
  pub counts : Name → Counts
  pub keeps : ℕ → ℕ → ℕ → Bool → List ℕ → Type 0

-- a table made fresh: nothing was sent or shown, and no Invoke waits
abbrev pub fresh : Start
fresh = record { counts = λ n. none; keeps = λ peer tid class up octets. ⊥ }

-- TIDOK WAIT, of class 1 or 2
abbrev pub in_tidok_wait : State → Bool
in_tidok_wait s = eqb (state_number s) (state_number RTidokWait1) || eqb (state_number s) (state_number RTidokWait2)

-- "live records .. taken as the start": a live record counts as having sent and shown what its state, RCR and HoldOn say
abbrev pub said_by : List ℕ → Option ℕ → Counts
said_by t (Some i) = counts_in (record_at t i).state (record_at t i).rcr.0 (record_at t i).hold_on
said_by t None = none

-- "and what the store holds for them": a record in TIDOK WAIT is that of the Invoke whose data its cell holds
pub record Kept (t s : List ℕ) (peer tid class : ℕ) (up : Bool) (octets : List ℕ) : Type 0 where
  pub place : ℕ
  pub inside : place < count t
  pub waits : in_tidok_wait (record_at t place).state ≡ true
  pub peer_is : (record_at t place).peer ≡ peer
  pub tid_is : (record_at t place).tid ≡ tid
  pub class_is : class_of (record_at t place).state ≡ class
  pub up_is : (record_at t place).user_ack ≡ up
  pub holds : part s (place * cell_size) (record_at t place).len ≡ octets

-- a table and its store
abbrev pub start_of : List ℕ → List ℕ → Start
start_of t s = record { counts = λ n. said_by t (named_of t (count t) n.role n.peer n.tid); keeps = Kept t s }
