-- The timer call in two, of the exported functions (02, L3): wtp_timer, and beside it wtp_deadline and then wtp_fire of the record that it told, on the same table, store, output and words at the same time.
use Rattle.std.specs.Prelude.{ℕ, ◌≡◌, List, []}
use Rattle.table_layout.specs.Table.{clock_of}
use Rattle.step_outcome.specs.Carry.{Lent, lent}
use Rattle.call_plans.specs.Calls.{Call}
use Rattle.call_deadline.specs.Deadlines.{deadline_number, due_after}
use Rattle.law_timer_in_two.specs.InTwo.{fire_told}
use Rattle.wtp.specs.Engine.{Called, called, called_by}

-- what the three calls were lent, and what their callers see of them
pub record InTwo : Type 0 where
  pub table : List ℕ
  pub store : List ℕ
  pub output : List ℕ
  pub words : List ℕ
  pub time : ℕ
  pub due : List ℕ
  pub result : ℕ
  pub told : List ℕ
  pub old : Called
  pub new : Called

-- each keeps its contract, and wtp_fire is handed the role, peer and TID that wtp_deadline told
pub record KeepsTwo (x : InTwo) : Type 0 where
  pub deadline : (x.result ≡ deadline_number x.table x.due) × (x.told ≡ due_after x.table x.due)
  pub timer : x.old ≡ called_by (Call.Timer x.time) (lent x.table x.store x.output [] []) x.words
  pub fire : x.new ≡ called_by (fire_told x.time x.told) (lent x.table x.store x.output [] []) x.words

-- where none is due: wtp_timer stores its time; wtp_fire gives a number over 0 and leaves table, store, output and answer, whatever record it names
pub record OnlyTimer (l : Lent) (words : List ℕ) (time : ℕ) : Type 0 where
  pub stores : clock_of (called_by (Call.Timer time) l words).table ≡ time
  pub refused : (role peer tid : ℕ) → ((called_by (Call.Fire time role peer tid) l words).result ≡ 0 → ⊥) × (called_by (Call.Fire time role peer tid) l words ≡ called (called_by (Call.Fire time role peer tid) l words).result l.table l.store l.output words)
