-- 01: the fresh-table call "leaves no live record, no cached TID and clock 0", and a well-formed table; 02, L2: TIDnew is due then.
use Rattle.std.specs.Prelude.{ℕ, ◌≡◌, List, true, length}
use Rattle.table_record.specs.declared.State.TheVariants.{Free}
use Rattle.table_layout.specs.Table.{clock_of, gen_tid_of, tidnew_due_of, cached_of, record_at}
use Rattle.table_well_formed.specs.WellFormed.{WellFormed}

-- what is left of a table t made fresh with the first GenTID
pub record FreshOk (old t : List ℕ) (first : ℕ) : Type 0 where
  pub same_size : length t ≡ length old
  pub formed : WellFormed t
  pub no_record : (i : ℕ) → (record_at t i).state ≡ Free
  pub nothing_cached : (peer : ℕ) → cached_of t peer ≡ 0
  pub clock : clock_of t ≡ 0
  pub gen_tid : gen_tid_of t ≡ first
  pub tidnew_due : tidnew_due_of t ≡ true
