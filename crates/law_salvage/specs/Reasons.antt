-- Why salvage changes a place (02, L12, in its order), said of the octets before it, without the tests that the code runs.
use Rattle.std.specs.Prelude.{ℕ, ◌<◌, ◌≡◌, List, get_or}
use Rattle.base_layout.specs.Layout.{base}
use Rattle.table_layout.specs.Table.{settings_of, record_at}
use Rattle.table_record_ok.specs.OneRecord.{LiveOk, FreeOk}
use Rattle.table_names_ok.specs.Names.{SameName}

-- the state octet says free
abbrev pub SaysFree : List ℕ → ℕ → Type 0
SaysFree t i = get_or t (base i) 0 ≡ 0

-- "each record that has a field out of range": one that isn't free, judged with the table's own RCR_MAX and AEC_MAX
pub record OutOfRange (t : List ℕ) (i : ℕ) : Type 0 where
  pub not_free : SaysFree t i → ⊥
  pub not_in_range : LiveOk t (settings_of t) i → ⊥

-- "free ones that aren't zero"
pub record NotZero (t : List ℕ) (i : ℕ) : Type 0 where
  pub free : SaysFree t i
  pub not_zero : FreeOk t i → ⊥

-- "and then, where live ones share role, peer and TID, keeps the lowest place": both have all fields in range, "then" the others are freed already
pub record SharesLower (t : List ℕ) (i : ℕ) : Type 0 where
  pub in_range_holds : LiveOk t (settings_of t) i
  pub lower : ℕ
  pub below : lower < i
  pub lower_in_range : LiveOk t (settings_of t) lower
  pub same_name : SameName (record_at t lower) (record_at t i)

-- the reasons with their numbers
pub data Reason (t : List ℕ) (i : ℕ) : ℕ → Type 0 where
  out_of_range : OutOfRange t i → Reason t i 1
  not_zero : NotZero t i → Reason t i 2
  shares_lower : SharesLower t i → Reason t i 3
