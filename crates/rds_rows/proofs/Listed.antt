-- The rows as defined are the rows as section 5 lists them, for every condition. Assumes nothing.
use mathlib.Core.Path.{◌≡◌, refl}
use mathlib.Core.Bool.{Bool, true, false}
use Prim.Native.Nat.{ℕ}
use lib.Dec.{eqb}
use Rattle.rds_rows.specs.Rows.{reserve_row, release_row, answer_row}
use Rattle.rds_rows.specs.Section5.{first_of, reserve_list, release_list, answer_list}

pub reserve_listed : (again mine taken none : Bool) → reserve_row again mine taken none ≡ first_of (reserve_list again mine taken none)
unfolding reserve_row
reserve_listed true mine taken none = refl
reserve_listed false true true none = refl
reserve_listed false true false true = refl
reserve_listed false true false false = refl
reserve_listed false false taken true = refl
reserve_listed false false taken false = refl

pub release_listed : (mine held : Bool) → release_row mine held ≡ first_of (release_list mine held)
unfolding release_row
release_listed true true = refl
release_listed true false = refl
release_listed false held = refl

pub answer_listed : (release : Bool) (status : ℕ) → answer_row release status ≡ first_of (answer_list release (eqb status 0) (eqb status 2))
unfolding answer_row
answer_listed true status = refl
answer_listed false status = refl
