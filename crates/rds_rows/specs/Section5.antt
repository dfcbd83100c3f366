-- The rows once more, as section 5 of RDS.md lists them: each with what must hold, in the document's order; the first that holds decides.
use Rattle.std.specs.Prelude.{List, [], ◌∷◌, Bool, true, false}
use Rattle.base_lists.specs.Seq.{pick}
use Rattle.rds_rows.specs.declared.Row.{Row}
use Rattle.rds_rows.specs.declared.Row.TheVariants.{R1, R2, R3, R4, R5, R6, R7, R8, R10, R11, R12, R13, R15}

-- a row, and what must hold for it
pub record Listed : Type 0 where
  pub row : Row
  pub holds : Bool

abbrev pub when : Row → Bool → Listed
when r h = record { row = r; holds = h }

-- the first that holds
abbrev pub first_of : List Listed → Row
first_of [] = R15
first_of (x ∷ xs) = pick x.holds x.row (first_of xs)

abbrev pub not : Bool → Bool
not true = false
not false = true

abbrev pub and : Bool → Bool → Bool
and a b = pick a b false

-- section 5, R1 to R5: a Reserve command
abbrev pub reserve_list : Bool → Bool → Bool → Bool → List Listed
reserve_list again mine taken none =
    when R1 again ∷ when R2 (and mine taken) ∷ when R3 none ∷ when R4 (not mine) ∷ when R5 true ∷ []

-- section 5, R6 to R8: a Release command
abbrev pub release_list : Bool → Bool → List Listed
release_list mine held = when R6 (not mine) ∷ when R7 held ∷ when R8 true ∷ []

-- section 5, R10 to R13: a response, with a Status that is `success`, or 2 (`unknown`), to a Release or a Reserve
abbrev pub answer_list : Bool → Bool → Bool → List Listed
answer_list release success unknown =
    when R10 (and (not release) success) ∷ when R11 (not release) ∷ when R12 success ∷ when R12 unknown ∷ when R13 true ∷ []
