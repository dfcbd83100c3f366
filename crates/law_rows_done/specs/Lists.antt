-- A column of the rows as a sparse list: lines of the rows that document 01 names together, and what it says of them.
use Rattle.std.specs.Prelude.{ℕ, Bool, true, false, ◌||◌, List, [], ◌∷◌}
use Rattle.base_lists.specs.Seq.{pick}
use Rattle.row_columns.specs.declared.Send.{Send}

-- whether a row is one of those that a line names
abbrev pub among : {K : Type 0} → (K → K → Bool) → K → List K → Bool
among same row [] = false
among same row (x ∷ l) = same row x || among same row l

-- what the first line that names the row says, and for a row that no line names the value that is given last
abbrev pub listed : {K A : Type 0} → (K → K → Bool) → List (List K × A) → K → A → A
listed same [] row unnamed = unnamed
listed same (x ∷ l) row unnamed = pick (among same row x.0) x.1 (listed same l row unnamed)

-- 01: "A repeat sets RID"
abbrev pub rid : Bool
rid = true

abbrev pub no_rid : Bool
no_rid = false

-- 01: "Abort k" is one of type "0 provider" with reason k
abbrev pub abort : ℕ → Send
abort k = Send.Abort 0 k
