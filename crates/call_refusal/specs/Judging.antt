-- Refusals (01, "Numbers given back"): "The lowest applicable number is given, and none without its condition".
use Rattle.std.specs.Prelude.{ℕ, ◌<◌, ◌≡◌, List, [], ◌∷◌, ◌++◌, Bool, true, false, not, ◌⊎◌, ltb, Result, Ok, Err}
use Rattle.base_layout.specs.Layout.{time_bound, peer_bound}
use Rattle.base_lists.specs.Seq.{pick}
use Rattle.base_numbers.specs.declared.Refusal.{Refusal}
use Rattle.base_numbers.specs.declared.Refusal.TheVariants.{WrongSize, WrongTime, PeerTooLarge}
use Rattle.table_layout.specs.Table.{clock_of}
use Rattle.table_well_formed.specs.WellFormed.{Fitting, fitting}
use Rattle.step_plan.specs.declared.Step.{Step}
use Rattle.step_plan.specs.Steps.{Plan}

-- a refusal and the test of its condition
pub record Test : Type 0 where
  pub number : Refusal
  pub holds : Bool

abbrev pub test : Refusal → Bool → Test
test number holds = record { number = number; holds = holds }

-- "The lowest applicable number is given": the first test that holds; the tests stand in the order of their numbers
unfoldable pub lowest : List Test → Result Unit Refusal
lowest [] = Ok tt
lowest (t ∷ ts) = pick t.holds (Err t.number) (lowest ts)

-- the plan that a judgement allows
abbrev pub plan_by : Result Unit Refusal → Step → Plan
plan_by (Ok a) step = Ok step
plan_by (Err r) step = Err r

-- the place that a judgement allows
abbrev pub placed_by : Result Unit Refusal → ℕ → Result ℕ Refusal
placed_by (Ok a) place = Ok place
placed_by (Err r) place = Err r

-- a refusal and its condition, as document 01's table says it
pub record Condition : Type 1 where
  pub number : Refusal
  pub says : Type 0

abbrev pub condition : Refusal → Type 0 → Condition
condition number says = record { number = number; says = says }

-- "Given exactly when": the first condition that holds gives its number, and where none holds the call is accepted
unfoldable pub Lowest : List Condition → Result Unit Refusal → Type 0
Lowest [] j = j ≡ Ok tt
Lowest (c ∷ cs) j = (c.says × (j ≡ Err c.number)) ⊎ ((c.says → ⊥) × Lowest cs j)

-- 1: "the table, store or output has the wrong size, or the table is not well formed": the test, and the condition
abbrev pub unfit : List ℕ → ℕ → ℕ → Test
unfit t store output = test WrongSize (not (fitting t store output))

abbrev pub Unfit : List ℕ → ℕ → ℕ → Condition
Unfit t store output = condition WrongSize (Fitting t store output → ⊥)

-- 2: "the time is below the last accepted one or over the bound"
unfoldable pub late_of : List ℕ → ℕ → Bool
late_of t time = pick (ltb time (clock_of t)) true (ltb time_bound time)

abbrev pub too_late : List ℕ → ℕ → Test
too_late t time = test WrongTime (late_of t time)

abbrev pub Late : List ℕ → ℕ → Condition
Late t time = condition WrongTime ((time < clock_of t) ⊎ (time_bound < time))

-- 1 and 2, by which every call is judged first; the numbers that follow are a call's own
abbrev pub first_tests : List ℕ → ℕ → ℕ → ℕ → List Test
first_tests t store output time = unfit t store output ∷ too_late t time ∷ []

-- 1 to 3, of a call that names a peer; 3: "peer over 255"
abbrev pub peer_tests : List ℕ → ℕ → ℕ → ℕ → ℕ → List Test
peer_tests t store output time peer = first_tests t store output time ++ (test PeerTooLarge (ltb peer_bound peer) ∷ [])
