-- What a plan that goes knows: its step is the one that was planned, none of its tests holds, its table fits and its time is in range. Assumes nothing.
use Prim.Native.Nat.{ℕ, ◌≤◌}
use mathlib.Core.Path.{◌≡◌, refl, sym, ap}
use mathlib.Core.List.{List, ◌∷◌}
use mathlib.Core.Bool.{Bool, true, false}
use Rattle.std.specs.Prelude.{Result, Ok, Err}
use Rattle.base_numbers.specs.declared.Refusal.{Refusal}
use Rattle.base_layout.specs.Layout.{time_bound}
use Rattle.base_lists.proofs.StoresAndParts.{true_false}
use Rattle.table_layout.specs.Table.{clock_of}
use Rattle.table_well_formed.specs.WellFormed.{Fitting}
use Rattle.step_plan.specs.declared.Step.{Step}
use Rattle.step_plan.specs.Steps.{Plan}
use Rattle.call_refusal.specs.Judging.{Test, lowest, plan_by, unfit, too_late}
use Rattle.call_refusal.proofs.Fits.{accepted, fits, in_time}

-- the step of a plan that goes, else another one
abbrev step_in : Plan → Step → Step
step_in (Ok step) other = step
step_in (Err r) other = other

abbrev is_go : Plan → Bool
is_go (Ok step) = true
is_go (Err r) = false

pub goes : (ts : List Test) (planned step : Step) → plan_by (lowest ts) planned ≡ Ok step → (lowest ts ≡ Ok tt) × (step ≡ planned)
goes ts planned step e = go (lowest ts) refl
  where
    go : (j : Result Unit Refusal) → lowest ts ≡ j → (lowest ts ≡ Ok tt) × (step ≡ planned)
    go (Ok a) q =
        let h : Ok planned ≡ Ok step = rw q at e in
        (q, sym (ap (λ (p : Plan). step_in p planned) h))
    go (Err r) q =
        let h : Err r ≡ Ok step = rw q at e in
        true_false (sym (ap is_go h))

-- numbers 1 and 2, which every call has, aren't given
pub record Entered (t : List ℕ) (store output time : ℕ) : Type 0 where
  pub fitting : Fitting t store output
  pub since : clock_of t ≤ time
  pub bounded : time ≤ time_bound

pub entered : (t : List ℕ) (store output time : ℕ) (ts : List Test) → lowest (unfit t store output ∷ too_late t time ∷ ts) ≡ Ok tt → Entered t store output time
entered t store output time ts e =
    let none = accepted (unfit t store output ∷ too_late t time ∷ ts) e in
    let span = in_time t time none.1.0 in
    record { fitting = fits t store output none.0; since = span.0; bounded = span.1 }
