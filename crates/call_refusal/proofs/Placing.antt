-- The place that a judgement allows, and the plan that it allows. Assumes nothing.
use Prim.Native.Nat.{ℕ}
use mathlib.Core.Path.{◌≡◌, refl, sym, ap, ◌∙◌}
use mathlib.Core.Bool.{Bool, true, false}
use Rattle.std.specs.Prelude.{Result, Ok, Err}
use Rattle.base_lists.proofs.StoresAndParts.{true_false}
use Rattle.base_numbers.specs.declared.Refusal.{Refusal}
use Rattle.step_plan.specs.declared.Step.{Step}
use Rattle.call_refusal.specs.Judging.{plan_by, placed_by}

-- the judgement and the place that it was
abbrev judged_of : Result ℕ Refusal → Result Unit Refusal
judged_of (Ok i) = Ok tt
judged_of (Err r) = Err r

abbrev place_in : Result ℕ Refusal → ℕ
place_in (Ok i) = i
place_in (Err r) = 0

abbrev is_at : Result ℕ Refusal → Bool
is_at (Ok i) = true
is_at (Err r) = false

pub place_at : (j : Result Unit Refusal) (i place : ℕ) → Ok place ≡ placed_by j i → place ≡ i
place_at (Ok a) i place e = ap place_in e
place_at (Err r) i place e = true_false (ap is_at e)

pub goes_at : (j : Result Unit Refusal) (i place : ℕ) (step : ℕ → Step) → Ok place ≡ placed_by j i → plan_by j (step i) ≡ Ok (step place)
goes_at (Ok a) i place step e = ap (λ k. Ok (step k)) (sym (ap place_in e))
goes_at (Err r) i place step e = true_false (ap is_at e)

pub refuses_so : (j : Result Unit Refusal) (i : ℕ) (r : Refusal) (step : Step) → Err r ≡ placed_by j i → plan_by j step ≡ Err r
refuses_so (Ok a) i r step e = true_false (sym (ap is_at e))
refuses_so (Err q) i r step e = ap (λ k. plan_by k step) (sym (ap judged_of e))
