-- The judgement in two stages: a refusal by the numbers 1 to 6 stands, and otherwise the free record decides; and its plan. Assumes nothing.
use Prim.Native.Nat.{ℕ}
use mathlib.Core.Path.{◌≡◌, refl}
use mathlib.Core.List.{List}
use Rattle.std.specs.Prelude.{Ok, Err, Option}
use Rattle.base_numbers.specs.declared.Refusal.{Refusal}
use Rattle.table_layout.specs.Table.{count}
use Rattle.table_finding.specs.Finding.{free_of}
use Rattle.call_refusal.specs.Judging.{lowest}
use Rattle.call_refusal.proofs.Stages.{first_stage, second_stage}
use Rattle.call_refusal.proofs.Placing.{goes_at, refuses_so}
use Rattle.step_opening.specs.Opens.{place_for}
use Rattle.call_request.specs.Requests.{entry_tests, full_tests, request_tests, request_step, request_plan, free_place, request_place}
use Rattle.call_request.specs.declared.Request.{Request}

module _ (t : List ℕ) (store output : ℕ) (q : Request) where
  pub refused_first : (r : Refusal) → Err r ≡ lowest (entry_tests t store output q) → Err r ≡ request_place t store output q
  unfolding request_place
  refused_first r e = rw (first_stage (entry_tests t store output q) (full_tests (free_of t (count t)) q) r e) refl

  pub then_placed : (f : Option ℕ) (k : ℕ) → Ok tt ≡ lowest (entry_tests t store output q) → k ≡ count t → f ≡ free_of t k → free_place f q ≡ request_place t store output q
  unfolding request_place free_place
  then_placed f k a e g = rw (g, e, second_stage (entry_tests t store output q) (full_tests (free_of t (count t)) q) a) refl

  -- a place is that of the plan's step, a refusal that of the plan
  pub plan_goes : (place : ℕ) → Ok place ≡ request_place t store output q → request_plan t store output q ≡ Ok (request_step t place q)
  unfolding request_place request_plan
  plan_goes place e = goes_at (lowest (request_tests t store output q)) (place_for (free_of t (count t))) place (λ i. request_step t i q) e

  pub plan_refuses : (r : Refusal) → Err r ≡ request_place t store output q → request_plan t store output q ≡ Err r
  unfolding request_place request_plan
  plan_refuses r e = refuses_so (lowest (request_tests t store output q)) (place_for (free_of t (count t))) r (request_step t (place_for (free_of t (count t))) q) e
