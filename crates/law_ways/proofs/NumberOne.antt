-- Number 1 is each plan's first test and no other one's, so that what fits is never refused with it: one case a call. Assumes nothing.
use Prim.Native.Nat.{ℕ}
use mathlib.Core.Path.{◌≡◌, refl, sym, ap, ◌∙◌}
use mathlib.Core.Bool.{Bool, true, false}
use mathlib.Core.List.{List, [], ◌∷◌}
use lib.Dec.{eqb}
use Rattle.std.specs.Prelude.{Result, Ok, Err}
use Rattle.base_numbers.specs.declared.Refusal.{Refusal}
use Rattle.base_lists.specs.Seq.{pick}
use Rattle.base_lists.proofs.StoresAndParts.{true_false}
use Rattle.base_numbers.specs.Numbers.{number_of}
use Rattle.base_numbers.specs.declared.Refusal.TheVariants.{WrongSize}
use Rattle.table_well_formed.specs.WellFormed.{Fitting}
use Rattle.table_well_formed.proofs.TableTest.{from_fitting}
use Rattle.call_refusal.specs.Judging.{Test, lowest, plan_by, unfit}
use Rattle.step_plan.specs.declared.Step.{Step}
use Rattle.step_plan.specs.Steps.{Plan}
use Rattle.call_request.specs.Requests.{request_plan}
use Rattle.call_primitive.specs.Primitives.{primitive_plan}
use Rattle.call_receive.specs.Receives.{receive_plan}
use Rattle.call_timer.specs.Timers.{timer_plan}
use Rattle.call_fire.specs.Fires.{fire_plan}
use Rattle.step_outcome.specs.Carry.{Lent}
use Rattle.law_steps_sound.specs.Sound.{Fits}
use Rattle.call_plans.specs.Calls.{Call, plan_for}

-- none of these tests gives number 1
abbrev others : List Test → Bool
others [] = true
others (t ∷ ts) = pick (eqb (number_of t.number) 1) false (others ts)

abbrev gives_one : Result Unit Refusal → Bool
gives_one (Ok a) = false
gives_one (Err r) = eqb (number_of r) 1

abbrev is_one : Plan → Bool
is_one (Ok step) = false
is_one (Err r) = eqb (number_of r) 1

others_give : (ts : List Test) → others ts ≡ true → gives_one (lowest ts) ≡ false
unfolding lowest
others_give [] e = refl
others_give (t ∷ ts) e = go t.holds (eqb (number_of t.number) 1) refl e (λ k. others_give ts k)
  where
    go : (b c : Bool) → eqb (number_of t.number) 1 ≡ c → pick c false (others ts) ≡ true → (others ts ≡ true → gives_one (lowest ts) ≡ false) → gives_one (pick b (Err t.number) (lowest ts)) ≡ false
    go b true q x f = true_false (sym x)
    go true false q x f = q
    go false false q x f = f x

planned_one : (j : Result Unit Refusal) (step : Step) → is_one (plan_by j step) ≡ gives_one j
planned_one (Ok a) step = refl
planned_one (Err r) step = refl

module _ (t : List ℕ) (store output : ℕ) (f : Fitting t store output) where
  not_one : (ts : List Test) (step : Step) → others ts ≡ true → plan_by (lowest (unfit t store output ∷ ts)) step ≡ Err WrongSize → ⊥
  unfolding lowest
  not_one ts step e q =
      let j : lowest (unfit t store output ∷ ts) ≡ lowest ts = rw (from_fitting t store output f) refl in
      let one : is_one (plan_by (lowest ts) step) ≡ true = ap is_one (rw j at q) in
      true_false (sym one ∙ planned_one (lowest ts) step ∙ others_give ts e)

-- what fits isn't refused with number 1
pub fits_not_refused : (c : Call) (l : Lent) → Fits l → plan_for c l ≡ Err WrongSize → ⊥
unfolding request_plan primitive_plan receive_plan timer_plan fire_plan
fits_not_refused (Call.Request time peer class user_ack) l f e = not_one l.table _ _ f _ _ refl e
fits_not_refused (Call.Answer time role peer tid) l f e = not_one l.table _ _ f _ _ refl e
fits_not_refused (Call.Result time role peer tid) l f e = not_one l.table _ _ f _ _ refl e
fits_not_refused (Call.Abort time role peer tid reason) l f e = not_one l.table _ _ f _ _ refl e
fits_not_refused (Call.Receive time peer) l f e = not_one l.table _ _ f _ _ refl e
fits_not_refused (Call.Timer time) l f e = not_one l.table _ _ f _ _ refl e
fits_not_refused (Call.Fire time role peer tid) l f e = not_one l.table _ _ f _ _ refl e
