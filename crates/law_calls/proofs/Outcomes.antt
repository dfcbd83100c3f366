-- Each call: one outcome; a refusal changes nothing; what fitted still fits; an accepted call keeps all but what its step names. Assumes nothing.
use Prim.Native.Nat.{ℕ}
use mathlib.Core.Path.{◌≡◌, refl, sym, ap, ◌∙◌}
use mathlib.Core.List.{List}
use Rattle.std.specs.Prelude.{Ok, Err}
use Rattle.base_numbers.specs.declared.Refusal.{Refusal}
use Rattle.step_plan.specs.declared.Step.{Step}
use Rattle.step_outcome.specs.Carry.{Lent, Done, done, outcome, Answer}
use Rattle.call_plans.specs.Calls.{Call, promised, Lends, plan_for}
use Rattle.law_steps_sound.specs.Sound.{Fits}
use Rattle.law_plans_sound.specs.Plans.{PlanSound, Untouched, RestUnchanged, StillFits}
use Rattle.law_plans_sound.proofs.Outcome.{refused_untouched, step_keeps, still_fits}
use Rattle.law_plans_sound.proofs.CallSound.{call_sound}

-- "From one input only one outcome can satisfy the promise"
pub one_outcome : (c : Call) (l : Lent) (a b : Answer) (t u s v o w : List ℕ) → done a t s o ≡ promised c l → done b u v w ≡ promised c l → (a ≡ b) × (t ≡ u) × (s ≡ v) × (o ≡ w)
one_outcome c l a b t u s v o w p q =
    let e : done a t s o ≡ done b u v w = p ∙ sym q in
    (ap (λ (d : Done). d.answer) e, ap (λ (d : Done). d.table) e, ap (λ (d : Done). d.store) e, ap (λ (d : Done). d.output) e)

-- what is promised is the plan carried out
pub as_planned : (c : Call) (l : Lent) → promised c l ≡ outcome l (plan_for c l)
unfolding promised
as_planned c l = refl

-- WELL FORMED KEPT: after any call, refused or not, what fitted fits
pub call_still_fits : (c : Call) (l : Lent) → Lends c l → Fits l → StillFits l (promised c l)
unfolding promised
call_still_fits c l k f = still_fits l (plan_for c l) f (call_sound c l k)

-- "A refusal gives only its number and changes no lent byte"
pub call_refused : (c : Call) (l : Lent) (r : Refusal) → plan_for c l ≡ Err r → Untouched l (promised c l)
unfolding promised
call_refused c l r e = rw e (refused_untouched l r)

-- FRAME: an accepted call changes no record but the one at its step's place
pub call_keeps : (c : Call) (l : Lent) (step : Step) → Lends c l → Fits l → plan_for c l ≡ Ok step → RestUnchanged l (promised c l) step
unfolding promised outcome PlanSound
call_keeps c l step k f e =
    let s : PlanSound l (Ok step) = rw e at (call_sound c l k) in
    rw e (step_keeps l step f s)
