-- From a plan to what is carried out and handed over, case by case. Assumes nothing.
use Prim.Native.Nat.{ℕ}
use mathlib.Core.Path.{◌≡◌, refl, sym, ◌∙◌}
use mathlib.Core.List.{List}
use Rattle.std.specs.Prelude.{Ok, Err}
use Rattle.base_numbers.specs.Numbers.{number_of}
use Rattle.base_numbers.specs.declared.Refusal.{Refusal}
use Rattle.row_turns.specs.declared.Given.{Given}
use Rattle.step_plan.specs.declared.Call.{Call}
use Rattle.step_plan.specs.declared.Step.{Step}
use Rattle.step_plan.specs.Steps.{Plan}
use Rattle.step_outcome.specs.Carry.{Lent, Ready}
use Rattle.c_answers.specs.Handed.{Called, called, handed_by}
use Rattle.c_answers.proofs.Refusing.{refused_handed}
use Rattle.step_carrying.specs.Coming.{coming_step}
use Rattle.step_carrying.specs.declared.Coming.{Coming}
use Rattle.law_plans_sound.specs.Plans.{PlanSound}
use Rattle.call_engine.specs.Calls.{PlanReady}

module _ (l : Lent) (plan : Plan) where
  pub goes_ready : (step : Step) → plan ≡ Ok step → PlanReady l plan → Ready l step
  unfolding PlanReady
  goes_ready step e ready = rw e at ready

  pub refused_so : (r : Refusal) (n : ℕ) (words : List ℕ) → n ≡ number_of r → plan ≡ Err r → called n l.table l.store l.output words ≡ handed_by l plan words
  refused_so r n words k e = rw (k, e) (sym (refused_handed l r words))

  pub gone_so : (step : Step) (d : Called) (words : List ℕ) → plan ≡ Ok step → d ≡ handed_by l (Ok step) words → d ≡ handed_by l plan words
  gone_so step d words e k = k ∙ rw e refl

-- a sound plan is ready
pub sound_ready : (l : Lent) (plan : Plan) → PlanSound l plan → PlanReady l plan
unfolding PlanSound PlanReady
sound_ready l (Err r) s = tt
sound_ready l (Ok step) s = s.ready

-- the same, where the step is what comes
module _ (l : Lent) (plan : Plan) (step : Step) (e : plan ≡ Ok step) (coming : Coming) (g : Given) (c : Call) (is : step ≡ coming_step l.table coming g c) where
  pub ready_coming : PlanReady l plan → Ready l (coming_step l.table coming g c)
  ready_coming k = rw is at (goes_ready l plan step e k)

  pub gone_coming : (d : Called) (words : List ℕ) → d ≡ handed_by l (Ok (coming_step l.table coming g c)) words → d ≡ handed_by l plan words
  gone_coming d words k = gone_so l plan step d words e (k ∙ rw is refl)
