-- `call_engine::answer` meets its contract: its plan is sound, and is carried out. Assumes nothing.
use mathlib.Core.Path.{refl}
use Rattle.call_plans.specs.Calls.{Call}
use Rattle.law_plans_sound.proofs.CallSound.{call_sound}
use Rattle.call_engine.proofs.Carrying.{sound_ready}
use Rattle.call_engine.proofs.answer.Goals as goal

pub primitive-requires-clause-plan_ready : goal.primitive-requires-clause-plan_ready
primitive-requires-clause-plan_ready c = sound_ready _ _ (call_sound (Call.Answer _ _ _ _) _ refl)
