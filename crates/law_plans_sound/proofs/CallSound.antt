-- Every accepted call's step is sound, by the way that it goes. Assumes nothing.
use mathlib.Core.Path.{◌≡◌, refl}
use mathlib.Core.Logic.{inl, inr}
use Rattle.std.specs.Prelude.{Ok, Err}
use Rattle.step_plan.specs.declared.Step.{Step}
use Rattle.step_plan.specs.Steps.{Plan}
use Rattle.call_request.proofs.Accepted.{place_of}
use Rattle.step_outcome.specs.Carry.{Lent}
use Rattle.call_plans.specs.Calls.{Call, plan_for, Lends, time_of}
use Rattle.law_steps_sound.specs.Sound.{Sound}
use Rattle.law_steps_sound.proofs.Steps.{live_sound, idle_sound}
use Rattle.law_ways.proofs.Ways.{Way, Accepted}
use Rattle.law_ways.proofs.CallWays.{call_ways}
use Rattle.law_plans_sound.specs.Plans.{PlanSound}
use Rattle.law_plans_sound.proofs.Requests.{request_sound}
use Rattle.law_plans_sound.proofs.Receives.{unmatched_sound}

pub way_sound : (c : Call) (l : Lent) (step : Step) → Lends c l → Accepted c l step → Sound l step
way_sound c l step lends a = go a.way
  where
    go : Way c l step → Sound l step
    go (inl i) = rw i.step_is (idle_sound l (time_of c) a.fits i.bounded (a.exit_fits lends))
    go (inr (inl k)) = rw k.step_is (live_sound l k.place k.event k.given k.asked a.fits k.live k.given_ok (k.lent_ok lends))
    go (inr (inr (inl q))) = rw q.accepted.step_is (request_sound l _ refl (a.exit_fits lends) q.accepted.admits (place_of l.table) q.accepted.inside)
    go (inr (inr (inr u))) = rw u.step_is (unmatched_sound l u.time u.peer (a.exit_fits lends) step u.accepted u.unmatched)

pub call_sound : (c : Call) (l : Lent) → Lends c l → PlanSound l (plan_for c l)
unfolding PlanSound
call_sound c l k = go (plan_for c l) refl
  where
    go : (plan : Plan) → plan_for c l ≡ plan → PlanSound l plan
    go (Err r) e = tt
    go (Ok step) e = way_sound c l step k (call_ways c l step e)
