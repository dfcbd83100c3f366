-- What an accepted timer call knows: its step, its table and its time. Assumes nothing.
use Prim.Native.Nat.{ℕ}
use mathlib.Core.Path.{◌≡◌}
use mathlib.Core.List.{List, []}
use Rattle.std.specs.Prelude.{Ok}
use Rattle.step_plan.specs.declared.Step.{Step}
use Rattle.call_refusal.proofs.Going.{goes, Entered, entered}
use Rattle.call_timer.specs.Timers.{timer_tests, timer_step, timer_plan}

-- an accepted timer call does the due record's step, over a table that fits, at a time in range
pub record Accepted (t : List ℕ) (store output time : ℕ) (step : Step) : Type 0 where
  pub step_is : step ≡ timer_step t time
  pub enters : Entered t store output time

pub timer_accepted : (t : List ℕ) (store output time : ℕ) (step : Step) → timer_plan t store output time ≡ Ok step → Accepted t store output time step
unfolding timer_plan
timer_accepted t store output time step e =
    let g = goes (timer_tests t store output time) (timer_step t time) step e in
    record { step_is = g.1; enters = entered t store output time [] g.0 }
