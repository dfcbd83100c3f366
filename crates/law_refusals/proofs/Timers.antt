-- The timer call's refusal is exact: the lowest number whose condition holds, and none without it. Assumes nothing.
use Prim.Native.Nat.{ℕ}
use mathlib.Core.List.{List}
use Rattle.call_refusal.specs.Judging.{lowest, Lowest}
use Rattle.call_refusal.proofs.LowestExact.{lowest_exact, tells_unfit, tells_late}
use Rattle.call_timer.specs.Timers.{timer_tests}
use Rattle.law_refusals.specs.Timers.{timer_conditions}

pub timer_exact : (t : List ℕ) (store output time : ℕ) → Lowest (timer_conditions t store output time) (lowest (timer_tests t store output time))
timer_exact t store output time =
    lowest_exact (timer_tests t store output time) (timer_conditions t store output time) (tells_unfit t store output, (tells_late t time, tt))
