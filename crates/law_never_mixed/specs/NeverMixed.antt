-- 01, "Mix-ups that cost us": "An abort shown as a result without data. A Result with no data is a true result."
use Rattle.std.specs.Prelude.{Bool, true, false, ◌||◌, Ok, Err}
use Rattle.step_shown.specs.Kinds.{by_kind}
use Rattle.step_shown.specs.declared.Shown.{Shown}
use Rattle.step_plan.specs.declared.Step.{Step}
use Rattle.step_outcome.specs.Carry.{Answer}

-- whether what is shown is an abort, or a result
abbrev pub abort_shown : Shown → Bool
abort_shown s = by_kind false false false false true s

abbrev pub result_shown : Shown → Bool
result_shown s = by_kind false false false true false s

-- whether a step shows one
abbrev pub step_aborts : Step → Bool
step_aborts step = abort_shown step.first || abort_shown step.second

abbrev pub step_results_is : Step → Bool
step_results_is step = result_shown step.first || result_shown step.second

-- whether a call's answer shows one
abbrev pub shows_abort : Answer → Bool
shows_abort (Err r) = false
shows_abort (Ok a) = abort_shown a.first || abort_shown a.second

abbrev pub shows_result : Answer → Bool
shows_result (Err r) = false
shows_result (Ok a) = result_shown a.first || result_shown a.second
