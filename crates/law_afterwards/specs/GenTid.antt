-- GenTID after a call (01, "TIDs").
use Rattle.std.specs.Prelude.{ℕ, ◌+◌, ◌%◌, Ok, Err}
use Rattle.base_lists.specs.Seq.{pick}
use Rattle.step_outcome.specs.Carry.{Answer}
use Rattle.call_plans.specs.Calls.{Call, is_request}

-- "GenTID counts modulo 32,768, also for class 0; a refused request doesn't count", and no other call counts it
abbrev pub gen_tid_after : Call → Answer → ℕ → ℕ
gen_tid_after c (Ok a) gen_tid = pick (is_request c) ((gen_tid + 1) % 32768) gen_tid
gen_tid_after c (Err r) gen_tid = gen_tid
