-- A refusal changes no lent byte, and "Output after the PDU is unchanged". Assumes nothing.
use Prim.Native.Nat.{ℕ, ◌≤◌}
use native.Mathlib.Omega.{arith}
use mathlib.Core.Path.{◌≡◌, refl}
use lib.ListN.{length, get_or}
use Rattle.std.specs.Prelude.{Err}
use Rattle.base_octets.proofs.StoredAndRead.{get_d_after}
use Rattle.base_numbers.specs.declared.Refusal.{Refusal}
use Rattle.step_plan.specs.declared.Step.{Step}
use Rattle.step_outcome.specs.Carry.{Lent, done, outcome, sent_then, carried_out}

pub refused_changes_nothing : (l : Lent) (r : Refusal) → outcome l (Err r) ≡ done (Err r) l.table l.store l.output
unfolding outcome
refused_changes_nothing l r = refl

pub output_after_holds : (l : Lent) (step : Step) (k : ℕ) → length (sent_then l step) ≤ k → get_or (carried_out l step).output k 0 ≡ get_or l.output k 0
unfolding carried_out
output_after_holds l step k h = get_d_after (sent_then l step) l.output 0 k (omega arith)
