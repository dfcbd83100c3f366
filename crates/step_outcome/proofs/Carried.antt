-- A step carried out part by part is the step carried out. Assumes nothing.
use Prim.Native.Nat.{ℕ}
use mathlib.Core.Path.{◌≡◌, refl, ap, ◌∙◌}
use mathlib.Core.List.{List}
use mathlib.Core.Bool.{Bool, true, false}
use lib.ListN.{length}
use Rattle.base_lists.proofs.StoresAndParts.{length_put}
use Rattle.step_commit.specs.Commit.{table_changed}
use Rattle.step_commit.proofs.Length.{length_after}
use Rattle.step_sending.specs.declared.Sender.{Sender}
use Rattle.step_plan.specs.declared.Part.{Part}
use Rattle.step_plan.specs.declared.Step.{Step}
use Rattle.step_outcome.specs.Carry.{Lent, done, taken_of, cell_written, octets_out, table_then, store_then, sent_then, carried_out, FitOut, Ready}
use Rattle.step_outcome.proofs.Written.{Sent}
use Rattle.step_outcome.proofs.Chosen.{fit_still}

cell_length : (store : List ℕ) (cell : Bool) (place : ℕ) (given : List ℕ) (m : Part) → length (cell_written store cell place given m) ≡ length store
cell_length store true place given m = length_put store _ _
cell_length store false place given m = refl

module _ (l : Lent) (step : Step) (table store : List ℕ) (by : Sender)
    (t : table ≡ table_changed l.table step.changes l.exit)
    (s : store ≡ cell_written l.store step.cell step.changes.place l.given step.message)
    (b : by ≡ step.by) where
  pub sends_still : Ready l step → FitOut l.given store table step.send by
  sends_still ready =
      rw b (fit_still l.given l.store l.table store table step.send step.by
      (ap length s ∙ cell_length l.store step.cell step.changes.place l.given step.message)
      (ap length t ∙ length_after l.table step.changes l.exit)
      ready.sends)

  pub carried : (r : ℕ) (out : List ℕ) → Sent r l.output out (octets_out l.given store table step.send by)
      → done (taken_of r step) table store out ≡ carried_out l step
  unfolding carried_out table_then store_then sent_then
  carried r out d = rw (d.0, d.1, b, s, t)
