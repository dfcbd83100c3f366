-- What any sound plan leaves: a refusal nothing else, a step a well-formed table and all but what it names. Assumes nothing.
use Prim.Native.Nat.{ℕ, ◌*◌}
use mathlib.Core.Path.{◌≡◌, refl, ap, ◌∙◌}
use mathlib.Core.List.{List}
use mathlib.Core.Bool.{Bool, true, false}
use mathlib.Core.Logic.{inl, inr}
use lib.ListN.{length, get_or}
use Rattle.std.specs.Prelude.{Ok, Err}
use Rattle.base_layout.specs.Layout.{cell_size}
use Rattle.base_lists.specs.Seq.{put, part}
use Rattle.base_lists.proofs.StoresAndParts.{length_put, length_part}
use Rattle.base_octets.proofs.StoredAndRead.{get_before, get_d_after}
use Rattle.base_numbers.specs.declared.Refusal.{Refusal}
use Rattle.step_commit.proofs.Length.{length_after}
use Rattle.law_commit.proofs.Keeps.{commit_keeps}
use Rattle.law_commit.proofs.Frame.{commit_frames}
use Rattle.step_plan.specs.declared.Part.{Part}
use Rattle.step_plan.specs.declared.Step.{Step}
use Rattle.step_plan.specs.Steps.{Plan}
use Rattle.step_outcome.specs.Carry.{Lent, CellFits, cell_written, table_then, store_then, sent_then, carried_out, outcome}
use Rattle.step_outcome.proofs.Refused.{output_after_holds}
use Rattle.law_steps_sound.specs.Sound.{Fits, Sound}
use Rattle.law_plans_sound.specs.Plans.{PlanSound, Untouched, OutsideMessage, RestUnchanged, StillFits}

pub refused_untouched : (l : Lent) (r : Refusal) → Untouched l (outcome l (Err r))
unfolding outcome
refused_untouched l r = record { table = refl; store = refl; output = refl }

length_cell : (store given : List ℕ) (cell : Bool) (place : ℕ) (m : Part) → length (cell_written store cell place given m) ≡ length store
length_cell store given true place m = length_put store (place * cell_size) (part given m.start m.len)
length_cell store given false place m = refl

module _ (l : Lent) (step : Step) (f : Fits l) (ok : Sound l step) where
  step_fits : StillFits l (carried_out l step)
  unfolding carried_out table_then store_then
  step_fits =
      let t : List ℕ = (carried_out l step).table in
      let n : length t ≡ length l.table = length_after l.table step.changes l.exit in
      let s : length (store_then l step) ≡ length l.store = length_cell l.store l.given step.cell step.changes.place step.message in
      let o : length (put l.output 0 (sent_then l step)) ≡ length l.output = length_put l.output 0 (sent_then l step) in
      record {
        formed = commit_keeps l.table step.changes l.exit f.formed ok.allowed;
        cells = rw (s, n) f.cells;
        room = rw o f.room;
      }

  not_written : (cell : Bool) → cell ≡ false → cell_written l.store cell step.changes.place l.given step.message ≡ l.store
  not_written cell e = rw e refl

  store_kept : (cell : Bool) → cell ≡ step.cell → CellFits cell step.changes.place step.message (length l.store) (length l.given) → (k : ℕ) → OutsideMessage step k
      → get_or (cell_written l.store cell step.changes.place l.given step.message) k 0 ≡ get_or l.store k 0
  store_kept cell e fits k (inl none) = ap (λ (s : List ℕ). get_or s k 0) (not_written cell (e ∙ none))
  store_kept false e fits k (inr out) = refl
  store_kept true e fits k (inr (inl h)) = get_before (part l.given step.message.start step.message.len) l.store (step.changes.place * cell_size) k h
  store_kept true e fits k (inr (inr h)) =
      let n : length (part l.given step.message.start step.message.len) ≡ step.message.len = length_part l.given step.message.start step.message.len fits.1 in
      get_d_after (part l.given step.message.start step.message.len) l.store (step.changes.place * cell_size) k (rw n h)

  pub step_keeps : RestUnchanged l (carried_out l step) step
  unfolding carried_out table_then store_then
  step_keeps = record {
    table = commit_frames l.table step.changes l.exit f.formed ok.allowed;
    store = λ k out. store_kept step.cell refl ok.ready.cell_fits k out;
    output = λ k h. output_after_holds l step k h;
  }

-- whatever the plan is, the next call finds what fits
pub still_fits : (l : Lent) (plan : Plan) → Fits l → PlanSound l plan → StillFits l (outcome l plan)
unfolding outcome PlanSound
still_fits l (Err r) f ok = f
still_fits l (Ok step) f ok = step_fits l step f ok
