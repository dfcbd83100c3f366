-- What an accepted call leaves at its place and in the cells. Assumes nothing.
use Prim.Native.Nat.{ℕ, ◌+◌, ◌*◌, ◌-◌, ◌/◌, ◌≤◌, ◌<◌}
use native.Mathlib.Omega.{arith}
use mathlib.Core.Path.{◌≡◌, refl, sym, ap, ◌∙◌}
use mathlib.Core.Bool.{Bool, true, false}
use mathlib.Core.List.{List}
use mathlib.Core.Logic.{◌⊎◌, inl, inr}
use lib.ListN.{length}
use Rattle.std.specs.Prelude.{Ok}
use Rattle.base_layout.specs.Layout.{header_size, record_size, cell_size}
use Rattle.base_lists.specs.Seq.{put, part}
use Rattle.base_lists.proofs.StoresAndParts.{length_part}
use Rattle.base_octets.proofs.StoredAndRead.{two_sides}
use Rattle.table_record.specs.declared.Record.{Record}
use Rattle.table_record.specs.declared.State.TheVariants.{Free}
use Rattle.table_layout.specs.Table.{count, record_at}
use Rattle.step_commit.specs.declared.Change.TheVariants.{Nothing, Put, Clear}
use Rattle.step_plan.specs.declared.Part.{Part}
use Rattle.step_plan.specs.declared.Step.{Step}
use Rattle.step_plan.specs.Steps.{Plan}
use Rattle.step_outcome.specs.Carry.{Lent, Done, CellFits, cell_written, table_then, store_then, carried_out, outcome}
use Rattle.law_steps_sound.specs.Sound.{Fits, Sound}
use Rattle.law_plans_sound.specs.Plans.{PlanSound, OutsideMessage, RestUnchanged}
use Rattle.law_plans_sound.proofs.Outcome.{step_keeps, still_fits}
use Rattle.call_plans.specs.Calls.{plan_for, promised}
use Rattle.law_plans_sound.proofs.CallSound.{call_sound}
use Rattle.law_history.specs.Trace.{Entry, Promise}
use Rattle.law_ways.proofs.Ways.{Accepted}
use Rattle.law_ways.proofs.CallWays.{call_ways}
use Rattle.law_commit.proofs.Left.{put_left, cleared_left, none_left}
use Rattle.law_data_shown.proofs.Cells.{part_same, part_written}

-- what a step leaves: every other record, and at its place what its change says; the store, but for the message
pub record Left (l : Lent) (step : Step) (d : Done) : Type 0 where
  pub inside : step.changes.place < count l.table
  pub same_length : length d.table ≡ length l.table
  pub same_store : length d.store ≡ length l.store
  pub others : (j : ℕ) → (j ≡ step.changes.place → ⊥) → record_at d.table j ≡ record_at l.table j
  pub untouched : step.changes.change ≡ Nothing → record_at d.table step.changes.place ≡ record_at l.table step.changes.place
  pub put_is : (r : Record) → step.changes.change ≡ Put r → record_at d.table step.changes.place ≡ r
  pub freed : step.changes.change ≡ Clear → (record_at d.table step.changes.place).state ≡ Free
  pub unwritten : step.cell ≡ false → d.store ≡ l.store
  pub written : step.cell ≡ true → part d.store (step.changes.place * cell_size) step.message.len ≡ part l.given step.message.start step.message.len
  pub other_cells : (j n : ℕ) → (j ≡ step.changes.place → ⊥) → j < count l.table → n ≤ cell_size → part d.store (j * cell_size) n ≡ part l.store (j * cell_size) n

module _ (store given : List ℕ) (place : ℕ) (m : Part) where
  not_written : (cell : Bool) → cell ≡ false → cell_written store cell place given m ≡ store
  not_written cell e = rw e refl

  is_written : (cell : Bool) → cell ≡ true → CellFits cell place m (length store) (length given)
      → part (cell_written store cell place given m) (place * cell_size) m.len ≡ part given m.start m.len
  is_written cell e fits =
      let f : CellFits true place m (length store) (length given) = rw e at fits in
      let w : List ℕ = part given m.start m.len in
      let n : length w ≡ m.len = length_part given m.start m.len f.1 in
      rw e (ap (λ (k : ℕ). part (put store (place * cell_size) w) (place * cell_size) k) (sym n) ∙ part_written store (place * cell_size) w (omega (arith, f.0)))

module _ (l : Lent) (step : Step) (f : Fits l) (small : step.message.len ≤ cell_size) (ok : Sound l step) where
  abbrev kept : RestUnchanged l (carried_out l step) step
  kept = step_keeps l step f ok

  same_size : length (store_then l step) ≡ length l.store
  unfolding carried_out outcome PlanSound
  same_size =
      (still_fits l (Ok step) f ok).cells
      ∙ (ap (λ (n : ℕ). (n - header_size) / record_size * cell_size) kept.table.same_length ∙ sym f.cells)

  outside : (j n k : ℕ) → (j < step.changes.place) ⊎ (step.changes.place < j) → n ≤ cell_size → j * cell_size ≤ k → k < j * cell_size + n → OutsideMessage step k
  outside j n k (inl h) room from to = inr (inl (omega arith))
  outside j n k (inr h) room from to = inr (inr (omega arith))

  unwritten_store : step.cell ≡ false → store_then l step ≡ l.store
  unfolding store_then
  unwritten_store e = not_written l.store l.given step.changes.place step.message step.cell e

  written_store : step.cell ≡ true → part (store_then l step) (step.changes.place * cell_size) step.message.len ≡ part l.given step.message.start step.message.len
  unfolding store_then
  written_store e = is_written l.store l.given step.changes.place step.message step.cell e ok.ready.cell_fits

  cells : (j n : ℕ) → (j ≡ step.changes.place → ⊥) → j < count l.table → n ≤ cell_size → part (store_then l step) (j * cell_size) n ≡ part l.store (j * cell_size) n
  unfolding carried_out
  cells j n d inside room =
      part_same l.store (store_then l step) (j * cell_size) n (omega (arith, f.cells)) same_size
      (λ k from to. kept.store k (outside j n k (two_sides j step.changes.place d) room from to))

  left_by : Left l step (carried_out l step)
  unfolding carried_out table_then
  left_by = record {
    inside = ok.allowed.place;
    same_length = kept.table.same_length;
    same_store = same_size;
    others = kept.table.other_records;
    untouched = λ e. none_left l.table step.changes l.exit f.formed ok.allowed e step.changes.place;
    put_is = λ r e. put_left l.table step.changes l.exit f.formed ok.allowed r e;
    freed = λ e. cleared_left l.table step.changes l.exit f.formed ok.allowed e;
    unwritten = unwritten_store;
    written = written_store;
    other_cells = cells;
  }

-- what an accepted call is known to be and to leave
pub record Effect (e : Entry) (step : Step) : Type 0 where
  pub accepted : Accepted e.call e.lent step
  pub left : Left e.lent step e.done

-- an entry's outcome is that of its plan
pub done_is : (e : Entry) → Promise e → (q : Plan) → plan_for e.call e.lent ≡ q → e.done ≡ outcome e.lent q
unfolding promised
done_is e p q is = p.keeps ∙ ap (outcome e.lent) is

pub effect : (e : Entry) → Promise e → (step : Step) → plan_for e.call e.lent ≡ Ok step → Effect e step
unfolding outcome PlanSound
effect e p step is =
    let a : Accepted e.call e.lent step = call_ways e.call e.lent step is in
    let s : PlanSound e.lent (Ok step) = rw is at (call_sound e.call e.lent p.lends) in
    record { accepted = a; left = rw (done_is e p (Ok step) is) (left_by e.lent step a.fits a.small s) }
