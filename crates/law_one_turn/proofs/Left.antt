-- What an accepted call leaves in its table, by the changes of its step. Assumes nothing.
use mathlib.Core.Path.{◌≡◌, refl}
use Rattle.table_record.specs.declared.State.TheVariants.{Free}
use Rattle.table_record.specs.declared.Record.{Record}
use Rattle.table_layout.specs.Table.{count, record_at}
use Rattle.step_commit.specs.declared.Change.TheVariants.{Nothing, Put, Clear}
use Rattle.step_plan.specs.declared.Step.{Step}
use Rattle.step_outcome.specs.Carry.{Lent, table_then, carried_out}
use Rattle.law_commit.proofs.Frame.{commit_frames}
use Rattle.law_commit.proofs.Left.{put_left, cleared_left, none_left}
use Rattle.law_steps_sound.specs.Sound.{Fits, Sound}
use Rattle.call_plans.specs.Calls.{Call}
use Rattle.law_history.specs.Moves.{before, after, SameRecords, OthersSame}
use Rattle.law_one_turn.proofs.Counted.{entry_of}

module _ (call : Call) (l : Lent) (step : Step) (f : Fits l) (ok : Sound l step) where
  pub left_put : (r : Record) → step.changes.change ≡ Put r → record_at (after (entry_of call l step)) step.changes.place ≡ r
  unfolding carried_out table_then
  left_put = put_left l.table step.changes l.exit f.formed ok.allowed

  pub left_free : step.changes.change ≡ Clear → (record_at (after (entry_of call l step)) step.changes.place).state ≡ Free
  unfolding carried_out table_then
  left_free = cleared_left l.table step.changes l.exit f.formed ok.allowed

  pub left_others : OthersSame (entry_of call l step) step.changes.place
  unfolding carried_out table_then
  left_others = (commit_frames l.table step.changes l.exit f.formed ok.allowed).other_records

  pub left_same : step.changes.change ≡ Nothing → SameRecords (entry_of call l step)
  unfolding carried_out table_then
  left_same = none_left l.table step.changes l.exit f.formed ok.allowed

  pub left_count : count (after (entry_of call l step)) ≡ count (before (entry_of call l step))
  unfolding carried_out table_then
  left_count = rw (commit_frames l.table step.changes l.exit f.formed ok.allowed).same_length refl
