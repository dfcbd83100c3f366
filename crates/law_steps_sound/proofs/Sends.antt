-- The parts of what a step sends lie where it says. Assumes nothing.
use Prim.Native.Nat.{ℕ, ◌≤◌, ◌<◌}
use native.Mathlib.Omega.{arith}
use mathlib.Core.Path.{◌≡◌, refl}
use mathlib.Core.Bool.{false}
use Rattle.base_layout.specs.Layout.{exit_base, exit_bound, cell_size}
use Rattle.base_lists.proofs.StoresAndParts.{true_false}
use Rattle.table_layout.specs.Table.{count}
use Rattle.row_columns.specs.declared.Send.{Send}
use Rattle.row_columns.specs.declared.Send.TheVariants.{Nothing, Invoke, Tidok, LastAck, HoldOn, Tidve, Result, Abort}
use Rattle.row_turns.specs.declared.Turn.{Turn}
use Rattle.law_rows.specs.Shown.{SendProper}
use Rattle.step_sending.specs.Sending.{source_of}
use Rattle.step_sending.specs.declared.Sender.{Sender}
use Rattle.step_sending.specs.declared.Source.{Source}
use Rattle.law_sending.specs.SendingLaws.{FitSource, Proper, ClassFits}
use Rattle.law_sending.proofs.BySource.{by_source}
use Rattle.step_plan.specs.Steps.{cell_of, message_from, message_of, sender_of}
use Rattle.step_plan.specs.declared.Holder.{Holder}
use Rattle.step_plan.specs.declared.Call.{Call}
use Rattle.step_outcome.specs.Carry.{Lent, is_nothing, slice_of, FitOut}
use Rattle.law_steps_sound.specs.Sound.{Fits, LentOk}

-- something that is sent is properly sent
proper_of : (send : Send) → is_nothing send ≡ false → SendProper send → Proper send
proper_of Nothing e p = absurd (true_false e)
proper_of (Invoke again) e p = tt
proper_of (Tidok again) e p = tt
proper_of (LastAck again) e p = tt
proper_of (HoldOn again) e p = tt
proper_of (Tidve again) e p = tt
proper_of (Result again) e p = tt
proper_of (Abort kind reason) e p = p

pub class_fits : (send : Send) (class : ℕ) → class ≤ 2 → ClassFits send class
class_fits Nothing class h = tt
class_fits (Invoke again) class h = h
class_fits (Tidok again) class h = tt
class_fits (LastAck again) class h = tt
class_fits (HoldOn again) class h = tt
class_fits (Tidve again) class h = tt
class_fits (Result again) class h = tt
class_fits (Abort kind reason) class h = tt

module _ (l : Lent) (c : Call) (h : Holder) (f : Fits l) (ok : LentOk l c) (inside : h.place < count l.table) (message : h.len ≤ cell_size) where
  -- a sender whose parts are those of its source
  source_fits : (src : Source) (by : Sender) → by.start ≡ (message_from src h c).start → by.len ≡ (message_from src h c).len
      → by.exit_start ≡ exit_base h.place → by.exit_len ≤ exit_bound → FitSource src (slice_of src l.given l.store l.table) by
  unfolding cell_of
  source_fits Source.Nothing by s n x e = tt
  source_fits Source.Given by s n x e = rw (s, n) (ok.message_inside, ok.message_fits)
  source_fits Source.Cell by s n x e = rw (s, n) (omega (arith, f.cells), message)
  source_fits Source.Table by s n x e = rw x (omega (arith, f.formed.sized.whole), e)

  pub sends_fit : (turn : Turn) → SendProper turn.send → ClassFits turn.send h.class → turn.after.exit_len ≤ exit_bound → turn.after.unknown < 16
      → FitOut l.given l.store l.table turn.send (sender_of turn h c)
  unfolding FitOut sender_of message_of
  sends_fit turn p k e u some =
      by_source _ turn.send (sender_of turn h c) (proper_of turn.send some p) k u
      (source_fits (source_of turn.send) (sender_of turn h c) refl refl refl e)
