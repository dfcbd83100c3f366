-- Nothing is sent, or the PDU from the slice in which its parts lie; whether it fits depends on the lengths alone. Assumes nothing.
use Prim.Native.Nat.{ℕ}
use mathlib.Core.Path.{◌≡◌, refl, sym, ◌∙◌}
use mathlib.Core.List.{List, []}
use mathlib.Core.Bool.{Bool, true, false}
use lib.ListN.{length}
use lib.Dec.{eqb}
use Rattle.base_lists.proofs.StoresAndParts.{true_false, put_nil}
use Rattle.row_columns.specs.declared.Send.{Send}
use Rattle.row_columns.specs.declared.Send.TheVariants.{Nothing, Invoke, Tidok, LastAck, HoldOn, Tidve, Result, Abort}
use Rattle.step_sending.specs.declared.Sender.{Sender}
use Rattle.step_sending.specs.declared.Source.{Source}
use Rattle.step_sending.specs.declared.Source.TheVariants as Source
use Rattle.step_sending.specs.Sending.{source_of}
use Rattle.step_sending.specs.Octets.{FitExit, FitSend, octets_sent}
use Rattle.step_outcome.specs.Carry.{is_nothing, slice_of, octets_out, FitOut}
use Rattle.step_outcome.proofs.Written.{Sent}

no_octets : (s : List ℕ) (send : Send) (by : Sender) → is_nothing send ≡ true → octets_sent s send by ≡ []
unfolding octets_sent
no_octets s Nothing by e = refl
no_octets s (Invoke again) by e = true_false (sym e)
no_octets s (Tidok again) by e = true_false (sym e)
no_octets s (LastAck again) by e = true_false (sym e)
no_octets s (HoldOn again) by e = true_false (sym e)
no_octets s (Tidve again) by e = true_false (sym e)
no_octets s (Result again) by e = true_false (sym e)
no_octets s (Abort kind reason) by e = true_false (sym e)

module _ (given store table : List ℕ) (send : Send) (by : Sender) where
  pub none_sent : (none : Bool) (out : List ℕ) → none ≡ is_nothing send → none ≡ true → Sent 0 out out (octets_out given store table send by)
  unfolding octets_out
  none_sent none out e t = rw (no_octets (slice_of (source_of send) given store table) send by (sym e ∙ t)) (refl, sym (put_nil out 0))

  module _ (source s : Source) (e : source ≡ source_of send) (told : source ≡ s) where
    pub chosen_fits : (none : Bool) → none ≡ is_nothing send → none ≡ false → FitOut given store table send by → FitSend (slice_of s given store table) send by
    unfolding FitOut
    chosen_fits none n t f = rw (sym e ∙ told) at (f (sym n ∙ t))

    pub chosen_sent : (r : ℕ) (out o : List ℕ) → Sent r out o (octets_sent (slice_of s given store table) send by) → Sent r out o (octets_out given store table send by)
    unfolding octets_out
    chosen_sent r out o d = rw (sym e ∙ told) d

exit_by_length : (s u : List ℕ) (by : Sender) (bare : Bool) → length u ≡ length s → FitExit s bare by → FitExit u bare by
exit_by_length s u by true e f = tt
exit_by_length s u by false e f = rw e f

fit_by_length : (s u : List ℕ) (send : Send) (by : Sender) → length u ≡ length s → FitSend s send by → FitSend u send by
unfolding FitSend
fit_by_length s u Nothing by e f = f
fit_by_length s u (Invoke again) by e f = rw e f
fit_by_length s u (Tidok again) by e f = f
fit_by_length s u (LastAck again) by e f = (f.0, exit_by_length s u by (eqb by.exit_len 0) e f.1)
fit_by_length s u (HoldOn again) by e f = f
fit_by_length s u (Tidve again) by e f = f
fit_by_length s u (Result again) by e f = rw e f
fit_by_length s u (Abort kind reason) by e f = f

slice_length : (source : Source) (given store table store₁ table₁ : List ℕ) → length store₁ ≡ length store → length table₁ ≡ length table
    → length (slice_of source given store₁ table₁) ≡ length (slice_of source given store table)
slice_length Source.Nothing given store table store₁ table₁ d e = refl
slice_length Source.Given given store table store₁ table₁ d e = refl
slice_length Source.Cell given store table store₁ table₁ d e = d
slice_length Source.Table given store table store₁ table₁ d e = e

-- a store and a table as long as they were hold the parts still
pub fit_still : (given store table store₁ table₁ : List ℕ) (send : Send) (by : Sender) → length store₁ ≡ length store → length table₁ ≡ length table
    → FitOut given store table send by → FitOut given store₁ table₁ send by
unfolding FitOut
fit_still given store table store₁ table₁ send by d e f n =
    fit_by_length _ _ send by (slice_length (source_of send) given store table store₁ table₁ d e) (f n)
