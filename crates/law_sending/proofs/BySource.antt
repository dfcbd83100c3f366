-- Where the parts lie in the source that is named, what is sent is written and read back. Assumes nothing.
use Prim.Native.Nat.{ℕ, ◌<◌}
use mathlib.Core.List.{List}
use mathlib.Core.Bool.{Bool, true, false}
use lib.Dec.{eqb}
use Rattle.row_columns.specs.declared.Send.{Send}
use Rattle.row_columns.specs.declared.Send.TheVariants.{Nothing, Invoke, Tidok, LastAck, HoldOn, Tidve, Result, Abort}
use Rattle.step_sending.specs.declared.Sender.{Sender}
use Rattle.step_sending.specs.declared.Source.TheVariants as Source
use Rattle.step_sending.specs.Sending.{source_of}
use Rattle.step_sending.specs.Octets.{FitExit, FitSend}
use Rattle.law_sending.specs.SendingLaws.{FitSource, Proper, ClassFits}

exit_either : (s : List ℕ) (by : Sender) (bare : Bool) → FitSource Source.Table s by → FitExit s bare by
exit_either s by true f = tt
exit_either s by false f = f

pub by_source : (s : List ℕ) (send : Send) (by : Sender) → Proper send → ClassFits send by.class → by.unknown < 16 → FitSource (source_of send) s by → FitSend s send by
unfolding source_of FitSend
by_source s Nothing by p c u f = absurd p
by_source s (Invoke true) by p c u f = (c, f.0, f.1)
by_source s (Invoke false) by p c u f = (c, f.0, f.1)
by_source s (Tidok again) by p c u f = tt
by_source s (LastAck again) by p c u f = (u, exit_either s by (eqb by.exit_len 0) f)
by_source s (HoldOn again) by p c u f = (u, tt)
by_source s (Tidve again) by p c u f = tt
by_source s (Result true) by p c u f = f
by_source s (Result false) by p c u f = f
by_source s (Abort kind reason) by p c u f = p
