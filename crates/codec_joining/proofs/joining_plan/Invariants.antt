-- The loop keeps `Planning`.
use Rattle.codec_joining.proofs.Planning.{Planning}
use Rattle.codec_joining.proofs.joining_plan.Given as goal

abbrev pub invariant-loop-length : goal.invariant-loop-length
invariant-loop-length l = Planning l.bytes l.lengths l.left l.room l.length-index
