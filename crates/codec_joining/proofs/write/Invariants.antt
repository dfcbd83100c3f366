-- The loop keeps `Written`.
use Rattle.codec_joining.proofs.Writing.{Written}
use Rattle.codec_joining.proofs.write.Given as goal

abbrev pub invariant-loop-length : goal.invariant-loop-length
invariant-loop-length l = Written l.bytes l.lengths l.initial.out l.out l.at l.from l.length-index
