-- The loop keeps `Passed`, and the measure is what is left of the datagram.
use Rattle.std.proofs.Common.{length, ◌-◌}
use Rattle.codec_separation.proofs.Passed.{Passed}
use Rattle.codec_separation.proofs.walk.Given as goal

abbrev pub invariant-loop-at : goal.invariant-loop-at
invariant-loop-at l = Passed l.d l.k l.seen l.at

abbrev pub decreases-loop-at : goal.decreases-loop-at
decreases-loop-at l = length l.d - l.at
