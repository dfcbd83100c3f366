-- After k turns the sum is that of header, user data and k items, up to 1,501.
use Rattle.std.proofs.Common.{◌≡◌, min}
use Rattle.codec_verdict.proofs.Steps.{so_far}
use Rattle.codec_verdict.proofs.over_long.Given as goal

abbrev pub invariant-loop-k : goal.invariant-loop-k
invariant-loop-k l = l.sum ≡ min (so_far l.words l.k) 1501
