-- Counting the parts of a datagram as they are passed.
use Rattle.std.specs.Prelude.{ℕ, ◌+◌, eqb}
use Rattle.base_lists.specs.Seq.{pick}
use Rattle.codec_separation.specs.declared.Part.{Part}
use Rattle.codec_separation.specs.declared.Parts.{Parts}

-- one part more: it is kept if it is the k-th
unfoldable pub counted : Parts → ℕ → Part → Parts
counted seen k part = record { count = seen.count + 1; part = pick (eqb seen.count k) part seen.part }
