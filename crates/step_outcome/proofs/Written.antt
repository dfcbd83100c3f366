-- What the writer gives back. Assumes nothing.
use Prim.Native.Nat.{ℕ}
use mathlib.Core.Path.{◌≡◌}
use mathlib.Core.List.{List}
use lib.ListN.{length}
use Rattle.base_lists.specs.Seq.{put}

-- octets of a PDU given back: how many, and the output from its start
abbrev pub Sent : ℕ → List ℕ → List ℕ → List ℕ → Type 0
Sent r out o octets = (r ≡ length octets) × (o ≡ put out 0 octets)
