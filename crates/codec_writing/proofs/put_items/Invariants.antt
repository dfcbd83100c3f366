-- Each turn leaves one item fewer to store.
use Rattle.codec_said.specs.Said.{items_said}
use Rattle.codec_encoding.proofs.Left.{Left}
use Rattle.codec_writing.proofs.put_items.Given as goal

abbrev pub invariant-loop-k : goal.invariant-loop-k
invariant-loop-k l = Left l.src (items_said l.words) l.n l.initial.out l.at l.out l.next l.k
