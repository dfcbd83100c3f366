-- `rds_words::store_entries` meets its contract: after k turns the words of the first k entries are stored. Assumes nothing.
use Prim.Native.Nat.{◌≤◌}
use mathlib.Core.Path.{◌≡◌}
use lib.ListN.{take}
use Rattle.base_lists.specs.Seq.{put}
use Rattle.rds_words.specs.Words.{entries_words}
use Rattle.rds_words.proofs.store_entries.Given as goal

abbrev pub invariant-loop-k : goal.invariant-loop-k
invariant-loop-k l = (l.k ≤ 15) × (l.fields ≡ put l.initial.fields 24 (entries_words (take l.k l.fn.list)))
