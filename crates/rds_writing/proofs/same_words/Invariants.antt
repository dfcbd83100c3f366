-- After i turns the first i words are the same.
use Prim.Native.Nat.{ℕ, ◌≤◌}
use mathlib.Core.Path.{◌≡◌}
use mathlib.Core.List.{List}
use mathlib.Core.Bool.{Bool, true}
use lib.ListN.{get_or}
use lib.Dec.{eqb}
use Rattle.base_lists.specs.Seq.{every}
use Rattle.rds_writing.proofs.same_words.Given as goal

-- word i of two lists is the same
abbrev pub Same : List ℕ → List ℕ → ℕ → Bool
Same own w i = eqb (get_or own i 0) (get_or w i 0)

abbrev pub invariant-loop-i : goal.invariant-loop-i
invariant-loop-i l = (l.i ≤ 100) × (every (Same l.own l.words) l.i ≡ true)
