-- The entries said, one more. Assumes nothing.
use Prim.Native.Nat.{ℕ, ◌+◌, ◌<◌}
use native.Mathlib.Omega.{arith}
use native.Mathlib.Numerals.{add-one}
use mathlib.Core.Path.{◌≡◌, ◌∙◌}
use mathlib.Core.List.{List}
use lib.ListN.{length, take, set}
use lib.Seq.{take-suc-set}
use Rattle.base_lists.specs.Seq.{tab}
use Rattle.base_lists.proofs.StoresAndParts.{tab_last}
use Rattle.rds_entries.specs.declared.Entry.{Entry}

-- the first k of what f tells, and then the next
pub one_more_said : (f : ℕ → Entry) (list : List Entry) (k : ℕ) (e : Entry) → k < length list → take k list ≡ tab f k 0 → e ≡ f k → take (k + 1) (set list k e) ≡ tab f (k + 1) 0
one_more_said f list k e h p q =
    let z : 0 + k ≡ k = omega arith in
    rw (tab_last f k 0, z, add-one) (take-suc-set list k e h ∙ rw (p, q))
