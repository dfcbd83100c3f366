-- The counts of a state as sums with RCR: within their limits, and moved on by an act as its tests say. Assumes nothing.
use Prim.Native.Nat.{ℕ, ◌+◌, ◌≤◌}
use native.Mathlib.Omega.{arith}
use mathlib.Core.Path.{◌≡◌, refl, sym, ap, ◌∙◌}
use mathlib.Core.Bool.{Bool, true, false, false≢true}
use borrow.Author.Tests.{leb-true, eqb-true}
use lib.Dec.{leb}
use Rattle.base_lists.specs.Seq.{pick}
use Rattle.base_lists.proofs.StoresAndParts.{bit_le}
use Rattle.table_record.specs.declared.State.{State}
use Rattle.table_record.specs.declared.State.TheVariants.{Free, IResultWait1, IResultWait2, IResultRespWait, IWaitTimeout, RTidokWait1, RTidokWait2, RInvokeRespWait1, RInvokeRespWait2, RResultWait, RResultRespWait, RWaitTimeout}
use Rattle.table_ranges.proofs.Tests.{Each}
use Rattle.row_columns.specs.declared.Act.{Act}
use Rattle.row_columns.specs.declared.Count.{Count}
use Rattle.law_counting.specs.Counting.{Counts, none, plus, counts_in, Limits}
use Rattle.law_counting.proofs.Acts.{added, asks, answers, agrees, kept_tests, end_tests}

-- counts are the same that are so one by one
same_counts : (c d : Counts) → c.sends ≡ d.sends → c.results_sent ≡ d.results_sent → c.confirms ≡ d.confirms → c.results ≡ d.results → c.aborts ≡ d.aborts → c.shows ≡ d.shows → c ≡ d
same_counts c d e0 e1 e2 e3 e4 e5 = go d.sends d.results_sent d.confirms d.results d.aborts d.shows e0 e1 e2 e3 e4 e5
  where
    go : (s rs k rt a sh : ℕ) → c.sends ≡ s → c.results_sent ≡ rs → c.confirms ≡ k → c.results ≡ rt → c.aborts ≡ a → c.shows ≡ sh
        → c ≡ record { sends = s; results_sent = rs; confirms = k; results = rt; aborts = a; shows = sh }
    go s rs k rt a sh e0 e1 e2 e3 e4 e5 = rw (sym e0, sym e1, sym e2, sym e3, sym e4, sym e5) refl

-- the first and, where RCR counts them, the RCR after it; all else is as at an RCR of 0
abbrev summed : State → ℕ → Counts → Counts
summed s n c = record {
  sends = pick (asks s) (1 + n) 0;
  results_sent = pick (answers s) (1 + n) 0;
  confirms = c.confirms;
  results = c.results;
  aborts = c.aborts;
  shows = c.shows;
}

in_sums : (s : State) (n : ℕ) (holdOn : Bool) → counts_in s n holdOn ≡ summed s n (counts_in s 0 holdOn)
in_sums Free n holdOn = refl
in_sums IResultWait1 n holdOn = refl
in_sums IResultWait2 n holdOn = refl
in_sums IResultRespWait n holdOn = refl
in_sums IWaitTimeout n holdOn = refl
in_sums RTidokWait1 n holdOn = refl
in_sums RTidokWait2 n holdOn = refl
in_sums RInvokeRespWait1 n holdOn = refl
in_sums RInvokeRespWait2 n holdOn = refl
in_sums RResultWait n holdOn = refl
in_sums RResultRespWait n holdOn = refl
in_sums RWaitTimeout n holdOn = refl

-- RCR after a row that doesn't pass its maximum
abbrev pub rcr_then : Count → ℕ → ℕ
rcr_then Count.Same n = n
rcr_then Count.RcrZero n = 0
rcr_then Count.RcrUp n = n + 1
rcr_then Count.AecZero n = n
rcr_then Count.AecUp n = n

-- what RCR counts goes up with the PDUs sent
sum_moves : (b then : Bool) (k : Count) (n m : ℕ) → agrees b then k m ≡ true → pick b (1 + n) 0 + m ≡ pick then (1 + rcr_then k n) 0
sum_moves false false k n m e = omega (arith, eqb-true m 0 e)
sum_moves true false k n m e = absurd (false≢true e)
sum_moves false true Count.Same n m e = absurd (false≢true e)
sum_moves false true Count.RcrZero n m e = omega (arith, eqb-true m 1 e)
sum_moves false true Count.RcrUp n m e = absurd (false≢true e)
sum_moves false true Count.AecZero n m e = absurd (false≢true e)
sum_moves false true Count.AecUp n m e = absurd (false≢true e)
sum_moves true true Count.Same n m e = omega (arith, eqb-true m 0 e)
sum_moves true true Count.RcrZero n m e = absurd (false≢true e)
sum_moves true true Count.RcrUp n m e = omega (arith, eqb-true m 1 e)
sum_moves true true Count.AecZero n m e = omega (arith, eqb-true m 0 e)
sum_moves true true Count.AecUp n m e = omega (arith, eqb-true m 0 e)

-- the last turn adds none to what RCR counts
sum_ends : (b : Bool) (n m max : ℕ) → n ≤ max → leb m (pick b 0 1) ≡ true → pick b (1 + n) 0 + m ≤ 1 + max
sum_ends true n m max h e = omega (arith, leb-true m 0 e)
sum_ends false n m max h e = omega (arith, leb-true m 1 e)

pub in_limits : (s : State) (n : ℕ) (holdOn : Bool) (max : ℕ) → n ≤ max → Limits max (counts_in s n holdOn)
in_limits Free n holdOn max h = omega arith
in_limits IResultWait1 n holdOn max h = omega arith
in_limits IResultWait2 n holdOn max h = omega (arith, bit_le holdOn)
in_limits IResultRespWait n holdOn max h = omega arith
in_limits IWaitTimeout n holdOn max h = omega arith
in_limits RTidokWait1 n holdOn max h = omega arith
in_limits RTidokWait2 n holdOn max h = omega arith
in_limits RInvokeRespWait1 n holdOn max h = omega arith
in_limits RInvokeRespWait2 n holdOn max h = omega arith
in_limits RResultWait n holdOn max h = omega arith
in_limits RResultRespWait n holdOn max h = omega arith
in_limits RWaitTimeout n holdOn max h = omega arith

-- an act that keeps its record moves the counts of its state to those of the next
pub kept_sums : (s t : State) (n : ℕ) (holdOn then : Bool) (a : Act) → Each (kept_tests s t (counts_in s 0 holdOn) (counts_in t 0 then) a)
    → plus (counts_in s n holdOn) (added a) ≡ counts_in t (rcr_then a.count n) then
kept_sums s t n holdOn then a e =
    ap (λ c. plus c (added a)) (in_sums s n holdOn)
    ∙ same_counts (plus (summed s n (counts_in s 0 holdOn)) (added a)) (summed t (rcr_then a.count n) (counts_in t 0 then))
    (sum_moves (asks s) (asks t) a.count n (added a).sends e.1.0)
    (sum_moves (answers s) (answers t) a.count n (added a).results_sent e.1.1.0)
    (eqb-true _ _ e.1.1.1.0)
    (eqb-true _ _ e.1.1.1.1.0)
    (eqb-true _ _ e.1.1.1.1.1.0)
    (eqb-true _ _ e.1.1.1.1.1.1)
    ∙ sym (in_sums t (rcr_then a.count n) then)

-- an act that ends its record leaves them within the limits
pub end_limits : (s : State) (n : ℕ) (holdOn : Bool) (max : ℕ) (a : Act) → n ≤ max → Each (end_tests s (counts_in s 0 holdOn) a) → Limits max (plus (counts_in s n holdOn) (added a))
end_limits s n holdOn max a h e = rw (in_sums s n holdOn) (record {
  sends = sum_ends (asks s) n (added a).sends max h e.0;
  results_sent = sum_ends (answers s) n (added a).results_sent max h e.1.0;
  confirms = leb-true _ _ e.1.1.0;
  results = leb-true _ _ e.1.1.1.0;
  aborts = leb-true _ _ e.1.1.1.1.0;
  shows = leb-true _ _ e.1.1.1.1.1;
})

-- from nothing on
pub from_none : (c : Counts) → plus none c ≡ c
from_none c = same_counts (plus none c) c (omega arith) (omega arith) (omega arith) (omega arith) (omega arith) (omega arith)
