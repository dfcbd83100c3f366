-- The TID test and GenTID (01, "TIDs"), TIDnew (02, L2), and the interval R[RCR] (01, "What the reader carries").
use Rattle.std.specs.Prelude.{ℕ, ◌+◌, ◌-◌, ◌%◌, Bool, true, false, List, [], ◌==◌, nat_le, slice_index, slice_index_or}
use Rattle.base_layout.specs.Layout.{tid_count}
use Rattle.base_lists.specs.Seq.{pick}
use Rattle.table_record.specs.declared.Rcr.{Rcr}
use Rattle.table_tids.specs.declared.Test.{Test}
use Rattle.table_tids.specs.declared.Test.TheVariants.{Valid, Verified}

-- 01: "the distance d is (TID − LastTID) taken modulo 32,768"; 32,768 is added so that the difference is never below zero
unfoldable pub distance : ℕ → ℕ → ℕ
distance tid last = (tid + tid_count - last % tid_count) % tid_count

-- 01: "Valid when 1 ≤ d ≤ 16,383; otherwise, or with nothing cached, verified first"; cached is 0 for nothing, else LastTID + 1
unfoldable pub test_of : ℕ → ℕ → Test
test_of cached tid =
    pick (cached == 0) Verified
    (pick (nat_le 1 (distance tid (cached - 1)))
    (pick (nat_le (distance tid (cached - 1)) 16383) Valid Verified)
    Verified)

-- 01: "GenTID counts modulo 32,768"
abbrev pub next_tid : ℕ → ℕ
next_tid tid = (tid + 1) % tid_count

-- 02, L2: "Our initiator sets the flag on its first class 1 or 2 Invoke from a fresh table, and on the first after GenTID has come back to 0"
unfoldable pub carries_tidnew : ℕ → Bool → Bool
carries_tidnew class due = pick (class == 0) false due

-- and so it is due after a request that brings GenTID to 0, and stays due after one of class 0
unfoldable pub due_after : ℕ → Bool → ℕ → Bool
due_after class due next = pick (next == 0) true (pick (class == 0) due false)

-- the row of a class, the first being 0
abbrev pub row_number : ℕ → ℕ
row_number class = pick (class == 1) 0 1

-- 01: "R[RCR] is one of two rows of nine intervals, class 1 and class 2"
unfoldable pub interval_of : List (List ℕ) → ℕ → Rcr → ℕ
interval_of rows class rcr = slice_index (slice_index_or rows (row_number class) []) (rcr.0 % 9)
