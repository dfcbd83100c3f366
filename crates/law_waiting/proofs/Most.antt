-- No record has more firings left than the stated number, each live one has some, and new records attain it. Assumes nothing.
use Prim.Native.Nat.{ℕ, ◌+◌, ◌-◌, ◌≤◌}
use native.Mathlib.Omega.{arith}
use native.Mathlib.Nat.{sub-zero}
use mathlib.Core.Path.{◌≡◌, refl}
use mathlib.Core.Bool.{Bool, true, false}
use mathlib.Core.List.{List}
use lib.Dec.{ltb}
use borrow.Author.Tests.{ltb-true, ltb-false}
use Rattle.base_lists.specs.Seq.{pick}
use Rattle.table_record.specs.Record.{state_number}
use Rattle.table_record.specs.declared.State.{State}
use Rattle.table_record.specs.declared.State.TheVariants.{Free, IResultWait1, IResultWait2, IResultRespWait, IWaitTimeout, RTidokWait1, RTidokWait2, RInvokeRespWait1, RInvokeRespWait2, RResultWait, RResultRespWait, RWaitTimeout}
use Rattle.table_record.specs.declared.Record.{Record}
use Rattle.table_layout.specs.declared.Settings.{Settings}
use Rattle.row_events.specs.declared.Opening.TheVariants as Opening
use Rattle.row_columns.specs.Columns.{stored, shown}
use Rattle.row_entries.specs.Acts.{opening_act}
use Rattle.row_turns.specs.Turns.{new_record, moved_to, record_after, turn_of, opening_turn}
use Rattle.row_turns.specs.declared.Given.{Given}
use Rattle.law_waiting.specs.Waiting.{left_in, firings_left, larger, most_firings}

first_no_more : (a b : ℕ) → a ≤ larger a b
first_no_more a b = go (ltb a b) refl
  where
    go : (x : Bool) → ltb a b ≡ x → a ≤ pick x b a
    go true e = omega (arith, ltb-true a b e)
    go false e = omega arith

second_no_more : (a b : ℕ) → b ≤ larger a b
second_no_more a b = go (ltb a b) refl
  where
    go : (x : Bool) → ltb a b ≡ x → b ≤ pick x b a
    go true e = omega arith
    go false e = omega (arith, ltb-false a b e)

-- the larger of two is one of them
one_of : (a b most : ℕ) → a ≤ most → b ≤ most → larger a b ≤ most
one_of a b most h k = go (ltb a b)
  where
    go : (x : Bool) → pick x b a ≤ most
    go true = k
    go false = h

picked : (b : Bool) (x y n : ℕ) → x ≤ n → y ≤ n → pick b x y ≤ n
picked true x y n h k = h
picked false x y n h k = k

module _ (s : Settings) where
  rcr_most : (n : ℕ) → s.rcr_max - n + 1 ≤ most_firings s
  rcr_most n = omega (arith, first_no_more s.rcr_max (larger s.aec_max 1))

  aec_most : (n : ℕ) → s.aec_max - n + 1 ≤ most_firings s
  aec_most n = omega (arith, first_no_more s.aec_max 1, second_no_more s.rcr_max (larger s.aec_max 1))

  two_most : 2 ≤ most_firings s
  two_most = omega (arith, second_no_more s.aec_max 1, second_no_more s.rcr_max (larger s.aec_max 1))

  in_state : (state : State) (rcr aec : ℕ) (user_ack limited : Bool) → left_in state (s.rcr_max - rcr) (s.aec_max - aec) user_ack limited ≤ most_firings s
  in_state Free rcr aec u d = omega arith
  in_state IResultWait1 rcr aec u d = rcr_most rcr
  in_state IResultWait2 rcr aec u d = picked d 1 _ _ (omega arith) (rcr_most rcr)
  in_state IResultRespWait rcr aec u d = picked u _ 2 _ (aec_most aec) two_most
  in_state IWaitTimeout rcr aec u d = omega arith
  in_state RTidokWait1 rcr aec u d = omega arith
  in_state RTidokWait2 rcr aec u d = omega arith
  in_state RInvokeRespWait1 rcr aec u d = picked u _ 2 _ (aec_most aec) two_most
  in_state RInvokeRespWait2 rcr aec u d = picked u _ 2 _ (aec_most aec) two_most
  in_state RResultWait rcr aec u d = picked d 1 2 _ (omega arith) two_most
  in_state RResultRespWait rcr aec u d = rcr_most rcr
  in_state RWaitTimeout rcr aec u d = omega arith

  -- no more than the stated number
  pub no_more_left : (r : Record) → firings_left s r ≤ most_firings s
  no_more_left r = in_state r.state r.rcr.0 r.aec.0 r.user_ack _

  -- which is at most RCR_MAX + AEC_MAX + 2
  pub most_within : most_firings s ≤ s.rcr_max + s.aec_max + 2
  most_within =
      let a = one_of s.aec_max 1 (s.aec_max + 1) (omega arith) (omega arith) in
      let b = one_of s.rcr_max (larger s.aec_max 1) (s.rcr_max + s.aec_max + 1) (omega arith) (omega (arith, a)) in
      omega (arith, b)

  -- a record without any left is free
  none_left_in : (state : State) (rcr aec : ℕ) (user_ack limited : Bool) → left_in state rcr aec user_ack limited ≡ 0 → state ≡ Free
  none_left_in Free rcr aec u d e = refl
  none_left_in IResultWait1 rcr aec u d e = absurd (omega (arith, e))
  none_left_in IResultWait2 rcr aec u true e = absurd (omega (arith, e))
  none_left_in IResultWait2 rcr aec u false e = absurd (omega (arith, e))
  none_left_in IResultRespWait rcr aec true d e = absurd (omega (arith, e))
  none_left_in IResultRespWait rcr aec false d e = absurd (omega (arith, e))
  none_left_in IWaitTimeout rcr aec u d e = absurd (omega (arith, e))
  none_left_in RTidokWait1 rcr aec u d e = absurd (omega (arith, e))
  none_left_in RTidokWait2 rcr aec u d e = absurd (omega (arith, e))
  none_left_in RInvokeRespWait1 rcr aec true d e = absurd (omega (arith, e))
  none_left_in RInvokeRespWait1 rcr aec false d e = absurd (omega (arith, e))
  none_left_in RInvokeRespWait2 rcr aec true d e = absurd (omega (arith, e))
  none_left_in RInvokeRespWait2 rcr aec false d e = absurd (omega (arith, e))
  none_left_in RResultWait rcr aec u true e = absurd (omega (arith, e))
  none_left_in RResultWait rcr aec u false e = absurd (omega (arith, e))
  none_left_in RResultRespWait rcr aec u d e = absurd (omega (arith, e))
  none_left_in RWaitTimeout rcr aec u d e = absurd (omega (arith, e))

  pub none_left : (r : Record) → firings_left s r ≡ 0 → r.state ≡ Free
  none_left r e = none_left_in r.state _ _ r.user_ack _ e

  -- ATTAINED: a request of class 1 has RCR_MAX + 1 left, an Invoke of class 1 that is shown AEC_MAX + 1 with user acknowledgement and 2 without, so that one of them has the stated number
  module _ (g : Given) (rows : List (List ℕ)) (peer tid : ℕ) (tidnew : Bool) where
    pub request_has : (user_ack : Bool) → firings_left s (opening_turn Opening.Requested1 (new_record peer tid user_ack tidnew) g s rows).after ≡ s.rcr_max + 1
    unfolding opening_turn turn_of opening_act stored record_after moved_to new_record
    request_has user_ack = omega arith

    pub awaited_has : firings_left s (opening_turn Opening.Valid1 (new_record peer tid true tidnew) g s rows).after ≡ s.aec_max + 1
    unfolding opening_turn turn_of opening_act shown record_after moved_to new_record
    awaited_has = omega arith

    pub unawaited_has : firings_left s (opening_turn Opening.Valid1 (new_record peer tid false tidnew) g s rows).after ≡ 2
    unfolding opening_turn turn_of opening_act shown record_after moved_to new_record
    unawaited_has = refl
