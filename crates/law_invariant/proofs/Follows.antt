-- What follows of one record and of one call: RCR is the number of PDUs sent after the first, and nothing comes after an abort. Assumes nothing.
use Prim.Native.Nat.{ℕ, ◌+◌, ◌≤◌, ◌<◌}
use native.Mathlib.Omega.{arith}
use mathlib.Core.Path.{◌≡◌, refl, ap, ◌∙◌}
use mathlib.Core.Bool.{Bool, false}
use mathlib.Core.List.{List}
use mathlib.Core.Logic.{◌⊎◌, inl, inr}
use Rattle.base_lists.proofs.StoresAndParts.{lt_or_le}
use Rattle.table_record.specs.Record.{state_number, role_number, role_of}
use Rattle.table_record.specs.declared.Role.TheVariants.{Initiator, Responder}
use Rattle.table_record.specs.declared.State.{State}
use Rattle.table_record.specs.declared.State.TheVariants.{Free, IResultWait1, IResultWait2, IResultRespWait, IWaitTimeout, RTidokWait1, RTidokWait2, RInvokeRespWait1, RInvokeRespWait2, RResultWait, RResultRespWait, RWaitTimeout}
use Rattle.table_layout.specs.Table.{count, record_at}
use Rattle.table_record_ok.specs.OneRecord.{Live}
use Rattle.law_counting.specs.Counting.{Counts, counts_in}
use Rattle.law_history.specs.Trace.{Entry}
use Rattle.law_history.specs.Tally.{Name, adds, opens, tally}
use Rattle.law_history.specs.Start.{Start}
use Rattle.law_history.specs.Moves.{name_of}
use Rattle.law_history.specs.Demand.{brings, Calm}
use Rattle.law_invariant.specs.Invariant.{Inv}

other_role : {A : Type 0} → Responder ≡ Initiator → A
other_role e = absurd (omega (arith, ap role_number e))

sends_in : (s : State) (rcr : ℕ) (holdOn : Bool) → 1 ≤ state_number s → role_of s ≡ Initiator → (counts_in s rcr holdOn).sends ≡ 1 + rcr
sends_in Free rcr holdOn live role = absurd (omega (arith, live))
sends_in IResultWait1 rcr holdOn live role = refl
sends_in IResultWait2 rcr holdOn live role = refl
sends_in IResultRespWait rcr holdOn live role = refl
sends_in IWaitTimeout rcr holdOn live role = refl
sends_in RTidokWait1 rcr holdOn live role = other_role role
sends_in RTidokWait2 rcr holdOn live role = other_role role
sends_in RInvokeRespWait1 rcr holdOn live role = other_role role
sends_in RInvokeRespWait2 rcr holdOn live role = other_role role
sends_in RResultWait rcr holdOn live role = other_role role
sends_in RResultRespWait rcr holdOn live role = other_role role
sends_in RWaitTimeout rcr holdOn live role = other_role role

module _ (start : Start) (max : ℕ) (t : List ℕ) (h : List Entry) (v : Inv start max t h) (i : ℕ) (inside : i < count t) where
  -- "RCR is the number of Invoke, TIDok or Result PDUs sent after the first": of a live initiator record
  pub rcr_counts : Live (record_at t i) → role_of (record_at t i).state ≡ Initiator → (tally start.counts h (name_of (record_at t i))).sends ≡ 1 + (record_at t i).rcr.0
  rcr_counts live role =
      ap (λ (c : Counts). c.sends) (v.says i inside live) ∙ sends_in (record_at t i).state (record_at t i).rcr.0 (record_at t i).hold_on live role

  -- and of the responder's in RESULT RESP WAIT
  pub rcr_counts_results : (record_at t i).state ≡ RResultRespWait → (tally start.counts h (name_of (record_at t i))).results_sent ≡ 1 + (record_at t i).rcr.0
  rcr_counts_results state =
      let live : Live (record_at t i) = omega (arith, ap state_number state) in
      ap (λ (c : Counts). c.results_sent) (v.says i inside live) ∙ ap (λ (s : State). (counts_in s (record_at t i).rcr.0 (record_at t i).hold_on).results_sent) state

module _ (start : Start) (e : Entry) (h : List Entry) (calm : Calm start e h) (n : Name) (shut : opens e n ≡ false) (aborted : 1 ≤ (tally start.counts h n).aborts) where
  -- "nothing after the user's own abort or one shown to it"
  pub nothing_after_abort : brings (adds e n) ≡ 0
  nothing_after_abort = go (lt_or_le (brings (adds e n)) 1)
    where
      go : (brings (adds e n) < 1) ⊎ (1 ≤ brings (adds e n)) → brings (adds e n) ≡ 0
      go (inl l) = omega (arith, l)
      go (inr l) = absurd (omega (arith, aborted, calm n shut l))

  pub no_result_after_abort : (adds e n).results ≡ 0
  no_result_after_abort = omega (arith, nothing_after_abort)
