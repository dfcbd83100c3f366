-- A turn that shows an abort, or sends the user's own, frees its record; one that shows a result takes a Result PDU while its record waits for it. Assumes nothing.
use Prim.Native.Nat.{ℕ, ◌≤◌}
use native.Mathlib.Omega.{arith}
use mathlib.Core.Path.{◌≡◌, refl}
use mathlib.Core.Bool.{Bool, true, false}
use mathlib.Core.List.{List}
use borrow.Author.Tests.{leb-true, le-leb}
use lib.Dec.{leb}
use Rattle.base_lists.specs.Seq.{pick, every}
use Rattle.table_record.specs.Record.{state_of}
use Rattle.table_record.specs.declared.State.{State}
use Rattle.table_record.specs.declared.Record.{Record}
use Rattle.table_layout.specs.declared.Settings.{Settings}
use Rattle.row_events.specs.declared.Event.{Event}
use Rattle.row_events.specs.declared.Conditions.{Conditions}
use Rattle.row_events.specs.declared.Row.{Row}
use Rattle.row_events.proofs.Finite.{all_rows, at_state, at_row}
use Rattle.row_choice.specs.Rows.{row_of}
use Rattle.row_conditions.specs.Conditions.{conditions_of}
use Rattle.row_columns.specs.Columns.{act_with, taken, acked, stored, shown}
use Rattle.row_columns.specs.declared.Next.{Next}
use Rattle.row_columns.specs.declared.Next.TheVariants.{Stays, Ends, Goes}
use Rattle.row_columns.specs.declared.Act.{Act}
use Rattle.row_entries.specs.Acts.{act_of}
use Rattle.row_turns.specs.Turns.{new_record, record_after, turn_of, row_turn}
use Rattle.row_turns.specs.declared.Given.{Given}
use Rattle.row_turns.specs.declared.Turn.{Turn}
use Rattle.law_rows.specs.Shown.{act_at, takes_result}
use Rattle.law_counting.specs.Counting.{of_turn}
use Rattle.law_counting.proofs.Acts.{added}

-- how many aborts there may be: none where the record stays
abbrev room : Next → ℕ
room Stays = 0
room Ends = 1
room (Goes t) = 0

aborts_end : (row : Row) (tidok : Bool) (kind reason : ℕ) → let a : Act = act_of row tidok kind reason in leb (added a).aborts (room a.next) ≡ true
unfolding every act_of act_with taken acked stored shown
aborts_end row tidok kind reason = at_row (test tidok) (computed tidok) row
  where
    test : Bool → Row → Bool
    test t x = leb (added (act_of x t kind reason)).aborts (room (act_of x t kind reason).next)

    computed : (t : Bool) → all_rows (test t) ≡ true
    computed true = refl
    computed false = refl

results_taken : (s : State) (e : Event) (c : Conditions) (tidok : Bool) (kind reason : ℕ) → pick (leb 1 (added (act_at s e c tidok kind reason)).results) (takes_result s e) true ≡ true
unfolding every state_of row_of act_of act_with taken acked stored shown
results_taken s e c true kind reason = at_state (λ s e c. pick (leb 1 (added (act_at s e c true kind reason)).results) (takes_result s e) true) refl s e c
results_taken s e c false kind reason = at_state (λ s e c. pick (leb 1 (added (act_at s e c false kind reason)).results) (takes_result s e) true) refl s e c

module _ (g : Given) (s : Settings) (rows : List (List ℕ)) (r : Record) where
  freed : (a : Act) (n : Next) → (added a).aborts ≤ room n → 1 ≤ (added a).aborts → record_after n a r g s rows ≡ new_record 0 0 false false
  unfolding record_after
  freed a Stays most least = absurd (omega arith)
  freed a Ends most least = refl
  freed a (Goes t) most least = absurd (omega arith)

  -- "nothing after the user's own abort or one shown to it": the record is free
  pub after_abort : (row : Row) → let turn : Turn = row_turn row r g s rows in 1 ≤ (of_turn turn.send turn.first turn.second).aborts → turn.after ≡ new_record 0 0 false false
  unfolding row_turn turn_of
  after_abort row aborts =
      let a = act_of row r.tidok_sent g.kind g.reason in
      freed a a.next (leb-true _ _ (aborts_end row r.tidok_sent g.kind g.reason)) aborts

  -- "a result only with the exact data of a Result PDU taken while that request waited for it": the state and the event
  pub result_waits : (e : Event)
      → let turn : Turn = row_turn (row_of r.state e (conditions_of s r)) r g s rows in 1 ≤ (of_turn turn.send turn.first turn.second).results → takes_result r.state e ≡ true
  unfolding row_turn turn_of
  result_waits e results =
      let a = act_at r.state e (conditions_of s r) r.tidok_sent g.kind g.reason in
      rw (le-leb 1 (added a).results results) at (results_taken r.state e (conditions_of s r) r.tidok_sent g.kind g.reason)
