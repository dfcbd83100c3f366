-- A turn that brings an abort brings no confirmation and no result; the user's abort, where it is allowed, sends the user's Abort PDU and shows nothing. Assumes nothing.
use Prim.Native.Nat.{ℕ, ◌+◌, ◌≤◌}
use native.Mathlib.Omega.{arith}
use mathlib.Core.Path.{◌≡◌, refl}
use mathlib.Core.Bool.{Bool, true, false}
use mathlib.Core.List.{List}
use borrow.Author.Tests.{eqb-true}
use lib.Dec.{eqb}
use Rattle.base_lists.specs.Seq.{pick, every}
use Rattle.table_record.specs.declared.State.{State}
use Rattle.table_record.specs.declared.Record.{Record}
use Rattle.table_layout.specs.declared.Settings.{Settings}
use Rattle.row_events.specs.declared.Conditions.{Conditions}
use Rattle.row_events.specs.declared.Event.TheVariants as Event
use Rattle.row_events.specs.declared.Opening.{Opening}
use Rattle.row_events.specs.declared.Row.{Row}
use Rattle.row_events.proofs.Finite.{all_rows, at_row, at_opening}
use Rattle.row_choice.specs.Rows.{row_of}
use Rattle.row_columns.specs.Columns.{user, act_with, taken, acked, stored, shown}
use Rattle.row_columns.specs.declared.Indication.TheVariants as Indication
use Rattle.row_columns.specs.declared.Send.TheVariants as Send
use Rattle.row_entries.specs.Acts.{act_of, opening_act}
use Rattle.row_turns.specs.Turns.{turn_of, row_turn, opening_turn}
use Rattle.row_turns.specs.declared.Given.{Given}
use Rattle.row_turns.specs.declared.Turn.{Turn}
use Rattle.law_counting.specs.Counting.{Counts, of_turn}
use Rattle.law_counting.proofs.Acts.{added}

-- no abort, or neither confirmation nor result
abbrev alone : Counts → Bool
alone c = pick (eqb c.aborts 0) true (eqb (c.confirms + c.results) 0)

abbrev pub Alone : Counts → Type 0
Alone c = 1 ≤ c.aborts → (c.confirms ≡ 0) × (c.results ≡ 0)

-- `Alone c` from its test, in the words of its definition
is_alone : (c : Counts) → alone c ≡ true → 1 ≤ c.aborts → (c.confirms ≡ 0) × (c.results ≡ 0)
is_alone c e some = go (eqb c.aborts 0) refl e
  where
    go : (b : Bool) → eqb c.aborts 0 ≡ b → pick b true (eqb (c.confirms + c.results) 0) ≡ true → (c.confirms ≡ 0) × (c.results ≡ 0)
    go true none x = absurd (omega (arith, some, eqb-true c.aborts 0 none))
    go false q x = let z = eqb-true (c.confirms + c.results) 0 x in (omega (arith, z), omega (arith, z))

row_alone : (row : Row) (tidok : Bool) (kind reason : ℕ) → alone (added (act_of row tidok kind reason)) ≡ true
unfolding every act_of act_with taken acked stored shown
row_alone row tidok kind reason = at_row (test tidok) (computed tidok) row
  where
    test : Bool → Row → Bool
    test t x = alone (added (act_of x t kind reason))

    computed : (t : Bool) → all_rows (test t) ≡ true
    computed true = refl
    computed false = refl

opening_test : (o : Opening) → alone (added (opening_act o)) ≡ true
unfolding every opening_act act_with stored shown
opening_test o = at_opening (λ x. alone (added (opening_act x))) refl o

module _ (r : Record) (g : Given) (s : Settings) (rows : List (List ℕ)) where
  pub turn_alone : (row : Row) → let turn : Turn = row_turn row r g s rows in Alone (of_turn turn.send turn.first turn.second)
  unfolding row_turn turn_of
  turn_alone row = is_alone (added (act_of row r.tidok_sent g.kind g.reason)) (row_alone row r.tidok_sent g.kind g.reason)

  pub opening_alone : (o : Opening) → let turn : Turn = opening_turn o r g s rows in Alone (of_turn turn.send turn.first turn.second)
  unfolding opening_turn turn_of
  opening_alone o = is_alone (added (opening_act o)) (opening_test o)

-- the row of the user's abort, in every state that allows it
pub user_aborts : (s : State) (c : Conditions) → (row_of s Event.UserAbort c ≡ Row.NotAllowed → ⊥) → row_of s Event.UserAbort c ≡ Row.UserAborts
unfolding row_of
user_aborts State.Free c allowed = absurd (allowed refl)
user_aborts State.IResultWait1 c allowed = refl
user_aborts State.IResultWait2 c allowed = refl
user_aborts State.IResultRespWait c allowed = refl
user_aborts State.IWaitTimeout c allowed = refl
user_aborts State.RTidokWait1 c allowed = absurd (allowed refl)
user_aborts State.RTidokWait2 c allowed = absurd (allowed refl)
user_aborts State.RInvokeRespWait1 c allowed = refl
user_aborts State.RInvokeRespWait2 c allowed = refl
user_aborts State.RResultWait c allowed = refl
user_aborts State.RResultRespWait c allowed = refl
user_aborts State.RWaitTimeout c allowed = refl

-- what a turn by that row does
pub record UserAborts (turn : Turn) (reason : ℕ) : Type 0 where
  pub sends : turn.send ≡ Send.Abort user reason
  pub first : turn.first ≡ Indication.Nothing
  pub second : turn.second ≡ Indication.Nothing

pub user_abort_turn : (r : Record) (g : Given) (s : Settings) (rows : List (List ℕ)) → UserAborts (row_turn Row.UserAborts r g s rows) g.reason
unfolding row_turn turn_of act_of act_with
user_abort_turn r g s rows = record { sends = refl; first = refl; second = refl }
