-- Where no waiting limit is in force every row is the base's, and so is the record that it leaves where the settings have none. Assumes nothing.
use Prim.Native.Nat.{ℕ}
use mathlib.Core.Path.{◌≡◌, refl}
use mathlib.Core.Bool.{Bool, true, false}
use mathlib.Core.List.{List}
use Rattle.base_lists.specs.Seq.{pick, every}
use Rattle.table_record.specs.Record.{state_of}
use Rattle.table_record.specs.declared.State.{State}
use Rattle.table_record.specs.declared.State.TheVariants.{Free, IResultWait1, IResultWait2, IResultRespWait, IWaitTimeout, RTidokWait1, RTidokWait2, RInvokeRespWait1, RInvokeRespWait2, RResultWait, RResultRespWait, RWaitTimeout}
use Rattle.table_record.specs.declared.Record.{Record}
use Rattle.table_layout.specs.declared.Settings.{Settings}
use Rattle.row_events.specs.Events.{same_row_is}
use Rattle.row_events.specs.declared.Event.{Event}
use Rattle.row_events.specs.declared.Conditions.{Conditions}
use Rattle.row_events.proofs.Finite.{at_state, same_row}
use Rattle.row_choice.specs.Rows.{row_of}
use Rattle.row_columns.specs.declared.Next.{Next}
use Rattle.row_columns.specs.declared.Next.TheVariants.{Stays, Ends, Goes}
use Rattle.row_columns.specs.declared.Timer.{Timer}
use Rattle.row_columns.specs.declared.Timer.TheVariants as Timer
use Rattle.row_columns.specs.declared.Act.{Act}
use Rattle.row_conditions.specs.Conditions.{limited_of, conditions_of}
use Rattle.row_turns.specs.Turns.{stopped_at, new_record, moved_to, record_after, turn_of}
use Rattle.row_turns.specs.declared.Given.{Given}
use Rattle.law_rows_listed.specs.Document.{base_row}
use Rattle.law_mode_off.specs.Base.{base_moved, base_after, base_turn_of}

alike : State → Event → Conditions → Bool
alike s e c = pick c.limited true (same_row_is (row_of s e c) (base_row s e c))

-- the row, where the deadline is no waiting limit
pub unlimited_row : (s : State) (e : Event) (c : Conditions) → c.limited ≡ false → row_of s e c ≡ base_row s e c
unfolding alike every state_of row_of base_row
unlimited_row s e c off = go c.limited off (at_state alike refl s e c)
  where
    go : (b : Bool) → b ≡ false → pick b true (same_row_is (row_of s e c) (base_row s e c)) ≡ true → row_of s e c ≡ base_row s e c
    go b is h = same_row (row_of s e c) (base_row s e c) (rw is at h)

none_limited : (s : State) (holdOn holdOnSent : Bool) → limited_of s holdOn holdOnSent false ≡ false
none_limited Free a b = refl
none_limited IResultWait1 a b = refl
none_limited IResultWait2 true b = refl
none_limited IResultWait2 false b = refl
none_limited IResultRespWait a b = refl
none_limited IWaitTimeout a b = refl
none_limited RTidokWait1 a b = refl
none_limited RTidokWait2 a b = refl
none_limited RInvokeRespWait1 a b = refl
none_limited RInvokeRespWait2 a b = refl
none_limited RResultWait a true = refl
none_limited RResultWait a false = refl
none_limited RResultRespWait a b = refl
none_limited RWaitTimeout a b = refl

not_limited : (s : Settings) (r : Record) → r.limit ≡ 0 → (conditions_of s r).limited ≡ false
unfolding conditions_of
not_limited s r e = rw e (none_limited r.state r.hold_on r.hold_on_sent)

-- the row of a record with no waiting limit in force
pub record_row : (s : Settings) (r : Record) (event : Event) → r.limit ≡ 0 → row_of r.state event (conditions_of s r) ≡ base_row r.state event (conditions_of s r)
record_row s r event e = unlimited_row r.state event (conditions_of s r) (not_limited s r e)

module _ (g : Given) (s : Settings) (rows : List (List ℕ)) (r : Record) (off : s.limit ≡ 0) (none : r.limit ≡ 0) where
  moved_same : (a : Act) (state : State) (timer : Timer) → a.timer ≡ timer → moved_to state a r g s rows ≡ base_moved state a r g s rows
  unfolding moved_to base_moved stopped_at
  moved_same a state Timer.Runs e = rw (e, none) refl
  moved_same a state Timer.Stop e = rw (e, off) refl
  moved_same a state Timer.A e = rw e refl
  moved_same a state Timer.W e = rw e refl
  moved_same a state Timer.R e = rw e refl

  after_same : (a : Act) (next : Next) → record_after next a r g s rows ≡ base_after next a r g s rows
  unfolding record_after base_after
  after_same a Stays = moved_same a r.state a.timer refl
  after_same a Ends = refl
  after_same a (Goes state) = moved_same a state a.timer refl

  -- the whole turn
  pub turn_same : (a : Act) → turn_of a r g s rows ≡ base_turn_of a r g s rows
  unfolding turn_of base_turn_of
  turn_same a = rw (after_same a a.next) refl

  -- no waiting limit is in force afterwards
  base_none : (a : Act) (next : Next) → (base_after next a r g s rows).limit ≡ 0
  unfolding base_after base_moved new_record
  base_none a Stays = refl
  base_none a Ends = refl
  base_none a (Goes state) = refl

  pub turn_none : (a : Act) → (turn_of a r g s rows).after.limit ≡ 0
  unfolding turn_of
  turn_none a = rw (after_same a a.next) (base_none a a.next)
