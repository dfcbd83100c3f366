-- Exit information is stored only with a record that lives on. Assumes nothing.
use Prim.Native.Nat.{ℕ}
use mathlib.Core.Path.{◌≡◌, refl, sym}
use mathlib.Core.List.{List}
use mathlib.Core.Bool.{Bool, true, false, not}
use lib.Dec.{eqb}
use Rattle.base_lists.specs.Seq.{pick, every}
use Rattle.base_lists.proofs.StoresAndParts.{true_false}
use Rattle.table_record.specs.Record.{state_number}
use Rattle.table_record.specs.declared.Record.{Record}
use Rattle.table_layout.specs.declared.Settings.{Settings}
use Rattle.row_events.specs.declared.Row.{Row}
use Rattle.row_events.proofs.Finite.{all_rows, at_row}
use Rattle.row_columns.specs.Columns.{act_with, taken, acked, stored, shown}
use Rattle.row_columns.specs.declared.Next.{Next}
use Rattle.row_columns.specs.declared.Next.TheVariants.{Stays, Ends, Goes}
use Rattle.row_columns.specs.declared.Act.{Act}
use Rattle.row_entries.specs.Acts.{act_of}
use Rattle.row_turns.specs.Turns.{stores_exit, moved_to, record_after, turn_of, row_turn}
use Rattle.row_turns.specs.declared.Given.{Given}

-- the record goes to a state that is live
abbrev goes_live : Next → Bool
goes_live Stays = false
goes_live Ends = false
goes_live (Goes s) = not (eqb (state_number s) 0)

abbrev exit_lives : Act → Bool
exit_lives a = pick (stores_exit a.exit) (goes_live a.next) true

row_lives : (row : Row) (tidok : Bool) (kind reason : ℕ) → exit_lives (act_of row tidok kind reason) ≡ true
unfolding every act_of act_with taken acked stored shown
row_lives row tidok kind reason = at_row (λ x. exit_lives (act_of x tidok kind reason)) (computed tidok) row
  where
    computed : (t : Bool) → all_rows (λ x. exit_lives (act_of x t kind reason)) ≡ true
    computed true = refl
    computed false = refl

module _ (a : Act) (r : Record) (g : Given) (s : Settings) (rows : List (List ℕ)) where
  lives : (n : Next) → goes_live n ≡ true → eqb (state_number (record_after n a r g s rows).state) 0 ≡ true → ⊥
  unfolding record_after moved_to
  lives Stays e h = true_false (sym e)
  lives Ends e h = true_false (sym e)
  lives (Goes st) e h = true_false (sym (rw h at e))

  not_stored : (b : Bool) → stores_exit a.exit ≡ b → exit_lives a ≡ true → eqb (state_number (record_after a.next a r g s rows).state) 0 ≡ true → stores_exit a.exit ≡ false
  not_stored false e t h = e
  not_stored true e t h = absurd (lives a.next (rw e at t) h)

-- a record that ended stores no exit information
pub ended_stores_none : (row : Row) (r : Record) (g : Given) (s : Settings) (rows : List (List ℕ))
    → eqb (state_number (row_turn row r g s rows).after.state) 0 ≡ true → (row_turn row r g s rows).exit ≡ false
unfolding row_turn turn_of
ended_stores_none row r g s rows h =
    let a : Act = act_of row r.tidok_sent g.kind g.reason in
    not_stored a r g s rows (stores_exit a.exit) refl (row_lives row r.tidok_sent g.kind g.reason) h
