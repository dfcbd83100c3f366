-- The record after a row: freed where the row ends it, else in its next state. Assumes nothing.
use mathlib.Core.Path.{◌≡◌, refl, sym}
use mathlib.Core.Bool.{true, false}
use mathlib.Core.List.{List}
use Prim.Native.Nat.{ℕ}
use Rattle.base_lists.proofs.StoresAndParts.{true_false}
use Rattle.table_record.specs.declared.Record.{Record}
use Rattle.table_layout.specs.declared.Settings.{Settings}
use Rattle.row_columns.specs.declared.Act.{Act}
use Rattle.row_columns.specs.declared.Next.{Next}
use Rattle.row_columns.specs.declared.Next.TheVariants.{Stays, Ends, Goes}
use Rattle.row_turns.specs.declared.Given.{Given}
use Rattle.row_turns.specs.Turns.{state_after, ends_by, new_record, moved_to, record_after}

module _ (a : Act) (r : Record) (g : Given) (s : Settings) (rows : List (List ℕ)) where
  pub ended : (n : Next) → ends_by n ≡ true → new_record 0 0 false false ≡ record_after n a r g s rows
  unfolding record_after
  ended Stays e = true_false (sym e)
  ended Ends e = refl
  ended (Goes state) e = true_false (sym e)

  pub moved : (n : Next) → ends_by n ≡ false → moved_to (state_after n r.state) a r g s rows ≡ record_after n a r g s rows
  unfolding record_after
  moved Stays e = refl
  moved Ends e = true_false e
  moved (Goes state) e = refl
