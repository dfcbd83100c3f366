-- The rows that the engine has are those of document 01's lists, for every state, event and condition. Assumes nothing.
use mathlib.Core.Path.{◌≡◌, refl}
use mathlib.Core.Bool.{Bool}
use Rattle.base_lists.specs.Seq.{every}
use Rattle.table_record.specs.Record.{state_of}
use Rattle.table_record.specs.declared.State.{State}
use Rattle.row_events.specs.Events.{same_row_is}
use Rattle.row_events.specs.declared.Event.{Event}
use Rattle.row_events.specs.declared.Conditions.{Conditions}
use Rattle.row_events.proofs.Finite.{at_state, same_row}
use Rattle.row_choice.specs.Rows.{row_of}
use Rattle.law_rows_listed.specs.Document.{document_row}

alike : State → Event → Conditions → Bool
alike s e c = same_row_is (row_of s e c) (document_row s e c)

pub rows_are_listed : (s : State) (e : Event) (c : Conditions) → row_of s e c ≡ document_row s e c
unfolding alike every state_of row_of document_row
rows_are_listed s e c = same_row (row_of s e c) (document_row s e c) (at_state alike refl s e c)
