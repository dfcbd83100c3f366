-- What an indication shows (01, "Numbers given back"): "An indication fixes kind, role, peer, TID and data".
use Rattle.std.specs.Prelude.{Bool}
use Rattle.base_lists.specs.Seq.{pick}
use Rattle.row_columns.specs.declared.Indication.{Indication}
use Rattle.row_columns.specs.declared.Indication.TheVariants as Indication
use Rattle.step_shown.specs.declared.Source.TheVariants.{Datagram}
use Rattle.step_shown.specs.declared.Place.{Place}
use Rattle.step_shown.specs.declared.Shown.{Shown}
use Rattle.step_shown.specs.declared.Shown.TheVariants.{Nothing, Invoke, Confirm, Result, Abort}
use Rattle.step_shown.specs.declared.Context.{Context}

-- no data: "else empty"
abbrev pub no_data : Place
no_data = record { source = Datagram; start = 0; len = 0 }

-- "the store serves an Invoke shown after verification"
unfoldable pub invoke_place : Bool → Context → Place
invoke_place verified c = pick verified c.cell c.user

-- "A confirmation's data is that of the first Info item of its Ack, else empty"
unfoldable pub confirm_place : Bool → Context → Place
confirm_place acked c = pick acked c.info no_data

-- "for an Invoke also class and U/P; for an abort also type and reason"; "A Result with no data is a true result"
unfoldable pub shown_of : Indication → Context → Shown
shown_of Indication.Nothing c = Nothing
shown_of (Indication.Invoke verified) c = Invoke c.peer c.tid c.class c.up (invoke_place verified c)
shown_of (Indication.Confirm acked) c = Confirm c.role c.peer c.tid (confirm_place acked c)
shown_of Indication.Result c = Result c.peer c.tid c.user
shown_of (Indication.Abort type reason) c = Abort c.role c.peer c.tid type reason

-- "kind, role, peer, TID and data": where the data lies; an abort has none
unfoldable pub place_of : Shown → Place
place_of Nothing = no_data
place_of (Invoke peer tid class up place) = place
place_of (Confirm role peer tid place) = place
place_of (Result peer tid place) = place
place_of (Abort role peer tid type reason) = no_data
