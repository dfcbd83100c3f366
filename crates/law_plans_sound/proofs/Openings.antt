-- A record that an opening leaves live has the peer and TID it was opened for, and the role of its opening. Assumes nothing.
use Prim.Native.Nat.{ℕ, ◌≤◌}
use native.Mathlib.Omega.{arith}
use mathlib.Core.Path.{◌≡◌, refl}
use mathlib.Core.List.{List}
use Rattle.table_record.specs.Record.{role_of, state_number}
use Rattle.table_record.specs.declared.Role.{Role}
use Rattle.table_record.specs.declared.Role.TheVariants.{Initiator, Responder}
use Rattle.table_record.specs.declared.Record.{Record}
use Rattle.table_layout.specs.declared.Settings.{Settings}
use Rattle.row_events.specs.declared.Opening.{Opening}
use Rattle.row_events.specs.declared.Opening.TheVariants as Opening
use Rattle.row_columns.specs.Columns.{act_with, stored, shown}
use Rattle.row_entries.specs.Acts.{opening_act}
use Rattle.row_turns.specs.Turns.{new_record, moved_to, record_after, turn_of, opening_turn}
use Rattle.row_turns.specs.declared.Given.{Given}

-- a request opens an initiator's record, a PDU a responder's
abbrev pub opened_role : Opening → Role
opened_role Opening.Ignored = Responder
opened_role Opening.Requested0 = Initiator
opened_role Opening.Requested1 = Initiator
opened_role Opening.Requested2 = Initiator
opened_role Opening.Malformed = Responder
opened_role Opening.WrongVersion = Responder
opened_role Opening.Unsupported = Responder
opened_role Opening.TooLong = Responder
opened_role Opening.Shown0 = Responder
opened_role Opening.Valid1 = Responder
opened_role Opening.Valid2 = Responder
opened_role Opening.ToVerify1 = Responder
opened_role Opening.ToVerify2 = Responder
opened_role Opening.UnknownTidve = Responder
opened_role Opening.Restarted1 = Responder
opened_role Opening.Restarted2 = Responder

pub record OpenedAs (opening : Opening) (r after : Record) : Type 0 where
  pub role : role_of after.state ≡ opened_role opening
  pub peer : after.peer ≡ r.peer
  pub tid : after.tid ≡ r.tid

pub opened_as : (opening : Opening) (r : Record) (g : Given) (s : Settings) (rows : List (List ℕ)) → 1 ≤ state_number (opening_turn opening r g s rows).after.state
    → OpenedAs opening r (opening_turn opening r g s rows).after
unfolding opening_turn turn_of opening_act act_with stored shown record_after moved_to new_record
opened_as Opening.Ignored r g s rows h = absurd (omega (arith, h))
opened_as Opening.Requested0 r g s rows h = absurd (omega (arith, h))
opened_as Opening.Requested1 r g s rows h = record { role = refl; peer = refl; tid = refl }
opened_as Opening.Requested2 r g s rows h = record { role = refl; peer = refl; tid = refl }
opened_as Opening.Malformed r g s rows h = absurd (omega (arith, h))
opened_as Opening.WrongVersion r g s rows h = absurd (omega (arith, h))
opened_as Opening.Unsupported r g s rows h = absurd (omega (arith, h))
opened_as Opening.TooLong r g s rows h = absurd (omega (arith, h))
opened_as Opening.Shown0 r g s rows h = absurd (omega (arith, h))
opened_as Opening.Valid1 r g s rows h = record { role = refl; peer = refl; tid = refl }
opened_as Opening.Valid2 r g s rows h = record { role = refl; peer = refl; tid = refl }
opened_as Opening.ToVerify1 r g s rows h = record { role = refl; peer = refl; tid = refl }
opened_as Opening.ToVerify2 r g s rows h = record { role = refl; peer = refl; tid = refl }
opened_as Opening.UnknownTidve r g s rows h = absurd (omega (arith, h))
opened_as Opening.Restarted1 r g s rows h = record { role = refl; peer = refl; tid = refl }
opened_as Opening.Restarted2 r g s rows h = record { role = refl; peer = refl; tid = refl }
