-- What a turn leaves as it is (01, "named role, peer and TID").
use Rattle.std.specs.Prelude.{◌≡◌, false, ◌⊎◌}
use Rattle.table_record.specs.Record.{role_of, class_of}
use Rattle.table_record.specs.declared.Record.{Record}
use Rattle.row_turns.specs.Turns.{new_record}

-- the record is the same transaction's: a turn keeps role, class, peer, TID, user acknowledgement and TIDnew
pub record SameTransaction (r after : Record) : Type 0 where
  pub role : role_of after.state ≡ role_of r.state
  pub class : class_of after.state ≡ class_of r.state
  pub peer : after.peer ≡ r.peer
  pub tid : after.tid ≡ r.tid
  pub user_ack : after.user_ack ≡ r.user_ack
  pub tidnew : after.tidnew ≡ r.tidnew

-- a record after its turn is freed and zero, or still that of its transaction
abbrev pub FreedOrSame : Record → Record → Type 0
FreedOrSame r after = (after ≡ new_record 0 0 false false) ⊎ SameTransaction r after
