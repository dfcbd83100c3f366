-- What an accepted call does, as data (01, "Numbers given back"): "stores its time, .. sends at most one PDU and gives at most two indications, in order".
use Rattle.std.specs.Prelude.{ℕ, ◌*◌, false, None, Result}
use Rattle.base_layout.specs.Layout.{exit_base, cell_size}
use Rattle.base_numbers.specs.declared.Refusal.{Refusal}
use Rattle.table_record.specs.declared.Role.TheVariants.{Initiator}
use Rattle.row_columns.specs.declared.Send.{Send}
use Rattle.row_columns.specs.declared.Send.TheVariants as Send
use Rattle.row_turns.specs.declared.Turn.{Turn}
use Rattle.step_commit.specs.declared.Change.TheVariants as Change
use Rattle.step_commit.specs.declared.Changes.{Changes}
use Rattle.step_sending.specs.Sending.{source_of}
use Rattle.step_sending.specs.declared.Sender.{Sender}
use Rattle.step_sending.specs.declared.Source.{Source}
use Rattle.step_sending.specs.declared.Source.TheVariants as Source
use Rattle.step_shown.specs.Shows.{shown_of}
use Rattle.step_shown.specs.declared.Source.TheVariants as From
use Rattle.step_shown.specs.declared.Source.{Source as FromSource}
use Rattle.step_shown.specs.declared.Place.{Place}
use Rattle.step_shown.specs.declared.Context.{Context}
use Rattle.step_shown.specs.declared.Shown.TheVariants as Shown
use Rattle.step_plan.specs.declared.Part.{Part}
use Rattle.step_plan.specs.declared.Holder.{Holder}
use Rattle.step_plan.specs.declared.Tells.{Tells}
use Rattle.step_plan.specs.declared.Tells.TheVariants as Tells
use Rattle.step_plan.specs.declared.Call.{Call}
use Rattle.step_plan.specs.declared.Told.{Told}
use Rattle.step_plan.specs.declared.Told.TheVariants as Told
use Rattle.step_plan.specs.declared.Step.{Step}

-- nothing was lent
unfoldable pub no_part : Part
no_part = record { start = 0; len = 0 }

-- 01: "one store cell of 1,024 bytes a record": the message in the record's cell
unfoldable pub cell_of : Holder → Part
cell_of h = record { start = h.place * cell_size; len = h.len }

-- the message that is sent: as the call was lent it, or again from the cell
abbrev pub message_from : Source → Holder → Call → Part
message_from Source.Nothing h c = no_part
message_from Source.Given h c = c.message
message_from Source.Cell h c = cell_of h
message_from Source.Table h c = no_part

unfoldable pub message_of : Send → Holder → Call → Part
message_of send h c = message_from (source_of send) h c

-- who sends: the record's role, TID, class, U/P and TIDnew; "exit information is kept in the record", and 02, L4, the identity that its Acks name
unfoldable pub sender_of : Turn → Holder → Call → Sender
sender_of turn h c = record {
  role = h.role;
  tid = h.tid;
  class = h.class;
  user_ack = h.up;
  tidnew = h.tidnew;
  start = (message_of turn.send h c).start;
  len = (message_of turn.send h c).len;
  exit_start = exit_base h.place;
  exit_len = turn.after.exit_len;
  unknown = turn.after.unknown;
}

-- "as a part of it": of the datagram or of the store
unfoldable pub place_in : FromSource → Part → Place
place_in source part = record { source = source; start = part.start; len = part.len }

-- what an indication shows: "kind, role, peer, TID and data; for an Invoke also class and U/P"
unfoldable pub context_of : Holder → Call → Context
context_of h c = record {
  role = h.role;
  peer = h.peer;
  tid = h.tid;
  class = h.class;
  up = h.up;
  info = place_in From.Datagram c.info;
  user = place_in From.Datagram c.user;
  cell = place_in From.Store (cell_of h);
}

-- the TID of a request, or the record that was fired
unfoldable pub told_of_is : Tells → Holder → Told
told_of_is Tells.Nothing h = Told.Nothing
told_of_is Tells.Tid h = Told.Tid h.tid
told_of_is Tells.Record h = Told.Fired h.role h.peer h.tid

-- the step of a turn whose changes of the table are these
unfoldable pub step_of : Turn → Changes → Holder → Call → Step
step_of turn changes h c = record {
  changes = changes;
  cell = turn.cell;
  message = c.message;
  send = turn.send;
  by = sender_of turn h c;
  first = shown_of turn.first (context_of h c);
  second = shown_of turn.second (context_of h c);
  told = told_of_is c.tells h;
}

-- what a call will do: a step, or a refusal that changes nothing
abbrev pub Plan : Type 0
Plan = Result Step Refusal

-- nobody sends
unfoldable pub no_sender : Sender
no_sender = record { role = Initiator; tid = 0; class = 0; user_ack = false; tidnew = false; start = 0; len = 0; exit_start = 0; exit_len = 0; unknown = 0 }

-- a call that changes nothing but the time
unfoldable pub idle_changes : ℕ → Changes
idle_changes time = record { place = 0; change = Change.Nothing; exit = false; gen_tid = None; peer = 0; cached = None; time = time }

-- 01: "An accepted call stores its time", also where a PDU is ignored or none is due
unfoldable pub idle_step : ℕ → Step
idle_step time = record {
  changes = idle_changes time;
  cell = false;
  message = no_part;
  send = Send.Nothing;
  by = no_sender;
  first = Shown.Nothing;
  second = Shown.Nothing;
  told = Told.Nothing;
}
