-- What a call gives and leaves (01, "Numbers given back"): a refusal "changes no lent byte"; an accepted call's step, carried out.
use Rattle.std.specs.Prelude.{ℕ, ◌+◌, ◌*◌, ◌≤◌, ◌<◌, ◌≡◌, List, Bool, true, false, length, Ok, Err, Result}
use Rattle.base_layout.specs.Layout.{record_size, base, peers, exit_bound, cell_size, output_least}
use Rattle.base_lists.specs.Seq.{put, part}
use Rattle.base_numbers.specs.declared.Refusal.{Refusal}
use Rattle.row_columns.specs.declared.Send.{Send}
use Rattle.row_columns.specs.declared.Send.TheVariants as Send
use Rattle.step_commit.specs.Commit.{table_changed}
use Rattle.step_sending.specs.Sending.{source_of}
use Rattle.step_sending.specs.Octets.{FitSend, octets_sent}
use Rattle.step_sending.specs.declared.Sender.{Sender}
use Rattle.step_sending.specs.declared.Source.{Source}
use Rattle.step_sending.specs.declared.Source.TheVariants as Source
use Rattle.step_plan.specs.declared.Part.{Part}
use Rattle.step_plan.specs.declared.Told.{Told}
use Rattle.step_shown.specs.declared.Shown.{Shown}
use Rattle.step_plan.specs.declared.Step.{Step}
use Rattle.step_plan.specs.Steps.{Plan}

-- what an accepted call gives: how much it sent, what it tells, and what the user is shown, in order
pub record Taken : Type 0 where
  pub sent : ℕ
  pub told : Told
  pub first : Shown
  pub second : Shown

-- what a call gives: that, or a refusal
abbrev pub Answer : Type 0
Answer = Result Taken Refusal

-- what a call is lent: table, store and output; the message or PDU; the exit information
pub record Lent : Type 0 where
  pub table : List ℕ
  pub store : List ℕ
  pub output : List ℕ
  pub given : List ℕ
  pub exit : List ℕ

abbrev pub lent : List ℕ → List ℕ → List ℕ → List ℕ → List ℕ → Lent
lent t s o g x = record { table = t; store = s; output = o; given = g; exit = x }

-- what a call gives, and what table, store and output then hold
pub record Done : Type 0 where
  pub answer : Answer
  pub table : List ℕ
  pub store : List ℕ
  pub output : List ℕ

abbrev pub done : Answer → List ℕ → List ℕ → List ℕ → Done
done a t s o = record { answer = a; table = t; store = s; output = o }

-- 01: "Only a class 1 or 2 request, a result and an Invoke to be verified write their record's cell"; "any cell's bytes past the stored message stay"
abbrev pub cell_written : List ℕ → Bool → ℕ → List ℕ → Part → List ℕ
cell_written store true place given m = put store (place * cell_size) (part given m.start m.len)
cell_written store false place given m = store

-- there is nothing to send
abbrev pub is_nothing : Send → Bool
is_nothing Send.Nothing = true
is_nothing (Send.Invoke again) = false
is_nothing (Send.Tidok again) = false
is_nothing (Send.LastAck again) = false
is_nothing (Send.HoldOn again) = false
is_nothing (Send.Tidve again) = false
is_nothing (Send.Result again) = false
is_nothing (Send.Abort kind reason) = false

-- the slice in which the parts of the PDU lie: what the call was given, the store, or the record
abbrev pub slice_of : Source → List ℕ → List ℕ → List ℕ → List ℕ
slice_of Source.Nothing given store table = given
slice_of Source.Given given store table = given
slice_of Source.Cell given store table = store
slice_of Source.Table given store table = table

-- 01: "sends at most one PDU": its octets, none where nothing is sent
unfoldable pub octets_out : List ℕ → List ℕ → List ℕ → Send → Sender → List ℕ
octets_out given store table send by = octets_sent (slice_of (source_of send) given store table) send by

-- what a step leaves: the table after its changes, the store with the message, the octets sent
unfoldable pub table_then : Lent → Step → List ℕ
table_then l step = table_changed l.table step.changes l.exit

unfoldable pub store_then : Lent → Step → List ℕ
store_then l step = cell_written l.store step.cell step.changes.place l.given step.message

unfoldable pub sent_then : Lent → Step → List ℕ
sent_then l step = octets_out l.given (store_then l step) (table_then l step) step.send step.by

-- the answer of a step that sent this much
abbrev pub taken_of : ℕ → Step → Answer
taken_of sent step = Ok (record { sent = sent; told = step.told; first = step.first; second = step.second })

-- 01: "Output after the PDU is unchanged"
unfoldable pub carried_out : Lent → Step → Done
carried_out l step =
    done
    (taken_of (length (sent_then l step)) step)
    (table_then l step)
    (store_then l step)
    (put l.output 0 (sent_then l step))

-- 01: "A refusal gives only its number and changes no lent byte"
unfoldable pub outcome : Lent → Plan → Done
outcome l (Err r) = done (Err r) l.table l.store l.output
outcome l (Ok step) = carried_out l step

-- the message lies in what was given, and has room in the cell
abbrev pub CellFits : Bool → ℕ → Part → ℕ → ℕ → Type 0
CellFits true place m store given = (place * cell_size + m.len ≤ store) × (m.start + m.len ≤ given)
CellFits false place m store given = Unit

-- nothing is sent, or its parts lie where they are said to
unfoldable pub FitOut : List ℕ → List ℕ → List ℕ → Send → Sender → Type 0
FitOut given store table send by = is_nothing send ≡ false → FitSend (slice_of (source_of send) given store table) send by

-- what carrying a step out needs
pub record Ready (l : Lent) (step : Step) : Type 0 where
  pub place : base step.changes.place + record_size ≤ length l.table
  pub peer : step.changes.peer < peers
  pub exit_fits : length l.exit ≤ exit_bound
  pub cell_fits : CellFits step.cell step.changes.place step.message (length l.store) (length l.given)
  pub sends : FitOut l.given l.store l.table step.send step.by
  pub room : output_least ≤ length l.output
