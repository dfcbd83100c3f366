-- The message of a record in TIDOK WAIT (01, "Responder": "Else keep the data, send TIDve, no timer, TIDOK WAIT").
use Rattle.std.specs.Prelude.{ℕ, ◌*◌, ◌<◌, ◌≡◌, true, List}
use Rattle.base_layout.specs.Layout.{cell_size}
use Rattle.base_lists.specs.Seq.{part}
use Rattle.table_record.specs.Record.{class_of}
use Rattle.table_layout.specs.Table.{count, record_at}
use Rattle.law_history.specs.Trace.{Entry}
use Rattle.law_history.specs.Start.{Start, in_tidok_wait}
use Rattle.law_history.specs.Demand.{InvokeFrom}

-- the record at a place, if it is in TIDOK WAIT, is that of an Invoke whose data its cell holds
abbrev pub CellHolds : Start → List ℕ → List ℕ → List Entry → ℕ → Type 0
CellHolds start t s h i = in_tidok_wait (record_at t i).state ≡ true
    → InvokeFrom start h (record_at t i).peer (record_at t i).tid (class_of (record_at t i).state) (record_at t i).user_ack (part s (i * cell_size) (record_at t i).len)

-- and so it is with each record
abbrev pub CellsHold : Start → List ℕ → List ℕ → List Entry → Type 0
CellsHold start t s h = (i : ℕ) → i < count t → CellHolds start t s h i
