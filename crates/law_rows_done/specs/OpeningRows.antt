-- Document 01, "Events", read column by column: what a request, and a PDU without a live record, does, a list a column.
use Rattle.std.specs.Prelude.{ℕ, ◌+◌, Bool, true, false, List, [], ◌∷◌}
use Rattle.table_record.specs.declared.State.TheVariants.{IResultWait1, IResultWait2, RTidokWait1, RTidokWait2, RInvokeRespWait1, RInvokeRespWait2}
use Rattle.row_events.specs.Events.{same_opening}
use Rattle.row_events.specs.declared.Opening.{Opening}
use Rattle.row_events.specs.declared.Opening.TheVariants.{Requested0, Requested1, Requested2, Malformed, WrongVersion, Unsupported, TooLong, Shown0, Valid1, Valid2, ToVerify1, ToVerify2, UnknownTidve, Restarted1, Restarted2}
use Rattle.row_columns.specs.declared.Next.{Next}
use Rattle.row_columns.specs.declared.Next.TheVariants.{Ends, Goes}
use Rattle.row_columns.specs.declared.Timer.{Timer}
use Rattle.row_columns.specs.declared.Count.{Count}
use Rattle.row_columns.specs.declared.Mark.TheVariants as Mark
use Rattle.row_columns.specs.declared.ExitInfo.TheVariants as ExitInfo
use Rattle.row_columns.specs.declared.Cache.{Cache}
use Rattle.row_columns.specs.declared.Send.{Send}
use Rattle.row_columns.specs.declared.Indication.{Indication}
use Rattle.row_columns.specs.declared.Act.{Act}
use Rattle.law_rows_done.specs.Lists.{listed, no_rid, abort}

-- the state of the record that is opened
abbrev pub next_lines : List (List Opening × Next)
next_lines =
    -- "Request: send Invoke; class 0 ends; else RCR 0, timer R[0], RESULT WAIT", class by class
    (Requested1 ∷ [], Goes IResultWait1) ∷
    (Requested2 ∷ [], Goes IResultWait2) ∷
    -- "Valid Invoke: indicate, AEC 0, timer A, INVOKE RESP WAIT", class by class
    (Valid1 ∷ [], Goes RInvokeRespWait1) ∷
    (Valid2 ∷ [], Goes RInvokeRespWait2) ∷
    -- "Else keep the data, send TIDve, no timer, TIDOK WAIT", class by class
    (ToVerify1 ∷ [], Goes RTidokWait1) ∷
    (ToVerify2 ∷ [], Goes RTidokWait2) ∷
    -- 02, L2: "goes through verification", class by class
    (Restarted1 ∷ [], Goes RTidokWait1) ∷
    (Restarted2 ∷ [], Goes RTidokWait2) ∷
    []

-- the timer that is started, or not
abbrev pub timer_lines : List (List Opening × Timer)
timer_lines =
    -- "else RCR 0, timer R[0]"
    (Requested1 ∷ Requested2 ∷ [], Timer.R) ∷
    -- "Valid Invoke: indicate, AEC 0, timer A"
    (Valid1 ∷ Valid2 ∷ [], Timer.A) ∷
    -- "send TIDve, no timer"; 02, L2: "goes through verification"
    (ToVerify1 ∷ ToVerify2 ∷ Restarted1 ∷ Restarted2 ∷ [], Timer.Stop) ∷
    []

-- what is counted: RCR, or AEC
abbrev pub count_lines : List (List Opening × Count)
count_lines =
    -- "else RCR 0"
    (Requested1 ∷ Requested2 ∷ [], Count.RcrZero) ∷
    -- "Valid Invoke: indicate, AEC 0"
    (Valid1 ∷ Valid2 ∷ [], Count.AecZero) ∷
    []

-- the PDU that is sent
abbrev pub send_lines : List (List Opening × Send)
send_lines =
    -- "Request: send Invoke", of every class
    (Requested0 ∷ Requested1 ∷ Requested2 ∷ [], Send.Invoke no_rid) ∷
    -- "without one, Abort 1 only if type 1, at least three octets and top bit 0"
    (Malformed ∷ [], abort 1) ∷
    -- "version not 0: Abort 6; TTR clear: Abort 4; data over 1,024: Abort 7"
    (WrongVersion ∷ [], abort 6) ∷
    (Unsupported ∷ [], abort 4) ∷
    (TooLong ∷ [], abort 7) ∷
    -- "Else keep the data, send TIDve"; 02, L2: "goes through verification"
    (ToVerify1 ∷ ToVerify2 ∷ Restarted1 ∷ Restarted2 ∷ [], Send.Tidve no_rid) ∷
    -- "Ack with TIDve (top bit 1), no live initiator record: Abort 2"
    (UnknownTidve ∷ [], abort 2) ∷
    []

-- what is indicated
abbrev pub first_lines : List (List Opening × Indication)
first_lines =
    -- "Class 0 [..] is indicated without record or TID test"; "Valid Invoke: indicate", from the datagram
    (Shown0 ∷ Valid1 ∷ Valid2 ∷ [], Indication.Invoke false) ∷
    []

-- what writes the record's cell
abbrev pub cell_lines : List (List Opening × Bool)
cell_lines =
    -- "Only a class 1 or 2 request, a result and an Invoke to be verified write their record's cell"
    (Requested1 ∷ Requested2 ∷ ToVerify1 ∷ ToVerify2 ∷ Restarted1 ∷ Restarted2 ∷ [], true) ∷
    []

-- what becomes of LastTID
abbrev pub last_tid_lines : List (List Opening × Cache)
last_tid_lines =
    -- "A valid TID becomes LastTID. A verified one does so only if none is cached."
    (Valid1 ∷ Valid2 ∷ [], Cache.Set) ∷
    -- 02, L2: "drops the cached TID for that peer"
    (Restarted1 ∷ Restarted2 ∷ [], Cache.Drop) ∷
    []

-- what takes the identity of the first unknown item of the PDU that came
abbrev pub item_lines : List (List Opening × Bool)
item_lines =
    -- 02, L4: "The record keeps that identity from the Invoke that opened it", shown at once or verified first
    (Valid1 ∷ Valid2 ∷ ToVerify1 ∷ ToVerify2 ∷ Restarted1 ∷ Restarted2 ∷ [], true) ∷
    []

-- 02, L11: what the record that is opened has sent, n the length of the request's data
abbrev pub cost_lines : (n : ℕ) → List (List Opening × ℕ)
cost_lines n =
    -- "Request: send Invoke", of class 1 and 2: four octets and its data
    (Requested1 ∷ Requested2 ∷ [], 4 + n) ∷
    []

-- what document 01 says that it does; what no list names opens no record ("class 0 ends", "without record", "ignored"), and no opening has an answer's exit information or a second indication
unfoldable pub document_opening_act : Opening → Act
document_opening_act opening = record {
  next = listed same_opening next_lines opening Ends;
  timer = listed same_opening timer_lines opening Timer.Runs;
  count = listed same_opening count_lines opening Count.Same;
  mark = Mark.Same;
  exit = ExitInfo.Same;
  send = listed same_opening send_lines opening Send.Nothing;
  first = listed same_opening first_lines opening Indication.Nothing;
  second = Indication.Nothing;
  cell = listed same_opening cell_lines opening false;
  cache = listed same_opening last_tid_lines opening Cache.Same;
  item = listed same_opening item_lines opening false;
}
