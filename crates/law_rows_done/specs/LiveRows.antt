-- Document 01, "Events", its bullets read column by column: what each row of a live record does, a list a column. Rows stand in document 01's order.
use Rattle.std.specs.Prelude.{ℕ, ◌+◌, Bool, true, false, List, [], ◌∷◌}
use Rattle.base_lists.specs.Seq.{pick}
use Rattle.table_record.specs.declared.State.TheVariants.{IResultRespWait, IWaitTimeout, RInvokeRespWait1, RInvokeRespWait2, RResultWait, RResultRespWait, RWaitTimeout}
use Rattle.row_events.specs.Events.{same_row_is}
use Rattle.row_events.specs.declared.Row.{Row}
use Rattle.row_events.specs.declared.Row.TheVariants.{PeerAborts, Malformed, UserAborts, PeerAbortsUnseen, MalformedUnseen, TidokSent, Confirmed, HeldOn, Resent, GivenUp, ResultUnsupported, ResultConfirms, ResultTaken, ResultAnswered, ResultAcked, UserAwaited, UserSilent, ResultSeenAgain, TimeoutEnds, Verified1, Verified2, TidveRepeated, InvokeAnswered, InvokeAcked, UserWorks, HoldOnSent, ResultSent, HoldOnRepeated, ResultResent, InvokeSeenAgain, TidokSeenAgain, TidokWaitEnds, HeldOnWaitEnds, ResultWaitEnds}
use Rattle.row_columns.specs.declared.Next.{Next}
use Rattle.row_columns.specs.declared.Next.TheVariants.{Stays, Ends, Goes}
use Rattle.row_columns.specs.declared.Timer.{Timer}
use Rattle.row_columns.specs.declared.Count.{Count}
use Rattle.row_columns.specs.declared.Mark.{Mark}
use Rattle.row_columns.specs.declared.ExitInfo.{ExitInfo}
use Rattle.row_columns.specs.declared.Cache.{Cache}
use Rattle.row_columns.specs.declared.Send.{Send}
use Rattle.row_columns.specs.declared.Indication.{Indication}
use Rattle.row_columns.specs.declared.Act.{Act}
use Rattle.law_rows_done.specs.Lists.{listed, rid, no_rid, abort}

-- the state that follows, or the end of the record
abbrev pub next_lines : List (List Row × Next)
next_lines =
    -- "received Abort, malformed PDU or user abort frees the record"
    (PeerAborts ∷ PeerAbortsUnseen ∷ Malformed ∷ MalformedUnseen ∷ UserAborts ∷ [], Ends) ∷
    -- "Plain Ack: class 1 confirm, end", and the responder's "Plain Ack: confirm, end"
    (Confirmed ∷ [], Ends) ∷
    -- "Timer: if RCR < RCR_MAX [..]; else indicate abort, end", of either end
    (GivenUp ∷ [], Ends) ∷
    -- "TTR clear, Abort 4, indicate abort, end"
    (ResultUnsupported ∷ [], Ends) ∷
    -- "else confirm unless HoldOn, indicate result, AEC 0, timer A, RESULT RESP WAIT"
    (ResultConfirms ∷ ResultTaken ∷ [], Goes IResultRespWait) ∷
    -- "User answer, or timer without user acknowledgement: Ack, timer W, WAIT TIMEOUT"
    (ResultAnswered ∷ ResultAcked ∷ [], Goes IWaitTimeout) ∷
    -- "else Abort 8, indicate abort, end"
    (UserSilent ∷ [], Ends) ∷
    -- "WAIT TIMEOUT. [..] Timer: end", of either end
    (TimeoutEnds ∷ [], Ends) ∷
    -- "TIDok: as valid", which is "indicate, AEC 0, timer A, INVOKE RESP WAIT", class by class
    (Verified1 ∷ [], Goes RInvokeRespWait1) ∷
    (Verified2 ∷ [], Goes RInvokeRespWait2) ∷
    -- "User answer: class 1 Ack, timer W, WAIT TIMEOUT"; "Timer without user acknowledgement: class 1 the same"
    (InvokeAnswered ∷ InvokeAcked ∷ [], Goes RWaitTimeout) ∷
    -- "class 2 timer A, RESULT WAIT"
    (UserWorks ∷ [], Goes RResultWait) ∷
    -- "class 2 hold-on Ack, stop, RESULT WAIT", and in RESULT WAIT "Timer: hold-on Ack, stop"
    (HoldOnSent ∷ [], Goes RResultWait) ∷
    -- "Either wait, class 2, user result: RCR 0, send Result, timer R[0], RESULT RESP WAIT"
    (ResultSent ∷ [], Goes RResultRespWait) ∷
    -- 02, L6: "At its end TIDOK WAIT ends silently, the held-on wait [..] ends, and the responder's RESULT WAIT [..] ends"
    (TidokWaitEnds ∷ HeldOnWaitEnds ∷ ResultWaitEnds ∷ [], Ends) ∷
    []

-- the timer that is started, or stopped
abbrev pub timer_lines : List (List Row × Timer)
timer_lines =
    -- "RCR + 1, send TIDok, timer R[RCR]"
    (TidokSent ∷ [], Timer.R) ∷
    -- "class 2 first time confirm, stop timer, HoldOn"
    (HeldOn ∷ [], Timer.Stop) ∷
    -- "RCR + 1, resend TIDok if one was sent, else Invoke, timer R[RCR]"
    (Resent ∷ [], Timer.R) ∷
    -- "indicate result, AEC 0, timer A, RESULT RESP WAIT"
    (ResultConfirms ∷ ResultTaken ∷ [], Timer.A) ∷
    -- "User answer, or timer without user acknowledgement: Ack, timer W, WAIT TIMEOUT"
    (ResultAnswered ∷ ResultAcked ∷ [], Timer.W) ∷
    -- "if AEC < AEC_MAX, AEC + 1, timer A"
    (UserAwaited ∷ [], Timer.A) ∷
    -- "TIDok: as valid", which is "indicate, AEC 0, timer A"
    (Verified1 ∷ Verified2 ∷ [], Timer.A) ∷
    -- "User answer: class 1 Ack, timer W"; "Timer without user acknowledgement: class 1 the same"
    (InvokeAnswered ∷ InvokeAcked ∷ [], Timer.W) ∷
    -- "class 2 timer A, RESULT WAIT"
    (UserWorks ∷ [], Timer.A) ∷
    -- "hold-on Ack, stop"
    (HoldOnSent ∷ [], Timer.Stop) ∷
    -- "RCR 0, send Result, timer R[0]"
    (ResultSent ∷ [], Timer.R) ∷
    -- "RCR + 1, resend, timer R[RCR]"
    (ResultResent ∷ [], Timer.R) ∷
    []

-- what is counted: RCR, or AEC
abbrev pub count_lines : List (List Row × Count)
count_lines =
    -- "RCR + 1, send TIDok"
    (TidokSent ∷ [], Count.RcrUp) ∷
    -- "RCR + 1, resend TIDok if one was sent, else Invoke"
    (Resent ∷ [], Count.RcrUp) ∷
    -- "indicate result, AEC 0"
    (ResultConfirms ∷ ResultTaken ∷ [], Count.AecZero) ∷
    -- "if AEC < AEC_MAX, AEC + 1"
    (UserAwaited ∷ [], Count.AecUp) ∷
    -- "TIDok: as valid", which is "indicate, AEC 0"
    (Verified1 ∷ Verified2 ∷ [], Count.AecZero) ∷
    -- "user result: RCR 0"
    (ResultSent ∷ [], Count.RcrZero) ∷
    -- "RCR + 1, resend"
    (ResultResent ∷ [], Count.RcrUp) ∷
    []

-- what is kept in mind for later rows
abbrev pub mark_lines : List (List Row × Mark)
mark_lines =
    -- "resend TIDok if one was sent": "send TIDok"
    (TidokSent ∷ [], Mark.TidokSent) ∷
    -- "first time confirm, stop timer, HoldOn"
    (HeldOn ∷ [], Mark.HoldOn) ∷
    -- "hold-on again if sent": "hold-on Ack"
    (HoldOnSent ∷ [], Mark.HoldOnSent) ∷
    []

-- the exit information that the record keeps: that of the user's answer, or none where the timer takes its place ("empty means none")
abbrev pub exit_lines : List (List Row × ExitInfo)
exit_lines =
    -- "User answer, or timer without user acknowledgement: Ack"
    (ResultAnswered ∷ [], ExitInfo.Given) ∷
    (ResultAcked ∷ [], ExitInfo.Empty) ∷
    -- "User answer: class 1 Ack"; "Timer without user acknowledgement: class 1 the same"
    (InvokeAnswered ∷ [], ExitInfo.Given) ∷
    (InvokeAcked ∷ [], ExitInfo.Empty) ∷
    []

-- the PDU that is sent; `tidok` says whether a TIDok was sent before, `octet` is the one that the user gives with its abort
abbrev pub send_lines : (tidok : Bool) (octet : ℕ) → List (List Row × Send)
send_lines tidok octet =
    -- "Malformed with a live record: Abort 1 and the abort row"
    (Malformed ∷ MalformedUnseen ∷ [], abort 1) ∷
    -- "A user abort sends Abort type user with the given octet"; "0 provider, 1 user"
    (UserAborts ∷ [], Send.Abort 1 octet) ∷
    -- "send TIDok"; "a TIDok after the first is a repeat"
    (TidokSent ∷ [], Send.Tidok (pick tidok rid no_rid)) ∷
    -- "resend TIDok if one was sent, else Invoke"
    (Resent ∷ [], pick tidok (Send.Tidok rid) (Send.Invoke rid)) ∷
    -- "TTR clear, Abort 4"
    (ResultUnsupported ∷ [], abort 4) ∷
    -- "User answer, or timer without user acknowledgement: Ack"
    (ResultAnswered ∷ ResultAcked ∷ [], Send.LastAck no_rid) ∷
    -- "else Abort 8"
    (UserSilent ∷ [], abort 8) ∷
    -- "Result with RID: Ack again"
    (ResultSeenAgain ∷ [], Send.LastAck rid) ∷
    -- "Invoke with RID: TIDve again"
    (TidveRepeated ∷ [], Send.Tidve rid) ∷
    -- "User answer: class 1 Ack"; "Timer without user acknowledgement: class 1 the same"
    (InvokeAnswered ∷ InvokeAcked ∷ [], Send.LastAck no_rid) ∷
    -- "hold-on Ack"
    (HoldOnSent ∷ [], Send.HoldOn no_rid) ∷
    -- "user result: RCR 0, send Result"
    (ResultSent ∷ [], Send.Result no_rid) ∷
    -- "Invoke with RID: hold-on again if sent"
    (HoldOnRepeated ∷ [], Send.HoldOn rid) ∷
    -- "RCR + 1, resend"
    (ResultResent ∷ [], Send.Result rid) ∷
    -- "Invoke with RID: Ack again", and 002, 9.6, where document 01 is silent: "RcvAck | TIDok, RID=1 | Send Ack PDU"
    (InvokeSeenAgain ∷ TidokSeenAgain ∷ [], Send.LastAck rid) ∷
    -- 02, L6: "the responder's RESULT WAIT sends Abort 8"
    (ResultWaitEnds ∷ [], abort 8) ∷
    []

-- what is indicated, or indicated first; `kind` and `reason` are those of a received Abort
abbrev pub first_lines : (kind reason : ℕ) → List (List Row × Indication)
first_lines kind reason =
    -- "The others indicate TR-Abort, save in TIDOK WAIT": a received Abort shows "type and reason: those received"
    (PeerAborts ∷ [], Indication.Abort kind reason) ∷
    -- "else provider with the reason sent"; "Malformed with a live record: Abort 1"
    (Malformed ∷ [], Indication.Abort 0 1) ∷
    -- "Plain Ack: class 1 confirm", the responder's "Plain Ack: confirm", and "class 2 first time confirm"
    (Confirmed ∷ HeldOn ∷ [], Indication.Confirm true) ∷
    -- "else indicate abort, end": "provider with the reason sent, or 8 if none is sent"
    (GivenUp ∷ [], Indication.Abort 0 8) ∷
    -- "TTR clear, Abort 4, indicate abort"
    (ResultUnsupported ∷ [], Indication.Abort 0 4) ∷
    -- "confirm unless HoldOn": no Ack brings its data
    (ResultConfirms ∷ [], Indication.Confirm false) ∷
    -- "indicate result"
    (ResultTaken ∷ [], Indication.Result) ∷
    -- "else Abort 8, indicate abort"
    (UserSilent ∷ [], Indication.Abort 0 8) ∷
    -- "TIDok: as valid", which is "indicate"; "the store serves an Invoke shown after verification"
    (Verified1 ∷ Verified2 ∷ [], Indication.Invoke true) ∷
    -- 02, L6: "the held-on wait indicates an abort", "the responder's RESULT WAIT [..] indicates an abort"
    (HeldOnWaitEnds ∷ ResultWaitEnds ∷ [], Indication.Abort 0 8) ∷
    []

-- what is indicated second
abbrev pub second_lines : List (List Row × Indication)
second_lines =
    -- "confirm unless HoldOn, indicate result"
    (ResultConfirms ∷ [], Indication.Result) ∷
    []

-- what writes the record's cell
abbrev pub cell_lines : List (List Row × Bool)
cell_lines =
    -- "Only a class 1 or 2 request, a result and an Invoke to be verified write their record's cell"
    (ResultSent ∷ [], true) ∷
    []

-- what becomes of LastTID
abbrev pub last_tid_lines : List (List Row × Cache)
last_tid_lines =
    -- "A valid TID becomes LastTID. A verified one does so only if none is cached."
    (Verified1 ∷ Verified2 ∷ [], Cache.SetIfNone) ∷
    []

-- what takes the identity of the first unknown item of the PDU that came
abbrev pub item_lines : List (List Row × Bool)
item_lines =
    -- 02, L4: "The record keeps that identity from [..] the Result it took"
    (ResultConfirms ∷ ResultTaken ∷ [], true) ∷
    []

-- 02, L11: what a row adds to "the bytes it sent before its result", n the length of the request's data; "the Abort PDU aside", and the Acks come after the result
abbrev pub cost_lines : (tidok : Bool) (n : ℕ) → List (List Row × ℕ)
cost_lines tidok n =
    -- "send TIDok": three octets
    (TidokSent ∷ [], 3) ∷
    -- "resend TIDok if one was sent, else Invoke": the Invoke four octets and its data
    (Resent ∷ [], pick tidok 3 (4 + n)) ∷
    []

-- what document 01 says that a row does. What no list names stays: "A repeat sets RID and alters nothing else", "ignored", and 9 changes nothing
unfoldable pub document_act : Row → (tidok : Bool) (kind reason : ℕ) → Act
document_act row tidok kind reason = record {
  next = listed same_row_is next_lines row Stays;
  timer = listed same_row_is timer_lines row Timer.Runs;
  count = listed same_row_is count_lines row Count.Same;
  mark = listed same_row_is mark_lines row Mark.Same;
  exit = listed same_row_is exit_lines row ExitInfo.Same;
  send = listed same_row_is (send_lines tidok reason) row Send.Nothing;
  first = listed same_row_is (first_lines kind reason) row Indication.Nothing;
  second = listed same_row_is second_lines row Indication.Nothing;
  cell = listed same_row_is cell_lines row false;
  cache = listed same_row_is last_tid_lines row Cache.Same;
  item = listed same_row_is item_lines row false;
}
