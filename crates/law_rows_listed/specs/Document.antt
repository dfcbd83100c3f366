-- Document 01, "Events", read line by line: a list for each state that names only what the document names.
use Rattle.std.specs.Prelude.{Bool, true, false, not, ◌&&◌, ◌||◌, List, [], ◌∷◌, ◌++◌, eqb}
use Rattle.base_lists.specs.Seq.{pick}
use Rattle.table_record.specs.declared.State.{State}
use Rattle.table_record.specs.declared.State.TheVariants.{Free, IResultWait1, IResultWait2, IResultRespWait, IWaitTimeout, RTidokWait1, RTidokWait2, RInvokeRespWait1, RInvokeRespWait2, RResultWait, RResultRespWait, RWaitTimeout}
use Rattle.row_events.specs.Events.{event_number}
use Rattle.row_events.specs.declared.Event.{Event}
use Rattle.row_events.specs.declared.Event.TheVariants.{InvokeRid, ResultCut, ResultCutRid, Result, ResultRid, PlainAck, TidAck, TidAckRid, ReceivedAbort, MalformedPdu, UserAnswer, UserResult, UserAbort, Timer}
use Rattle.row_events.specs.declared.Conditions.{Conditions}
use Rattle.row_events.specs.declared.Row.{Row}
use Rattle.row_events.specs.declared.Row.TheVariants.{Ignored, NotAllowed, PeerAborts, Malformed, UserAborts, PeerAbortsUnseen, MalformedUnseen, TidokSent, Confirmed, HeldOn, Resent, GivenUp, ResultUnsupported, ResultConfirms, ResultTaken, ResultAnswered, ResultAcked, UserAwaited, UserSilent, ResultSeenAgain, TimeoutEnds, Verified1, Verified2, TidveRepeated, InvokeAnswered, InvokeAcked, UserWorks, HoldOnSent, ResultSent, HoldOnRepeated, ResultResent, InvokeSeenAgain, TidokSeenAgain, TidokWaitEnds, HeldOnWaitEnds, ResultWaitEnds}

-- a line of the document: what comes, under which condition, which row
pub record Line : Type 0 where
  pub events : List Event
  pub when : Bool
  pub row : Row

abbrev pub line : List Event → Bool → Row → Line
line events when row = record { events = events; when = when; row = row }

-- RID and TTR matter only where the document says so
abbrev pub tid_ack : List Event
tid_ack = TidAck ∷ TidAckRid ∷ []

abbrev pub ttr_clear : List Event
ttr_clear = ResultCut ∷ ResultCutRid ∷ []

abbrev pub ttr_set : List Event
ttr_set = Result ∷ ResultRid ∷ []

abbrev pub result_with_rid : List Event
result_with_rid = ResultCutRid ∷ ResultRid ∷ []

abbrev pub only : Event → List Event
only e = e ∷ []

-- "Abort row, every live state: received Abort, malformed PDU or user abort frees the record. [..] save in TIDOK WAIT, where the user knows nothing and may not abort (9)."
abbrev pub abort_row : Bool → List Line
abort_row knows =
    line (only ReceivedAbort) knows PeerAborts ∷
    line (only ReceivedAbort) (not knows) PeerAbortsUnseen ∷
    line (only MalformedPdu) knows Malformed ∷
    line (only MalformedPdu) (not knows) MalformedUnseen ∷
    line (only UserAbort) knows UserAborts ∷
    []

-- Initiator, "RESULT WAIT." of class 1 or `two`; the mark is HoldOn
abbrev pub i_result_wait : Bool → Conditions → List Line
i_result_wait two c =
    -- "Ack TIDve: if RCR < RCR_MAX, RCR + 1, send TIDok, timer R[RCR]; else nothing."
    line tid_ack c.more TidokSent ∷
    -- "Plain Ack: class 1 confirm, end; class 2 first time confirm, stop timer, HoldOn, later nothing."
    line (only PlainAck) (not two) Confirmed ∷
    line (only PlainAck) (two && not c.mark) HeldOn ∷
    -- "Timer: if RCR < RCR_MAX, RCR + 1, resend TIDok if one was sent, else Invoke, timer R[RCR]; else indicate abort, end."
    line (only Timer) c.more Resent ∷
    line (only Timer) (not c.more) GivenUp ∷
    -- "Result, class 2: TTR clear, Abort 4, indicate abort, end;"
    line ttr_clear two ResultUnsupported ∷
    -- "else confirm unless HoldOn, indicate result, AEC 0, timer A, RESULT RESP WAIT."
    line ttr_set (two && not c.mark) ResultConfirms ∷
    line ttr_set (two && c.mark) ResultTaken ∷
    []

-- Initiator, "RESULT RESP WAIT."; the mark is user acknowledgement
abbrev pub i_result_resp_wait : Conditions → List Line
i_result_resp_wait c =
    -- "User answer, or timer without user acknowledgement: Ack, timer W, WAIT TIMEOUT."
    line (only UserAnswer) true ResultAnswered ∷
    line (only Timer) (not c.mark) ResultAcked ∷
    -- "Timer with it: if AEC < AEC_MAX, AEC + 1, timer A; else Abort 8, indicate abort, end."
    line (only Timer) (c.mark && c.more) UserAwaited ∷
    line (only Timer) (c.mark && not c.more) UserSilent ∷
    []

-- Initiator, "WAIT TIMEOUT."
abbrev pub i_wait_timeout : List Line
i_wait_timeout =
    -- "Result with RID: Ack again."
    line result_with_rid true ResultSeenAgain ∷
    -- "Timer: end."
    line (only Timer) true TimeoutEnds ∷
    []

-- Responder, "TIDOK WAIT." of class 1 or `two`
abbrev pub r_tidok_wait : Bool → List Line
r_tidok_wait two =
    -- "TIDok: as valid."
    line tid_ack (not two) Verified1 ∷
    line tid_ack two Verified2 ∷
    -- "Invoke with RID: TIDve again."
    line (only InvokeRid) true TidveRepeated ∷
    []

-- Responder, "INVOKE RESP WAIT." of class 1 or `two`; the mark is user acknowledgement
abbrev pub r_invoke_resp_wait : Bool → Conditions → List Line
r_invoke_resp_wait two c =
    -- "User answer: class 1 Ack, timer W, WAIT TIMEOUT; class 2 timer A, RESULT WAIT."
    line (only UserAnswer) (not two) InvokeAnswered ∷
    line (only UserAnswer) two UserWorks ∷
    -- "Timer without user acknowledgement: class 1 the same; class 2 hold-on Ack, stop, RESULT WAIT."
    line (only Timer) (not c.mark && not two) InvokeAcked ∷
    line (only Timer) (not c.mark && two) HoldOnSent ∷
    -- "Timer with it: as the initiator's AEC rule."
    line (only Timer) (c.mark && c.more) UserAwaited ∷
    line (only Timer) (c.mark && not c.more) UserSilent ∷
    -- "Either wait, class 2, user result: RCR 0, send Result, timer R[0], RESULT RESP WAIT."
    line (only UserResult) two ResultSent ∷
    []

-- Responder, "RESULT WAIT."; the mark is hold-on sent
abbrev pub r_result_wait : Conditions → List Line
r_result_wait c =
    -- "Either wait, class 2, user result: RCR 0, send Result, timer R[0], RESULT RESP WAIT."
    line (only UserResult) true ResultSent ∷
    -- "Timer: hold-on Ack, stop."
    line (only Timer) true HoldOnSent ∷
    -- "Invoke with RID: hold-on again if sent."
    line (only InvokeRid) c.mark HoldOnRepeated ∷
    []

-- Responder, "RESULT RESP WAIT."
abbrev pub r_result_resp_wait : Conditions → List Line
r_result_resp_wait c =
    -- "Plain Ack: confirm, end."
    line (only PlainAck) true Confirmed ∷
    -- "Timer: if RCR < RCR_MAX, RCR + 1, resend, timer R[RCR]; else indicate abort, end."
    line (only Timer) c.more ResultResent ∷
    line (only Timer) (not c.more) GivenUp ∷
    []

-- Responder, "WAIT TIMEOUT (class 1)."
abbrev pub r_wait_timeout : List Line
r_wait_timeout =
    -- "Invoke with RID: Ack again."
    line (only InvokeRid) true InvokeSeenAgain ∷
    -- 002, 9.6, where document 01 is silent: "RcvAck | TIDok, RID=1 | Send Ack PDU"
    line (only TidAckRid) true TidokSeenAgain ∷
    -- "Timer: end."
    line (only Timer) true TimeoutEnds ∷
    []

-- 01's lines for each state; a free record has none
abbrev pub lines : State → Conditions → List Line
lines Free c = []
lines IResultWait1 c = abort_row true ++ i_result_wait false c
lines IResultWait2 c = abort_row true ++ i_result_wait true c
lines IResultRespWait c = abort_row true ++ i_result_resp_wait c
lines IWaitTimeout c = abort_row true ++ i_wait_timeout
lines RTidokWait1 c = abort_row false ++ r_tidok_wait false
lines RTidokWait2 c = abort_row false ++ r_tidok_wait true
lines RInvokeRespWait1 c = abort_row true ++ r_invoke_resp_wait false c
lines RInvokeRespWait2 c = abort_row true ++ r_invoke_resp_wait true c
lines RResultWait c = abort_row true ++ r_result_wait c
lines RResultRespWait c = abort_row true ++ r_result_resp_wait c
lines RWaitTimeout c = abort_row true ++ r_wait_timeout

abbrev pub among : Event → List Event → Bool
among e [] = false
among e (x ∷ l) = eqb (event_number e) (event_number x) || among e l

-- "ignored, as is a PDU or firing without a row; a primitive without one gets 9"
abbrev pub unlisted : Event → Row
unlisted e = pick (among e (UserAnswer ∷ UserResult ∷ UserAbort ∷ [])) NotAllowed Ignored

-- the row of the line that holds
abbrev pub found : List Line → Event → Row
found [] e = unlisted e
found (x ∷ l) e = pick (x.when && among e x.events) x.row (found l e)

-- the row that document 01 gives
unfoldable pub base_row : State → Event → Conditions → Row
base_row s e c = found (lines s c) e

-- 02, L6: "At its end TIDOK WAIT ends silently, the held-on wait indicates an abort and ends, and the responder's RESULT WAIT sends Abort 8, indicates an abort and ends."
abbrev pub limit_lines : State → List Line
limit_lines Free = []
limit_lines IResultWait1 = []
limit_lines IResultWait2 = line (only Timer) true HeldOnWaitEnds ∷ []
limit_lines IResultRespWait = []
limit_lines IWaitTimeout = []
limit_lines RTidokWait1 = line (only Timer) true TidokWaitEnds ∷ []
limit_lines RTidokWait2 = line (only Timer) true TidokWaitEnds ∷ []
limit_lines RInvokeRespWait1 = []
limit_lines RInvokeRespWait2 = []
limit_lines RResultWait = line (only Timer) true ResultWaitEnds ∷ []
limit_lines RResultRespWait = []
limit_lines RWaitTimeout = []

-- the row that the documents give: document 01's, unless the deadline is a waiting limit
unfoldable pub document_row : State → Event → Conditions → Row
document_row s e c = found (pick c.limited (limit_lines s ++ lines s c) (lines s c)) e
