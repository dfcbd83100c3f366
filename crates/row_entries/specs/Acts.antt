-- What each row does (01, "Events"), in document 01's order.
use Rattle.std.specs.Prelude.{ℕ, Bool, true, false}
use Rattle.table_record.specs.declared.State.TheVariants.{IResultWait1, IResultWait2, IWaitTimeout, RTidokWait1, RTidokWait2, RInvokeRespWait1, RInvokeRespWait2, RResultWait, RResultRespWait, RWaitTimeout}
use Rattle.row_events.specs.declared.Row.{Row}
use Rattle.row_events.specs.declared.Row.TheVariants.{Ignored, NotAllowed, PeerAborts, Malformed, UserAborts, PeerAbortsUnseen, MalformedUnseen, TidokSent, Confirmed, HeldOn, Resent, GivenUp, ResultUnsupported, ResultConfirms, ResultTaken, ResultAnswered, ResultAcked, UserAwaited, UserSilent, ResultSeenAgain, TimeoutEnds, Verified1, Verified2, TidveRepeated, InvokeAnswered, InvokeAcked, UserWorks, HoldOnSent, ResultSent, HoldOnRepeated, ResultResent, InvokeSeenAgain, TidokSeenAgain, TidokWaitEnds, HeldOnWaitEnds, ResultWaitEnds}
use Rattle.row_events.specs.declared.Opening.{Opening}
use Rattle.row_events.specs.declared.Opening.TheVariants as Opening
use Rattle.row_columns.specs.declared.Next.TheVariants.{Stays, Goes}
use Rattle.row_columns.specs.declared.Count.TheVariants as Count
use Rattle.row_columns.specs.declared.Mark.TheVariants as Mark
use Rattle.row_columns.specs.declared.ExitInfo.TheVariants as ExitInfo
use Rattle.row_columns.specs.declared.Cache.TheVariants as Cache
use Rattle.row_columns.specs.declared.Send.{Send}
use Rattle.row_columns.specs.declared.Send.TheVariants as Send
use Rattle.row_columns.specs.declared.Indication.TheVariants as Indication
use Rattle.row_columns.specs.declared.Act.{Act}
use Rattle.row_columns.specs.Columns.{provider, user, protoerr, invalidtid, notimplementedsar, wtpversionone, captempexceeded, noresponse, ended, aborted, aborted_unseen, kept, resent, held_on, holding_on, waiting, taken, acked, sent, verifying, shown}

-- 01: "resend TIDok if one was sent, else Invoke"; "A repeat sets RID"
abbrev pub resent_of : Bool → Send
resent_of true = Send.Tidok true
resent_of false = Send.Invoke true

-- 01, "Events", the abort row and each state's: `tidok` says whether a TIDok was sent; `kind` and `reason` are the received abort's, or `reason` the user's
unfoldable pub act_of : Row → Bool → ℕ → ℕ → Act
-- "ignored, as is a PDU or firing without a row"
act_of Ignored tidok kind reason = kept Send.Nothing
-- "a primitive without one gets 9"
act_of NotAllowed tidok kind reason = kept Send.Nothing
-- "received Abort": "indicate TR-Abort" with the type and reason received
act_of PeerAborts tidok kind reason = ended Send.Nothing (Indication.Abort kind reason)
-- "Malformed with a live record: Abort 1 and the abort row"
act_of Malformed tidok kind reason = aborted protoerr
-- "A user abort sends Abort type user with the given octet"
act_of UserAborts tidok kind reason = ended (Send.Abort user reason) Indication.Nothing
-- the abort row "in TIDOK WAIT, where the user knows nothing"
act_of PeerAbortsUnseen tidok kind reason = ended Send.Nothing Indication.Nothing
act_of MalformedUnseen tidok kind reason = aborted_unseen protoerr
-- "Ack TIDve: [..] RCR + 1, send TIDok, timer R[RCR]"; "a TIDok after the first is a repeat"
act_of TidokSent tidok kind reason = resent Mark.TidokSent (Send.Tidok tidok)
-- "Plain Ack: [class 1] confirm, end"; the responder's "Plain Ack: confirm, end"
act_of Confirmed tidok kind reason = ended Send.Nothing (Indication.Confirm true)
-- "class 2 first time confirm, stop timer, HoldOn"
act_of HeldOn tidok kind reason = held_on
-- "Timer: [..] RCR + 1, resend TIDok if one was sent, else Invoke, timer R[RCR]"
act_of Resent tidok kind reason = resent Mark.Same (resent_of tidok)
-- "else indicate abort, end", of either role: "provider with [..] 8 if none is sent"
act_of GivenUp tidok kind reason = ended Send.Nothing (Indication.Abort provider noresponse)
-- "Result, class 2: TTR clear, Abort 4, indicate abort, end"
act_of ResultUnsupported tidok kind reason = aborted notimplementedsar
-- "else confirm unless HoldOn, indicate result, AEC 0, timer A, RESULT RESP WAIT": without HoldOn
act_of ResultConfirms tidok kind reason = taken (Indication.Confirm false) Indication.Result
-- the same with HoldOn
act_of ResultTaken tidok kind reason = taken Indication.Result Indication.Nothing
-- "User answer [..]: Ack, timer W, WAIT TIMEOUT" of the initiator
act_of ResultAnswered tidok kind reason = acked IWaitTimeout ExitInfo.Given
-- "or timer without user acknowledgement"
act_of ResultAcked tidok kind reason = acked IWaitTimeout ExitInfo.Empty
-- "Timer with it: if AEC < AEC_MAX, AEC + 1, timer A", of either role
act_of UserAwaited tidok kind reason = waiting Stays Count.AecUp
-- "else Abort 8, indicate abort, end"
act_of UserSilent tidok kind reason = aborted noresponse
-- "Result with RID: Ack again"
act_of ResultSeenAgain tidok kind reason = kept (Send.LastAck true)
-- "Timer: end", of either WAIT TIMEOUT
act_of TimeoutEnds tidok kind reason = ended Send.Nothing Indication.Nothing
-- "TIDok: as valid"; "A verified one [becomes LastTID] only if none is cached"
act_of Verified1 tidok kind reason = shown RInvokeRespWait1 true Cache.SetIfNone
act_of Verified2 tidok kind reason = shown RInvokeRespWait2 true Cache.SetIfNone
-- "Invoke with RID: TIDve again"
act_of TidveRepeated tidok kind reason = kept (Send.Tidve true)
-- "User answer: class 1 Ack, timer W, WAIT TIMEOUT"
act_of InvokeAnswered tidok kind reason = acked RWaitTimeout ExitInfo.Given
-- "Timer without user acknowledgement: class 1 the same"
act_of InvokeAcked tidok kind reason = acked RWaitTimeout ExitInfo.Empty
-- "User answer: [..] class 2 timer A, RESULT WAIT"
act_of UserWorks tidok kind reason = waiting (Goes RResultWait) Count.Same
-- "Timer [..]: class 2 hold-on Ack, stop, RESULT WAIT"; RESULT WAIT's "Timer: hold-on Ack, stop"
act_of HoldOnSent tidok kind reason = holding_on
-- "Either wait, class 2, user result: RCR 0, send Result, timer R[0], RESULT RESP WAIT"
act_of ResultSent tidok kind reason = sent RResultRespWait (Send.Result false)
-- "Invoke with RID: hold-on again if sent"
act_of HoldOnRepeated tidok kind reason = kept (Send.HoldOn true)
-- "Timer: if RCR < RCR_MAX, RCR + 1, resend, timer R[RCR]"
act_of ResultResent tidok kind reason = resent Mark.Same (Send.Result true)
-- "Invoke with RID: Ack again"
act_of InvokeSeenAgain tidok kind reason = kept (Send.LastAck true)
-- 002, 9.6, WAIT TIMEOUT, "TIDok, RID=1: Send Ack PDU", where 01 is silent: a verified transaction whose one Ack was lost is so acknowledged
act_of TidokSeenAgain tidok kind reason = kept (Send.LastAck true)
-- 02, L6: "At its end TIDOK WAIT ends silently"
act_of TidokWaitEnds tidok kind reason = ended Send.Nothing Indication.Nothing
-- "the held-on wait indicates an abort and ends": "provider with [..] 8 if none is sent"
act_of HeldOnWaitEnds tidok kind reason = ended Send.Nothing (Indication.Abort provider noresponse)
-- "and the responder's RESULT WAIT sends Abort 8, indicates an abort and ends"
act_of ResultWaitEnds tidok kind reason = aborted noresponse

-- 01, "Events", the requests, and what comes without a live record
unfoldable pub opening_act : Opening → Act
-- "All else without a record is ignored"
opening_act Opening.Ignored = ended Send.Nothing Indication.Nothing
-- "Request: send Invoke; class 0 ends; else RCR 0, timer R[0], RESULT WAIT"
opening_act Opening.Requested0 = ended (Send.Invoke false) Indication.Nothing
opening_act Opening.Requested1 = sent IResultWait1 (Send.Invoke false)
opening_act Opening.Requested2 = sent IResultWait2 (Send.Invoke false)
-- "without one, Abort 1 only if type 1, at least three octets and top bit 0"
opening_act Opening.Malformed = aborted_unseen protoerr
-- "version not 0: Abort 6; TTR clear: Abort 4; data over 1,024: Abort 7"
opening_act Opening.WrongVersion = aborted_unseen wtpversionone
opening_act Opening.Unsupported = aborted_unseen notimplementedsar
opening_act Opening.TooLong = aborted_unseen captempexceeded
-- "Class 0 [..] is indicated without record"
opening_act Opening.Shown0 = ended Send.Nothing (Indication.Invoke false)
-- "Valid Invoke: indicate, AEC 0, timer A, INVOKE RESP WAIT"; "A valid TID becomes LastTID"
opening_act Opening.Valid1 = shown RInvokeRespWait1 false Cache.Set
opening_act Opening.Valid2 = shown RInvokeRespWait2 false Cache.Set
-- "Else keep the data, send TIDve, no timer, TIDOK WAIT"
opening_act Opening.ToVerify1 = verifying RTidokWait1 Cache.Same
opening_act Opening.ToVerify2 = verifying RTidokWait2 Cache.Same
-- "Ack with TIDve (top bit 1), no live initiator record: Abort 2"
opening_act Opening.UnknownTidve = aborted_unseen invalidtid
-- 02, L2: "drops the cached TID for that peer and goes through verification"
opening_act Opening.Restarted1 = verifying RTidokWait1 Cache.Drop
opening_act Opening.Restarted2 = verifying RTidokWait2 Cache.Drop
