-- The rows of the initiator's states (01, "Events"; 002, 9.5), complete, in document 01's order.
use Rattle.base_lists.specs.Seq.{pick}
use Rattle.row_events.specs.declared.Event.{Event}
use Rattle.row_events.specs.declared.Event.TheVariants.{Invoke, InvokeRid, ResultCut, ResultCutRid, Result, ResultRid, PlainAck, TidAck, TidAckRid, ReceivedAbort, Segmented, MalformedPdu, UserAnswer, UserResult, UserAbort, Timer}
use Rattle.row_events.specs.declared.Conditions.{Conditions}
use Rattle.row_events.specs.declared.Row.{Row}
use Rattle.row_events.specs.declared.Row.TheVariants.{Ignored, NotAllowed, PeerAborts, Malformed, UserAborts, TidokSent, Confirmed, HeldOn, Resent, GivenUp, ResultUnsupported, ResultConfirms, ResultTaken, ResultAnswered, ResultAcked, UserAwaited, UserSilent, ResultSeenAgain, TimeoutEnds, HeldOnWaitEnds}

-- 01, "RESULT WAIT" of the initiator, class 1; 002, 9.5, "WTP Initiator RESULT WAIT": a class 1 transaction has no Result
abbrev pub result_wait1 : Event → Conditions → Row
result_wait1 Invoke c = Ignored
result_wait1 InvokeRid c = Ignored
result_wait1 ResultCut c = Ignored
result_wait1 ResultCutRid c = Ignored
result_wait1 Result c = Ignored
result_wait1 ResultRid c = Ignored
result_wait1 PlainAck c = Confirmed
result_wait1 TidAck c = pick c.more TidokSent Ignored
result_wait1 TidAckRid c = pick c.more TidokSent Ignored
result_wait1 ReceivedAbort c = PeerAborts
result_wait1 Segmented c = Ignored
result_wait1 MalformedPdu c = Malformed
result_wait1 UserAnswer c = NotAllowed
result_wait1 UserResult c = NotAllowed
result_wait1 UserAbort c = UserAborts
result_wait1 Timer c = pick c.more Resent GivenUp

-- 01, "RESULT WAIT" of the initiator, class 2; 002, 9.5, "WTP Initiator RESULT WAIT"; the mark is HoldOn
abbrev pub result_wait2 : Event → Conditions → Row
result_wait2 Invoke c = Ignored
result_wait2 InvokeRid c = Ignored
result_wait2 ResultCut c = ResultUnsupported
result_wait2 ResultCutRid c = ResultUnsupported
result_wait2 Result c = pick c.mark ResultTaken ResultConfirms
result_wait2 ResultRid c = pick c.mark ResultTaken ResultConfirms
result_wait2 PlainAck c = pick c.mark Ignored HeldOn
result_wait2 TidAck c = pick c.more TidokSent Ignored
result_wait2 TidAckRid c = pick c.more TidokSent Ignored
result_wait2 ReceivedAbort c = PeerAborts
result_wait2 Segmented c = Ignored
result_wait2 MalformedPdu c = Malformed
result_wait2 UserAnswer c = NotAllowed
result_wait2 UserResult c = NotAllowed
result_wait2 UserAbort c = UserAborts
-- 02, L6: "At its end [..] the held-on wait indicates an abort and ends"
result_wait2 Timer c = pick c.limited HeldOnWaitEnds (pick c.more Resent GivenUp)

-- 01, "RESULT RESP WAIT" of the initiator; 002, 9.5, "WTP Initiator RESULT RESP WAIT (class 2 only)"; the mark is user acknowledgement
abbrev pub result_resp_wait : Event → Conditions → Row
result_resp_wait Invoke c = Ignored
result_resp_wait InvokeRid c = Ignored
result_resp_wait ResultCut c = Ignored
result_resp_wait ResultCutRid c = Ignored
result_resp_wait Result c = Ignored
result_resp_wait ResultRid c = Ignored
result_resp_wait PlainAck c = Ignored
result_resp_wait TidAck c = Ignored
result_resp_wait TidAckRid c = Ignored
result_resp_wait ReceivedAbort c = PeerAborts
result_resp_wait Segmented c = Ignored
result_resp_wait MalformedPdu c = Malformed
result_resp_wait UserAnswer c = ResultAnswered
result_resp_wait UserResult c = NotAllowed
result_resp_wait UserAbort c = UserAborts
result_resp_wait Timer c = pick c.mark (pick c.more UserAwaited UserSilent) ResultAcked

-- 01, "WAIT TIMEOUT" of the initiator: "Result with RID: Ack again. Timer: end."; 002, 9.5, "WTP Initiator WAIT TIMEOUT (class 2 only)"
abbrev pub wait_timeout : Event → Row
wait_timeout Invoke = Ignored
wait_timeout InvokeRid = Ignored
wait_timeout ResultCut = Ignored
wait_timeout ResultCutRid = ResultSeenAgain
wait_timeout Result = Ignored
wait_timeout ResultRid = ResultSeenAgain
wait_timeout PlainAck = Ignored
wait_timeout TidAck = Ignored
wait_timeout TidAckRid = Ignored
wait_timeout ReceivedAbort = PeerAborts
wait_timeout Segmented = Ignored
wait_timeout MalformedPdu = Malformed
wait_timeout UserAnswer = NotAllowed
wait_timeout UserResult = NotAllowed
wait_timeout UserAbort = UserAborts
wait_timeout Timer = TimeoutEnds
