-- The rows of the responder's states (01, "Events"; 002, 9.6), complete, in document 01's order.
use Rattle.std.specs.Prelude.{Bool}
use Rattle.base_lists.specs.Seq.{pick}
use Rattle.row_events.specs.declared.Event.{Event}
use Rattle.row_events.specs.declared.Event.TheVariants.{Invoke, InvokeRid, ResultCut, ResultCutRid, Result, ResultRid, PlainAck, TidAck, TidAckRid, ReceivedAbort, Segmented, MalformedPdu, UserAnswer, UserResult, UserAbort, Timer}
use Rattle.row_events.specs.declared.Conditions.{Conditions}
use Rattle.row_events.specs.declared.Row.{Row}
use Rattle.row_events.specs.declared.Row.TheVariants.{Ignored, NotAllowed, PeerAborts, Malformed, UserAborts, PeerAbortsUnseen, MalformedUnseen, Confirmed, GivenUp, UserAwaited, UserSilent, TimeoutEnds, Verified1, Verified2, TidveRepeated, InvokeAnswered, InvokeAcked, UserWorks, HoldOnSent, ResultSent, HoldOnRepeated, ResultResent, InvokeSeenAgain, TidokSeenAgain, TidokWaitEnds, ResultWaitEnds}

-- 01, "TIDOK WAIT": "TIDok: as valid. Invoke with RID: TIDve again"; "where the user knows nothing and may not abort (9)"; 002, 9.6, "WTP Responder TIDOK WAIT"; `two` says whether the class is 2
abbrev pub tidok_wait : Event → Bool → Conditions → Row
tidok_wait Invoke two c = Ignored
tidok_wait InvokeRid two c = TidveRepeated
tidok_wait ResultCut two c = Ignored
tidok_wait ResultCutRid two c = Ignored
tidok_wait Result two c = Ignored
tidok_wait ResultRid two c = Ignored
tidok_wait PlainAck two c = Ignored
tidok_wait TidAck two c = pick two Verified2 Verified1
tidok_wait TidAckRid two c = pick two Verified2 Verified1
tidok_wait ReceivedAbort two c = PeerAbortsUnseen
tidok_wait Segmented two c = Ignored
tidok_wait MalformedPdu two c = MalformedUnseen
tidok_wait UserAnswer two c = NotAllowed
tidok_wait UserResult two c = NotAllowed
tidok_wait UserAbort two c = NotAllowed
-- 02, L6: "At its end TIDOK WAIT ends silently"
tidok_wait Timer two c = pick c.limited TidokWaitEnds Ignored

-- 01, "INVOKE RESP WAIT", class 1; 002, 9.6, "WTP Responder INVOKE RESP WAIT"; the mark is user acknowledgement. An Invoke is ignored and doesn't restart A
abbrev pub invoke_resp_wait1 : Event → Conditions → Row
invoke_resp_wait1 Invoke c = Ignored
invoke_resp_wait1 InvokeRid c = Ignored
invoke_resp_wait1 ResultCut c = Ignored
invoke_resp_wait1 ResultCutRid c = Ignored
invoke_resp_wait1 Result c = Ignored
invoke_resp_wait1 ResultRid c = Ignored
invoke_resp_wait1 PlainAck c = Ignored
invoke_resp_wait1 TidAck c = Ignored
invoke_resp_wait1 TidAckRid c = Ignored
invoke_resp_wait1 ReceivedAbort c = PeerAborts
invoke_resp_wait1 Segmented c = Ignored
invoke_resp_wait1 MalformedPdu c = Malformed
invoke_resp_wait1 UserAnswer c = InvokeAnswered
invoke_resp_wait1 UserResult c = NotAllowed
invoke_resp_wait1 UserAbort c = UserAborts
invoke_resp_wait1 Timer c = pick c.mark (pick c.more UserAwaited UserSilent) InvokeAcked

-- 01, "INVOKE RESP WAIT", class 2, and "Either wait, class 2, user result"; 002, 9.6, "WTP Responder INVOKE RESP WAIT"; the mark is user acknowledgement
abbrev pub invoke_resp_wait2 : Event → Conditions → Row
invoke_resp_wait2 Invoke c = Ignored
invoke_resp_wait2 InvokeRid c = Ignored
invoke_resp_wait2 ResultCut c = Ignored
invoke_resp_wait2 ResultCutRid c = Ignored
invoke_resp_wait2 Result c = Ignored
invoke_resp_wait2 ResultRid c = Ignored
invoke_resp_wait2 PlainAck c = Ignored
invoke_resp_wait2 TidAck c = Ignored
invoke_resp_wait2 TidAckRid c = Ignored
invoke_resp_wait2 ReceivedAbort c = PeerAborts
invoke_resp_wait2 Segmented c = Ignored
invoke_resp_wait2 MalformedPdu c = Malformed
invoke_resp_wait2 UserAnswer c = UserWorks
invoke_resp_wait2 UserResult c = ResultSent
invoke_resp_wait2 UserAbort c = UserAborts
invoke_resp_wait2 Timer c = pick c.mark (pick c.more UserAwaited UserSilent) HoldOnSent

-- 01, "RESULT WAIT" of the responder, and "Either wait, class 2, user result"; 002, 9.6, "WTP Responder RESULT WAIT (class 2 only)"; the mark is hold-on sent
abbrev pub result_wait : Event → Conditions → Row
result_wait Invoke c = Ignored
result_wait InvokeRid c = pick c.mark HoldOnRepeated Ignored
result_wait ResultCut c = Ignored
result_wait ResultCutRid c = Ignored
result_wait Result c = Ignored
result_wait ResultRid c = Ignored
result_wait PlainAck c = Ignored
result_wait TidAck c = Ignored
result_wait TidAckRid c = Ignored
result_wait ReceivedAbort c = PeerAborts
result_wait Segmented c = Ignored
result_wait MalformedPdu c = Malformed
result_wait UserAnswer c = NotAllowed
result_wait UserResult c = ResultSent
result_wait UserAbort c = UserAborts
-- 02, L6: "the responder's RESULT WAIT sends Abort 8, indicates an abort and ends"
result_wait Timer c = pick c.limited ResultWaitEnds HoldOnSent

-- 01, "RESULT RESP WAIT" of the responder; 002, 9.6, "WTP Responder RESULT RESP WAIT (class 2 only)"
abbrev pub result_resp_wait : Event → Conditions → Row
result_resp_wait Invoke c = Ignored
result_resp_wait InvokeRid c = Ignored
result_resp_wait ResultCut c = Ignored
result_resp_wait ResultCutRid c = Ignored
result_resp_wait Result c = Ignored
result_resp_wait ResultRid c = Ignored
result_resp_wait PlainAck c = Confirmed
result_resp_wait TidAck c = Ignored
result_resp_wait TidAckRid c = Ignored
result_resp_wait ReceivedAbort c = PeerAborts
result_resp_wait Segmented c = Ignored
result_resp_wait MalformedPdu c = Malformed
result_resp_wait UserAnswer c = NotAllowed
result_resp_wait UserResult c = NotAllowed
result_resp_wait UserAbort c = UserAborts
result_resp_wait Timer c = pick c.more ResultResent GivenUp

-- 01, "WAIT TIMEOUT (class 1)": "Invoke with RID: Ack again. Timer: end."; 002, 9.6, "WTP Responder WAIT TIMEOUT (class 1 only)"
abbrev pub wait_timeout : Event → Row
wait_timeout Invoke = Ignored
wait_timeout InvokeRid = InvokeSeenAgain
wait_timeout ResultCut = Ignored
wait_timeout ResultCutRid = Ignored
wait_timeout Result = Ignored
wait_timeout ResultRid = Ignored
wait_timeout PlainAck = Ignored
wait_timeout TidAck = Ignored
-- 002's row "TIDok, RID=1 | Send Ack PDU", on which 01 is silent: without it a verified transaction whose one Ack was lost is never acknowledged
wait_timeout TidAckRid = TidokSeenAgain
wait_timeout ReceivedAbort = PeerAborts
wait_timeout Segmented = Ignored
wait_timeout MalformedPdu = Malformed
wait_timeout UserAnswer = NotAllowed
wait_timeout UserResult = NotAllowed
wait_timeout UserAbort = UserAborts
wait_timeout Timer = TimeoutEnds
