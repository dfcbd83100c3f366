-- Which row an event meets (01, "Events"): in each state, and without a live record.
use Rattle.std.specs.Prelude.{ℕ, true, false, eqb}
use Rattle.base_lists.specs.Seq.{pick}
use Rattle.table_record.specs.declared.State.{State}
use Rattle.table_record.specs.declared.State.TheVariants.{Free, IResultWait1, IResultWait2, IResultRespWait, IWaitTimeout, RTidokWait1, RTidokWait2, RInvokeRespWait1, RInvokeRespWait2, RResultWait, RResultRespWait, RWaitTimeout}
use Rattle.row_events.specs.declared.Event.{Event}
use Rattle.row_events.specs.declared.Event.TheVariants as Event
use Rattle.row_events.specs.declared.Conditions.{Conditions}
use Rattle.row_events.specs.declared.Row.{Row}
use Rattle.row_events.specs.declared.Row.TheVariants as Row
use Rattle.row_events.specs.declared.Opening.{Opening}
use Rattle.row_events.specs.declared.Opening.TheVariants.{Ignored, Requested0, Requested1, Requested2, Malformed, WrongVersion, Unsupported, TooLong, Shown0, Valid1, Valid2, ToVerify1, ToVerify2, Restarted1, Restarted2, UnknownTidve}
use Rattle.row_initiator.specs.Initiator as Initiator
use Rattle.row_responder.specs.Responder as Responder
use Rattle.row_choice.specs.declared.Arrived.{Arrived}

-- 01: "All else without a record is ignored"; what opens a record is below
abbrev pub free_row : Event → Row
free_row Event.Invoke = Row.Ignored
free_row Event.InvokeRid = Row.Ignored
free_row Event.ResultCut = Row.Ignored
free_row Event.ResultCutRid = Row.Ignored
free_row Event.Result = Row.Ignored
free_row Event.ResultRid = Row.Ignored
free_row Event.PlainAck = Row.Ignored
free_row Event.TidAck = Row.Ignored
free_row Event.TidAckRid = Row.Ignored
free_row Event.ReceivedAbort = Row.Ignored
free_row Event.Segmented = Row.Ignored
free_row Event.MalformedPdu = Row.Ignored
free_row Event.UserAnswer = Row.NotAllowed
free_row Event.UserResult = Row.NotAllowed
free_row Event.UserAbort = Row.NotAllowed
free_row Event.Timer = Row.Ignored

-- 01, "Events": the row of each state
unfoldable pub row_of : State → Event → Conditions → Row
row_of Free e c = free_row e
row_of IResultWait1 e c = Initiator.result_wait1 e c
row_of IResultWait2 e c = Initiator.result_wait2 e c
row_of IResultRespWait e c = Initiator.result_resp_wait e c
row_of IWaitTimeout e c = Initiator.wait_timeout e
row_of RTidokWait1 e c = Responder.tidok_wait e false c
row_of RTidokWait2 e c = Responder.tidok_wait e true c
row_of RInvokeRespWait1 e c = Responder.invoke_resp_wait1 e c
row_of RInvokeRespWait2 e c = Responder.invoke_resp_wait2 e c
row_of RResultWait e c = Responder.result_wait e c
row_of RResultRespWait e c = Responder.result_resp_wait e c
row_of RWaitTimeout e c = Responder.wait_timeout e

-- 01, "Request": by its class
unfoldable pub requested_of : ℕ → Opening
requested_of class = pick (eqb class 0) Requested0 (pick (eqb class 1) Requested1 Requested2)

-- 01: "Class 0 failing the second to fourth test is ignored; else [..] it is indicated without record or TID test, at a full table too"
unfoldable pub invoke0_of : Arrived → Opening
invoke0_of a = pick a.wrong_version Ignored (pick a.ttr_clear Ignored (pick a.too_long Ignored Shown0))

-- the row of class 1, or of class 2
unfoldable pub by_class : ℕ → Opening → Opening → Opening
by_class class one two = pick (eqb class 1) one two

-- 01: "version not 0: Abort 6; TTR clear: Abort 4; data over 1,024: Abort 7; no free record: ignored"; 02, L2: "with TIDnew set, [..] past the other tests"; then the TID test
unfoldable pub invoke12_of : Arrived → Opening
invoke12_of a =
    pick a.wrong_version WrongVersion
    (pick a.ttr_clear Unsupported
    (pick a.too_long TooLong
    (pick a.full Ignored
    (pick a.tidnew (by_class a.class Restarted1 Restarted2)
    (pick a.valid (by_class a.class Valid1 Valid2) (by_class a.class ToVerify1 ToVerify2))))))

-- 01: "Invoke without a live record, in order: malformed; ..", "Ack with TIDve (top bit 1), no live initiator record: Abort 2", "All else without a record is ignored"
unfoldable pub opening_of : Arrived → Opening
opening_of a =
    pick a.invoke (pick a.malformed Malformed (pick (eqb a.class 0) (invoke0_of a) (invoke12_of a)))
    (pick a.malformed Ignored (pick a.tidve UnknownTidve Ignored))
