-- What the rows ask of a record beside its state (01, "Events").
use Rattle.std.specs.Prelude.{Bool, false, ltb}
use Rattle.base_lists.specs.Seq.{pick}
use Rattle.table_record.specs.declared.State.{State}
use Rattle.table_record.specs.declared.State.TheVariants.{Free, IResultWait1, IResultWait2, IResultRespWait, IWaitTimeout, RTidokWait1, RTidokWait2, RInvokeRespWait1, RInvokeRespWait2, RResultWait, RResultRespWait, RWaitTimeout}
use Rattle.table_record.specs.declared.Record.{Record}
use Rattle.table_layout.specs.declared.Settings.{Settings}
use Rattle.row_events.specs.declared.Conditions.{Conditions}

-- 01: "if RCR < RCR_MAX" in the states that resend, "if AEC < AEC_MAX" in those that wait for the user's answer
abbrev pub more_of : State → Bool → Bool → Bool
more_of Free rcr aec = false
more_of IResultWait1 rcr aec = rcr
more_of IResultWait2 rcr aec = rcr
more_of IResultRespWait rcr aec = aec
more_of IWaitTimeout rcr aec = false
more_of RTidokWait1 rcr aec = false
more_of RTidokWait2 rcr aec = false
more_of RInvokeRespWait1 rcr aec = aec
more_of RInvokeRespWait2 rcr aec = aec
more_of RResultWait rcr aec = false
more_of RResultRespWait rcr aec = rcr
more_of RWaitTimeout rcr aec = false

-- 01: HoldOn in the initiator's RESULT WAIT, "user acknowledgement" where the user's answer is awaited, "hold-on [..] if sent" in the responder's RESULT WAIT
abbrev pub mark_of : State → Bool → Bool → Bool → Bool
mark_of Free holdOn user_ack holdOnSent = false
mark_of IResultWait1 holdOn user_ack holdOnSent = false
mark_of IResultWait2 holdOn user_ack holdOnSent = holdOn
mark_of IResultRespWait holdOn user_ack holdOnSent = user_ack
mark_of IWaitTimeout holdOn user_ack holdOnSent = false
mark_of RTidokWait1 holdOn user_ack holdOnSent = false
mark_of RTidokWait2 holdOn user_ack holdOnSent = false
mark_of RInvokeRespWait1 holdOn user_ack holdOnSent = user_ack
mark_of RInvokeRespWait2 holdOn user_ack holdOnSent = user_ack
mark_of RResultWait holdOn user_ack holdOnSent = holdOnSent
mark_of RResultRespWait holdOn user_ack holdOnSent = false
mark_of RWaitTimeout holdOn user_ack holdOnSent = false

-- 02, L6: whether "it is then the deadline" in one of the waits that have an end of it: "TIDOK WAIT", "the held-on wait" and "the responder's RESULT WAIT" after its hold-on
abbrev pub limited_of : State → Bool → Bool → Bool → Bool
limited_of Free holdOn holdOnSent limit = false
limited_of IResultWait1 holdOn holdOnSent limit = false
limited_of IResultWait2 holdOn holdOnSent limit = pick holdOn limit false
limited_of IResultRespWait holdOn holdOnSent limit = false
limited_of IWaitTimeout holdOn holdOnSent limit = false
limited_of RTidokWait1 holdOn holdOnSent limit = limit
limited_of RTidokWait2 holdOn holdOnSent limit = limit
limited_of RInvokeRespWait1 holdOn holdOnSent limit = false
limited_of RInvokeRespWait2 holdOn holdOnSent limit = false
limited_of RResultWait holdOn holdOnSent limit = pick holdOnSent limit false
limited_of RResultRespWait holdOn holdOnSent limit = false
limited_of RWaitTimeout holdOn holdOnSent limit = false

-- all three, of a record in its state
unfoldable pub conditions_of : Settings → Record → Conditions
conditions_of s r = record {
  more = more_of r.state (ltb r.rcr.0 s.rcr_max) (ltb r.aec.0 s.aec_max);
  mark = mark_of r.state r.hold_on r.user_ack r.hold_on_sent;
  limited = limited_of r.state r.hold_on r.hold_on_sent (ltb 0 r.limit);
}
