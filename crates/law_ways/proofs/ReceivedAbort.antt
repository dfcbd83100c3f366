-- A PDU that is an Abort to a live record has the type and the reason that its row is given. Assumes nothing.
use mathlib.Core.Path.{◌≡◌, refl, sym, ap, ◌∙◌}
use mathlib.Core.Bool.{true, false}
use lib.Dec.{eqb}
use Rattle.base_lists.proofs.StoresAndParts.{true_false}
use Rattle.codec_pdu.specs.declared.Kind.{Kind}
use Rattle.codec_pdu.specs.declared.Kind.TheVariants as Kind
use Rattle.row_events.specs.Events.{event_number}
use Rattle.row_events.specs.declared.Event.{Event}
use Rattle.row_events.specs.declared.Event.TheVariants as Event
use Rattle.step_arrivals.specs.Arrivals.{event_of, cause_of}

-- an event that is no received Abort
pub other : {A : Type 0} (e : Event) → eqb (event_number e) 9 ≡ false → e ≡ Event.ReceivedAbort → A
other e h k = true_false (sym (ap (λ (x : Event). eqb (event_number x) 9) k) ∙ h)

-- a PDU that is an Abort to a live record has the type and the reason that its row is given
pub abort_read : (k : Kind) → event_of k ≡ Event.ReceivedAbort → k ≡ Kind.Abort (cause_of k).abort_type (cause_of k).reason
unfolding event_of cause_of
abort_read (Kind.Invoke gtr ttr true v n u c) e = other Event.InvokeRid refl e
abort_read (Kind.Invoke gtr ttr false v n u c) e = other Event.Invoke refl e
abort_read (Kind.Result gtr true true) e = other Event.ResultRid refl e
abort_read (Kind.Result gtr true false) e = other Event.Result refl e
abort_read (Kind.Result gtr false true) e = other Event.ResultCutRid refl e
abort_read (Kind.Result gtr false false) e = other Event.ResultCut refl e
abort_read (Kind.Ack true true) e = other Event.TidAckRid refl e
abort_read (Kind.Ack true false) e = other Event.TidAck refl e
abort_read (Kind.Ack false rid) e = other Event.PlainAck refl e
abort_read (Kind.Abort t r) e = refl
abort_read (Kind.SegInvoke gtr ttr rid p) e = other Event.Segmented refl e
abort_read (Kind.SegResult gtr ttr rid p) e = other Event.Segmented refl e
abort_read (Kind.Nack rid n l) e = other Event.Segmented refl e
abort_read (Kind.Wrong d) e = other Event.MalformedPdu refl e
abort_read (Kind.Refused r) e = other Event.MalformedPdu refl e
