-- What a received PDU is to the engine (01, "TIDs" and "Events").
use Rattle.std.specs.Prelude.{ℕ, ◌+◌, ◌*◌, ◌%◌, List, Bool, false, not, length, get_or, ltb, leb, eqb, Option, Some, None}
use Rattle.base_layout.specs.Layout.{tid_count, cell_size}
use Rattle.base_lists.specs.Seq.{pick}
use Rattle.codec_pdu.specs.Pdu.{sound_of}
use Rattle.codec_pdu.specs.declared.Kind.{Kind}
use Rattle.codec_pdu.specs.declared.Kind.TheVariants.{Invoke, Result, Ack, Abort, SegInvoke, SegResult, Nack, Wrong, Refused}
use Rattle.codec_pdu.specs.declared.Pdu.{Pdu}
use Rattle.codec_reading.specs.Read.{type_of}
use Rattle.table_record.specs.declared.Role.{Role}
use Rattle.table_record.specs.declared.Role.TheVariants.{Initiator, Responder}
use Rattle.row_events.specs.declared.Event.{Event}
use Rattle.row_events.specs.declared.Event.TheVariants as Event
use Rattle.row_choice.specs.declared.Arrived.{Arrived}
use Rattle.step_arrivals.specs.declared.Cause.{Cause}
use Rattle.step_arrivals.specs.declared.Wanted.{Wanted}

-- 01: "then the TID, high octet first"; its top bit is 1 from 32,768 on
unfoldable pub tid_of : List ℕ → ℕ
tid_of s = get_or s 1 0 * 256 + get_or s 2 0

-- 01: "Invoke with top bit 1, or Result with 0, is ignored before any test, malformed or not. Any other PDU of three octets or more names the record of its peer and low 15 TID bits, as initiator when the top bit is 1; a shorter one names none"
unfoldable pub name_of : List ℕ → Option (Role × ℕ)
name_of s =
    pick (ltb (length s) 3) None
    (pick (ltb (tid_of s) tid_count)
    (pick (eqb (type_of s) 2) None (Some (Responder, tid_of s % tid_count)))
    (pick (eqb (type_of s) 1) None (Some (Initiator, tid_of s % tid_count))))

-- 01: "The top bit is 0 towards the responder, 1 towards the initiator": the type that is ignored towards a role
abbrev pub ignored_type : Role → ℕ
ignored_type Initiator = 1
ignored_type Responder = 2

-- the record at the other end of a transaction
abbrev pub other_end : Role → Role
other_end Initiator = Responder
other_end Responder = Initiator

-- 01, "Events": what a PDU is to a live record; a length that number 11 refuses never comes and counts as malformed
unfoldable pub event_of : Kind → Event
event_of (Invoke gtr ttr rid v n u l) = pick rid Event.InvokeRid Event.Invoke
event_of (Result gtr ttr rid) = pick ttr (pick rid Event.ResultRid Event.Result) (pick rid Event.ResultCutRid Event.ResultCut)
event_of (Ack tve rid) = pick tve (pick rid Event.TidAckRid Event.TidAck) Event.PlainAck
event_of (Abort t r) = Event.ReceivedAbort
event_of (SegInvoke gtr ttr rid p) = Event.Segmented
event_of (SegResult gtr ttr rid p) = Event.Segmented
event_of (Nack rid n l) = Event.Segmented
event_of (Wrong d) = Event.MalformedPdu
event_of (Refused r) = Event.MalformedPdu

abbrev pub no_cause : Cause
no_cause = record { abort_type = 0; reason = 0 }

-- 01: "for an abort also type and reason: those received"
unfoldable pub cause_of : Kind → Cause
cause_of (Invoke gtr ttr rid v n u l) = no_cause
cause_of (Result gtr ttr rid) = no_cause
cause_of (Ack tve rid) = no_cause
cause_of (Abort t r) = record { abort_type = t; reason = r }
cause_of (SegInvoke gtr ttr rid p) = no_cause
cause_of (SegResult gtr ttr rid p) = no_cause
cause_of (Nack rid n l) = no_cause
cause_of (Wrong d) = no_cause
cause_of (Refused r) = no_cause

-- 01: "type 1, at least three octets and top bit 0", malformed or not
unfoldable pub invokes_us : List ℕ → Bool
invokes_us s = pick (ltb (length s) 3) false (pick (eqb (type_of s) 1) (ltb (tid_of s) tid_count) false)

-- 01: "Ack with TIDve (top bit 1)"
unfoldable pub is_tidve : Kind → ℕ → Bool
is_tidve (Invoke gtr ttr rid v n u l) tid = false
is_tidve (Result gtr ttr rid) tid = false
is_tidve (Ack tve rid) tid = pick tve (leb tid_count tid) false
is_tidve (Abort t r) tid = false
is_tidve (SegInvoke gtr ttr rid p) tid = false
is_tidve (SegResult gtr ttr rid p) tid = false
is_tidve (Nack rid n l) tid = false
is_tidve (Wrong d) tid = false
is_tidve (Refused r) tid = false

-- nothing is asked for
abbrev pub no_want : Wanted
no_want = record { class = 0; up = false; wrong_version = false; ttr_clear = false; tidnew = false }

-- 01: "version not 0", "TTR clear", the class and U/P, and 02, L2, TIDnew, of an Invoke
unfoldable pub wanted_of : Kind → Wanted
wanted_of (Invoke gtr ttr rid version tidnew up class) = record { class = class; up = up; wrong_version = ltb 0 version; ttr_clear = not ttr; tidnew = tidnew }
wanted_of (Result gtr ttr rid) = no_want
wanted_of (Ack tve rid) = no_want
wanted_of (Abort t r) = no_want
wanted_of (SegInvoke gtr ttr rid p) = no_want
wanted_of (SegResult gtr ttr rid p) = no_want
wanted_of (Nack rid n l) = no_want
wanted_of (Wrong d) = no_want
wanted_of (Refused r) = no_want

-- 01, "Events": what the tests of a PDU without a live record say; "data over 1,024" is too long
unfoldable pub arrived_of : List ℕ → Pdu → Bool → Bool → Arrived
arrived_of s p full valid = record {
  invoke = invokes_us s;
  tidve = is_tidve p.kind p.tid;
  malformed = not (sound_of p.kind);
  class = (wanted_of p.kind).class;
  wrong_version = (wanted_of p.kind).wrong_version;
  ttr_clear = (wanted_of p.kind).ttr_clear;
  too_long = ltb cell_size p.len;
  full = full;
  tidnew = (wanted_of p.kind).tidnew;
  valid = valid;
}
