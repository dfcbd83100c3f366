-- The starred cases of document 01, "Bench cases": "proved together as one table".
use Rattle.std.specs.Prelude.{ℕ, ◌+◌, ◌%◌, ◌≡◌, List, [], ◌∷◌, Bool, true, false, length, replicate, Ok, None}
use Rattle.base_layout.specs.Layout.{tid_count}
use Rattle.base_numbers.specs.declared.Malformed.TheVariants.{D1, D2, D5, D7}
use Rattle.base_numbers.specs.declared.Malformed.{Malformed}
use Rattle.codec_items.specs.Items.{Verdict, no_item}
use Rattle.codec_pdu.specs.declared.Kind.{Kind}
use Rattle.codec_pdu.specs.declared.Kind.TheVariants.{Invoke, Result, Ack, Wrong}
use Rattle.codec_pdu.specs.declared.Pdu.{Pdu}
use Rattle.codec_pdu.specs.Pdu.{blank_pdu}
use Rattle.codec_reading.specs.Read.{pdu_of}
use Rattle.codec_encoding.specs.Write.{octets_of, fault_of}
use Rattle.table_record.specs.declared.Role.{Role}
use Rattle.table_record.specs.declared.Role.TheVariants.{Initiator, Responder}
use Rattle.row_columns.specs.declared.Send.{Send}
use Rattle.row_columns.specs.declared.Send.TheVariants as Send
use Rattle.step_sending.specs.declared.Sender.{Sender}
use Rattle.step_sending.specs.Sending.{parts_in, sent_pdu}
use Rattle.table_tids.specs.Tids.{test_of}
use Rattle.table_tids.specs.declared.Test.{Test}
use Rattle.table_tids.specs.declared.Test.TheVariants.{Valid, Verified}
use Rattle.table_layout.specs.Table.{count, gen_tid_of, tidnew_due_of}
use Rattle.table_fresh.specs.Fresh.{fresh_answer, table_after_fresh}
use Rattle.std.specs.Prelude.{Ok}
use Rattle.table_finding.specs.Finding.{named_of}
use Rattle.step_arrivals.specs.Arrivals.{tid_of}
use Rattle.step_plan.specs.declared.Step.{Step}
use Rattle.call_receive.specs.Receives.{receive_plan}
use Rattle.call_request.specs.Requests.{request_plan}
use Rattle.call_plans.specs.Calls.{as_request}
use Rattle.step_outcome.specs.Carry.{Lent, sent_then}
use Rattle.codec_separation.specs.Separate.{Split, refused, parts, parts_of}

-- a case: octets read as a PDU; a PDU, whose parts lie in a source, written as octets; octets malformed as a PDU; a datagram separated;
-- the test of a TID where LastTID is cached; what the engine sends of a source; what the receive call sends where no live initiator record is named;
-- what the request call sends of a class 2 request without data and U/P, under TID 5: from a fresh table, and where TIDnew isn't due
pub data Row : Type 0 where
  reads : List ℕ → Pdu → Row
  writes : List ℕ → Pdu → List ℕ → Row
  malformed : List ℕ → Malformed → Row
  separates : List ℕ → Split → Row
  tests : ℕ → ℕ → Test → Row
  sends : List ℕ → Send → Sender → List ℕ → Row
  unmatched : List ℕ → List ℕ → Row
  first : List ℕ → Row
  later : List ℕ → Row

-- a class 2 request without data and U/P is accepted
abbrev pub Requested : Lent → ℕ → ℕ → Step → Type 0
Requested l time peer step = request_plan l.table (length l.store) (length l.output) (as_request time peer 2 false 0) ≡ Ok step

-- what a case says
unfoldable pub Says : Row → Type 0
Says (reads octets p) = pdu_of octets ≡ p
Says (writes source p octets) = ◌≡◌ {A = Verdict × List ℕ} (fault_of p, octets_of source p) (Ok tt, octets)
Says (malformed octets d) = pdu_of octets ≡ blank_pdu (Wrong d)
Says (separates datagram split) = parts_of datagram ≡ split
Says (tests last tid test) = test_of (last + 1) tid ≡ test
Says (sends source send by octets) = octets_of (parts_in source by) (sent_pdu send by) ≡ octets
Says (unmatched octets sent) =
    (l : Lent) (time peer : ℕ) (step : Step) → l.given ≡ octets → named_of l.table (count l.table) Initiator peer (tid_of octets % tid_count) ≡ None
    → receive_plan l.table (length l.store) (length l.output) time peer l.given ≡ Ok step → sent_then l step ≡ sent
Says (first octets) =
    (l : Lent) (old settings : List ℕ) (time peer : ℕ) (step : Step) → fresh_answer (length old) settings 5 ≡ Ok tt → l.table ≡ table_after_fresh (Ok tt) old settings 5 → Requested l time peer step → sent_then l step ≡ octets
Says (later octets) =
    (l : Lent) (time peer : ℕ) (step : Step) → tidnew_due_of l.table ≡ false → gen_tid_of l.table ≡ 5 → Requested l time peer step → sent_then l step ≡ octets

-- every case of a table holds
infixr 5 ◌and◌
pub data AllSay : List Row → Type 0 where
  done : AllSay []
  ◌and◌ : {r : Row} {rs : List Row} → Says r → AllSay rs → AllSay (r ∷ rs)

-- a PDU of no items and no user data, which would begin at `end`
abbrev pub plain : Kind → ℕ → ℕ → Pdu
plain kind tid end = record { kind = kind; tid = tid; count = 0; list = replicate 16 no_item; start = end; len = 0 }

-- 01: "class 2 Invoke, TID 5, no data: 0E 00 05 02"
abbrev pub invoke : List ℕ
invoke = 0x0E ∷ 0x00 ∷ 0x05 ∷ 0x02 ∷ []

abbrev pub invoke_pdu : Pdu
invoke_pdu = plain (Invoke true true false 0 false false 2) 5 4

-- 01: "its repeat 0F 00 05 02"
abbrev pub repeat : List ℕ
repeat = 0x0F ∷ 0x00 ∷ 0x05 ∷ 0x02 ∷ []

abbrev pub repeat_pdu : Pdu
repeat_pdu = plain (Invoke true true true 0 false false 2) 5 4

-- 01: "Result to it: 16 80 05": the TID's top bit is 1 towards the initiator
abbrev pub result : List ℕ
result = 0x16 ∷ 0x80 ∷ 0x05 ∷ []

abbrev pub result_pdu : Pdu
result_pdu = plain (Result true true false) 0x8005 3

-- 01: "Last Ack with exit information AA BB: 98 00 05 0A AA BB"
abbrev pub last_ack : List ℕ
last_ack = 0x98 ∷ 0x00 ∷ 0x05 ∷ 0x0A ∷ 0xAA ∷ 0xBB ∷ []

-- the last Ack whose exit information, Info item 1 of the short form, stands at `start` of its source
abbrev pub last_ack_pdu : ℕ → Pdu
last_ack_pdu start = record {
  kind = Ack false false;
  tid = 5;
  count = 1;
  list = record { identity = 1; long = false; start = start; len = 2 } ∷ replicate 15 no_item;
  start = 0;
  len = 0;
}

-- 01: "00 03 18 80 05 04 20 80 06 08 is two PDUs"
abbrev pub two_pdus : List ℕ
two_pdus = 0x00 ∷ 0x03 ∷ 0x18 ∷ 0x80 ∷ 0x05 ∷ 0x04 ∷ 0x20 ∷ 0x80 ∷ 0x06 ∷ 0x08 ∷ []

-- 02, L2: "As such a first one 01's starred Invoke is 0E 00 05 22"; its repeat
abbrev pub first_invoke : List ℕ
first_invoke = 0x0E ∷ 0x00 ∷ 0x05 ∷ 0x22 ∷ []

abbrev pub first_invoke_pdu : Pdu
first_invoke_pdu = plain (Invoke true true false 0 true false 2) 5 4

abbrev pub first_repeat : List ℕ
first_repeat = 0x0F ∷ 0x00 ∷ 0x05 ∷ 0x22 ∷ []

abbrev pub first_repeat_pdu : Pdu
first_repeat_pdu = plain (Invoke true true true 0 true false 2) 5 4

-- TID 5, class 2, no message, with or without TIDnew, and exit information of the first n octets of its source
abbrev pub sender : Role → Bool → ℕ → Sender
sender role tidnew n = record { role = role; tid = 5; class = 2; user_ack = false; tidnew = tidnew; start = 0; len = 0; exit_start = 0; exit_len = n; unknown = 0 }

-- the cases; the last Ack is written from its own octets and from its exit information alone
abbrev pub table : List Row
table =
    reads invoke invoke_pdu
    ∷ writes invoke invoke_pdu invoke
    ∷ reads first_invoke first_invoke_pdu
    ∷ writes first_invoke first_invoke_pdu first_invoke
    ∷ reads first_repeat first_repeat_pdu
    ∷ writes first_repeat first_repeat_pdu first_repeat
    ∷ reads repeat repeat_pdu
    ∷ writes repeat repeat_pdu repeat
    ∷ reads result result_pdu
    ∷ writes result result_pdu result
    ∷ reads last_ack (last_ack_pdu 4)
    ∷ writes last_ack (last_ack_pdu 4) last_ack
    ∷ writes (0xAA ∷ 0xBB ∷ []) (last_ack_pdu 0) last_ack
    ∷ malformed (0x00 ∷ []) D2
    ∷ malformed (0x0E ∷ 0x00 ∷ 0x05 ∷ []) D1
    ∷ malformed (0x0E ∷ 0x00 ∷ 0x05 ∷ 0x03 ∷ []) D5
    ∷ malformed (0x18 ∷ 0x80 ∷ 0x05 ∷ 0x00 ∷ []) D7
    ∷ separates two_pdus (parts (record { start = 2; len = 3 } ∷ record { start = 6; len = 4 } ∷ []))
    ∷ separates (0x00 ∷ 0x00 ∷ []) refused
    ∷ tests 32767 0 Valid
    ∷ tests 0 16383 Valid
    ∷ tests 0 16384 Verified
    ∷ sends [] (Send.Invoke false) (sender Initiator true 0) first_invoke
    ∷ sends [] (Send.Invoke true) (sender Initiator true 0) first_repeat
    ∷ sends [] (Send.Invoke false) (sender Initiator false 0) invoke
    ∷ sends [] (Send.Invoke true) (sender Initiator false 0) repeat
    ∷ sends [] (Send.Result false) (sender Responder false 0) result
    ∷ sends (0xAA ∷ 0xBB ∷ []) (Send.LastAck false) (sender Initiator false 2) last_ack
    ∷ first first_invoke
    ∷ later invoke
    ∷ unmatched (0x1C ∷ 0x80 ∷ 0x05 ∷ []) (0x20 ∷ 0x00 ∷ 0x05 ∷ 0x02 ∷ [])
    ∷ []
