-- What C sees of the first unknown item of a PDU (02, L4).
use Rattle.std.specs.Prelude.{ℕ, ◌≡◌, get_or}
use Rattle.codec_reading.specs.Read.{pdu_of}
use Rattle.codec_words.specs.Words.{words_of}
use Rattle.call_plans.specs.Calls.{Call}
use Rattle.wtp.specs.Engine.{item_told}
use Rattle.law_exported.specs.Session.{Exported}

-- the C interface: words 34 and 35 of an accepted call are "identity, and place of the first octet, of the first item in the PDU that is not known", and 36 to 39 are 0
pub record SeenItem (x : Exported) : Type 0 where
  pub word_34 : get_or x.seen.answer 34 0 ≡ (item_told x.call x.lent).identity
  pub word_35 : get_or x.seen.answer 35 0 ≡ (item_told x.call x.lent).place
  pub word_36 : get_or x.seen.answer 36 0 ≡ 0
  pub word_37 : get_or x.seen.answer 37 0 ≡ 0
  pub word_38 : get_or x.seen.answer 38 0 ≡ 0
  pub word_39 : get_or x.seen.answer 39 0 ≡ 0

-- the reading, L4-4: "Every accepted `wtp_receive`: words 34, 35 = words 18, 19 that `wtp_read` gives for that PDU, whatever the engine does with it"
pub record AsRead (x : Exported) : Type 0 where
  pub as_18 : (time peer : ℕ) → x.call ≡ Call.Receive time peer → get_or x.seen.answer 34 0 ≡ get_or (words_of (pdu_of x.lent.given)) 18 0
  pub as_19 : (time peer : ℕ) → x.call ≡ Call.Receive time peer → get_or x.seen.answer 35 0 ≡ get_or (words_of (pdu_of x.lent.given)) 19 0
