-- The C interface of the engine: each call's result, and what table, store, output and answer then hold, as one value (01, "How the answers are held").
use Rattle.std.specs.Prelude.{ℕ, List, length}
use Rattle.base_layout.specs.Layout.{answer_size}
use Rattle.base_numbers.specs.Numbers.{number_of}
use Rattle.base_numbers.specs.declared.Refusal.TheVariants.{WrongSize}
use Rattle.codec_items.specs.Unknown.{no_unknown}
use Rattle.codec_items.specs.declared.Unknown.{Unknown}
use Rattle.codec_pdu.specs.Pdu.{unknown_of}
use Rattle.codec_reading.specs.Read.{pdu_of}
use Rattle.step_outcome.specs.Carry.{Lent}
use Rattle.call_plans.specs.Calls.{Call}
use Rattle.call_engine.specs.Calls.{gives}
pub use Rattle.c_answers.specs.Handed.{Called, called}
unfoldable pub use Rattle.c_answers.specs.Handed.{handed, costed, handed_by, told}
use Rattle.c_answers.specs.Answers.{more_words}
use Rattle.c_codec.specs.Calls.{or_size}

-- the C interface: "fewer give 1", and then "A refused .. call changes no lent byte and no lent word"
unfoldable pub or_small : Lent → List ℕ → Called → (more : List ℕ) → Called
or_small l words c more = or_size answer_size (length words) (called (number_of WrongSize) l.table l.store l.output words) (told c more)

-- 02, L4: "Reading a PDU must also tell the identity and place of the first item it does not know [..], and every caller passes that up"; in other calls there is no PDU
unfoldable pub item_told : Call → Lent → Unknown
item_told (Call.Request time peer class user_ack) l = no_unknown
item_told (Call.Answer time role peer tid) l = no_unknown
item_told (Call.Result time role peer tid) l = no_unknown
item_told (Call.Abort time role peer tid reason) l = no_unknown
item_told (Call.Receive time peer) l = unknown_of (pdu_of l.given)
item_told (Call.Timer time) l = no_unknown
item_told (Call.Fire time role peer tid) l = no_unknown

-- what a caller of wtp_request, wtp_answer, wtp_result, wtp_abort, wtp_receive, wtp_timer or wtp_fire sees; in wtp_request "a flag parameter: 0 is off, any other value on"
abbrev pub called_by : Call → Lent → List ℕ → Called
called_by c l words = or_small l words (gives c l words) (more_words (item_told c l))
