-- Which items the PDUs that we send carry (01, "Bytes on the air"; 02, L4), read again from their octets.
use Rattle.std.specs.Prelude.{ℕ, ◌+◌, ◌*◌, ◌≡◌, List, [], ◌∷◌, ◌++◌, false, ltb, eqb}
use Rattle.base_lists.specs.Seq.{pick, part}
use Rattle.codec_reading.specs.Read.{pdu_of}
use Rattle.law_reads_back.specs.ReadsBack.{ItemMeaning, meaning_of}
use Rattle.row_columns.specs.declared.Send.{Send}
use Rattle.row_columns.specs.declared.Send.TheVariants.{Nothing, Invoke, Tidok, LastAck, HoldOn, Tidve, Result, Abort}
use Rattle.step_sending.specs.declared.Sender.{Sender}
use Rattle.step_sending.specs.Octets.{octets_sent}

-- 02, L4: "an Error item (8.4.2) naming it", exactly where an identity is kept: error code 1 and the identity, four bits each
abbrev pub error_said : (identity : ℕ) → List ItemMeaning
error_said k = pick (eqb k 0) [] (record { identity = 0; long = false; octets = (1 * 16 + k) ∷ [] } ∷ [])

-- 01: "We write exit information as Info item 1, short to length 3"; "empty means none"
abbrev pub exit_said : (len : ℕ) → List ℕ → List ItemMeaning
exit_said len octets = pick (eqb len 0) [] (record { identity = 1; long = ltb 3 len; octets = octets } ∷ [])

-- 02, L4: "the first hold-on or last Ack it then sends carries [it], before exit information; repeats of that Ack carry it too. TIDve and TIDok stay as they were"
unfoldable pub items_said : List ℕ → Send → Sender → List ItemMeaning
items_said s Nothing by = []
items_said s (Invoke again) by = []
items_said s (Tidok again) by = []
items_said s (LastAck again) by = error_said by.unknown ++ exit_said by.exit_len (part s by.exit_start by.exit_len)
items_said s (HoldOn again) by = error_said by.unknown
items_said s (Tidve again) by = []
items_said s (Result again) by = []
items_said s (Abort kind reason) by = []

-- the items of what is sent, as a reader finds them
abbrev pub CarriesItems : List ℕ → Send → Sender → Type 0
CarriesItems s send by = (meaning_of (octets_sent s send by) (pdu_of (octets_sent s send by))).items ≡ items_said s send by
