-- The C interface of two forms of document 01: a datagram's PDU read as a part of it, and the data of an indication as a part of the slice that it names.
use Rattle.std.specs.Prelude.{ℕ, ◌+◌, ◌*◌, List, length, get_or, ltb, eqb, Result, Ok, Err}
use Rattle.base_layout.specs.Layout.{answer_size}
use Rattle.base_lists.specs.Seq.{pick, put, part}
use Rattle.base_numbers.specs.Numbers.{number_of}
use Rattle.base_numbers.specs.declared.Refusal.{Refusal}
use Rattle.base_numbers.specs.declared.Refusal.TheVariants.{WrongSize, WrongLength}
use Rattle.codec_separation.specs.Separate.{parts_of, answer_at}
use Rattle.codec_separation.specs.declared.Parts.{Parts}
use Rattle.step_shown.specs.declared.Source.{Source}
use Rattle.step_shown.specs.declared.Source.TheVariants.{Datagram, Store}
use Rattle.step_shown.specs.declared.Place.{Place}
use Rattle.step_shown.specs.Parts.{data_of}
use Rattle.c_codec.specs.Calls.{or_size, read_number_is, fields_after}

-- wtp_read_part: 01, "Each PDU is handed on as the part of the datagram that begins after its length": what wtp_read gives of that part, which is empty where there is none
abbrev pub number_by : Result Parts Refusal → List ℕ → List ℕ → ℕ
number_by (Err r) d fields = number_of r
number_by (Ok seen) d fields = read_number_is (part d seen.part.start seen.part.len) fields

abbrev pub fields_by : Result Parts Refusal → List ℕ → List ℕ → List ℕ
fields_by (Err r) d fields = fields
fields_by (Ok seen) d fields = fields_after (part d seen.part.start seen.part.len) fields

-- wtp_read_part: its result
unfoldable pub read_part_number : List ℕ → ℕ → List ℕ → ℕ
read_part_number d k fields = or_size 88 (length fields) (number_of WrongSize) (number_by (answer_at (parts_of d) k) d fields)

-- wtp_read_part: the lent words
unfoldable pub read_part_fields : List ℕ → ℕ → List ℕ → List ℕ
read_part_fields d k fields = or_size 88 (length fields) fields (fields_by (answer_at (parts_of d) k) d fields)

-- the C interface: "source of its data (0 the datagram, 1 the store)"
abbrev pub source_said : ℕ → Source
source_said word = pick (eqb word 0) Datagram Store

-- the C interface: "8 source of its data .. 9 start, 10 length", of the indication whose words begin at `at`
unfoldable pub place_said : List ℕ → ℕ → Place
place_said answer at = record { source = source_said (get_or answer (at + 8) 0); start = get_or answer (at + 9) 0; len = get_or answer (at + 10) 0 }

-- the C interface: "4 to 15, 16 to 27 the first and the second indication"
abbrev pub words_from : ℕ → ℕ
words_from k = 4 + 12 * k

-- data of which len octets are named: 1 where the output is shorter, 11 where they aren't all there
unfoldable pub copy_number : List ℕ → ℕ → List ℕ → ℕ
copy_number named len out = pick (ltb (length out) len) (number_of WrongSize) (pick (eqb (length named) len) 0 (number_of WrongLength))

-- "Output after the PDU is unchanged", and so after the data
unfoldable pub copy_output : List ℕ → ℕ → List ℕ → List ℕ
copy_output named len out = pick (ltb (length out) len) out (pick (eqb (length named) len) (put out 0 named) out)

-- wtp_data: 01, "a function over two lent slices returns a part of the one the indication names"
abbrev pub data_said : List ℕ → List ℕ → List ℕ → ℕ → List ℕ
data_said datagram store answer k = data_of datagram store (place_said answer (words_from k))

-- wtp_data: its result; an answer has two indications
unfoldable pub data_number : List ℕ → List ℕ → List ℕ → ℕ → List ℕ → ℕ
data_number datagram store answer k out =
    or_size answer_size (length answer) (number_of WrongSize)
    (pick (ltb 1 k) (number_of WrongLength)
    (copy_number (data_said datagram store answer k) (place_said answer (words_from k)).len out))

-- wtp_data: the output
unfoldable pub data_output : List ℕ → List ℕ → List ℕ → ℕ → List ℕ → List ℕ
data_output datagram store answer k out =
    or_size answer_size (length answer) out
    (pick (ltb 1 k) out
    (copy_output (data_said datagram store answer k) (place_said answer (words_from k)).len out))
