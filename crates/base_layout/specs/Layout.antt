-- The sizes, offsets and bounds of the table and of document 01, each once for specs; src/lib.rt has them for code, since these are two languages. docs/TABLE.md shows the octets.
use Rattle.std.specs.Prelude.{ℕ, ◌+◌, ◌*◌}

-- docs/TABLE.md: the octets of the header; clock 8, GenTID 2, RCR_MAX 1, AEC_MAX 1, A 4, W 4, two rows of nine intervals of 4, the waiting limit 4, modes 1, TIDnew due 1, 14 spare, 256 cached TIDs of 2
abbrev pub header_size : ℕ
header_size = 624

-- docs/TABLE.md: the octets of a record; 29 of fields, 19 spare, 128 of exit information
abbrev pub record_size : ℕ
record_size = 176

abbrev pub fields_size : ℕ
fields_size = 29

abbrev pub spare_size : ℕ
spare_size = 19

-- docs/TABLE.md: where a field of the header begins
abbrev pub clock_at : ℕ
clock_at = 0

abbrev pub gen_tid_at : ℕ
gen_tid_at = 8

abbrev pub rcr_max_at : ℕ
rcr_max_at = 10

abbrev pub aec_max_at : ℕ
aec_max_at = 11

abbrev pub a_at : ℕ
a_at = 12

abbrev pub w_at : ℕ
w_at = 16

abbrev pub row1_at : ℕ
row1_at = 20

abbrev pub row2_at : ℕ
row2_at = 56

abbrev pub cached_at : ℕ
cached_at = 112

-- docs/TABLE.md: the waiting limit and the modes (02, L6)
abbrev pub limit_at : ℕ
limit_at = 92

abbrev pub modes_at : ℕ
modes_at = 96

-- docs/TABLE.md: whether TIDnew is due (02, L2)
abbrev pub tidnew_due_at : ℕ
tidnew_due_at = 97

-- docs/TABLE.md: the spare octets of the header, where they begin and how many they are
abbrev pub header_spare_at : ℕ
header_spare_at = 98

abbrev pub header_spare_size : ℕ
header_spare_size = 14

-- docs/TABLE.md: where a field of a record begins, from the record's begin; the state is its first octet
abbrev pub peer_offset : ℕ
peer_offset = 1

abbrev pub tid_offset : ℕ
tid_offset = 2

abbrev pub rcr_offset : ℕ
rcr_offset = 4

abbrev pub aec_offset : ℕ
aec_offset = 5

abbrev pub flags_offset : ℕ
flags_offset = 6

abbrev pub exit_len_offset : ℕ
exit_len_offset = 7

abbrev pub deadline_offset : ℕ
deadline_offset = 8

abbrev pub len_offset : ℕ
len_offset = 16

abbrev pub limit_offset : ℕ
limit_offset = 20

abbrev pub unknown_offset : ℕ
unknown_offset = 24

abbrev pub sent_offset : ℕ
sent_offset = 25

abbrev pub spare_offset : ℕ
spare_offset = 29

abbrev pub exit_offset : ℕ
exit_offset = 48

-- docs/TABLE.md: where record i begins, and its flags, its spare octets and its exit information
abbrev pub base : ℕ → ℕ
base i = header_size + i * record_size

abbrev pub flags_at : ℕ → ℕ
flags_at i = base i + flags_offset

abbrev pub spare_base : ℕ → ℕ
spare_base i = base i + spare_offset

abbrev pub exit_base : ℕ → ℕ
exit_base i = base i + exit_offset

-- 01: "Times are milliseconds, 0 to 1,000,000,000,000"
abbrev pub time_bound : ℕ
time_bound = 1000000000000

-- 01: "The intervals A, W and R are 1 to 86,400,000"
abbrev pub interval_bound : ℕ
interval_bound = 86400000

-- 01: "deadlines to the time bound plus 86,400,000"
abbrev pub deadline_bound : ℕ
deadline_bound = time_bound + interval_bound

-- 01: "RCR_MAX and AEC_MAX are 0 to 8"
abbrev pub maximum_bound : ℕ
maximum_bound = 8

-- 01: "the first GenTID (0 to 32,767)", and so every TID
abbrev pub tid_bound : ℕ
tid_bound = 32767

-- 01: TIDs are counted "modulo 32,768"; the same number is a TID's top bit
abbrev pub tid_count : ℕ
tid_count = 32768

-- docs/TABLE.md: the cached TID of a peer is 0 or a TID and 1
abbrev pub cached_bound : ℕ
cached_bound = tid_bound + 1

-- 01: "peers 0 to 255"
abbrev pub peer_bound : ℕ
peer_bound = 255

abbrev pub peers : ℕ
peers = 256

-- 01: "exit information 0 to 128"
abbrev pub exit_bound : ℕ
exit_bound = 128

-- 01: "1 to 48 records; one store cell of 1,024 bytes a record"
abbrev pub records_bound : ℕ
records_bound = 48

abbrev pub cell_size : ℕ
cell_size = 1024

-- 01: "output at least 1,028"
abbrev pub output_least : ℕ
output_least = 1028

-- the C interface: the words of an answer (02, L4)
abbrev pub answer_size : ℕ
answer_size = 40

-- 01, "Events": the highest number of a state, and of a record's flags, four and TIDnew (02, L2)
abbrev pub state_bound : ℕ
state_bound = 11

abbrev pub flags_bound : ℕ
flags_bound = 31

-- WAP-224, 8.4, table 25: the identities of information items are 0 to 15, and 0 to 5 are known (02, L4)
abbrev pub unknown_least : ℕ
unknown_least = 6

abbrev pub identity_bound : ℕ
identity_bound = 15

-- 01: "datagram or PDU 1 to 1,500"
abbrev pub datagram_bound : ℕ
datagram_bound = 1500
