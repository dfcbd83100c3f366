-- The octets of a table (01, "What the reader carries"): a header, then 1 to 48 records.
use Rattle.std.specs.Prelude.{ℕ, zero, suc, ◌+◌, ◌*◌, ◌-◌, ◌/◌, ◌≤◌, List, [], ◌∷◌, Bool, length, get_or, replicate, eqb}
use Rattle.base_layout.specs.Layout.{header_size, record_size, fields_size, clock_at, gen_tid_at, rcr_max_at, aec_max_at, a_at, w_at, row1_at, row2_at, limit_at, tidnew_due_at, cached_at, base}
use Rattle.base_lists.specs.Seq.{bit, put}
use Rattle.base_octets.specs.Octets.{num, enc, gets}
use Rattle.table_record.specs.Record.{decoded, octets_of}
use Rattle.table_record.specs.declared.Record.{Record}
use Rattle.table_layout.specs.declared.Settings.{Settings}

-- how many records a table has
abbrev pub count : List ℕ → ℕ
count t = (length t - header_size) / record_size

-- the header lies whole in the octets
abbrev pub HasHeader : List ℕ → Type 0
HasHeader t = header_size ≤ length t

-- the header and n records do
abbrev pub HasRecords : List ℕ → ℕ → Type 0
HasRecords t n = header_size + n * record_size ≤ length t

-- the header and record i do
abbrev pub HasRecord : List ℕ → ℕ → Type 0
HasRecord t i = base i + record_size ≤ length t

-- the last accepted time
unfoldable pub clock_of : List ℕ → ℕ
clock_of t = num (gets 8 clock_at t)

-- the TID of the next request
unfoldable pub gen_tid_of : List ℕ → ℕ
gen_tid_of t = num (gets 2 gen_tid_at t)

-- 02, L2: whether the next Invoke of class 1 or 2 carries TIDnew
unfoldable pub tidnew_due_of : List ℕ → Bool
tidnew_due_of t = eqb (get_or t tidnew_due_at 0) 1

-- RCR_MAX, AEC_MAX, A, W and the waiting limit (02, L6), which is 0 where the mode is off
unfoldable pub settings_of : List ℕ → Settings
settings_of t = record { rcr_max = get_or t rcr_max_at 0; aec_max = get_or t aec_max_at 0; a = num (gets 4 a_at t); w = num (gets 4 w_at t); limit = num (gets 4 limit_at t) }

-- n numbers of four octets
unfoldable pub fours : ℕ → ℕ → List ℕ → List ℕ
fours zero at t = []
fours (suc n) at t = num (gets 4 at t) ∷ fours n (at + 4) t

-- 01: "R[RCR] is one of two rows of nine intervals, class 1 and class 2"
unfoldable pub intervals_of : List ℕ → List (List ℕ)
intervals_of t = fours 9 row1_at t ∷ fours 9 row2_at t ∷ []

-- the cached TID of a peer: 0 is none, else the TID and 1
unfoldable pub cached_of : List ℕ → ℕ → ℕ
cached_of t peer = num (gets 2 (cached_at + peer * 2) t)

-- the fields of record i
unfoldable pub record_at : List ℕ → ℕ → Record
record_at t i = decoded (gets fields_size (base i) t)

-- the table with the fields of record i put
unfoldable pub put_record : List ℕ → ℕ → Record → List ℕ
put_record t i r = put t (base i) (octets_of r)

-- 01: "A freed record is zeroed"
unfoldable pub clear_record : List ℕ → ℕ → List ℕ
clear_record t i = put t (base i) (replicate record_size 0)

unfoldable pub put_clock : List ℕ → ℕ → List ℕ
put_clock t time = put t clock_at (enc 8 time)

unfoldable pub put_gen_tid : List ℕ → ℕ → List ℕ
put_gen_tid t tid = put t gen_tid_at (enc 2 tid)

unfoldable pub put_tidnew_due : List ℕ → Bool → List ℕ
put_tidnew_due t due = put t tidnew_due_at (bit due ∷ [])

unfoldable pub put_cached : List ℕ → ℕ → ℕ → List ℕ
put_cached t peer cached = put t (cached_at + peer * 2) (enc 2 cached)
