-- One record of a well-formed table (01, "What the reader carries"): as a sentence, and as a test.
use Rattle.std.specs.Prelude.{ℕ, ◌≤◌, ◌<◌, List, [], ◌∷◌, Bool, ◌⊎◌, get_or, leb, eqb}
use Rattle.base_layout.specs.Layout.{record_size, spare_size, base, flags_at, spare_base, interval_bound, deadline_bound, tid_bound, peer_bound, peers, exit_bound, cell_size, state_bound, flags_bound}
use Rattle.base_lists.specs.Seq.{pick, bit}
use Rattle.table_record.specs.Record.{state_number, role_of, sent_most}
use Rattle.table_record.specs.declared.Role.{Role}
use Rattle.table_record.specs.declared.Role.TheVariants.{Initiator, Responder}
use Rattle.table_record.specs.declared.Record.{Record}
use Rattle.table_layout.specs.Table.{record_at}
use Rattle.table_layout.specs.declared.Settings.{Settings}
use Rattle.table_ranges.specs.Ranges.{UnknownOk, unknown_ok, Zeros, zeros, all_of}

-- a record is live when its state isn't free
abbrev pub Live : Record → Type 0
Live r = 1 ≤ state_number r.state

-- 02, L2, "Our initiator sets the flag": TIDnew of a record is 0 or 1, a responder's 0
abbrev pub tidnew_bound : Role → ℕ
tidnew_bound Initiator = 1
tidnew_bound Responder = 0

-- 02, L11, "at most (1 + RCR_MAX) times (4 + n)": what an initiator's record may have counted; a responder's counts nothing
abbrev pub sent_bound : Role → ℕ → ℕ
sent_bound Initiator rcrMax = sent_most rcrMax
sent_bound Responder rcrMax = 0

-- 01: "RCR and AEC to their maxima, deadlines to the time bound plus 86,400,000", and the bounds of TIDs, exit information and messages
pub record Bounded (s : Settings) (r : Record) : Type 0 where
  pub tid : r.tid ≤ tid_bound
  pub rcr : r.rcr.0 ≤ s.rcr_max
  pub aec : r.aec.0 ≤ s.aec_max
  pub exit : r.exit_len ≤ exit_bound
  pub deadline : r.deadline ≤ deadline_bound
  pub message : r.len ≤ cell_size
  pub tidnew : bit r.tidnew ≤ tidnew_bound (role_of r.state)
  -- 02, L6: "a waiting limit, 1 to 86,400,000", and 0 where none is in force
  pub limit : r.limit ≤ interval_bound
  -- 02, L4: "The record keeps that identity", 6 to 15, and 0 where there was none
  pub unknown : UnknownOk r.unknown
  pub sent : r.sent ≤ sent_bound (role_of r.state) s.rcr_max
  pub peer : r.peer < peers

-- 01: "all fields are in range (a state for its role and class, ..)": a live record within its bounds
pub record InRange (s : Settings) (r : Record) : Type 0 where
  pub live : Live r
  pub bounds : Bounded s r

-- a live record is in range, its spare bits and octets zero
pub record LiveOk (t : List ℕ) (s : Settings) (i : ℕ) : Type 0 where
  pub range : InRange s (record_at t i)
  pub flags : get_or t (flags_at i) 0 ≤ flags_bound
  pub spare : Zeros t (spare_base i) spare_size

-- 01: "free records are zero"
abbrev pub FreeOk : List ℕ → ℕ → Type 0
FreeOk t i = Zeros t (base i) record_size

abbrev pub RecordOk : List ℕ → Settings → ℕ → Type 0
RecordOk t s i = FreeOk t i ⊎ LiveOk t s i

-- the test of a live record's fields, but for its state
abbrev pub range_tests : Settings → Record → List Bool
range_tests s r =
    leb r.tid tid_bound
    ∷ leb r.rcr.0 s.rcr_max
    ∷ leb r.aec.0 s.aec_max
    ∷ leb r.exit_len exit_bound
    ∷ leb r.deadline deadline_bound
    ∷ leb r.len cell_size
    ∷ leb (bit r.tidnew) (tidnew_bound (role_of r.state))
    ∷ leb r.limit interval_bound
    ∷ unknown_ok r.unknown
    ∷ leb r.sent (sent_bound (role_of r.state) s.rcr_max)
    ∷ leb r.peer peer_bound
    ∷ []

unfoldable pub in_range : Settings → Record → Bool
in_range s r = all_of (range_tests s r)

-- the test of a record whose state octet isn't zero
abbrev pub live_tests : List ℕ → Settings → ℕ → List Bool
live_tests t s i =
    leb (get_or t (base i) 0) state_bound
    ∷ leb (get_or t (flags_at i) 0) flags_bound
    ∷ in_range s (record_at t i)
    ∷ zeros t (spare_base i) spare_size
    ∷ []

unfoldable pub live_ok : List ℕ → Settings → ℕ → Bool
live_ok t s i = all_of (live_tests t s i)

-- the test of a record
unfoldable pub record_ok : List ℕ → Settings → ℕ → Bool
record_ok t s i = pick (eqb (get_or t (base i) 0) 0) (zeros t (base i) record_size) (live_ok t s i)
