-- When a table of the base is well formed (01, "What the reader carries"), and how a record is written there: where L6 has its fields the base has spare octets, which are zero (docs/TABLE.md).
use Rattle.std.specs.Prelude.{ℕ, ◌+◌, ◌*◌, ◌≤◌, ◌<◌, ◌≡◌, List, [], ◌∷◌, ◌++◌, ◌⊎◌, get_or}
use Rattle.base_layout.specs.Layout.{limit_at, limit_offset, unknown_offset, spare_size, spare_base, tidnew_due_at, header_spare_at, header_spare_size, base, flags_at, time_bound, deadline_bound, tid_bound, cached_bound, peers, exit_bound, cell_size, output_least, flags_bound}
use Rattle.base_lists.specs.Seq.{bit, put}
use Rattle.base_octets.specs.Octets.{enc}
use Rattle.table_record.specs.Record.{state_number, role_of, flags_of}
use Rattle.table_record.specs.declared.Record.{Record}
use Rattle.table_layout.specs.Table.{count, clock_of, gen_tid_of, settings_of, intervals_of, cached_of, record_at, clear_record, put_clock}
use Rattle.table_layout.specs.declared.Settings.{Settings}
use Rattle.table_ranges.specs.Ranges.{UnknownOk, Zeros}
use Rattle.table_header_ok.specs.Header.{SettingsOk, RowsOk}
use Rattle.table_record_ok.specs.OneRecord.{Live, FreeOk, tidnew_bound, sent_bound}
use Rattle.table_names_ok.specs.Names.{Unique}
use Rattle.table_well_formed.specs.WellFormed.{Sized}
use Rattle.step_commit.specs.Commit.{exit_stored, gen_tid_changed, cache_changed}
use Rattle.step_commit.specs.declared.Change.{Change}
use Rattle.step_commit.specs.declared.Change.TheVariants as Change
use Rattle.step_commit.specs.declared.Changes.{Changes}

-- docs/TABLE.md, before L6: 5 spare octets before the flag of TIDnew
abbrev pub base_spare : ℕ
base_spare = 5

-- docs/TABLE.md, without L6: 4 spare octets in a record, between the length of its message and the identity of L4, which the octets sent of L11 follow
abbrev pub base_record_spare : ℕ
base_record_spare = 4

-- 01: "all fields are in range", those before the records
pub record BaseHeaderOk (t : List ℕ) : Type 0 where
  pub clock : clock_of t ≤ time_bound
  pub gen_tid : gen_tid_of t ≤ tid_bound
  pub settings : SettingsOk (settings_of t)
  pub tidnew_due : get_or t tidnew_due_at 0 ≤ 1
  pub spare_1 : Zeros t limit_at base_spare
  pub spare_2 : Zeros t header_spare_at header_spare_size
  pub rows : RowsOk (intervals_of t)
  pub cached : (peer : ℕ) → peer < peers → cached_of t peer ≤ cached_bound

-- 01: "RCR and AEC to their maxima, deadlines to the time bound plus 86,400,000", and the bounds of TIDs, exit information and messages
pub record BaseBounded (s : Settings) (r : Record) : Type 0 where
  pub tid : r.tid ≤ tid_bound
  pub rcr : r.rcr.0 ≤ s.rcr_max
  pub aec : r.aec.0 ≤ s.aec_max
  pub exit : r.exit_len ≤ exit_bound
  pub deadline : r.deadline ≤ deadline_bound
  pub message : r.len ≤ cell_size
  pub tidnew : bit r.tidnew ≤ tidnew_bound (role_of r.state)
  pub unknown : UnknownOk r.unknown
  pub sent : r.sent ≤ sent_bound (role_of r.state) s.rcr_max
  pub peer : r.peer < peers

-- 01: a live record is in range, its spare bits and octets zero
pub record BaseLiveOk (t : List ℕ) (i : ℕ) : Type 0 where
  pub live : Live (record_at t i)
  pub bounds : BaseBounded (settings_of t) (record_at t i)
  pub flags : get_or t (flags_at i) 0 ≤ flags_bound
  pub spare_1 : Zeros t (base i + limit_offset) base_record_spare
  pub spare_2 : Zeros t (spare_base i) spare_size

-- 01: "A table is well formed when all fields are in range (..), free records are zero and no two live records share role, peer and TID"
pub record BaseFormed (t : List ℕ) : Type 0 where
  pub sized : Sized t
  pub header : BaseHeaderOk t
  pub records : (i : ℕ) → i < count t → FreeOk t i ⊎ BaseLiveOk t i
  pub unique : Unique t (count t)

-- 01, number 1: it isn't given where "the table, store or output" has the right size and the table is well formed
pub record BaseFitting (t : List ℕ) (store output : ℕ) : Type 0 where
  pub formed : BaseFormed t
  pub cells : store ≡ count t * cell_size
  pub room : output_least ≤ output

-- docs/TABLE.md, without L6: the first 20 octets of a record's fields
unfoldable pub base_octets : Record → List ℕ
base_octets r =
    (state_number r.state ∷ r.peer ∷ [])
    ++ (enc 2 r.tid ++ ((r.rcr.0 ∷ r.aec.0 ∷ flags_of r ∷ r.exit_len ∷ []) ++ (enc 8 r.deadline ++ enc 4 r.len)))

-- docs/TABLE.md, without L6: the identity of L4 and the octets sent of L11
abbrev pub later_octets : Record → List ℕ
later_octets r = r.unknown ∷ enc 4 r.sent

-- docs/TABLE.md, without L6: the table with both, written at place i
unfoldable pub base_put : List ℕ → ℕ → Record → List ℕ
base_put t i r = put (put t (base i) (base_octets r)) (base i + unknown_offset) (later_octets r)

-- 01: "A freed record is zeroed": the record at a place as it was, with other fields, or freed
unfoldable pub base_record_changed : List ℕ → ℕ → Change → List ℕ
base_record_changed t place Change.Nothing = t
base_record_changed t place (Change.Put r) = base_put t place r
base_record_changed t place Change.Clear = clear_record t place

-- 01: "An accepted call stores its time": the table after the changes of a call
unfoldable pub base_table_changed : List ℕ → Changes → (exit : List ℕ) → List ℕ
base_table_changed t c exit =
    put_clock
    (cache_changed
    (gen_tid_changed
    (exit_stored (base_record_changed t c.place c.change) c.place c.exit exit)
    c.gen_tid)
    c.peer
    c.cached)
    c.time
