-- "A call changes no record but the one it names, opens or fires": which record that is, and every octet that stays.
use Rattle.std.specs.Prelude.{ℕ, ◌+◌, ◌*◌, ◌≤◌, ◌<◌, ◌≡◌, Bool, true, false, List, ◌⊎◌, length, get_or, Some}
use Rattle.base_layout.specs.Layout.{header_size, record_size, gen_tid_at, rcr_max_at, tidnew_due_at, cached_at, base, cell_size}
use Rattle.table_record.specs.Record.{role_of, class_of}
use Rattle.table_record.specs.declared.Role.TheVariants.{Initiator, Responder}
use Rattle.table_record.specs.declared.Record.{Record}
use Rattle.table_record.specs.declared.State.TheVariants.{Free}
use Rattle.table_layout.specs.Table.{count, record_at}
use Rattle.table_record_ok.specs.OneRecord.{Live}
use Rattle.codec_pdu.specs.declared.Kind.TheVariants as Kind
use Rattle.codec_reading.specs.Read.{pdu_of}
use Rattle.step_arrivals.specs.Arrivals.{name_of}
use Rattle.step_plan.specs.declared.Told.TheVariants as Told
use Rattle.call_plans.specs.Calls.{Call, peer_in, is_request}
use Rattle.call_plans.specs.Concerns.{Concerns, fires}
use Rattle.law_history.specs.Trace.{Entry}
use Rattle.law_history.specs.Tally.{told_of_is, accepted, peer_of}
use Rattle.law_history.specs.Moves.{before, after}

-- where an octet of the table lies: in no octet of the record at a place, not in a peer's cached TID
abbrev pub OutsideRecord : ℕ → ℕ → Type 0
OutsideRecord place k = (k < base place) ⊎ (base place + record_size ≤ k)

abbrev pub OutsideCached : ℕ → ℕ → Type 0
OutsideCached peer k = (k < cached_at + peer * 2) ⊎ (cached_at + peer * 2 + 2 ≤ k)

-- not in GenTID, and not in the flag of TIDnew that is counted with it (02, L2)
abbrev pub OutsideGenTid : ℕ → Type 0
OutsideGenTid k = (rcr_max_at ≤ k) × (k ≡ tidnew_due_at → ⊥)

-- an octet of the store lies outside the cell of a place
abbrev pub OutsideCell : ℕ → ℕ → Type 0
OutsideCell place k = (k < place * cell_size) ⊎ (place * cell_size + cell_size ≤ k)

-- "names or fires": the live record at a place is the one that the call names or fires; if it fires one, the answer tells which
pub record NamedOrFired (e : Entry) (place : ℕ) : Type 0 where
  pub live : Live (record_at (before e) place)
  pub concerns : Concerns e.call e.lent place
  pub told : fires e.call ≡ true → told_of_is e.done.answer ≡ Told.Fired (role_of (record_at (before e) place).state) (record_at (before e) place).peer (record_at (before e) place).tid

-- a record is opened by a request, under its peer and the TID that it was given
pub record ByRequest (e : Entry) (r : Record) : Type 0 where
  pub asked : is_request e.call ≡ true
  pub role : role_of r.state ≡ Initiator
  pub peer : r.peer ≡ peer_in e.call
  pub tid : told_of_is e.done.answer ≡ Told.Tid r.tid

-- octets that are an Invoke PDU of this class and U/P
pub record IsInvoke (octets : List ℕ) (class : ℕ) (up : Bool) : Type 0 where
  pub gtr : Bool
  pub ttr : Bool
  pub rid : Bool
  pub version : ℕ
  pub tid_new : Bool
  pub is : (pdu_of octets).kind ≡ Kind.Invoke gtr ttr rid version tid_new up class

-- or by a received Invoke, under its peer and its TID, and with its class and U/P
pub record ByInvoke (e : Entry) (r : Record) : Type 0 where
  pub time : ℕ
  pub received : e.call ≡ Call.Receive time r.peer
  pub role : role_of r.state ≡ Responder
  pub names : name_of e.lent.given ≡ Some (Responder, r.tid)
  pub invoke : IsInvoke e.lent.given (class_of r.state) r.user_ack

-- "opens": the place was free and has a live record now
pub record OpenedAt (e : Entry) (place : ℕ) : Type 0 where
  pub was_free : (record_at (before e) place).state ≡ Free
  pub live : Live (record_at (after e) place)
  pub by : ByRequest e (record_at (after e) place) ⊎ ByInvoke e (record_at (after e) place)

-- no octet of any record and of the store changes
pub record NoneChanged (e : Entry) : Type 0 where
  pub records : (k : ℕ) → header_size ≤ k → get_or (after e) k 0 ≡ get_or (before e) k 0
  pub store : e.done.store ≡ e.lent.store

-- no octet of any record changes but of the one at this place, and of the store none but of its cell
pub record OneChanged (e : Entry) (place : ℕ) : Type 0 where
  pub inside : place < count (before e)
  pub why : NamedOrFired e place ⊎ OpenedAt e place
  pub records : (k : ℕ) → header_size ≤ k → OutsideRecord place k → get_or (after e) k 0 ≡ get_or (before e) k 0
  pub store : (k : ℕ) → OutsideCell place k → get_or e.done.store k 0 ≡ get_or e.lent.store k 0

-- of the header only the clock, GenTID and the flag of TIDnew by a request, and the cached TID of the peer of the call
abbrev pub HeaderKept : Entry → Type 0
HeaderKept e = (k : ℕ) → gen_tid_at ≤ k → k < header_size → (is_request e.call ≡ false) ⊎ OutsideGenTid k → OutsideCached (peer_of e.call e.done.answer) k → get_or (after e) k 0 ≡ get_or (before e) k 0

-- "A refusal gives only its number and changes no lent byte"
abbrev pub Untouched : Entry → Type 0
Untouched e = (after e ≡ before e) × ((e.done.store ≡ e.lent.store) × (e.done.output ≡ e.lent.output))

-- "A call changes no record but the one it names, opens or fires", and a refused one nothing at all
pub record CallFramed (e : Entry) (h : List Entry) : Type 0 where
  pub lengths : (length (after e) ≡ length (before e)) × (length e.done.store ≡ length e.lent.store)
  pub header : HeaderKept e
  pub records : NoneChanged e ⊎ ((place : ℕ) × OneChanged e place)
  pub refused : accepted e.done.answer ≡ false → Untouched e
