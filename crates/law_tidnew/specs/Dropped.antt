-- What an Invoke with TIDnew drops, and until when nothing is cached (02, L2).
use Rattle.std.specs.Prelude.{ℕ, ◌≤◌, ◌<◌, ◌≡◌, Bool, true, List, ◌⊎◌, Some, None, is_some}
use Rattle.base_layout.specs.Layout.{peers, cell_size}
use Rattle.table_record.specs.declared.Role.TheVariants.{Responder}
use Rattle.table_layout.specs.Table.{count, cached_of, record_at}
use Rattle.table_record_ok.specs.OneRecord.{Live}
use Rattle.table_finding.specs.Finding.{named_of, free_of}
use Rattle.codec_pdu.specs.declared.Kind.TheVariants as Kind
use Rattle.codec_reading.specs.Read.{pdu_of}
use Rattle.row_events.specs.declared.Event.{Event}
use Rattle.row_events.specs.declared.Row.TheVariants as Row
use Rattle.step_arrivals.specs.Arrivals.{name_of, invokes_us}
use Rattle.step_live.specs.Turning.{row_at}
use Rattle.step_outcome.specs.Carry.{Lent}

-- "An Invoke of class 1 or 2 with TIDnew set, with no live record and past the other tests": version 0, TTR set, data to 1,024, a free record
pub record Restarts (l : Lent) (peer : ℕ) : Type 0 where
  pub tid : ℕ
  pub class : ℕ
  pub gtr : Bool
  pub rid : Bool
  pub up : Bool
  pub names : name_of l.given ≡ Some (Responder, tid)
  pub no_record : named_of l.table (count l.table) Responder peer tid ≡ None
  pub to_us : invokes_us l.given ≡ true
  pub invoke : (pdu_of l.given).kind ≡ Kind.Invoke gtr true rid 0 true up class
  pub some : 1 ≤ class
  pub short : (pdu_of l.given).len ≤ cell_size
  pub free : is_some (free_of l.table (count l.table)) ≡ true

-- "drops the cached TID for that peer", and no other peer's
pub record Dropped (before after : List ℕ) (peer : ℕ) : Type 0 where
  pub none : cached_of after peer ≡ 0
  pub others : (p : ℕ) → p < peers → (p ≡ peer → ⊥) → cached_of after p ≡ cached_of before p

-- a verification of the peer ends: a live record of its takes TIDok in TIDOK WAIT, the rows "TIDok: as valid" of either class
pub record VerificationEnds (t : List ℕ) (peer : ℕ) : Type 0 where
  pub place : ℕ
  pub event : Event
  pub live : Live (record_at t place)
  pub of_peer : (record_at t place).peer ≡ peer
  pub row : (row_at t place event ≡ Row.Verified1) ⊎ (row_at t place event ≡ Row.Verified2)

-- where nothing is cached for a peer, a call leaves it so, or ends a verification of that peer's
abbrev pub StaysNone : List ℕ → List ℕ → ℕ → Type 0
StaysNone before after peer = (cached_of after peer ≡ 0) ⊎ VerificationEnds before peer
