-- The changes of a call, octet by octet: past the header they touch the octets of the record at their place alone, in the header the clock, GenTID and the flag of TIDnew where they are set, and the cached TID of their peer. Assumes nothing.
use Prim.Native.Nat.{ℕ, ◌+◌, ◌*◌, ◌≤◌, ◌<◌}
use native.Mathlib.Omega.{arith}
use mathlib.Core.Path.{◌≡◌, refl, ◌∙◌}
use mathlib.Core.Bool.{Bool, true, false}
use mathlib.Core.List.{List, [], ◌∷◌}
use mathlib.Core.Logic.{◌⊎◌, inl, inr}
use lib.ListN.{length, get_or, replicate, length-replicate}
use Rattle.std.specs.Prelude.{Option, Some, None}
use Rattle.base_layout.specs.Layout.{header_size, record_size, gen_tid_at, tidnew_due_at, cached_at, base, exit_base, peers, exit_bound}
use Rattle.base_lists.specs.Seq.{bit, put}
use Rattle.base_lists.proofs.StoresAndParts.{lt_or_le}
use Rattle.base_octets.specs.Octets.{enc, Apart}
use Rattle.base_octets.proofs.StoredAndRead.{length_enc}
use Rattle.table_record.specs.Record.{octets_of}
use Rattle.table_record.proofs.Back.{length_octets_holds}
use Rattle.table_layout.specs.Table.{put_record, clear_record, put_gen_tid, put_tidnew_due, put_cached, put_clock}
use Rattle.table_layout.proofs.Apart.{octet_apart}
use Rattle.step_commit.specs.Commit.{record_changed, exit_stored, gen_tid_changed, cache_changed, table_changed}
use Rattle.step_commit.specs.declared.Change.{Change}
use Rattle.step_commit.specs.declared.Change.TheVariants.{Nothing, Put, Clear}
use Rattle.step_commit.specs.declared.GenTid.{GenTid}
use Rattle.step_commit.specs.declared.Changes.{Changes}
use Rattle.law_history.specs.Changed.{OutsideRecord, OutsideCached, OutsideGenTid}

module _ (k : ℕ) where
  abbrev Same : List ℕ → List ℕ → Type 0
  Same t u = get_or u k 0 ≡ get_or t k 0

  clock_same : (t : List ℕ) (v : ℕ) → gen_tid_at ≤ k → Same t (put_clock t v)
  unfolding put_clock
  clock_same t v h = octet_apart t 0 (enc 8 v) k (inr (omega (arith, length_enc 8 v)))

  cached_same : (t : List ℕ) (peer : ℕ) (c : Option ℕ) → (c ≡ None) ⊎ OutsideCached peer k → Same t (cache_changed t peer c)
  unfolding cache_changed put_cached
  cached_same t peer c (inl e) = rw e refl
  cached_same t peer None (inr o) = refl
  cached_same t peer (Some v) (inr (inl h)) = octet_apart t (cached_at + peer * 2) (enc 2 v) k (inl (omega arith))
  cached_same t peer (Some v) (inr (inr h)) = octet_apart t (cached_at + peer * 2) (enc 2 v) k (inr (omega (arith, length_enc 2 v)))

  -- past the header lies neither
  past_gen_tid : header_size ≤ k → OutsideGenTid k
  past_gen_tid h = (omega arith, λ e. omega (arith, e))

  off_due : (k ≡ tidnew_due_at → ⊥) → (k < tidnew_due_at) ⊎ (tidnew_due_at ≤ k) → Apart k 1 tidnew_due_at 1
  off_due d (inl h) = inl (omega arith)
  off_due d (inr h) = inr (omega (arith, d))

  gen_tid_same : (t : List ℕ) (c : Option GenTid) → (c ≡ None) ⊎ OutsideGenTid k → Same t (gen_tid_changed t c)
  unfolding gen_tid_changed put_gen_tid put_tidnew_due
  gen_tid_same t c (inl e) = rw e refl
  gen_tid_same t None (inr h) = refl
  gen_tid_same t (Some g) (inr h) =
      octet_apart (put t 8 (enc 2 g.tid)) tidnew_due_at (bit g.tidnew_due ∷ []) k (off_due h.1 (lt_or_le k tidnew_due_at))
      ∙ octet_apart t 8 (enc 2 g.tid) k (inr (omega (arith, h.0, length_enc 2 g.tid)))

  -- a store within a record is apart from what lies outside it
  off : (place start n : ℕ) → base place ≤ start → start + n ≤ base place + record_size → OutsideRecord place k → Apart k 1 start n
  off place start n a b (inl h) = inl (omega arith)
  off place start n a b (inr h) = inr (omega arith)

  changed_same : (t : List ℕ) (place : ℕ) (c : Change) → OutsideRecord place k → Same t (record_changed t place c)
  unfolding record_changed put_record clear_record
  changed_same t place Nothing o = refl
  changed_same t place (Put r) o = octet_apart t (base place) (octets_of r) k (off place (base place) (length (octets_of r)) (omega arith) (omega (arith, length_octets_holds r)) o)
  changed_same t place Clear o =
      octet_apart t (base place) (replicate {A = ℕ} record_size 0) k (off place (base place) (length (replicate {A = ℕ} record_size 0)) (omega arith) (omega (arith, length-replicate {A = ℕ} record_size 0)) o)

  exit_same : (t : List ℕ) (place : ℕ) (stored : Bool) (exit : List ℕ) → length exit ≤ exit_bound → OutsideRecord place k → Same t (exit_stored t place stored exit)
  unfolding exit_stored
  exit_same t place true exit h o = octet_apart t (exit_base place) exit k (off place (exit_base place) (length exit) (omega arith) (omega (arith, h)) o)
  exit_same t place false exit h o = refl

  module _ (t : List ℕ) (c : Changes) (exit : List ℕ) (fits : length exit ≤ exit_bound) (peer : c.peer < peers) where
    -- past the header: every octet of every other record
    pub other_octets : header_size ≤ k → OutsideRecord c.place k → Same t (table_changed t c exit)
    unfolding table_changed
    other_octets past o =
        clock_same _ c.time (omega arith)
        ∙ (cached_same _ c.peer c.cached (inr (inr (omega (arith, peer))))
        ∙ (gen_tid_same _ c.gen_tid (inr (past_gen_tid past))
        ∙ (exit_same _ c.place c.exit exit fits o ∙ changed_same t c.place c.change o)))

    -- and where no record changes every octet of all
    pub all_octets : c.change ≡ Nothing → c.exit ≡ false → header_size ≤ k → Same t (table_changed t c exit)
    unfolding table_changed record_changed exit_stored
    all_octets none unstored past =
        clock_same _ c.time (omega arith)
        ∙ (cached_same _ c.peer c.cached (inr (inr (omega (arith, peer))))
        ∙ (gen_tid_same _ c.gen_tid (inr (past_gen_tid past)) ∙ rw (none, unstored) refl))

    -- in the header
    pub header_octets : gen_tid_at ≤ k → k < header_size → (c.gen_tid ≡ None) ⊎ OutsideGenTid k → (c.cached ≡ None) ⊎ OutsideCached c.peer k → Same t (table_changed t c exit)
    unfolding table_changed
    header_octets past inside gen cached =
        clock_same _ c.time past
        ∙ (cached_same _ c.peer c.cached cached
        ∙ (gen_tid_same _ c.gen_tid gen
        ∙ (exit_same _ c.place c.exit exit fits (inl (omega (arith, inside))) ∙ changed_same t c.place c.change (inl (omega (arith, inside))))))
