-- The changes of a call touch the record at its place, one peer's cached TID, GenTID with its flag of TIDnew and the clock, and nothing else. Assumes nothing.
use Prim.Native.Nat.{ℕ, ◌+◌, ◌*◌, ◌≤◌, ◌<◌}
use native.Mathlib.Omega.{arith}
use mathlib.Core.Path.{◌≡◌, refl, ◌∙◌}
use mathlib.Core.List.{List, [], ◌∷◌}
use mathlib.Core.Logic.{inl, inr}
use mathlib.Core.Bool.{Bool, true, false}
use lib.ListN.{length, replicate, length-replicate}
use Rattle.std.specs.Prelude.{Option, Some, None}
use Rattle.base_layout.specs.Layout.{record_size, fields_size, tidnew_due_at, cached_at, exit_offset, base, peers, exit_bound}
use Rattle.base_lists.specs.Seq.{bit, put}
use Rattle.base_octets.specs.Octets.{enc, Apart}
use Rattle.base_octets.proofs.StoredAndRead.{apart_rows, length_enc}
use Rattle.table_record.specs.Record.{octets_of}
use Rattle.table_record.proofs.Back.{length_octets_holds}
use Rattle.table_layout.specs.Table.{settings_of, intervals_of, cached_of, record_at, put_record, clear_record, put_gen_tid, put_tidnew_due, put_cached, put_clock}
use Rattle.table_layout.proofs.Apart.{settings_apart, rows_apart, cached_apart, record_apart}
use Rattle.table_layout.proofs.Put.{apart_records, clock_same}
use Rattle.table_well_formed.specs.WellFormed.{WellFormed}
use Rattle.step_commit.specs.declared.Change.{Change}
use Rattle.step_commit.specs.declared.Change.TheVariants.{Nothing, Put, Clear}
use Rattle.step_commit.specs.declared.GenTid.{GenTid}
use Rattle.step_commit.specs.declared.Changes.{Changes}
use Rattle.step_commit.specs.Commit.{record_changed, exit_stored, gen_tid_changed, cache_changed, table_changed}
use Rattle.step_commit.proofs.Length.{length_clock, length_after}
use Rattle.law_commit.specs.Allowed.{Allowed, Framed}

-- u is t but for the record at a place, the cached TID of a peer, GenTID and the clock
record Same (place peer : ℕ) (t u : List ℕ) : Type 0 where
  other_records : (j : ℕ) → (j ≡ place → ⊥) → record_at u j ≡ record_at t j
  settings : settings_of u ≡ settings_of t
  rows : intervals_of u ≡ intervals_of t
  other_peers : (p : ℕ) → p < peers → (p ≡ peer → ⊥) → cached_of u p ≡ cached_of t p

module _ (place peer : ℕ) where
  itself : (t : List ℕ) → Same place peer t t
  itself t = record { other_records = λ j d. refl; settings = refl; rows = refl; other_peers = λ p h d. refl }

  then_same : (t u v : List ℕ) → Same place peer t u → Same place peer u v → Same place peer t v
  then_same t u v a b = record {
    other_records = λ j d. b.other_records j d ∙ a.other_records j d;
    settings = b.settings ∙ a.settings;
    rows = b.rows ∙ a.rows;
    other_peers = λ p h d. b.other_peers p h d ∙ a.other_peers p h d;
  }

  -- a store that meets none of these
  stored : (t : List ℕ) (b : ℕ) (w : List ℕ) → ((j : ℕ) → (j ≡ place → ⊥) → Apart (base j) fields_size b (length w)) → Apart 10 87 b (length w)
      → ((p : ℕ) → p < peers → (p ≡ peer → ⊥) → Apart (cached_at + p * 2) 2 b (length w)) → Same place peer t (put t b w)
  stored t b w r s c = record {
    other_records = λ j d. record_apart t b w j (r j d);
    settings = settings_apart t b w s;
    rows = rows_apart t b w s;
    other_peers = λ p h d. cached_apart t b w p (c p h d);
  }

  in_record : (t : List ℕ) (k : ℕ) (w : List ℕ) → k + length w ≤ record_size → Same place peer t (put t (base place + k) w)
  in_record t k w h =
      stored t (base place + k) w (λ j d. first j (apart_records j place 0 fields_size k (length w) d (omega arith) h)) (inl (omega arith)) (λ p l d. inl (omega arith))
    where
      first : (j : ℕ) → Apart (base j + 0) fields_size (base place + k) (length w) → Apart (base j) fields_size (base place + k) (length w)
      first j (inl l) = inl (omega arith)
      first j (inr l) = inr (omega arith)

  of_record : (t : List ℕ) (w : List ℕ) → length w ≤ record_size → Same place peer t (put t (base place) w)
  of_record t w h =
      let e : base place + 0 ≡ base place = omega arith in
      rw e at (in_record t 0 w (omega arith))

  changed : (t : List ℕ) (c : Change) → Same place peer t (record_changed t place c)
  unfolding record_changed put_record clear_record
  changed t Nothing = itself t
  changed t (Put r) = of_record t (octets_of r) (omega (arith, length_octets_holds r))
  changed t Clear = of_record t (replicate record_size 0) (omega (arith, length-replicate {A = ℕ} record_size 0))

  exit_same : (t : List ℕ) (b : Bool) (exit : List ℕ) → length exit ≤ exit_bound → Same place peer t (exit_stored t place b exit)
  unfolding exit_stored
  exit_same t true exit h = in_record t exit_offset exit (omega arith)
  exit_same t false exit h = itself t

  gen_tid_same : (t : List ℕ) (c : Option GenTid) → Same place peer t (gen_tid_changed t c)
  unfolding gen_tid_changed put_gen_tid put_tidnew_due
  gen_tid_same t None = itself t
  gen_tid_same t (Some g) =
      let n : length (enc 2 g.tid) ≡ 2 = length_enc 2 g.tid in
      then_same t (put t 8 (enc 2 g.tid)) _
      (stored t 8 (enc 2 g.tid) (λ j d. inr (omega arith)) (inr (omega arith)) (λ p h d. inr (omega arith)))
      (stored (put t 8 (enc 2 g.tid)) tidnew_due_at (bit g.tidnew_due ∷ []) (λ j d. inr (omega arith)) (inl (omega arith)) (λ p h d. inr (omega arith)))

  cached_same : (t : List ℕ) (c : Option ℕ) → peer < peers → Same place peer t (cache_changed t peer c)
  unfolding cache_changed put_cached
  cached_same t None l = itself t
  cached_same t (Some v) l =
      let n : length (enc 2 v) ≡ 2 = length_enc 2 v in
      stored t (cached_at + peer * 2) (enc 2 v) (λ j d. inr (omega arith)) (inl (omega arith)) (λ p h d. rw n (apart_rows cached_at 2 p peer d))

  clock_other : (t : List ℕ) (v : ℕ) → Same place peer t (put_clock t v)
  unfolding put_clock
  clock_other t v =
      let n : length (enc 8 v) ≡ 8 = length_enc 8 v in
      stored t 0 (enc 8 v) (λ j d. inr (omega arith)) (inr (omega arith)) (λ p h d. inr (omega arith))

pub commit_frames : (t : List ℕ) (c : Changes) (exit : List ℕ) → WellFormed t → Allowed t c exit → Framed t (table_changed t c exit) c
unfolding table_changed
commit_frames t c exit w ok =
    let i : ℕ = c.place in
    let p : ℕ = c.peer in
    let t₁ : List ℕ = record_changed t i c.change in
    let t₂ : List ℕ = exit_stored t₁ i c.exit exit in
    let t₃ : List ℕ = gen_tid_changed t₂ c.gen_tid in
    let t₄ : List ℕ = cache_changed t₃ p c.cached in
    let s₂ : Same i p t t₂ = then_same i p t t₁ t₂ (changed i p t c.change) (exit_same i p t₁ c.exit exit ok.exit_fits) in
    let s₄ : Same i p t t₄ = then_same i p t t₂ t₄ s₂ (then_same i p t₂ t₃ t₄ (gen_tid_same i p t₂ c.gen_tid) (cached_same i p t₃ c.cached ok.peer)) in
    let s : Same i p t (put_clock t₄ c.time) = then_same i p t t₄ (put_clock t₄ c.time) s₄ (clock_other i p t₄ c.time) in
    record {
      same_length = length_after t c exit;
      other_records = s.other_records;
      settings = s.settings;
      rows = s.rows;
      other_peers = s.other_peers;
      clock = clock_same t₄ c.time (omega (arith, length_after t c exit, length_clock t₄ c.time, w.sized.whole)) (omega (arith, ok.time));
    }
