-- What the changes of a call leave, read back: GenTID and the flag of TIDnew, the peer's cached TID, and the record at their place. Assumes nothing.
use Prim.Native.Nat.{ℕ, ◌+◌, ◌*◌, ◌≤◌}
use native.Mathlib.Omega.{arith}
use mathlib.Core.Path.{◌≡◌, refl, ap, ◌∙◌}
use mathlib.Core.Bool.{Bool, true, false}
use mathlib.Core.List.{List, [], ◌∷◌}
use mathlib.Core.Logic.{◌⊎◌, inl, inr}
use lib.ListN.{length, get_or, replicate, length-replicate}
use Rattle.std.specs.Prelude.{Option, Some, None}
use Rattle.base_layout.specs.Layout.{header_size, record_size, fields_size, tidnew_due_at, header_spare_at, cached_at, base, exit_base}
use Rattle.base_lists.specs.Seq.{bit, put}
use Rattle.base_lists.proofs.StoresAndParts.{length_put}
use Rattle.base_octets.specs.Octets.{enc, Apart}
use Rattle.base_octets.proofs.StoredAndRead.{length_enc, get_same}
use Rattle.table_record.specs.Record.{state_of, octets_of}
use Rattle.table_record.specs.declared.State.TheVariants.{Free}
use Rattle.table_record.specs.declared.Record.{Record}
use Rattle.table_layout.specs.Table.{gen_tid_of, tidnew_due_of, cached_of, record_at, put_record, clear_record, put_gen_tid, put_tidnew_due, put_cached, put_clock}
use Rattle.table_layout.proofs.Apart.{gen_tid_apart, tidnew_due_apart, cached_apart, record_apart}
use Rattle.table_layout.proofs.Put.{record_same, gen_tid_same, tidnew_due_same, cached_same}
use Rattle.table_record_ok.proofs.States.{state_octet}
use Rattle.table_well_formed.specs.WellFormed.{WellFormed}
use Rattle.law_formed_kept.proofs.InRecord.{equal_or}
use Rattle.law_formed_kept.proofs.Keeps.{range_fits}
use Rattle.step_commit.specs.Commit.{record_changed, exit_stored, gen_tid_changed, cache_changed, table_changed}
use Rattle.step_commit.specs.declared.Change.{Change}
use Rattle.step_commit.specs.declared.Change.TheVariants.{Nothing, Put, Clear}
use Rattle.step_commit.specs.declared.GenTid.{GenTid}
use Rattle.step_commit.specs.declared.Changes.{Changes}
use Rattle.step_commit.proofs.Length.{length_after, length_clock}
use Rattle.law_commit.specs.Allowed.{ChangeOk, SetOk, CountOk, Allowed}
use Rattle.law_commit.proofs.Frame.{commit_frames}

-- a reading of the n octets at `at` sees no store apart from them
module _ {A : Type 0} (f : List ℕ → A) (at n : ℕ) (apart : (t : List ℕ) (b : ℕ) (w : List ℕ) → Apart at n b (length w) → f (put t b w) ≡ f t) where
  past_record : (t : List ℕ) (place : ℕ) (c : Change) → at + n ≤ base place → f (record_changed t place c) ≡ f t
  unfolding record_changed put_record clear_record
  past_record t place Nothing h = refl
  past_record t place (Put r) h = apart t (base place) (octets_of r) (inl h)
  past_record t place Clear h = apart t (base place) (replicate record_size 0) (inl h)

  past_exit : (t : List ℕ) (place : ℕ) (stored : Bool) (exit : List ℕ) → at + n ≤ exit_base place → f (exit_stored t place stored exit) ≡ f t
  unfolding exit_stored
  past_exit t place true exit h = apart t (exit_base place) exit (inl h)
  past_exit t place false exit h = refl

  past_due : (t : List ℕ) (due : Bool) → Apart at n tidnew_due_at 1 → f (put_tidnew_due t due) ≡ f t
  unfolding put_tidnew_due
  past_due t due h = apart t tidnew_due_at (bit due ∷ []) h

  past_gen_tid : (t : List ℕ) (c : Option GenTid) → header_spare_at ≤ at → f (gen_tid_changed t c) ≡ f t
  unfolding gen_tid_changed put_gen_tid
  past_gen_tid t None h = refl
  past_gen_tid t (Some g) h = past_due _ g.tidnew_due (inr (omega arith)) ∙ apart t 8 (enc 2 g.tid) (inr (omega (arith, length_enc 2 g.tid)))

  past_cached : (t : List ℕ) (peer : ℕ) (c : Option ℕ) → Apart at n (cached_at + peer * 2) 2 → f (cache_changed t peer c) ≡ f t
  unfolding cache_changed put_cached
  past_cached t peer None h = refl
  past_cached t peer (Some v) h = apart t (cached_at + peer * 2) (enc 2 v) (rw (length_enc 2 v) h)

  past_clock : (t : List ℕ) (time : ℕ) → 8 ≤ at → f (put_clock t time) ≡ f t
  unfolding put_clock
  past_clock t time h = apart t 0 (enc 8 time) (inr (omega (arith, length_enc 8 time)))

-- a number of the header, as it is set or kept
abbrev pub header_then : Option ℕ → ℕ → ℕ
header_then None was = was
header_then (Some v) was = v

abbrev pub gen_tid_then : Option GenTid → ℕ → ℕ
gen_tid_then None was = was
gen_tid_then (Some g) was = g.tid

-- and the flag of TIDnew with it
abbrev pub due_then : Option GenTid → Bool → Bool
due_then None was = was
due_then (Some g) was = g.tidnew_due

module _ (t : List ℕ) (c : Changes) (exit : List ℕ) (w : WellFormed t) (ok : Allowed t c exit) where
  abbrev t₂ : List ℕ
  t₂ = exit_stored (record_changed t c.place c.change) c.place c.exit exit

  abbrev t₃ : List ℕ
  t₃ = gen_tid_changed t₂ c.gen_tid

  -- the changes but for the header's
  abbrev inRecord : Changes
  inRecord = record { place = c.place; change = c.change; exit = c.exit; gen_tid = None; peer = c.peer; cached = None; time = c.time }

  abbrev butCached : Changes
  butCached = record { place = c.place; change = c.change; exit = c.exit; gen_tid = c.gen_tid; peer = c.peer; cached = None; time = c.time }

  sized₂ : header_size ≤ length t₂
  unfolding table_changed gen_tid_changed cache_changed
  sized₂ = omega (arith, length_clock t₂ c.time, length_after t inRecord exit, w.sized.whole)

  sized₃ : header_size ≤ length t₃
  unfolding table_changed cache_changed
  sized₃ = omega (arith, length_clock t₃ c.time, length_after t butCached exit, w.sized.whole)

  gen_tid_set : (h : Option GenTid) → CountOk h → gen_tid_of (gen_tid_changed t₂ h) ≡ gen_tid_then h (gen_tid_of t₂)
  unfolding gen_tid_changed CountOk
  gen_tid_set None k = refl
  gen_tid_set (Some g) k = past_due gen_tid_of 8 2 gen_tid_apart _ g.tidnew_due (inl (omega arith)) ∙ gen_tid_same t₂ g.tid sized₂ (omega arith)

  pub gen_tid_left : gen_tid_of (table_changed t c exit) ≡ gen_tid_then c.gen_tid (gen_tid_of t)
  unfolding table_changed
  gen_tid_left =
      let before : gen_tid_of t₂ ≡ gen_tid_of t = past_exit gen_tid_of 8 2 gen_tid_apart _ c.place c.exit exit (omega arith) ∙ past_record gen_tid_of 8 2 gen_tid_apart t c.place c.change (omega arith) in
      past_clock gen_tid_of 8 2 gen_tid_apart _ c.time (omega arith)
      ∙ past_cached gen_tid_of 8 2 gen_tid_apart t₃ c.peer c.cached (inl (omega arith))
      ∙ gen_tid_set c.gen_tid ok.gen_tid
      ∙ ap (gen_tid_then c.gen_tid) before

  due_set : (h : Option GenTid) → tidnew_due_of (gen_tid_changed t₂ h) ≡ due_then h (tidnew_due_of t₂)
  unfolding gen_tid_changed put_gen_tid
  due_set None = refl
  due_set (Some g) = tidnew_due_same (put t₂ 8 (enc 2 g.tid)) g.tidnew_due (omega (arith, sized₂, length_put t₂ 8 (enc 2 g.tid)))

  pub tidnew_due_left : tidnew_due_of (table_changed t c exit) ≡ due_then c.gen_tid (tidnew_due_of t)
  unfolding table_changed
  tidnew_due_left =
      let before : tidnew_due_of t₂ ≡ tidnew_due_of t = past_exit tidnew_due_of tidnew_due_at 1 tidnew_due_apart _ c.place c.exit exit (omega arith) ∙ past_record tidnew_due_of tidnew_due_at 1 tidnew_due_apart t c.place c.change (omega arith) in
      past_clock tidnew_due_of tidnew_due_at 1 tidnew_due_apart _ c.time (omega arith)
      ∙ past_cached tidnew_due_of tidnew_due_at 1 tidnew_due_apart t₃ c.peer c.cached (inl (omega arith))
      ∙ due_set c.gen_tid
      ∙ ap (due_then c.gen_tid) before

  cached_set : (h : Option ℕ) → SetOk h → cached_of (cache_changed t₃ c.peer h) c.peer ≡ header_then h (cached_of t₃ c.peer)
  unfolding cache_changed SetOk
  cached_set None k = refl
  cached_set (Some v) k = cached_same t₃ c.peer v sized₃ ok.peer (omega arith)

  abbrev cachedHere : List ℕ → ℕ
  cachedHere x = cached_of x c.peer

  cached_seen : (x : List ℕ) (b : ℕ) (o : List ℕ) → Apart (cached_at + c.peer * 2) 2 b (length o) → cachedHere (put x b o) ≡ cachedHere x
  cached_seen x b o h = cached_apart x b o c.peer h

  pub cached_left : cached_of (table_changed t c exit) c.peer ≡ header_then c.cached (cached_of t c.peer)
  unfolding table_changed
  cached_left =
      let at : ℕ = cached_at + c.peer * 2 in
      let before : cachedHere t₃ ≡ cachedHere t =
      past_gen_tid cachedHere at 2 cached_seen t₂ c.gen_tid (omega arith)
      ∙ past_exit cachedHere at 2 cached_seen _ c.place c.exit exit (omega (arith, ok.peer))
      ∙ past_record cachedHere at 2 cached_seen t c.place c.change (omega (arith, ok.peer)) in
      past_clock cachedHere at 2 cached_seen _ c.time (omega arith)
      ∙ cached_set c.cached ok.cached
      ∙ ap (header_then c.cached) before

  abbrev recordHere : List ℕ → Record
  recordHere x = record_at x c.place

  record_seen : (x : List ℕ) (b : ℕ) (o : List ℕ) → Apart (base c.place) fields_size b (length o) → recordHere (put x b o) ≡ recordHere x
  record_seen x b o h = record_apart x b o c.place h

  at_place : recordHere (table_changed t c exit) ≡ recordHere (record_changed t c.place c.change)
  unfolding table_changed
  at_place =
      past_clock recordHere (base c.place) fields_size record_seen _ c.time (omega arith)
      ∙ past_cached recordHere (base c.place) fields_size record_seen t₃ c.peer c.cached (inr (omega (arith, ok.peer)))
      ∙ past_gen_tid recordHere (base c.place) fields_size record_seen t₂ c.gen_tid (omega arith)
      ∙ past_exit recordHere (base c.place) fields_size record_seen _ c.place c.exit exit (omega arith)

  room : base c.place + record_size ≤ length t
  room = omega (arith, w.sized.whole, ok.place)

  pub put_left : (r : Record) → c.change ≡ Put r → recordHere (table_changed t c exit) ≡ r
  unfolding record_changed ChangeOk
  put_left r e =
      let k : ChangeOk t c.place (Put r) c.exit = rw e at ok.change in
      at_place ∙ (ap (λ (x : Change). recordHere (record_changed t c.place x)) e ∙ record_same t c.place r room (range_fits t r w k.0))

  pub cleared_left : c.change ≡ Clear → (recordHere (table_changed t c exit)).state ≡ Free
  unfolding record_changed clear_record state_of
  cleared_left e =
      let z : List ℕ = replicate record_size 0 in
      let n : length z ≡ record_size = length-replicate {A = ℕ} record_size 0 in
      let d : base c.place + 0 ≡ base c.place = omega arith in
      let octet : get_or (put t (base c.place) z) (base c.place) 0 ≡ 0 = rw d at (get_same z t (base c.place) 0 (omega (arith, room)) (omega arith)) in
      ap (λ (r : Record). r.state) at_place
      ∙ (ap (λ (x : Change). (recordHere (record_changed t c.place x)).state) e ∙ (state_octet (put t (base c.place) z) c.place ∙ ap state_of octet))

  -- where the changes name no record every one is as it was
  pub none_left : c.change ≡ Nothing → (j : ℕ) → record_at (table_changed t c exit) j ≡ record_at t j
  unfolding record_changed
  none_left e j = go (equal_or j c.place)
    where
      here : recordHere (table_changed t c exit) ≡ recordHere t
      here = at_place ∙ ap (λ (x : Change). recordHere (record_changed t c.place x)) e

      go : (j ≡ c.place) ⊎ (j ≡ c.place → ⊥) → record_at (table_changed t c exit) j ≡ record_at t j
      go (inl d) = rw d here
      go (inr d) = (commit_frames t c exit w ok).other_records j d
