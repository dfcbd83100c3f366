-- A store of the clock, of GenTID, of the flag of TIDnew or of a cached TID leaves a well-formed table well formed. Assumes nothing.
use mathlib.Core.Path.{◌≡◌, ◌∙◌}
use mathlib.Core.List.{List, [], ◌∷◌}
use mathlib.Core.Bool.{Bool}
use mathlib.Core.Logic.{◌⊎◌, inl, inr}
use Prim.Native.Nat.{ℕ, ◌+◌, ◌*◌, ◌≤◌, ◌<◌}
use native.Mathlib.Omega.{arith}
use lib.ListN.{length, get_or}
use Rattle.base_layout.specs.Layout.{header_size, cached_at, tidnew_due_at, modes_at, header_spare_at, time_bound, tid_bound, cached_bound, peers}
use Rattle.base_lists.specs.Seq.{bit, put}
use Rattle.base_lists.proofs.StoresAndParts.{bit_le, length_put}
use Rattle.base_octets.specs.Octets.{enc, Apart}
use Rattle.base_octets.proofs.StoredAndRead.{get_before, get_d_after, apart_rows, length_enc}
use Rattle.table_layout.specs.Table.{settings_of, cached_of, record_at, clock_of, gen_tid_of, put_clock, put_gen_tid, put_tidnew_due, put_cached}
use Rattle.table_layout.proofs.Apart.{clock_apart, gen_tid_apart, settings_apart, rows_apart, cached_apart, record_apart}
use Rattle.table_layout.proofs.Put.{clock_same, gen_tid_same, tidnew_due_octet, cached_same}
use Rattle.table_header_ok.specs.Header.{HeaderOk}
use Rattle.table_well_formed.specs.WellFormed.{WellFormed}
use Rattle.law_formed_kept.proofs.InRecord.{equal_or, sized_same, record_same}

module _ (t : List ℕ) (at : ℕ) (w : List ℕ) where
  abbrev after : List ℕ
  after = put t at w

  -- HEADER CHANGED, but for the settings: the records stand
  header_keeps : at + length w ≤ header_size → WellFormed t → settings_of after ≡ settings_of t → HeaderOk after → WellFormed after
  header_keeps high f s h = record {
    sized = sized_same t after long f.sized;
    header = h;
    records = λ j l. record_same t after j s (fields j) (λ k a b. get_d_after w t at k (omega arith)) (f.records j (rw long at l));
    unique = λ a b l m d p q n. f.unique a b (rw long at l) (rw long at m) d (rw (fields a) at p) (rw (fields b) at q) (rw (fields a, fields b) at n);
  } where
    long : length after ≡ length t
    long = length_put t at w

    fields : (j : ℕ) → record_at after j ≡ record_at t j
    fields j = record_apart t at w j (inr (omega arith))

  -- before the settings lie the clock and GenTID
  before_settings : at + length w ≤ 10 → WellFormed t → clock_of after ≤ time_bound → gen_tid_of after ≤ tid_bound → WellFormed after
  before_settings high f c g = header_keeps (omega arith) f s (record {
    clock = c;
    gen_tid = g;
    settings = rw s f.header.settings;
    tidnew_due = rw (get_d_after w t at tidnew_due_at (omega arith)) f.header.tidnew_due;
    modes = rw (s, get_d_after w t at modes_at (omega arith)) f.header.modes;
    spare = λ k l. get_d_after w t at (header_spare_at + k) (omega arith) ∙ f.header.spare k l;
    rows = rw (rows_apart t at w (inr (omega arith))) f.header.rows;
    cached = λ p l. rw (cached_apart t at w p (inr (omega arith))) (f.header.cached p l);
  }) where
    s : settings_of after ≡ settings_of t
    s = settings_apart t at w (inr (omega arith))

  -- after the spare octets lie the cached TIDs
  after_spare : cached_at ≤ at → at + length w ≤ header_size → WellFormed t → ((p : ℕ) → p < peers → cached_of after p ≤ cached_bound) → WellFormed after
  after_spare low high f c = header_keeps high f s (record {
    clock = rw (clock_apart t at w (omega arith)) f.header.clock;
    gen_tid = rw (gen_tid_apart t at w (inl (omega arith))) f.header.gen_tid;
    settings = rw s f.header.settings;
    tidnew_due = rw (get_before w t at tidnew_due_at (omega arith)) f.header.tidnew_due;
    modes = rw (s, get_before w t at modes_at (omega arith)) f.header.modes;
    spare = λ k l. get_before w t at (header_spare_at + k) (omega arith) ∙ f.header.spare k l;
    rows = rw (rows_apart t at w (inl (omega arith))) f.header.rows;
    cached = c;
  }) where
    s : settings_of after ≡ settings_of t
    s = settings_apart t at w (inl (omega arith))

pub clock_keeps : (t : List ℕ) (v : ℕ) → WellFormed t → v ≤ time_bound → WellFormed (put_clock t v)
unfolding put_clock
clock_keeps t v f l =
    let n : length (enc 8 v) ≡ 8 = length_enc 8 v in
    let e : clock_of (put t 0 (enc 8 v)) ≡ v = clock_same t v (omega (arith, f.sized.whole)) (omega arith) in
    before_settings t 0 (enc 8 v) (omega arith) f (rw e l) (rw (gen_tid_apart t 0 (enc 8 v) (inr (omega arith))) f.header.gen_tid)

pub gen_tid_keeps : (t : List ℕ) (v : ℕ) → WellFormed t → v ≤ tid_bound → WellFormed (put_gen_tid t v)
unfolding put_gen_tid
gen_tid_keeps t v f l =
    let n : length (enc 2 v) ≡ 2 = length_enc 2 v in
    let e : gen_tid_of (put t 8 (enc 2 v)) ≡ v = gen_tid_same t v (omega (arith, f.sized.whole)) (omega arith) in
    before_settings t 8 (enc 2 v) (omega arith) f (rw (clock_apart t 8 (enc 2 v) (omega arith)) f.header.clock) (rw e l)

pub tidnew_due_keeps : (t : List ℕ) (due : Bool) → WellFormed t → WellFormed (put_tidnew_due t due)
unfolding put_tidnew_due
tidnew_due_keeps t due f =
    let w : List ℕ = bit due ∷ [] in
    let octet : get_or (put t tidnew_due_at w) tidnew_due_at 0 ≡ bit due = tidnew_due_octet t due (omega (arith, f.sized.whole)) in
    let s : settings_of (put t tidnew_due_at w) ≡ settings_of t = settings_apart t tidnew_due_at w (inl (omega arith)) in
    header_keeps t tidnew_due_at w (omega arith) f s (record {
      clock = rw (clock_apart t tidnew_due_at w (omega arith)) f.header.clock;
      gen_tid = rw (gen_tid_apart t tidnew_due_at w (inl (omega arith))) f.header.gen_tid;
      settings = rw s f.header.settings;
      tidnew_due = rw octet (bit_le due);
      modes = rw (s, get_before w t tidnew_due_at modes_at (omega arith)) f.header.modes;
      spare = λ k l. get_d_after w t tidnew_due_at (header_spare_at + k) (omega arith) ∙ f.header.spare k l;
      rows = rw (rows_apart t tidnew_due_at w (inl (omega arith))) f.header.rows;
      cached = λ p l. rw (cached_apart t tidnew_due_at w p (inr (omega arith))) (f.header.cached p l);
    })

pub cached_keeps : (t : List ℕ) (p v : ℕ) → WellFormed t → p < peers → v ≤ cached_bound → WellFormed (put_cached t p v)
unfolding put_cached
cached_keeps t p v f l b =
    let n : length (enc 2 v) ≡ 2 = length_enc 2 v in
    after_spare t (cached_at + p * 2) (enc 2 v) (omega arith) (omega arith) f (λ q m. go q m (equal_or q p)) where
      other : (q : ℕ) → Apart (cached_at + q * 2) 2 (cached_at + p * 2) 2 → Apart (cached_at + q * 2) 2 (cached_at + p * 2) (length (enc 2 v))
      other q a = rw (length_enc 2 v) a

      go : (q : ℕ) → q < peers → (q ≡ p) ⊎ (q ≡ p → ⊥) → cached_of (put t (cached_at + p * 2) (enc 2 v)) q ≤ cached_bound
      go q m (inl x) =
          let e : cached_of (put t (cached_at + p * 2) (enc 2 v)) p ≡ v = cached_same t p v (omega (arith, f.sized.whole)) l (omega arith) in
          rw (x, e) b
      go q m (inr x) = rw (cached_apart t (cached_at + p * 2) (enc 2 v) q (other q (apart_rows cached_at 2 q p x))) (f.header.cached q m)
