-- What salvage leaves of the octets of a table: of the header all, of a place all or none. Assumes nothing.
use Prim.Native.Nat.{ℕ, zero, suc, ◌+◌, ◌≤◌, ◌<◌}
use native.Mathlib.Omega.{arith}
use mathlib.Core.Path.{◌≡◌, refl, ap, ◌∙◌}
use mathlib.Core.Bool.{Bool, true, false}
use mathlib.Core.List.{List}
use mathlib.Core.Logic.{◌⊎◌, inl, inr}
use lib.ListN.{length, get_or, replicate, get_or-replicate}
use lib.Dec.{eqb}
use Rattle.base_layout.specs.Layout.{header_size, record_size, fields_size, base}
use Rattle.base_lists.specs.Seq.{pick}
use Rattle.base_lists.proofs.StoresAndParts.{below_or_last}
use Rattle.base_octets.specs.Octets.{gets}
use Rattle.base_octets.proofs.StoredAndRead.{get_before, get_d_after, get_same}
use Rattle.table_record.specs.Record.{decoded}
use Rattle.table_layout.specs.Table.{settings_of, record_at, clear_record}
use Rattle.table_layout.proofs.Apart.{settings_apart}
use Rattle.table_header_ok.specs.Header.{HeaderOk}
use Rattle.law_formed_kept.proofs.InRecord.{header_stands}
use Rattle.table_salvage.specs.Salvage.{zeroed_for, reason_at, salvaged_to}
use Rattle.table_salvage.proofs.Turns.{zeroed_length}
use Rattle.law_salvage.specs.Sentences.{SameRecord}

-- octets that are the same are read the same
same_gets : (n a : ℕ) (t u : List ℕ) → ((k : ℕ) → k < n → get_or u (a + k) 0 ≡ get_or t (a + k) 0) → gets n a u ≡ gets n a t
unfolding gets
same_gets zero a t u h = refl
same_gets (suc n) a t u h =
    let first : a + 0 ≡ a = omega arith in
    rw (rw first at (h 0 (omega arith)), same_gets n (a + 1) t u (λ k l. next k (h (suc k) (omega arith))))
  where
    next : (k : ℕ) → get_or u (a + suc k) 0 ≡ get_or t (a + suc k) 0 → get_or u (a + 1 + k) 0 ≡ get_or t (a + 1 + k) 0
    next k e =
        let q : a + suc k ≡ a + 1 + k = omega arith in
        rw q at e

-- and so are the fields of a record
pub same_fields : (t u : List ℕ) (i : ℕ) → SameRecord t u i → record_at u i ≡ record_at t i
unfolding record_at
same_fields t u i h = ap decoded (same_gets fields_size (base i) t u (λ k l. h k (omega arith)))

-- where an octet lies that no store into record i meets
abbrev Outside : ℕ → ℕ → Type 0
Outside i k = (k < base i) ⊎ (base i + record_size ≤ k)

module _ (t : List ℕ) (i : ℕ) where
  cleared_outside : (k : ℕ) → Outside i k → get_or (clear_record t i) k 0 ≡ get_or t k 0
  unfolding clear_record
  cleared_outside k (inl h) = get_before (replicate record_size 0) t (base i) k h
  cleared_outside k (inr h) = get_d_after (replicate record_size 0) t (base i) k (omega arith)

  cleared_inside : (k : ℕ) → base i + record_size ≤ length t → k < record_size → get_or (clear_record t i) (base i + k) 0 ≡ 0
  unfolding clear_record
  cleared_inside k room l = get_same (replicate record_size 0) t (base i) k room l ∙ get_or-replicate record_size k 0 0 l

  cleared_settings : settings_of (clear_record t i) ≡ settings_of t
  unfolding clear_record
  cleared_settings = settings_apart t (base i) (replicate record_size 0) (inl (omega arith))

  cleared_header : HeaderOk t → HeaderOk (clear_record t i)
  unfolding clear_record
  cleared_header h = header_stands t i (base i) (replicate record_size 0) (omega arith) (omega arith) h

  -- a place with or without a reason
  module _ (r : ℕ) where
    zeroed_outside : (k : ℕ) → Outside i k → get_or (zeroed_for t i r) k 0 ≡ get_or t k 0
    zeroed_outside k o = go (eqb r 0)
      where
        go : (b : Bool) → get_or (pick b t (clear_record t i)) k 0 ≡ get_or t k 0
        go true = refl
        go false = cleared_outside k o

    zeroed_inside : (k : ℕ) → base i + record_size ≤ length t → k < record_size → get_or (zeroed_for t i r) (base i + k) 0 ≡ pick (eqb r 0) (get_or t (base i + k) 0) 0
    zeroed_inside k room l = go (eqb r 0)
      where
        go : (b : Bool) → get_or (pick b t (clear_record t i)) (base i + k) 0 ≡ pick b (get_or t (base i + k) 0) 0
        go true = refl
        go false = cleared_inside k room l

    zeroed_settings : settings_of (zeroed_for t i r) ≡ settings_of t
    zeroed_settings = go (eqb r 0)
      where
        go : (b : Bool) → settings_of (pick b t (clear_record t i)) ≡ settings_of t
        go true = refl
        go false = cleared_settings

    zeroed_header : HeaderOk t → HeaderOk (zeroed_for t i r)
    zeroed_header h = go (eqb r 0)
      where
        go : (b : Bool) → HeaderOk (pick b t (clear_record t i))
        go true = h
        go false = cleared_header h

module _ (t : List ℕ) where
  -- the reason of a place, judged when all lower ones are done
  abbrev pub reasonFor : ℕ → ℕ
  reasonFor i = reason_at (salvaged_to t i) i

  pub salvaged_length : (n : ℕ) → length (salvaged_to t n) ≡ length t
  unfolding salvaged_to
  salvaged_length zero = refl
  salvaged_length (suc n) = zeroed_length (salvaged_to t n) n (reasonFor n) ∙ salvaged_length n

  pub salvaged_settings : (n : ℕ) → settings_of (salvaged_to t n) ≡ settings_of t
  unfolding salvaged_to
  salvaged_settings zero = refl
  salvaged_settings (suc n) = zeroed_settings (salvaged_to t n) n (reasonFor n) ∙ salvaged_settings n

  pub salvaged_header : (n : ℕ) → HeaderOk t → HeaderOk (salvaged_to t n)
  unfolding salvaged_to
  salvaged_header zero h = h
  salvaged_header (suc n) h = zeroed_header (salvaged_to t n) n (reasonFor n) (salvaged_header n h)

  -- the header, and the places that aren't done
  pub not_reached : (n k : ℕ) → (k < header_size) ⊎ (base n ≤ k) → get_or (salvaged_to t n) k 0 ≡ get_or t k 0
  unfolding salvaged_to
  not_reached zero k o = refl
  not_reached (suc n) k (inl h) = zeroed_outside (salvaged_to t n) n (reasonFor n) k (inl (omega arith)) ∙ not_reached n k (inl h)
  not_reached (suc n) k (inr h) = zeroed_outside (salvaged_to t n) n (reasonFor n) k (inr (omega arith)) ∙ not_reached n k (inr (omega arith))

  pub not_done : (i : ℕ) → SameRecord t (salvaged_to t i) i
  not_done i k l = not_reached i (base i + k) (inr (omega arith))

  -- a place that is done: as it was where it has no reason, else zero
  pub done : (n i k : ℕ) → i < n → base n ≤ length t → k < record_size → get_or (salvaged_to t n) (base i + k) 0 ≡ pick (eqb (reasonFor i) 0) (get_or t (base i + k) 0) 0
  unfolding salvaged_to
  done zero i k h room l = absurd (omega arith)
  done (suc n) i k h room l = go (below_or_last i n h) (λ m. done n i k m (omega arith) l)
    where
      go : (i < n) ⊎ (i ≡ n) → (i < n → get_or (salvaged_to t n) (base i + k) 0 ≡ pick (eqb (reasonFor i) 0) (get_or t (base i + k) 0) 0)
          → get_or (zeroed_for (salvaged_to t n) n (reasonFor n)) (base i + k) 0 ≡ pick (eqb (reasonFor i) 0) (get_or t (base i + k) 0) 0
      go (inl m) f = zeroed_outside (salvaged_to t n) n (reasonFor n) (base i + k) (inl (omega arith)) ∙ f m
      go (inr e) f =
          let long : length (salvaged_to t n) ≡ length t = salvaged_length n in
          rw e (zeroed_inside (salvaged_to t n) n (reasonFor n) k (omega arith) l ∙ ap (λ (x : ℕ). pick (eqb (reasonFor n) 0) x 0) (not_done n k l))

  -- where nothing has a reason nothing changes
  pub all_stay : (n : ℕ) → ((i : ℕ) → i < n → eqb (reasonFor i) 0 ≡ true) → salvaged_to t n ≡ t
  unfolding salvaged_to
  all_stay zero h = refl
  all_stay (suc n) h = ap (λ (b : Bool). pick b (salvaged_to t n) (clear_record (salvaged_to t n) n)) (h n (omega arith)) ∙ all_stay n (λ i l. h i (omega arith))
