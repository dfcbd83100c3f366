-- A key is new among the keys gathered exactly when its record's name is. Assumes nothing.
use mathlib.Core.Path.{◌≡◌, refl, sym, ap, ◌∙◌}
use mathlib.Core.List.{List}
use mathlib.Core.Bool.{Bool, true, false, not}
use mathlib.Core.Logic.{◌⊎◌, inl, inr}
use Prim.Native.Nat.{ℕ, zero, suc, ◌+◌, ◌*◌, ◌≤◌, ◌<◌}
use native.Mathlib.Omega.{arith}
use lib.ListN.{length, get_or, replicate, set, length-set}
use lib.Seq.{get_or-set_same, get_or-set_other}
use lib.Dec.{ltb, eqb}
use borrow.Author.Tests.{eqb-true, eqb-false, eq-eqb, ne_eqb, ltb-true, lt-ltb, not-true}
use Rattle.base_lists.specs.Seq.{pick, every}
use Rattle.base_lists.proofs.StoresAndParts.{told, true_false, below_or_last, every_all, every_at, lt_or_le}
use Rattle.base_lists.proofs.Every.{same_test}
use Rattle.table_record.specs.Record.{role_of, role_number, state_number}
use Rattle.table_record.specs.declared.Record.{Record}
use Rattle.table_record.specs.declared.Role.{Role}
use Rattle.table_record.specs.declared.Role.TheVariants.{Initiator, Responder}
use Rattle.table_layout.specs.Table.{record_at}
use Rattle.table_record_ok.specs.OneRecord.{Live}
use Rattle.table_names_ok.specs.Names.{clash, key_of, Keyed, half, new_key, new_in_half}
use Rattle.table_names_ok.proofs.NamesTest.{role_back_holds, clash_to, clash_from}

pub key_free : (r : Record) → state_number r.state ≡ 0 → key_of r ≡ 0
unfolding key_of
key_free r h = rw (eq-eqb (state_number r.state) 0 h)

pub key_live : (r : Record) → Live r → key_of r ≡ 1 + role_number (role_of r.state) + 256 * r.peer + 65536 * r.tid
unfolding key_of
key_live r h = rw (ne_eqb (state_number r.state) 0 (λ (e : state_number r.state ≡ 0). omega arith))

role_small : (a : Role) → role_number a ≤ 1
role_small Initiator = omega arith
role_small Responder = omega arith

lives : (r : Record) → (key_of r ≡ 0 → ⊥) → Live r
lives r h = go (lt_or_le (state_number r.state) 1) where
  go : (state_number r.state < 1) ⊎ (1 ≤ state_number r.state) → Live r
  go (inl l) = absurd (h (key_free r (omega arith)))
  go (inr l) = l

-- equal keys, and not those of free records, are those of one name
clash_of_keys : (r s : Record) (k : ℕ) → Keyed r k → Keyed s k → (k ≡ 0 → ⊥) → clash r s ≡ true
clash_of_keys r s k a b n =
    let l : Live r = lives r (λ (e : key_of r ≡ 0). n (a.key ∙ e)) in
    let m : Live s = lives s (λ (e : key_of s ≡ 0). n (b.key ∙ e)) in
    let x = key_live r l in
    let y = key_live s m in
    let p = role_small (role_of r.state) in
    let q = role_small (role_of s.state) in
    let e : role_number (role_of r.state) + 256 * r.peer ≡ role_number (role_of s.state) + 256 * s.peer = omega arith in
    clash_from r s l m (record { role = role_back_holds _ _ (omega arith); peer = omega arith; tid = omega arith })

keys_of_clash : (r s : Record) → clash r s ≡ true → key_of r ≡ key_of s
keys_of_clash r s h =
    let e = clash_to r s h in
    let n : role_number (role_of r.state) ≡ role_number (role_of s.state) = ap role_number e.2.role in
    omega (arith, key_live r e.0, key_live s e.1, e.2)

-- the keys of the first m records from `from` on, as far as they are in the half, and 0 at all other places
pub record Keys (t : List ℕ) (from : ℕ) (keys : List ℕ) (m : ℕ) : Type 0 where
  pub long : length keys ≡ half
  pub keyed : (j : ℕ) → j < m → j < half → Keyed (record_at t (from + j)) (get_or keys j 0)
  pub rest : (j : ℕ) → m ≤ j → get_or keys j 0 ≡ 0

get_zeros : (n j : ℕ) → get_or {A = ℕ} (replicate n 0) j 0 ≡ 0
get_zeros zero j = refl
get_zeros (suc n) zero = refl
get_zeros (suc n) (suc j) = get_zeros n j

pub keys_none : (t : List ℕ) (from : ℕ) → Keys t from (replicate half 0) 0
keys_none t from = record { long = refl; keyed = λ j l h. absurd (omega arith); rest = λ j l. get_zeros half j }

pub keys_more : (t : List ℕ) (from : ℕ) (keys : List ℕ) (m k : ℕ) → m < half → Keys t from keys m → Keyed (record_at t (from + m)) k → Keys t from (set keys m k) (m + 1)
keys_more t from keys m k l h n = record {
  long = length-set keys m k ∙ h.long;
  keyed = λ j a b. at j b (below_or_last j m (omega arith));
  rest = λ j a. get_or-set_other keys m j k 0 (omega arith) ∙ h.rest j (omega arith);
} where
  at : (j : ℕ) → j < half → (j < m) ⊎ (j ≡ m) → Keyed (record_at t (from + j)) (get_or (set keys m k) j 0)
  at j b (inl a) = rw (get_or-set_other keys m j k 0 (omega arith)) (h.keyed j a b)
  at j b (inr a) = rw (a, get_or-set_same keys m k 0 (omega (arith, h.long))) n

-- past the half no key is gathered
pub keys_full : (t : List ℕ) (from : ℕ) (keys : List ℕ) (m : ℕ) → half ≤ m → Keys t from keys m → Keys t from keys (m + 1)
keys_full t from keys m l h = record { long = h.long; keyed = λ j a b. h.keyed j (omega arith) b; rest = λ j a. h.rest j (omega arith) }

-- a test that is asked of some places only
pub unless : (b c : Bool) → (b ≡ true → c ≡ true → ⊥) → not (pick b c false) ≡ true
unless true true f = absurd (f refl refl)
unless true false f = refl
unless false c f = refl

pub unlessed : (b c : Bool) → not (pick b c false) ≡ true → b ≡ true → c ≡ true → ⊥
unlessed true true e p q = true_false (sym e)
unlessed true false e p q = true_false (sym q)
unlessed false c e p q = true_false (sym p)

module _ (t : List ℕ) (from : ℕ) (keys : List ℕ) (m k : ℕ) (h : Keys t from keys m) (n : Keyed (record_at t (from + m)) k) where
  new_of_free : k ≡ 0 → new_in_half t from m ≡ true
  unfolding new_in_half
  new_of_free z = every_all _ half (λ j l. unless (ltb j m) _ (λ b c. free (clash_to (record_at t (from + j)) (record_at t (from + m)) c).1)) where
    free : Live (record_at t (from + m)) → ⊥
    free l = omega (arith, key_live (record_at t (from + m)) l, n.key)

  new_of_live : (k ≡ 0 → ⊥) → every (λ j. not (eqb (get_or keys j 0) k)) half ≡ new_in_half t from m
  unfolding new_in_half
  new_of_live z = same_test _ _ to from_names where
    test : ℕ → Bool
    test j = not (pick (ltb j m) (clash (record_at t (from + j)) (record_at t (from + m))) false)

    to : every (λ j. not (eqb (get_or keys j 0) k)) half ≡ true → every test half ≡ true
    to e = every_all test half (λ j l. unless _ _ (λ b c. equal j (ltb-true j m b) l (keys_of_clash (record_at t (from + j)) (record_at t (from + m)) c))) where
      equal : (j : ℕ) → j < m → j < half → key_of (record_at t (from + j)) ≡ key_of (record_at t (from + m)) → ⊥
      equal j a b q = eqb-false _ _ (not-true _ (every_at (λ j. not (eqb (get_or keys j 0) k)) half e j b)) ((h.keyed j a b).key ∙ q ∙ sym n.key)

    from_names : every test half ≡ true → every (λ j. not (eqb (get_or keys j 0) k)) half ≡ true
    from_names e = every_all (λ j. not (eqb (get_or keys j 0) k)) half (λ j l. ap not (ne_eqb _ _ (other j l (lt_or_le j m)))) where
      other : (j : ℕ) → j < half → (j < m) ⊎ (m ≤ j) → get_or keys j 0 ≡ k → ⊥
      other j l (inl a) q = unlessed _ _ (every_at test half e j l) (lt-ltb j m a) (clash_of_keys (record_at t (from + j)) (record_at t (from + m)) k (rw q at (h.keyed j a l)) n z)
      other j l (inr a) q = z (sym q ∙ h.rest j a)

  -- what the code asks of the keys is what the test asks of the records
  pub key_new : new_key keys k ≡ new_in_half t from m
  unfolding new_key
  key_new = go (told (eqb k 0)) where
    go : (eqb k 0 ≡ true) ⊎ (eqb k 0 ≡ false) → pick (eqb k 0) true (every (λ j. not (eqb (get_or keys j 0) k)) half) ≡ new_in_half t from m
    go (inl e) = rw e (sym (new_of_free (eqb-true k 0 e)))
    go (inr e) = rw e (new_of_live (eqb-false k 0 e))
