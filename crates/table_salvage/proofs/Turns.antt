-- What the loop over the places keeps, and what one place does. Assumes nothing.
use Prim.Native.Nat.{ℕ, zero, suc, ◌+◌, ◌*◌, ◌≤◌, ◌<◌}
use native.Mathlib.Omega.{arith}
use native.Mathlib.Numerals.{add-one}
use native.Mathlib.Nat.{add-zero}
use borrow.Author.Tests.{eq-eqb, ne_eqb}
use mathlib.Core.Path.{◌≡◌, refl, sym, ap, ◌∙◌}
use mathlib.Core.Bool.{Bool, true, false}
use mathlib.Core.List.{List, [], ◌∷◌}
use lib.ListN.{length, replicate, length-append}
use lib.Dec.{eqb}
use Rattle.base_layout.specs.Layout.{record_size, base}
use Rattle.base_lists.specs.Seq.{pick, put}
use Rattle.base_lists.proofs.StoresAndParts.{put_append, put_nil, length_put}
use Rattle.table_layout.specs.Table.{clear_record}
use Rattle.table_salvage.specs.Salvage.{reason_at, pair_for, zeroed_for, salvaged_to, pairs_to}

module _ (t l : List ℕ) (i k r : ℕ) where
  -- a place that stays
  pub place_stays : r ≡ 0 → (k ≡ k + length (pair_for i r)) × (t ≡ zeroed_for t i r) × (l ≡ put l (1 + k) (pair_for i r))
  place_stays e = rw (eq-eqb r 0 e) (sym (add-zero k), refl, sym (put_nil l (1 + k)))

  -- and one that doesn't
  pub place_goes : (r ≡ 0 → ⊥) → (k + 2 ≡ k + length (pair_for i r)) × (clear_record t i ≡ zeroed_for t i r) × (put l (1 + k) (i ∷ r ∷ []) ≡ put l (1 + k) (pair_for i r))
  place_goes d = rw (ne_eqb r 0 d) (refl, refl, refl)

pair_small : (i r : ℕ) → length (pair_for i r) ≤ 2
pair_small i r = go (eqb r 0)
  where
    go : (b : Bool) → length (pick b [] (i ∷ r ∷ [])) ≤ 2
    go true = omega arith
    go false = omega arith

cleared_length : (t : List ℕ) (i : ℕ) → length (clear_record t i) ≡ length t
unfolding clear_record
cleared_length t i = length_put t (base i) (replicate record_size 0)

-- two words for each place at most
pub pairs_few : (t : List ℕ) (n : ℕ) → length (pairs_to t n) ≤ n * 2
unfolding pairs_to
pairs_few t zero = omega arith
pairs_few t (suc n) = omega (arith, length-append (pairs_to t n) (pair_for n (reason_at (salvaged_to t n) n)), pair_small n (reason_at (salvaged_to t n) n), pairs_few t n)

-- a place that is zeroed or not leaves the table as long as it was
pub zeroed_length : (t : List ℕ) (i r : ℕ) → length (zeroed_for t i r) ≡ length t
zeroed_length t i r = go (eqb r 0)
  where
    go : (b : Bool) → length (pick b t (clear_record t i)) ≡ length t
    go true = refl
    go false = cleared_length t i

-- after i places
pub record Done (t₀ l₀ : List ℕ) (n : ℕ) (t l : List ℕ) (k i : ℕ) : Type 0 where
  pub below : i ≤ n
  pub table : t ≡ salvaged_to t₀ i
  pub list : l ≡ put l₀ 1 (pairs_to t₀ i)
  pub words : k ≡ length (pairs_to t₀ i)
  pub few : k ≤ i * 2
  pub table_long : length t ≡ length t₀
  pub list_long : length l ≡ length l₀

module _ (t₀ l₀ : List ℕ) (n : ℕ) where
  pub none_done : Done t₀ l₀ n t₀ l₀ 0 0
  unfolding salvaged_to pairs_to
  none_done = record { below = omega arith; table = refl; list = sym (put_nil l₀ 1); words = refl; few = omega arith; table_long = refl; list_long = refl }

  pub one_more : (t l t' l' : List ℕ) (k k' i : ℕ) → i < n → Done t₀ l₀ n t l k i
      → k' ≡ k + length (pair_for i (reason_at t i)) → t' ≡ zeroed_for t i (reason_at t i) → l' ≡ put l (1 + k) (pair_for i (reason_at t i)) → Done t₀ l₀ n t' l' k' (i + 1)
  unfolding salvaged_to pairs_to
  one_more t l t' l' k k' i h d words table list =
      let s : List ℕ = salvaged_to t₀ i in
      let small : length (pair_for i (reason_at t i)) ≤ 2 = pair_small i (reason_at t i) in
      record {
        below = omega arith;
        table = rw add-one (table ∙ ap (λ (x : List ℕ). zeroed_for x i (reason_at x i)) d.table);
        list = rw add-one (list ∙ (rw (d.list, d.words, d.table) refl) ∙ sym (put_append (pairs_to t₀ i) (pair_for i (reason_at s i)) l₀ 1));
        words = rw add-one (words ∙ (rw (d.words, d.table) refl) ∙ sym (length-append (pairs_to t₀ i) (pair_for i (reason_at s i))));
        few = omega (arith, d.few);
        table_long = ap length table ∙ zeroed_length t i (reason_at t i) ∙ d.table_long;
        list_long = ap length list ∙ length_put l (1 + k) (pair_for i (reason_at t i)) ∙ d.list_long;
      }

  pub all_done : (t l : List ℕ) (k i : ℕ) → n ≤ i → Done t₀ l₀ n t l k i → (k ≡ length (pairs_to t₀ n)) × (t ≡ salvaged_to t₀ n) × (l ≡ put l₀ 1 (pairs_to t₀ n))
  all_done t l k i h d =
      let e : n ≡ i = omega (arith, d.below) in
      rw e (d.words, d.table, d.list)
