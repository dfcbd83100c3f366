-- What the deadline call tells is so, and it is refused with 1 exactly where a table isn't well formed or the words are too few. Assumes nothing.
use Prim.Native.Nat.{ℕ, zero, suc, ◌+◌, ◌≤◌, ◌<◌}
use native.Mathlib.Omega.{arith}
use mathlib.Core.Path.{◌≡◌, refl, ap, ◌∙◌}
use mathlib.Core.Bool.{Bool, true, false}
use mathlib.Core.List.{List}
use mathlib.Core.Logic.{inl, inr}
use lib.ListN.{length, get_or, replicate}
use lib.Dec.{ltb}
use borrow.Author.Tests.{le-ltb, ltb-false}
use Rattle.std.specs.Prelude.{Option, Some, None}
use Rattle.base_layout.specs.Layout.{deadline_bound}
use Rattle.base_lists.specs.Seq.{pick, put}
use Rattle.base_lists.proofs.StoresAndParts.{length_put}
use Rattle.base_octets.proofs.StoredAndRead.{get_same, get_d_after}
use Rattle.table_layout.specs.Table.{count, record_at}
use Rattle.table_finding.specs.Searched.{Due}
use Rattle.table_finding.proofs.Earliest.{due_found, due_nothing}
use Rattle.table_well_formed.specs.WellFormed.{WellFormed, well_formed}
use Rattle.table_well_formed.proofs.TableTest.{to_sentence, to_test}
use Rattle.law_places.proofs.Places.{live_number, live_range}
use Rattle.call_deadline.specs.Deadlines.{earliest_of, due_words, deadline_number, due_after}
use Rattle.law_timer_in_two.specs.InTwo.{Runs, Soonest, Told, Kept}

module _ (t : List ℕ) (w : WellFormed t) where
  -- a deadline is in range, so that its record is due at the greatest one
  runs_due : (m : ℕ) → m < count t → Runs (record_at t m) → Due deadline_bound (record_at t m)
  runs_due m l r =
      let ok = live_range t w m (record { inside = l; live = live_number (record_at t m).state r.live }) in
      record { live = r.live; runs = r.deadline; not_after = ok.bounds.deadline }

  pub found_soonest : (j : ℕ) → earliest_of t ≡ Some j → Soonest t j
  unfolding earliest_of
  found_soonest j e =
      let s = due_found t deadline_bound (count t) j e in
      record {
        inside = s.below;
        runs = record { live = s.is_due_holds.live; deadline = s.is_due_holds.runs };
        none_earlier = λ m l r. s.no_earlier m l (runs_due m l r);
        none_before = λ m l r q. absurd (omega (arith, q, s.before_later m l (runs_due m (omega (arith, l, s.below)) r)));
      }

  pub found_none : earliest_of t ≡ None → (m : ℕ) → m < count t → Runs (record_at t m) → ⊥
  unfolding earliest_of
  found_none e m l r = due_nothing t deadline_bound (count t) e m l (runs_due m l r)

-- five zeros read as 0
zeros : (n k : ℕ) → ◌≡◌ {A = ℕ} (get_or (replicate n 0) k 0) 0
zeros zero k = refl
zeros (suc n) zero = refl
zeros (suc n) (suc k) = zeros n k

module _ (t due : List ℕ) (w : WellFormed t) (enough : 5 ≤ length due) where
  pub after_is : due_after t due ≡ put due 0 (due_words t (earliest_of t))
  unfolding due_after
  after_is = rw (le-ltb (length due) 5 enough, to_test t w) refl

  five : (f : Option ℕ) → length (due_words t f) ≡ 5
  unfolding due_words
  five (Some i) = refl
  five None = refl

  word : (k : ℕ) → k < 5 → get_or (due_after t due) k 0 ≡ get_or (due_words t (earliest_of t)) k 0
  word k h =
      let n = five (earliest_of t) in
      let e : 0 + k ≡ k = omega arith in
      ap (λ (x : List ℕ). get_or x k 0) after_is ∙ rw e at (get_same (due_words t (earliest_of t)) due 0 k (omega (arith, n, enough)) (omega (arith, n, h)))

  words_of : (f : Option ℕ) → earliest_of t ≡ f → Told t (due_after t due)
  unfolding due_words
  words_of (Some j) e =
      let same : (k : ℕ) → k < 5 → get_or (due_after t due) k 0 ≡ get_or (due_words t (Some j)) k 0 = λ k h. word k h ∙ ap (λ (f : Option ℕ). get_or (due_words t f) k 0) e in
      inl (j, (found_soonest t w j e, record { word_0 = same 0 (omega arith); word_1 = same 1 (omega arith); word_2 = same 2 (omega arith); word_3 = same 3 (omega arith); word_4 = same 4 (omega arith) }))
  words_of None e = inr record { none = found_none t w e; zero = λ k h. word k h ∙ ap (λ (f : Option ℕ). get_or (due_words t f) k 0) e ∙ zeros 5 k }

  -- THE DEADLINE CALL TELLS THE EARLIEST DEADLINE AND ITS TRANSACTION, OR NONE
  pub deadline_told : Told t (due_after t due)
  deadline_told = words_of (earliest_of t) refl

  -- and writes five words
  pub deadline_kept : Kept due (due_after t due)
  deadline_kept = record {
    size = ap length after_is ∙ length_put due 0 (due_words t (earliest_of t));
    rest = λ k h. ap (λ (x : List ℕ). get_or x k 0) after_is ∙ get_d_after (due_words t (earliest_of t)) due 0 k (omega (arith, five (earliest_of t), h));
  }

  pub deadline_accepted : deadline_number t due ≡ 0
  unfolding deadline_number
  deadline_accepted = rw (le-ltb (length due) 5 enough, to_test t w) refl

-- else it is refused with 1, and changes nothing
pub deadline_refused : (t due : List ℕ) → (WellFormed t → 5 ≤ length due → ⊥) → (deadline_number t due ≡ 1) × (due_after t due ≡ due)
unfolding deadline_number due_after
deadline_refused t due no_way = go (ltb (length due) 5) (well_formed t) refl refl
  where
    go : (a b : Bool) → ltb (length due) 5 ≡ a → well_formed t ≡ b → (◌≡◌ {A = ℕ} (pick a 1 (pick b 0 1)) 1) × (pick a due (pick b (put due 0 (due_words t (earliest_of t))) due) ≡ due)
    go true b e f = (refl, refl)
    go false false e f = (refl, refl)
    go false true e f = absurd (no_way (to_sentence t f) (ltb-false (length due) 5 e))

-- and where it gives 0, neither is so
pub deadline_given : (t due : List ℕ) → deadline_number t due ≡ 0 → WellFormed t × (5 ≤ length due)
unfolding deadline_number
deadline_given t due = go (ltb (length due) 5) (well_formed t) refl refl
  where
    go : (a b : Bool) → ltb (length due) 5 ≡ a → well_formed t ≡ b → ◌≡◌ {A = ℕ} (pick a 1 (pick b 0 1)) 0 → WellFormed t × (5 ≤ length due)
    go true b e f h = absurd (omega (arith, h))
    go false false e f h = absurd (omega (arith, h))
    go false true e f h = (to_sentence t f, ltb-false (length due) 5 e)
