-- What is found as due is the due record with the earliest deadline, the lowest on ties; where nothing is found, none is due. Assumes nothing.
use Rattle.std.specs.Prelude.{Option, Some, None}
use mathlib.Core.Path.{◌≡◌}
use mathlib.Core.List.{List}
use mathlib.Core.Bool.{true, false}
use mathlib.Core.Logic.{◌⊎◌, inl, inr}
use Prim.Native.Nat.{ℕ, zero, suc, ◌+◌, ◌≤◌, ◌<◌}
use native.Mathlib.Omega.{arith}
use native.Mathlib.Nat.{add-zero}
use lib.Dec.{ltb}
use borrow.Author.Tests.{lt-ltb, le-ltb}
use borrow.Author.Count.{below_more}
use Rattle.base_lists.specs.Seq.{pick}
use Rattle.base_lists.proofs.StoresAndParts.{told, lt_or_le}
use Rattle.table_layout.specs.Table.{record_at}
use Rattle.table_finding.specs.Finding.{is_due, earlier_of, better_of, best, due_of}
use Rattle.table_finding.specs.Searched.{DueAt, deadline_at, Earliest}
use Rattle.table_finding.proofs.Tests.{denied, tells_due}

-- what the search for the earliest says is so
abbrev pub Says : List ℕ → ℕ → ℕ → Option ℕ → Type 0
Says t time n (Some j) = Earliest t time n j
Says t time n None = (m : ℕ) → m < n → DueAt t time m → ⊥

module _ (t : List ℕ) (time : ℕ) where
  -- the record at i, due, after those below it
  first_due_holds : (i : ℕ) → DueAt t time i → ((m : ℕ) → m < i → DueAt t time m → deadline_at t i < deadline_at t m) → Says t time (i + 1) (Some i)
  first_due_holds i q f =
      record {
        below = omega arith;
        is_due_holds = q;
        no_earlier = below_more (λ (m : ℕ). DueAt t time m → deadline_at t i ≤ deadline_at t m) i (λ m l x. omega (arith, f m l x)) (λ x. omega arith);
        before_later = f;
      }

  -- the best so far stays
  stays : (i j : ℕ) → (DueAt t time i → deadline_at t j ≤ deadline_at t i) → Earliest t time i j → Says t time (i + 1) (Some j)
  stays i j f s =
      record {
        below = omega (arith, s.below);
        is_due_holds = s.is_due_holds;
        no_earlier = below_more (λ (m : ℕ). DueAt t time m → deadline_at t j ≤ deadline_at t m) i s.no_earlier f;
        before_later = s.before_later;
      }

  earlier_says : (i j : ℕ) → DueAt t time i → Earliest t time i j → Says t time (i + 1) (earlier_of t i (Some j))
  unfolding earlier_of
  earlier_says i j q s = go (lt_or_le (deadline_at t i) (deadline_at t j))
    where
      go : (deadline_at t i < deadline_at t j) ⊎ (deadline_at t j ≤ deadline_at t i) → Says t time (i + 1) (pick (ltb (deadline_at t i) (deadline_at t j)) (Some i) (Some j))
      go (inl h) = rw (lt-ltb _ _ h) (first_due_holds i q (λ m l x. omega (arith, s.no_earlier m l x)))
      go (inr h) = rw (le-ltb _ _ h) (stays i j (λ x. h) s)

  better_says : (i : ℕ) (b : Option ℕ) → Says t time i b → Says t time (i + 1) (better_of t time i b)
  unfolding better_of earlier_of
  better_says i b s = go (told (is_due time (record_at t i))) b s
    where
      go : (is_due time (record_at t i) ≡ true) ⊎ (is_due time (record_at t i) ≡ false) → (b : Option ℕ) → Says t time i b → Says t time (i + 1) (pick (is_due time (record_at t i)) (earlier_of t i b) b)
      go (inl q) (Some j) s = rw q (earlier_says i j ((tells_due (record_at t i) time).0 q) s)
      go (inl q) None s = rw q (first_due_holds i ((tells_due (record_at t i) time).0 q) (λ m l x. absurd (s m l x)))
      go (inr q) (Some j) s = rw q (stays i j (λ x. absurd (denied (tells_due (record_at t i) time) q x)) s)
      go (inr q) None s = rw q (below_more (λ (m : ℕ). DueAt t time m → ⊥) i s (denied (tells_due (record_at t i) time) q))

  best_says : (k i : ℕ) (b : Option ℕ) → Says t time i b → Says t time (i + k) (best (better_of t time) k i b)
  unfolding best
  best_says zero i b s = rw add-zero s
  best_says (suc k) i b s =
      let e : i + suc k ≡ i + 1 + k = omega arith in
      rw e (best_says k (i + 1) (better_of t time i b) (better_says i b s))

  due_says : (n : ℕ) → Says t time n (due_of t n time)
  unfolding due_of
  due_says n =
      let e : 0 + n ≡ n = omega arith in
      rw e at (best_says n 0 None (λ m l x. absurd (omega arith)))

  pub due_found : (n j : ℕ) → due_of t n time ≡ Some j → Earliest t time n j
  due_found n j e = rw e at (due_says n)

  pub due_nothing : (n : ℕ) → due_of t n time ≡ None → (m : ℕ) → m < n → DueAt t time m → ⊥
  due_nothing n e = rw e at (due_says n)
