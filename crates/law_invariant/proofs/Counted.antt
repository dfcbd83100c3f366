-- What a call adds to what was counted under a name: nothing where it is silent, what its turn adds under its own name. Assumes nothing.
use Prim.Native.Nat.{ℕ, ◌+◌}
use native.Mathlib.Omega.{arith}
use mathlib.Core.Path.{◌≡◌, refl}
use mathlib.Core.Bool.{true, false}
use mathlib.Core.List.{List, ◌∷◌}
use Rattle.law_counting.specs.Counting.{Counts, none, plus}
use Rattle.law_counting.proofs.Sums.{from_none}
use Rattle.law_history.specs.Trace.{Entry}
use Rattle.law_history.specs.Tally.{Name, adds, opens, tally}
use Rattle.law_history.specs.Moves.{Silent}

-- nothing more
pub plus_none : (c : Counts) → plus c none ≡ c
plus_none c =
    let same : (n : ℕ) → n + 0 ≡ n = λ n. omega arith in
    λ i. record {
      sends = same c.sends i;
      results_sent = same c.results_sent i;
      confirms = same c.confirms i;
      results = same c.results i;
      aborts = same c.aborts i;
      shows = same c.shows i;
    }

module _ (start : Name → Counts) (e : Entry) (h : List Entry) (n : Name) where
  -- where nothing is counted and nothing opened, the count is as it was
  pub silent_tally : Silent e n → tally start (e ∷ h) n ≡ tally start h n
  unfolding tally
  silent_tally s = rw (s.adds_none, s.not_opened) (plus_none (tally start h n))

  -- the count goes on
  pub goes_on : (more : Counts) → opens e n ≡ false → adds e n ≡ more → tally start (e ∷ h) n ≡ plus (tally start h n) more
  unfolding tally
  goes_on more shut own = rw (own, shut) refl

  -- the count starts anew
  pub starts_anew : (more : Counts) → opens e n ≡ true → adds e n ≡ more → tally start (e ∷ h) n ≡ more
  unfolding tally
  starts_anew more opened own = rw (own, opened) (from_none more)
