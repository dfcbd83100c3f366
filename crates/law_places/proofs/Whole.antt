-- What the step of a live record asks of it: it lies inside a well-formed table and its TID is in range. Assumes nothing.
use Prim.Native.Nat.{ℕ, ◌+◌, ◌*◌, ◌≤◌, ◌<◌}
use native.Mathlib.Omega.{arith}
use mathlib.Core.Path.{◌≡◌, sym, ◌∙◌}
use mathlib.Core.List.{List}
use lib.ListN.{length}
use Rattle.std.specs.Prelude.{Option, Some}
use Rattle.base_layout.specs.Layout.{header_size, record_size, tid_bound, records_bound}
use Rattle.table_record.specs.declared.Role.{Role}
use Rattle.table_layout.specs.Table.{count, record_at}
use Rattle.table_well_formed.specs.WellFormed.{WellFormed}
use Rattle.table_finding.specs.Finding.{named_of, free_of, due_of}
use Rattle.step_opening.specs.Opens.{place_for}
use Rattle.law_places.specs.Places.{LiveAt}
use Rattle.law_places.proofs.Places.{place_small, live_range, named_live, due_live, free_place_holds}

pub record Whole (t : List ℕ) (i : ℕ) : Type 0 where
  pub inside : i < count t
  pub there : header_size + i * record_size + record_size ≤ length t
  pub small : i < records_bound
  pub tid : (record_at t i).tid ≤ tid_bound

module _ (t : List ℕ) (w : WellFormed t) where
  pub live_whole : (i : ℕ) → LiveAt t i → Whole t i
  live_whole i l =
      record {
        inside = l.inside;
        there = omega (arith, w.sized.whole, l.inside);
        small = place_small t w i l.inside;
        tid = (live_range t w i l).bounds.tid;
      }

  -- the same of what a search among n records gave
  pub named_whole : (role : Role) (peer tid n i : ℕ) (f : Option ℕ) → n ≡ count t → f ≡ named_of t n role peer tid → f ≡ Some i → Whole t i
  named_whole role peer tid n i f counted searched found = live_whole i (named_live t w role peer tid i (rw counted at (sym searched ∙ found)))

  pub due_whole : (time n i : ℕ) (f : Option ℕ) → n ≡ count t → f ≡ due_of t n time → f ≡ Some i → Whole t i
  due_whole time n i f counted searched found = live_whole i (due_live t w time i (rw counted at (sym searched ∙ found)))

  pub free_small : (n : ℕ) (f : Option ℕ) → n ≡ count t → f ≡ free_of t n → place_for f < records_bound
  free_small n f counted searched =
      let e : f ≡ free_of t (count t) = rw counted at searched in
      rw e (place_small t w (place_for (free_of t (count t))) (free_place_holds t w))
