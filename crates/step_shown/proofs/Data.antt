-- The data shown is the named part of the named slice where it fits, and else empty. Assumes nothing.
use Prim.Native.Nat.{ℕ, ◌+◌, ◌-◌, ◌≤◌, ◌<◌}
use mathlib.Core.Path.{◌≡◌, ap, ◌∙◌}
use mathlib.Core.Logic.{◌⊎◌, inl, inr}
use mathlib.Core.List.{List, []}
use native.Mathlib.Omega.{arith}
use borrow.Author.Tests.{le-leb, lt-leb}
use lib.ListN.{length}
use lib.Dec.{leb}
use Rattle.base_lists.specs.Seq.{pick, part}
use Rattle.base_lists.proofs.StoresAndParts.{lt_or_le, length_part}
use Rattle.row_columns.specs.declared.Indication.TheVariants as Indication
use Rattle.step_shown.specs.declared.Place.{Place}
use Rattle.step_shown.specs.declared.Context.{Context}
use Rattle.step_shown.specs.Parts.{fitting_part, slice_of, data_of}
use Rattle.step_shown.specs.Shows.{no_data, shown_of, place_of}

module _ (s : List ℕ) (start len : ℕ) where
  fits : start + len ≤ length s → fitting_part s start len ≡ part s start len
  unfolding fitting_part
  fits l =
      let a : start ≤ length s = omega arith in
      let b : len ≤ length s - start = omega arith in
      simp (le-leb _ _ a, le-leb _ _ b)

  runs_past : length s < start + len → fitting_part s start len ≡ []
  unfolding fitting_part
  runs_past l = go (lt_or_le (length s) start)
    where
      go : (length s < start) ⊎ (start ≤ length s) → pick (leb start (length s)) (pick (leb len (length s - start)) (part s start len) []) [] ≡ []
      go (inl a) = simp (lt-leb _ _ a)
      go (inr a) =
          let b : length s - start < len = omega arith in
          simp (le-leb _ _ a, lt-leb _ _ b)

module _ (datagram store : List ℕ) (p : Place) where
  -- "as a part of it": all that the place names
  pub data_part : p.start + p.len ≤ length (slice_of datagram store p.source) → data_of datagram store p ≡ part (slice_of datagram store p.source) p.start p.len
  unfolding data_of
  data_part l = fits (slice_of datagram store p.source) p.start p.len l

  -- no octet is missing
  pub data_length : p.start + p.len ≤ length (slice_of datagram store p.source) → length (data_of datagram store p) ≡ p.len
  data_length l = ap length (data_part l) ∙ length_part (slice_of datagram store p.source) p.start p.len l

  -- a place that runs past the end shows nothing
  pub data_past : length (slice_of datagram store p.source) < p.start + p.len → data_of datagram store p ≡ []
  unfolding data_of
  data_past l = runs_past (slice_of datagram store p.source) p.start p.len l

-- where there is no data, none is shown
pub none_shown : (datagram store : List ℕ) → data_of datagram store no_data ≡ []
none_shown datagram store = data_part datagram store no_data (omega arith)

-- an abort shows no data
pub abort_without_data : (datagram store : List ℕ) (type reason : ℕ) (c : Context) → data_of datagram store (place_of (shown_of (Indication.Abort type reason) c)) ≡ []
unfolding shown_of place_of
abort_without_data datagram store type reason c = none_shown datagram store
