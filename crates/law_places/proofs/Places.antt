-- In a well-formed table a record that is found lies inside and is in range, and a place to open one is inside. Assumes nothing.
use Prim.Native.Nat.{ℕ, ◌≤◌, ◌<◌}
use native.Mathlib.Omega.{arith}
use mathlib.Core.Path.{◌≡◌, refl}
use mathlib.Core.List.{List}
use mathlib.Core.Logic.{inl, inr}
use Rattle.std.specs.Prelude.{Option, Some, None}
use Rattle.base_layout.specs.Layout.{records_bound}
use Rattle.table_record.specs.declared.Role.{Role}
use Rattle.table_record.specs.Record.{state_number}
use Rattle.table_record.specs.declared.State.{State}
use Rattle.table_layout.specs.Table.{count, settings_of, record_at}
use Rattle.table_record_ok.specs.OneRecord.{InRange, RecordOk}
use Rattle.table_record_ok.proofs.RecordTest.{free_state}
use Rattle.table_well_formed.specs.WellFormed.{WellFormed}
use Rattle.table_finding.specs.Finding.{named_of, free_of, due_of}
use Rattle.table_finding.proofs.Searches.{named_found, free_found}
use Rattle.table_finding.proofs.Earliest.{due_found}
use Rattle.step_opening.specs.Opens.{place_for}
use Rattle.law_places.specs.Places.{LiveAt}

-- a state that isn't free has a number over 0
pub live_number : (s : State) → (s ≡ State.Free → ⊥) → 1 ≤ state_number s
live_number State.Free h = absurd (h refl)
live_number State.IResultWait1 h = omega arith
live_number State.IResultWait2 h = omega arith
live_number State.IResultRespWait h = omega arith
live_number State.IWaitTimeout h = omega arith
live_number State.RTidokWait1 h = omega arith
live_number State.RTidokWait2 h = omega arith
live_number State.RInvokeRespWait1 h = omega arith
live_number State.RInvokeRespWait2 h = omega arith
live_number State.RResultWait h = omega arith
live_number State.RResultRespWait h = omega arith
live_number State.RWaitTimeout h = omega arith

module _ (t : List ℕ) (w : WellFormed t) where
  pub place_small : (i : ℕ) → i < count t → i < records_bound
  place_small i h = omega (arith, w.sized.most)

  pub live_range : (i : ℕ) → LiveAt t i → InRange (settings_of t) (record_at t i)
  live_range i l = go (w.records i l.inside)
    where
      go : RecordOk t (settings_of t) i → InRange (settings_of t) (record_at t i)
      go (inl free) = absurd (omega (arith, free_state t i free, l.live))
      go (inr ok) = ok.range

  pub named_live : (role : Role) (peer tid i : ℕ) → named_of t (count t) role peer tid ≡ Some i → LiveAt t i
  named_live role peer tid i e =
      let l = named_found t (count t) role peer tid i e in
      record { inside = l.below; live = live_number (record_at t i).state l.is_so.live }

  pub due_live : (time i : ℕ) → due_of t (count t) time ≡ Some i → LiveAt t i
  due_live time i e =
      let l = due_found t time (count t) i e in
      record { inside = l.below; live = live_number (record_at t i).state l.is_due_holds.live }

  -- where none is free the first place stands in, and there is one
  pub free_place_holds : place_for (free_of t (count t)) < count t
  unfolding place_for
  free_place_holds = go (free_of t (count t)) refl
    where
      go : (f : Option ℕ) → free_of t (count t) ≡ f → place_for f < count t
      go (Some i) e = (free_found t (count t) i e).below
      go None e = omega (arith, w.sized.least)
