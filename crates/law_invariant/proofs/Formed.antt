-- Any well-formed table satisfies the invariant with its live records as the start: what each says counts as sent and shown. Assumes nothing.
use Prim.Native.Nat.{ℕ, ◌≤◌, ◌<◌}
use native.Mathlib.Omega.{arith}
use mathlib.Core.Path.{◌≡◌, refl, ap}
use mathlib.Core.Bool.{Bool}
use mathlib.Core.List.{List, []}
use mathlib.Core.Logic.{◌⊎◌, inl, inr}
use Rattle.std.specs.Prelude.{Option, Some, None}
use Rattle.base_lists.specs.Seq.{bit}
use Rattle.base_lists.proofs.StoresAndParts.{bit_le}
use Rattle.table_record.specs.Record.{role_of}
use Rattle.table_record.specs.declared.State.{State}
use Rattle.table_record.specs.declared.State.TheVariants.{Free, IResultWait1, IResultWait2, IResultRespWait, IWaitTimeout, RTidokWait1, RTidokWait2, RInvokeRespWait1, RInvokeRespWait2, RResultWait, RResultRespWait, RWaitTimeout}
use Rattle.table_layout.specs.Table.{count, record_at, settings_of}
use Rattle.table_finding.specs.Finding.{named_of}
use Rattle.table_finding.proofs.Searches.{named_found, named_nothing}
use Rattle.table_record_ok.specs.OneRecord.{Live}
use Rattle.table_names_ok.specs.Names.{SameName}
use Rattle.table_well_formed.specs.WellFormed.{WellFormed}
use Rattle.law_places.proofs.Places.{live_number, live_range}
use Rattle.law_plans_sound.proofs.Receives.{not_free}
use Rattle.law_counting.specs.Counting.{counts_in, Limits}
use Rattle.law_history.specs.Tally.{Name, tally}
use Rattle.law_history.specs.Start.{said_by, start_of}
use Rattle.law_history.specs.Moves.{name_of}
use Rattle.law_invariant.specs.Invariant.{Inv}
use Rattle.law_invariant.proofs.Names.{same_number}
use Rattle.law_invariant.proofs.Fresh.{none_limits}

-- what a state says is within the limits, where RCR is
says_limits : (max rcr : ℕ) (holdOn : Bool) → rcr ≤ max → (s : State) → Limits max (counts_in s rcr holdOn)
says_limits max rcr holdOn small s =
    let held : bit holdOn ≤ 1 = bit_le holdOn in
    go s held
  where
    go : (s : State) → bit holdOn ≤ 1 → Limits max (counts_in s rcr holdOn)
    go Free h = none_limits max
    go IResultWait1 h = record { sends = omega arith; results_sent = omega arith; confirms = omega arith; results = omega arith; aborts = omega arith; shows = omega arith }
    go IResultWait2 h = record { sends = omega arith; results_sent = omega arith; confirms = omega arith; results = omega arith; aborts = omega arith; shows = omega arith }
    go IResultRespWait h = record { sends = omega arith; results_sent = omega arith; confirms = omega arith; results = omega arith; aborts = omega arith; shows = omega arith }
    go IWaitTimeout h = record { sends = omega arith; results_sent = omega arith; confirms = omega arith; results = omega arith; aborts = omega arith; shows = omega arith }
    go RTidokWait1 h = none_limits max
    go RTidokWait2 h = none_limits max
    go RInvokeRespWait1 h = record { sends = omega arith; results_sent = omega arith; confirms = omega arith; results = omega arith; aborts = omega arith; shows = omega arith }
    go RInvokeRespWait2 h = record { sends = omega arith; results_sent = omega arith; confirms = omega arith; results = omega arith; aborts = omega arith; shows = omega arith }
    go RResultWait h = record { sends = omega arith; results_sent = omega arith; confirms = omega arith; results = omega arith; aborts = omega arith; shows = omega arith }
    go RResultRespWait h = record { sends = omega arith; results_sent = omega arith; confirms = omega arith; results = omega arith; aborts = omega arith; shows = omega arith }
    go RWaitTimeout h = record { sends = omega arith; results_sent = omega arith; confirms = omega arith; results = omega arith; aborts = omega arith; shows = omega arith }

module _ (t s : List ℕ) (formed : WellFormed t) where
  abbrev max : ℕ
  max = (settings_of t).rcr_max

  abbrev named : Name → Option ℕ
  named n = named_of t (count t) n.role n.peer n.tid

  -- the live record at a place is the one that its name finds
  pub finds_itself : (i : ℕ) → i < count t → Live (record_at t i) → named (name_of (record_at t i)) ≡ Some i
  finds_itself i inside live = go (named (name_of (record_at t i))) refl
    where
      is_place : (j : ℕ) → (j ≡ i) ⊎ (j ≡ i → ⊥) → j < count t → Live (record_at t j) → SameName (record_at t j) (record_at t i) → Some j ≡ Some i
      is_place j (inl q) b l n = ap Some q
      is_place j (inr d) b l n = absurd (formed.unique j i b inside d l live n)

      go : (f : Option ℕ) → named (name_of (record_at t i)) ≡ f → f ≡ Some i
      go (Some j) e =
          let l = named_found t (count t) (role_of (record_at t i).state) (record_at t i).peer (record_at t i).tid j e in
          is_place j (same_number j i) l.below (live_number (record_at t j).state l.is_so.live) (record { role = l.is_so.role_is; peer = l.is_so.peer_is; tid = l.is_so.tid_is })
      go None e = absurd (named_nothing t (count t) (role_of (record_at t i).state) (record_at t i).peer (record_at t i).tid e i inside (record { live = not_free (record_at t i).state live; role_is = refl; peer_is = refl; tid_is = refl }))

  within : (n : Name) → Limits max (said_by t (named n))
  within n = go (named n) refl
    where
      go : (f : Option ℕ) → named n ≡ f → Limits max (said_by t f)
      go (Some i) e =
          let l = named_found t (count t) n.role n.peer n.tid i e in
          says_limits max (record_at t i).rcr.0 (record_at t i).hold_on (live_range t formed i (record { inside = l.below; live = live_number (record_at t i).state l.is_so.live })).bounds.rcr (record_at t i).state
      go None e = none_limits max

  pub formed_inv : Inv (start_of t s) max t []
  unfolding tally
  formed_inv = record {
    formed = formed;
    rcr_max = refl;
    says = λ i inside live. ap (said_by t) (finds_itself i inside live);
    limits = within;
  }
