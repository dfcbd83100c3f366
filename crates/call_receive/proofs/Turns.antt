-- The turn that a PDU brings has its step, and is in range. Assumes nothing.
use Prim.Native.Nat.{ℕ, ◌≤◌}
use native.Mathlib.Omega.{arith}
use mathlib.Core.Path.{◌≡◌, refl, sym}
use mathlib.Core.List.{List}
use Rattle.std.specs.Prelude.{None, Option, Some}
use Rattle.base_layout.specs.Layout.{time_bound, tid_bound}
use Rattle.codec_pdu.specs.Pdu.{unknown_of}
use Rattle.codec_pdu.specs.declared.Pdu.{Pdu}
use Rattle.codec_reading.specs.Read.{pdu_of}
use Rattle.table_record.specs.declared.Role.{Role}
use Rattle.table_layout.specs.Table.{count}
use Rattle.table_finding.specs.Finding.{named_of, free_of}
use Rattle.table_well_formed.specs.WellFormed.{WellFormed}
use Rattle.step_arrivals.specs.Arrivals.{name_of, event_of}
use Rattle.step_arrivals.proofs.Names.{name_below}
use Rattle.step_plan.specs.Steps.{idle_step}
use Rattle.step_plan.specs.declared.Step.{Step}
use Rattle.step_live.specs.Turning.{row_at}
use Rattle.step_opening.specs.Opens.{place_for}
use Rattle.step_carrying.specs.Coming.{coming_step, InRange}
use Rattle.step_carrying.proofs.Steps.{live_is, opens_is, live_in_range, opens_in_range}
use Rattle.law_places.proofs.Places.{place_small, free_place_holds}
use Rattle.law_places.proofs.Whole.{Whole, named_whole}
use Rattle.call_receive.specs.Receives.{taken_given, taken_call, taken_step, arriver_of, opened_given, opened_call, opened_step, arrival_opening, unmatched_step, step_by, naming_step, step_of_name, receive_step, taken_turn, opened_turn, unmatched_turn, turn_by, naming_turn, turn_of_name, receive_turn}
use Rattle.call_receive.specs.declared.Arrival.{Arrival}

-- what is so of a turn: its step, and its range
abbrev pub Sound : List ℕ → ℕ → Step → Option Arrival → Type 0
Sound t time step None = step ≡ idle_step time
Sound t time step (Some a) = (step ≡ coming_step t a.coming a.given a.call) × InRange t a.coming a.given

module _ (t : List ℕ) (time : ℕ) (bound : time ≤ time_bound) where
  taken_sound : (place : ℕ) (p : Pdu) → Whole t place → Sound t time (taken_step t place time p) (Some (taken_turn t place time p (unknown_of p).identity))
  unfolding taken_step taken_turn taken_given
  taken_sound place p w =
      (live_is t place (event_of p.kind) (taken_given time p) (taken_call p), live_in_range t place (row_at t place (event_of p.kind)) (taken_given time p) w.tid w.small bound)

  unmatched_sound : WellFormed t → (role : Role) (peer tid : ℕ) (s : List ℕ) (p : Pdu) → tid ≤ tid_bound → Sound t time (unmatched_step t role peer tid time s p) (Some (unmatched_turn t role peer tid time s p (unknown_of p).identity))
  unfolding unmatched_step unmatched_turn opened_step opened_turn opened_given arriver_of
  unmatched_sound w role peer tid s p below =
      let h = arriver_of (place_for (free_of t (count t))) role peer tid p.kind in
      (opens_is t (arrival_opening t peer tid s p) h (opened_given time p) None (opened_call p), opens_in_range t (arrival_opening t peer tid s p) h None (opened_given time p) below (place_small t w (place_for (free_of t (count t))) (free_place_holds t w)) bound)

  module _ (w : WellFormed t) (peer : ℕ) (s : List ℕ) where
    by_sound : (role : Role) (tid : ℕ) → tid ≤ tid_bound → (f : Option ℕ) → named_of t (count t) role peer tid ≡ f → Sound t time (step_by f t role peer tid time s) (Some (turn_by f t role peer tid time s))
    by_sound role tid below (Some i) e = taken_sound i (pdu_of s) (named_whole t w role peer tid (count t) i (Some i) refl (sym e) refl)
    by_sound role tid below None e = unmatched_sound w role peer tid s (pdu_of s) below

    name_sound : (n : Option (Role × ℕ)) → name_of s ≡ n → Sound t time (step_of_name n t time peer s) (turn_of_name n t time peer s)
    unfolding naming_step naming_turn
    name_sound None e = refl
    name_sound (Some (role, tid)) e = by_sound role tid (omega (arith, name_below s role tid e)) (named_of t (count t) role peer tid) refl

    pub turn_sound : Sound t time (receive_step t time peer s) (receive_turn t time peer s)
    unfolding receive_step receive_turn
    turn_sound = name_sound (name_of s) refl

-- what the code has of it, by what arrives
pub nobody_is : (t : List ℕ) (time : ℕ) (step : Step) (a : Option Arrival) → Sound t time step a → a ≡ None → step ≡ idle_step time
nobody_is t time step a k e = rw e at k

pub turns_is : (t : List ℕ) (time : ℕ) (step : Step) (a : Option Arrival) → Sound t time step a → (arrival : Arrival) → a ≡ Some arrival → (step ≡ coming_step t arrival.coming arrival.given arrival.call) × InRange t arrival.coming arrival.given
turns_is t time step a k arrival e = rw e at k
