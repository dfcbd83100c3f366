-- An accepted firing of a named record: the plan's step is that record's, which is whole. Assumes nothing.
use Prim.Native.Nat.{ℕ, ◌≤◌}
use mathlib.Core.Path.{◌≡◌, refl}
use mathlib.Core.List.{List, []}
use lib.ListN.{length}
use Rattle.std.specs.Prelude.{Ok, Err}
use Rattle.base_layout.specs.Layout.{time_bound}
use Rattle.base_numbers.specs.declared.Refusal.{Refusal}
use Rattle.step_outcome.specs.Carry.{lent, Ready}
use Rattle.c_answers.specs.Handed.{Called, handed_by}
use Rattle.law_places.proofs.Whole.{Whole}
use Rattle.call_timer.specs.Timers.{fired_step}
use Rattle.call_fire.specs.Fires.{as_fire, fire_place, fire_plan}
use Rattle.call_fire.proofs.Placing.{fire_goes, fire_known, fire_refuses}
use Rattle.call_plans.specs.Calls.{Call}
use Rattle.law_plans_sound.proofs.CallSound.{call_sound}
use Rattle.call_engine.specs.Calls.{gives}
use Rattle.call_engine.proofs.Carrying.{goes_ready, gone_so, sound_ready}

module _ (t s o : List ℕ) (time role peer tid : ℕ) where
  module _ (place : ℕ) (e : Ok place ≡ fire_place t (length s) (length o) (as_fire time role peer tid)) where
    goes : fire_plan t (length s) (length o) (as_fire time role peer tid) ≡ Ok (fired_step t place time)
    unfolding fired_step
    goes = fire_goes t (length s) (length o) (as_fire time role peer tid) place e

    pub known : Whole t place × (time ≤ time_bound)
    known = fire_known t (length s) (length o) (as_fire time role peer tid) place e

    pub ready : Ready (lent t s o [] []) (fired_step t place time)
    ready = goes_ready (lent t s o [] []) _ _ goes (sound_ready _ _ (call_sound (Call.Fire time role peer tid) (lent t s o [] []) (refl, refl)))

    pub so : (d : Called) (words : List ℕ) → d ≡ handed_by (lent t s o [] []) (Ok (fired_step t place time)) words → d ≡ gives (Call.Fire time role peer tid) (lent t s o [] []) words
    so d words k = gone_so (lent t s o [] []) _ _ d words goes k

  pub refuses : (r : Refusal) → Err r ≡ fire_place t (length s) (length o) (as_fire time role peer tid) → fire_plan t (length s) (length o) (as_fire time role peer tid) ≡ Err r
  refuses = fire_refuses t (length s) (length o) (as_fire time role peer tid)
