-- An accepted PDU: the turn that it brings, or the time alone. Assumes nothing.
use Prim.Native.Nat.{ℕ, ◌%◌}
use mathlib.Core.Path.{◌≡◌, refl, sym, ap, ◌∙◌}
use mathlib.Core.List.{List}
use lib.ListN.{length}
use Rattle.std.specs.Prelude.{Result, Ok, Err, Option, Some, None}
use Rattle.base_layout.specs.Layout.{peers}
use Rattle.base_numbers.specs.declared.Refusal.{Refusal}
use Rattle.step_plan.specs.Steps.{idle_step}
use Rattle.step_carrying.specs.Coming.{coming_step, InRange}
use Rattle.call_refusal.specs.Judging.{lowest}
use Rattle.call_refusal.proofs.Going.{Entered, entered}
use Rattle.call_receive.specs.Receives.{receive_tests, receive_step, receive_plan, receive_turn}
use Rattle.call_receive.specs.declared.Arrival.{Arrival}
use Rattle.call_receive.proofs.Turns.{Sound, turn_sound, nobody_is, turns_is}

module _ (t : List ℕ) (store output time peer : ℕ) (s : List ℕ) (j : Result Unit Refusal) (e : j ≡ lowest (receive_tests t store output time peer (length s))) where
  pub refuses : (r : Refusal) → j ≡ Err r → receive_plan t store output time peer s ≡ Err r
  unfolding receive_plan
  refuses r k = rw (sym e ∙ k) refl

  module _ (k : j ≡ Ok tt) where
    pub enters : Entered t store output time
    enters = entered t store output time _ (sym e ∙ k)

    goes : receive_plan t store output time peer s ≡ Ok (receive_step t time (peer % peers) s)
    unfolding receive_plan
    goes = rw (sym e ∙ k) refl

    module _ (a : Option Arrival) (ae : a ≡ receive_turn t time (peer % peers) s) where
      sound : Sound t time (receive_step t time (peer % peers) s) a
      sound = rw ae (turn_sound t time enters.bounded enters.fitting.formed (peer % peers) s)

      pub rests : a ≡ None → receive_plan t store output time peer s ≡ Ok (idle_step time)
      rests h = goes ∙ ap Ok (nobody_is t time (receive_step t time (peer % peers) s) a sound h)

      module _ (b : Arrival) (h : a ≡ Some b) where
        pub turns : receive_plan t store output time peer s ≡ Ok (coming_step t b.coming b.given b.call)
        turns = goes ∙ ap Ok (turns_is t time (receive_step t time (peer % peers) s) a sound b h).0

        pub ranged : InRange t b.coming b.given
        ranged = (turns_is t time (receive_step t time (peer % peers) s) a sound b h).1
