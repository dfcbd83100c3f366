-- No entry of a history that began with live records shows a result, or an Invoke, that a record said was shown. Assumes nothing.
use Prim.Native.Nat.{ℕ, ◌+◌, ◌≤◌, ◌<◌}
use native.Mathlib.Omega.{arith}
use borrow.Author.Tests.{ne_eqb}
use mathlib.Core.Path.{◌≡◌, refl, sym, ap, ◌∙◌}
use mathlib.Core.Bool.{true, false}
use mathlib.Core.List.{List, [], ◌∷◌}
use mathlib.Core.Logic.{inl, inr}
use lib.Dec.{eqb}
use Rattle.std.specs.Prelude.{Ok, Err}
use Rattle.table_record.specs.Record.{role_of, state_number}
use Rattle.table_record.specs.declared.Role.TheVariants.{Initiator, Responder}
use Rattle.table_record.specs.declared.State.{State}
use Rattle.table_layout.specs.Table.{count, record_at}
use Rattle.table_record_ok.specs.OneRecord.{Live}
use Rattle.table_well_formed.specs.WellFormed.{WellFormed}
use Rattle.step_shown.specs.declared.Shown.{Shown}
use Rattle.step_shown.specs.declared.Shown.TheVariants as Shown
use Rattle.step_outcome.specs.Carry.{Answer}
use Rattle.law_counting.specs.Counting.{Counts, counts_in}
use Rattle.law_history.specs.Trace.{Entry}
use Rattle.law_history.specs.Tally.{Name, is_named, of_shown, of_answer, adds, opens, tally}
use Rattle.law_history.specs.Start.{said_by, start_of}
use Rattle.law_history.specs.Moves.{name_of}
use Rattle.law_history.specs.Demand.{ShownIn, Unopened, Limited}
use Rattle.law_one_turn.proofs.Names.{name, named_self}
use Rattle.law_invariant.proofs.Counted.{goes_on}
use Rattle.law_invariant.proofs.Formed.{finds_itself}
use Rattle.law_demand_3.specs.Again.{ResultAgain, InvokeAgain}

-- what counted at the start counts on, under a name that no call opens
counts_on : (start : Name → Counts) (h : List Entry) (n : Name) → Unopened n h → ((start n).results ≤ (tally start h n).results) × ((start n).shows ≤ (tally start h n).shows)
unfolding tally Unopened
counts_on start [] n u = (omega arith, omega arith)
counts_on start (e ∷ h) n u =
    let k = counts_on start h n u.1 in
    rw u.0 (omega (arith, k.0), omega (arith, k.1))

-- what an answer shows is counted
shown_counts : (n : Name) (s : Shown) (a : Answer) → ShownIn a s → ((of_shown n s).results ≤ (of_answer n a).results) × ((of_shown n s).shows ≤ (of_answer n a).shows)
shown_counts n s (Err r) x = absurd x
shown_counts n s (Ok a) (inl q) = rw (sym q) (omega arith, omega arith)
shown_counts n s (Ok a) (inr q) = rw (sym q) (omega arith, omega arith)

added : (e : Entry) (n : Name) → ((of_answer n e.done.answer).results ≤ (adds e n).results) × ((of_answer n e.done.answer).shows ≤ (adds e n).shows)
unfolding adds
added e n = (omega arith, omega arith)

module _ (t s : List ℕ) (formed : WellFormed t) (max : ℕ) (e : Entry) (h : List Entry) (limited : Limited (start_of t s) max e h) where
  -- what a live record of the start said
  said_at : (i : ℕ) → i < count t → Live (record_at t i) → (start_of t s).counts (name_of (record_at t i)) ≡ counts_in (record_at t i).state (record_at t i).rcr.0 (record_at t i).hold_on
  said_at i inside live = ap (said_by t) (finds_itself t s formed i inside live)

  -- with what this call adds
  both : (n : Name) → Unopened n (e ∷ h) → tally (start_of t s).counts (e ∷ h) n ≡ record {
    sends = (tally (start_of t s).counts h n).sends + (adds e n).sends;
    results_sent = (tally (start_of t s).counts h n).results_sent + (adds e n).results_sent;
    confirms = (tally (start_of t s).counts h n).confirms + (adds e n).confirms;
    results = (tally (start_of t s).counts h n).results + (adds e n).results;
    aborts = (tally (start_of t s).counts h n).aborts + (adds e n).aborts;
    shows = (tally (start_of t s).counts h n).shows + (adds e n).shows;
  }
  unfolding Unopened
  both n u = goes_on (start_of t s).counts e h n (adds e n) u.0 refl

  older : (n : Name) → Unopened n (e ∷ h) → Unopened n h
  unfolding Unopened
  older n u = u.1

  pub no_result_again : ResultAgain t e h → ⊥
  unfolding of_shown
  no_result_again w =
      let i : ℕ = w.place in
      let n : Name = name_of (record_at t i) in
      let live : Live (record_at t i) = omega (arith, ap state_number w.said) in
      let one : ((start_of t s).counts n).results ≡ 1 = ap (λ (c : Counts). c.results) (said_at i w.inside live) ∙ ap (λ (x : State). (counts_in x (record_at t i).rcr.0 (record_at t i).hold_on).results) w.said in
      let own : is_named n Initiator (record_at t i).peer (record_at t i).tid ≡ true = ap (λ (x : State). is_named (name (role_of x) (record_at t i).peer (record_at t i).tid) Initiator (record_at t i).peer (record_at t i).tid) w.said ∙ named_self Initiator (record_at t i).peer (record_at t i).tid in
      let another : (of_shown n (Shown.Result (record_at t i).peer (record_at t i).tid w.at)).results ≡ 1 = rw own refl in
      let shown = (shown_counts n (Shown.Result (record_at t i).peer (record_at t i).tid w.at) e.done.answer w.again).0 in
      omega (arith, one, another, shown, (added e n).0, (counts_on (start_of t s).counts h n (older n w.unopened)).0, ap (λ (c : Counts). c.results) (both n w.unopened), (limited n).results)

  pub no_invoke_again : InvokeAgain t e h → ⊥
  unfolding of_shown
  no_invoke_again w =
      let i : ℕ = w.place in
      let n : Name = name_of (record_at t i) in
      let live : Live (record_at t i) = omega (arith, ap state_number w.said) in
      let one : ((start_of t s).counts n).shows ≡ 1 = ap (λ (c : Counts). c.shows) (said_at i w.inside live) ∙ ap (λ (x : State). (counts_in x (record_at t i).rcr.0 (record_at t i).hold_on).shows) w.said in
      let own : is_named n Responder (record_at t i).peer (record_at t i).tid ≡ true = ap (λ (x : State). is_named (name (role_of x) (record_at t i).peer (record_at t i).tid) Responder (record_at t i).peer (record_at t i).tid) w.said ∙ named_self Responder (record_at t i).peer (record_at t i).tid in
      let classed : eqb w.class 0 ≡ false = ne_eqb w.class 0 (λ (q : w.class ≡ 0). omega (arith, w.counted, q)) in
      let another : (of_shown n (Shown.Invoke (record_at t i).peer (record_at t i).tid w.class w.up w.at)).shows ≡ 1 = rw (classed, own) refl in
      let shown = (shown_counts n (Shown.Invoke (record_at t i).peer (record_at t i).tid w.class w.up w.at) e.done.answer w.again).1 in
      omega (arith, one, another, shown, (added e n).1, (counts_on (start_of t s).counts h n (older n w.unopened)).1, ap (λ (c : Counts). c.shows) (both n w.unopened), (limited n).shows)
