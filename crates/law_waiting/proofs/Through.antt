-- With the mode on every live record is timed, after any calls from a start at which all are. Assumes nothing.
use Prim.Native.Nat.{ℕ, ◌≤◌, ◌<◌}
use native.Mathlib.Omega.{arith}
use mathlib.Core.Path.{◌≡◌, refl, sym, ap, subst, ◌∙◌}
use mathlib.Core.List.{List, []}
use mathlib.Core.Logic.{◌⊎◌, inl, inr}
use Rattle.std.specs.Prelude.{Ok, Err}
use Rattle.base_lists.proofs.StoresAndParts.{lt_or_le}
use Rattle.table_record.specs.Record.{state_number}
use Rattle.table_record.specs.declared.Record.{Record}
use Rattle.table_record.specs.declared.State.TheVariants.{Free}
use Rattle.table_layout.specs.Table.{count, record_at, settings_of, intervals_of}
use Rattle.table_layout.specs.declared.Settings.{Settings}
use Rattle.table_record_ok.specs.OneRecord.{Live}
use Rattle.table_well_formed.specs.WellFormed.{WellFormed}
use Rattle.step_plan.specs.Steps.{Plan}
use Rattle.step_live.specs.Turning.{row_at, live_turn}
use Rattle.call_plans.specs.Calls.{plan_for}
use Rattle.law_history.specs.Trace.{Entry, Promise, Run}
use Rattle.law_history.specs.Moves.{before, after, OthersSame, Turned, Opened, Move}
use Rattle.law_one_turn.proofs.Moves.{moves}
use Rattle.law_invariant.proofs.Names.{same_number}
use Rattle.law_invariant.proofs.InvariantKept.{Around}
use Rattle.law_invariant.proofs.Refused.{refused_quiet}
use Rattle.law_invariant.proofs.Through.{around}
use Rattle.law_waiting.specs.Waiting.{ModeOn, Timed, AllTimed}
use Rattle.law_waiting.proofs.Kept.{Running, turn_timed, opening_timed}

-- the intervals of a well-formed table with the mode on
pub running : (t : List ℕ) → WellFormed t → ModeOn t → Running (settings_of t) (intervals_of t)
running t w on = record { a = w.header.settings.interval_a.least; w = w.header.settings.interval_w.least; limit = on; intervals = λ i n h k. (w.header.rows i n h k).least }

module _ (e : Entry) (p : Promise e) (w : WellFormed (before e)) (on : ModeOn (before e)) (all : AllTimed (before e)) where
  abbrev t : List ℕ
  t = before e

  -- a record that didn't change
  same_timed : (i : ℕ) → i < count t → record_at (after e) i ≡ record_at t i → Live (record_at (after e) i) → Timed (record_at (after e) i)
  same_timed i inside is live = rw is (all i inside (rw is at live))

  -- no record but one changed, and that is timed
  one_timed : (place : ℕ) → OthersSame e place → (Live (record_at (after e) place) → Timed (record_at (after e) place)) → (i : ℕ) → i < count t → Live (record_at (after e) i) → Timed (record_at (after e) i)
  one_timed place rest here i inside live = go (same_number i place)
    where
      go : (i ≡ place) ⊎ (i ≡ place → ⊥) → Timed (record_at (after e) i)
      go (inl q) = rw q (here (rw q at live))
      go (inr d) = same_timed i inside (rest i d) live

  turned : (m : Turned e) → Live (record_at (after e) m.place) → Timed (record_at (after e) m.place)
  unfolding live_turn row_at
  turned m live = go (lt_or_le (state_number x.state) 1)
    where
      x : Record
      x = (live_turn t m.place m.event m.given).after

      go : (state_number x.state < 1) ⊎ (1 ≤ state_number x.state) → Timed (record_at (after e) m.place)
      go (inl z) = absurd (omega (arith, live, ap state_number (m.freed (λ (k : Live x). omega (arith, k, z)))))
      go (inr k) = rw (m.put k) (turn_timed (settings_of t) (intervals_of t) (running t w on) m.given (record_at t m.place) m.event (all m.place m.inside m.live) k)

  opened : (m : Opened e) → Live (record_at (after e) m.place) → Timed (record_at (after e) m.place)
  opened m live = rw m.put (opening_timed (settings_of t) (intervals_of t) (running t w on) m.given m.opening m.name.peer m.name.tid m.user_ack m.tidnew m.live)

  moved : Move e → (i : ℕ) → i < count t → Live (record_at (after e) i) → Timed (record_at (after e) i)
  moved (inl q) i inside live = same_timed i inside (q.same i) live
  moved (inr (inl m)) i inside live = one_timed m.place m.rest (turned m) i inside live
  moved (inr (inr (inl m))) i inside live = one_timed m.place m.rest (opened m) i inside live
  moved (inr (inr (inr m))) i inside live = same_timed i inside (m.same i) live

  -- one call
  pub call_timed : AllTimed (after e)
  call_timed i inside live = go (plan_for e.call e.lent) refl
    where
      here : i < count t
      here = rw (around e p w).same_count at inside

      go : (plan : Plan) → plan_for e.call e.lent ≡ plan → Timed (record_at (after e) i)
      go (Err r) q = same_timed i here ((refused_quiet e p r q).same i) live
      go (Ok step) q = moved (moves e p step q) i here live

-- what is so of a table after any calls: well formed, the settings of the start, and with the mode on all timed
pub record Waits (t₀ t : List ℕ) : Type 0 where
  pub formed : WellFormed t
  pub settings : settings_of t ≡ settings_of t₀
  pub timed : ModeOn t → AllTimed t

pub waits_through : {t₀ s₀ t s : List ℕ} {h : List Entry} → WellFormed t₀ → AllTimed t₀ → Run t₀ s₀ t s h → Waits t₀ t
waits_through w all Run.start = record { formed = w; settings = refl; timed = λ on. all }
waits_through {t₀} w all (Run.called {t} run e p tab sto) =
    let k : Waits t₀ (before e) = subst (Waits t₀) (sym tab) (waits_through w all run) in
    let a : Around e = around e p k.formed in
    record {
      formed = a.formed;
      settings = a.same_settings ∙ k.settings;
      timed = λ on. let was : ModeOn (before e) = rw a.same_settings at on in call_timed e p k.formed was (k.timed was);
    }

-- from a table without a live record, as wtp_fresh makes it
pub none_timed : (t : List ℕ) → ((i : ℕ) → (record_at t i).state ≡ Free) → AllTimed t
none_timed t free i inside live = absurd (omega (arith, live, ap state_number (free i)))
