-- With the mode off it stays off, whatever calls are made, and each of them is the base's; a table made fresh with mode 0 has it off. Assumes nothing.
use Prim.Native.Nat.{ℕ, ◌≤◌, ◌<◌}
use native.Mathlib.Omega.{arith}
use mathlib.Core.Path.{◌≡◌, refl, sym, ap, subst, ◌∙◌}
use mathlib.Core.Bool.{true, false}
use mathlib.Core.List.{List}
use mathlib.Core.Logic.{◌⊎◌, inl, inr}
use lib.ListN.{length, get_or}
use lib.Dec.{eqb}
use borrow.Author.Tests.{eqb-true, eqb-false}
use Rattle.std.specs.Prelude.{Ok, Err}
use Rattle.base_lists.proofs.StoresAndParts.{told, lt_or_le}
use Rattle.table_record.specs.Record.{state_number}
use Rattle.table_record.specs.declared.Record.{Record}
use Rattle.table_layout.specs.Table.{count, settings_of, intervals_of, record_at}
use Rattle.table_layout.specs.declared.Settings.{Settings}
use Rattle.table_record_ok.specs.OneRecord.{Live}
use Rattle.table_fresh.specs.Fresh.{fresh_answer, table_after_fresh}
use Rattle.std.specs.Prelude.{Ok}
use Rattle.table_fresh.specs.Conditions.{word, AllInRange}
use Rattle.table_fresh.proofs.Ranges.{in_range_holds}
use Rattle.table_fresh.proofs.Answers.{accepted}
use Rattle.table_fresh.proofs.Facts.{fresh_facts}
use Rattle.law_fresh_formed.proofs.Formed.{fresh_ok}
use Rattle.row_entries.specs.Acts.{opening_act}
use Rattle.row_turns.specs.Turns.{new_record, opening_turn}
use Rattle.step_live.specs.Turning.{live_turn}
use Rattle.step_plan.specs.Steps.{Plan}
use Rattle.step_outcome.specs.Carry.{Lent, Done}
use Rattle.law_plans_sound.specs.Plans.{RestUnchanged}
use Rattle.call_plans.specs.Calls.{Call, plan_for, promised, Lends}
use Rattle.law_ways.proofs.CallWays.{call_ways}
use Rattle.law_calls.proofs.Outcomes.{call_refused, call_keeps}
use Rattle.law_history.specs.Trace.{Entry, Promise, Run, Throughout}
use Rattle.law_history.specs.Moves.{before, after, OthersSame, Turned, Opened, Move}
use Rattle.law_one_turn.proofs.Moves.{moves}
use Rattle.law_mode_off.specs.ModeOff.{ModeOff, StaysOff}
use Rattle.law_mode_off.proofs.Rows.{turn_none}
use Rattle.law_mode_off.proofs.Steps.{live_limit}
use Rattle.law_mode_off.proofs.Carried.{mode_off_call}
use Rattle.law_mode_off.proofs.Fresh.{no_limit}

-- a free record isn't live
free_dead : (r : Record) → state_number r.state ≡ 0 → Live r → ⊥
free_dead r e live = omega (arith, e, live)

-- no call changes the settings, or how many records there are
pub record SameSettings (t then : List ℕ) : Type 0 where
  pub settings : settings_of then ≡ settings_of t
  pub count_same : count then ≡ count t

pub call_settings : (c : Call) (l : Lent) → Lends c l → SameSettings l.table (promised c l).table
call_settings c l lends = go (plan_for c l) refl
  where
    go : (plan : Plan) → plan_for c l ≡ plan → SameSettings l.table (promised c l).table
    go (Err r) q = let u = call_refused c l r q in record { settings = ap settings_of u.table; count_same = ap count u.table }
    go (Ok step) q =
        let k : RestUnchanged l (promised c l) step = call_keeps c l step lends (call_ways c l step q).fits q in
        record { settings = k.table.settings; count_same = rw k.table.same_length refl }

module _ (e : Entry) (m : ModeOff (before e)) where
  abbrev None : Record → Type 0
  None r = Live r → r.limit ≡ 0

  here : {place j : ℕ} → None (record_at (after e) place) → OthersSame e place → j < count (before e) → None (record_at (after e) j)
  here {place} {j} n rest inside = go (told (eqb j place))
    where
      go : (eqb j place ≡ true) ⊎ (eqb j place ≡ false) → None (record_at (after e) j)
      go (inl q) = rw (eqb-true j place q) n
      go (inr q) = rw (rest j (eqb-false j place q)) (m.records j inside)

  turned_none : (k : Turned e) → None (record_at (after e) k.place)
  turned_none k = go (lt_or_le (state_number then.state) 1)
    where
      then : Record
      then = (live_turn (before e) k.place k.event k.given).after

      go : (state_number then.state < 1) ⊎ (1 ≤ state_number then.state) → None (record_at (after e) k.place)
      go (inl free) = λ live. absurd (free_dead (record_at (after e) k.place) (ap state_number (k.freed (λ l. omega (arith, l, free)))) live)
      go (inr live) = λ l. ap (λ (r : Record). r.limit) (k.put live) ∙ live_limit (before e) m k.place k.inside k.live k.event k.given

  opened_none : (k : Opened e) → None (record_at (after e) k.place)
  unfolding opening_turn new_record
  opened_none k live =
      ap (λ (r : Record). r.limit) k.put
      ∙ turn_none k.given (settings_of (before e)) (intervals_of (before e)) (new_record k.name.peer k.name.tid k.user_ack k.tidnew) m.settings refl (opening_act k.opening)

  move_none : Move e → (j : ℕ) → j < count (before e) → None (record_at (after e) j)
  move_none (inl q) j inside = rw (q.same j) (m.records j inside)
  move_none (inr (inl k)) j inside = here (turned_none k) k.rest inside
  move_none (inr (inr (inl k))) j inside = here (opened_none k) k.rest inside
  move_none (inr (inr (inr o))) j inside = rw (o.same j) (m.records j inside)

-- one call leaves it off
pub call_stays_off : (e : Entry) → Promise e → ModeOff (before e) → ModeOff (after e)
call_stays_off e p m = go (plan_for e.call e.lent) refl
  where
    same : SameSettings (before e) (after e)
    same = subst (λ (d : Done). SameSettings (before e) d.table) (sym p.keeps) (call_settings e.call e.lent p.lends)

    go : (plan : Plan) → plan_for e.call e.lent ≡ plan → ModeOff (after e)
    go (Err r) q = subst ModeOff (sym (ap (λ (d : Done). d.table) p.keeps ∙ (call_refused e.call e.lent r q).table)) m
    go (Ok step) q = record { settings = ap (λ (s : Settings). s.limit) same.settings ∙ m.settings; records = λ j inside. move_none e m (moves e p step q) j (rw same.count_same at inside) }

-- MODE OFF KEPT: over any calls, in any order, refused ones among them, it stays off, and each call gives and leaves what the base's engine gives and leaves
pub mode_off_kept : {t₀ s₀ t s : List ℕ} {h : List Entry} → ModeOff t₀ → Run t₀ s₀ t s h → StaysOff t h
unfolding Throughout
mode_off_kept m Run.start = record { off = m; as_before = tt }
mode_off_kept m (Run.called {h = h} run e p tab sto) =
    let k = mode_off_kept m run in
    let b : ModeOff (before e) = subst ModeOff (sym tab) k.off in
    record { off = call_stays_off e p b; as_before = (p.keeps ∙ mode_off_call e.call e.lent b, k.as_before) }

-- a table without a live record has it off where its settings have
pub none_live_off : (t : List ℕ) → (settings_of t).limit ≡ 0 → ((i : ℕ) → Live (record_at t i) → ⊥) → ModeOff t
none_live_off t e none = record { settings = e; records = λ i inside live. absurd (none i live) }

module _ (old ws : List ℕ) (first : ℕ) (made : fresh_answer (length old) ws first ≡ Ok tt) where
  abbrev fresh : List ℕ
  fresh = table_after_fresh (Ok tt) old ws first

  a : AllInRange ws first
  a = in_range_holds ws first (accepted (length old) ws first made).1

  pub fresh_limit : (settings_of fresh).limit ≡ word ws 23
  unfolding table_after_fresh
  fresh_limit = ap (λ (s : Settings). s.limit) (fresh_facts (count old) ws first a).settings

  pub fresh_off : (settings_of fresh).limit ≡ 0 → ModeOff fresh
  fresh_off e = none_live_off fresh e (λ i live. absurd (omega (arith, live, ap state_number ((fresh_ok old ws first made).no_record i))))

  -- word 22 of the settings is the mode
  pub fresh_mode_off : get_or ws 22 0 ≡ 0 → ModeOff fresh
  fresh_mode_off mode = fresh_off (fresh_limit ∙ no_limit ws first mode a.modes)

-- from a table made fresh with mode 0
pub mode_off_holds : (old settings : List ℕ) (first : ℕ) → fresh_answer (length old) settings first ≡ Ok tt → get_or settings 22 0 ≡ 0
    → {s₀ t s : List ℕ} {h : List Entry} → Run (table_after_fresh (Ok tt) old settings first) s₀ t s h → StaysOff t h
mode_off_holds old settings first made mode run = mode_off_kept (fresh_mode_off old settings first made mode) run
