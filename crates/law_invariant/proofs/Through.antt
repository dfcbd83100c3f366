-- Whatever calls are made, one after another, the invariant stays, each call is calm and brings an abort alone; and none is refused for a size. Assumes nothing.
use Prim.Native.Nat.{ℕ}
use mathlib.Core.Path.{◌≡◌, refl, sym, ap, subst}
use mathlib.Core.List.{List, []}
use Rattle.std.specs.Prelude.{Ok, Err}
use Rattle.base_numbers.specs.declared.Refusal.{Refusal}
use Rattle.table_layout.specs.Table.{count, settings_of}
use Rattle.table_well_formed.specs.WellFormed.{WellFormed}
use Rattle.step_plan.specs.declared.Step.{Step}
use Rattle.step_plan.specs.Steps.{Plan}
use Rattle.step_outcome.specs.Carry.{Done}
use Rattle.law_steps_sound.specs.Sound.{Fits}
use Rattle.law_plans_sound.specs.Plans.{RestUnchanged, StillFits}
use Rattle.call_plans.specs.Calls.{plan_for}
use Rattle.law_calls.proofs.Outcomes.{call_still_fits, call_keeps}
use Rattle.law_history.specs.Trace.{Entry, Promise, Run, Throughout}
use Rattle.law_history.specs.Start.{Start}
use Rattle.law_history.specs.Moves.{before, after}
use Rattle.law_invariant.specs.Invariant.{Inv, Moves, Sizes, NotForSize, Held}
use Rattle.law_invariant.proofs.Refused.{refused_is, refused_quiet}
use Rattle.law_ways.proofs.CallWays.{call_ways}
use Rattle.law_ways.proofs.NumberOne.{fits_not_refused}
use Rattle.law_invariant.proofs.InvariantKept.{Around, Stepped, quiet_keeps, move_keeps}

-- what holds of every entry that keeps its contract holds throughout
pub throughout : (P : Entry → List Entry → Type 0) → ((e : Entry) (h : List Entry) → Promise e → P e h) → {t₀ s₀ t s : List ℕ} {h : List Entry} → Run t₀ s₀ t s h → Throughout P h
unfolding Throughout
throughout P f Run.start = tt
throughout P f (Run.called {h = h} run e p tab sto) = (f e h p, throughout P f run)

module _ (e : Entry) (p : Promise e) where
  -- an accepted call leaves what fits, of the same size and settings
  still : Fits e.lent → StillFits e.lent e.done
  still f = subst (λ (d : Done). StillFits e.lent d) (sym p.keeps) (call_still_fits e.call e.lent p.lends f)

  accepted_around : (step : Step) → plan_for e.call e.lent ≡ Ok step → Around e
  accepted_around step q =
      let f : Fits e.lent = (call_ways e.call e.lent step q).fits in
      let k : RestUnchanged e.lent e.done step = subst (λ (d : Done). RestUnchanged e.lent d step) (sym p.keeps) (call_keeps e.call e.lent step p.lends f q) in
      record { formed = (still f).formed; same_count = rw k.table.same_length refl; same_settings = k.table.settings }

  -- a refusal leaves all
  same_table : (r : Refusal) → plan_for e.call e.lent ≡ Err r → after e ≡ before e
  same_table r q = ap (λ (d : Done). d.table) (refused_is e p r q)

  same_store : (r : Refusal) → plan_for e.call e.lent ≡ Err r → e.done.store ≡ e.lent.store
  same_store r q = ap (λ (d : Done). d.store) (refused_is e p r q)

  refused_around : (r : Refusal) → plan_for e.call e.lent ≡ Err r → WellFormed (before e) → Around e
  refused_around r q w = record { formed = subst WellFormed (sym (same_table r q)) w; same_count = ap count (same_table r q); same_settings = ap settings_of (same_table r q) }

  -- every call, refused or not
  pub around : WellFormed (before e) → Around e
  around w = go (plan_for e.call e.lent) refl
    where
      go : (plan : Plan) → plan_for e.call e.lent ≡ plan → Around e
      go (Err r) q = refused_around r q w
      go (Ok step) q = accepted_around step q

  sizes_kept : Sizes (before e) e.lent.store → Sizes (after e) e.done.store
  sizes_kept z = go (plan_for e.call e.lent) refl
    where
      go : (plan : Plan) → plan_for e.call e.lent ≡ plan → Sizes (after e) e.done.store
      go (Err r) q = rw (same_table r q, same_store r q) z
      go (Ok step) q = let k = still (call_ways e.call e.lent step q).fits in record { formed = k.formed; cells = k.cells }

  not_for_size : Sizes (before e) e.lent.store → (h : List Entry) → NotForSize e h
  not_for_size z h room q = fits_not_refused e.call e.lent (record { formed = z.formed; cells = z.cells; room = room }) q

-- after any calls the table is well formed
pub formed_through : {t₀ s₀ t s : List ℕ} {h : List Entry} → WellFormed t₀ → Run t₀ s₀ t s h → WellFormed t
formed_through w Run.start = w
formed_through w (Run.called run e p tab sto) = (around e p (subst WellFormed (sym tab) (formed_through w run))).formed

-- after any calls, refused ones among them, the table is well formed and the store fits it
pub sizes_through : {t₀ s₀ t s : List ℕ} {h : List Entry} → Sizes t₀ s₀ → Run t₀ s₀ t s h → Sizes t s
sizes_through z Run.start = z
sizes_through z (Run.called run e p tab sto) = sizes_kept e p (rw (tab, sto) (sizes_through z run))

-- number 1 is given for a wrong output alone
pub never_refused_1 : {t₀ s₀ t s : List ℕ} {h : List Entry} → Sizes t₀ s₀ → Run t₀ s₀ t s h → Throughout NotForSize h
unfolding Throughout
never_refused_1 z Run.start = tt
never_refused_1 z (Run.called {h = h} run e p tab sto) = (not_for_size e p (rw (tab, sto) (sizes_through z run)) h, never_refused_1 z run)

module _ (moves : Moves) (start : Start) (max : ℕ) where
  pub call_steps : (e : Entry) (h : List Entry) → Promise e → Inv start max (before e) h → Stepped start max e h
  call_steps e h p v = go (plan_for e.call e.lent) refl
    where
      go : (plan : Plan) → plan_for e.call e.lent ≡ plan → Stepped start max e h
      go (Err r) q = quiet_keeps start max e h v (refused_around e p r q v.formed) (refused_quiet e p r q)
      go (Ok step) q = move_keeps start max e h v (accepted_around e p step q) (moves e p step q)

  -- from any start that satisfies it
  pub kept_through : {t₀ s₀ t s : List ℕ} {h : List Entry} → Inv start max t₀ [] → Run t₀ s₀ t s h → Held start max t h
  unfolding Throughout
  kept_through v Run.start = record { inv = v; limits = tt; calm = tt; alone = tt }
  kept_through v (Run.called {h = h} run e p tab sto) =
      let k = kept_through v run in
      let s : Stepped start max e h = call_steps e h p (subst (λ (x : List ℕ). Inv start max x h) (sym tab) k.inv) in
      record { inv = s.inv; limits = (s.inv.limits, k.limits); calm = (s.calm, k.calm); alone = (s.alone, k.alone) }
