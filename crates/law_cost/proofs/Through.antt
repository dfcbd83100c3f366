-- Whatever calls are made, one after another, from any start that satisfies the invariant: each request accepted since then costs what the history says, and is reported once. Assumes nothing.
use Prim.Native.Nat.{ℕ}
use mathlib.Core.Path.{◌≡◌, refl, sym, subst}
use mathlib.Core.List.{List, [], ◌∷◌}
use Rattle.std.specs.Prelude.{Ok, Err}
use Rattle.base_lists.proofs.StoresAndParts.{true_false}
use Rattle.step_plan.specs.Steps.{Plan}
use Rattle.call_plans.specs.Calls.{plan_for}
use Rattle.law_history.specs.Trace.{Entry, Promise, Run, Throughout}
use Rattle.law_history.specs.Tally.{Name}
use Rattle.law_history.specs.Start.{Start}
use Rattle.law_history.specs.Moves.{before, after, Move}
use Rattle.law_one_turn.proofs.Moves.{moves}
use Rattle.law_invariant.specs.Invariant.{Inv}
use Rattle.law_invariant.proofs.InvariantKept.{Around}
use Rattle.law_invariant.proofs.Refused.{refused_quiet}
use Rattle.law_invariant.proofs.Through.{around, call_steps}
use mathlib.Core.Logic.{inl}
use Rattle.law_cost.specs.Cost.{asked, Counted, Costs}
use Rattle.law_cost.specs.Owed.{Owed}
use Rattle.law_cost.proofs.Kept.{move_owed}
use Rattle.law_cost.proofs.Told.{tells_sum, tells_nothing, ends_told}

-- a refused call is a quiet one
any_move : (e : Entry) → Promise e → Move e
any_move e p = go (plan_for e.call e.lent) refl
  where
    go : (plan : Plan) → plan_for e.call e.lent ≡ plan → Move e
    go (Err r) q = inl (refused_quiet e p r q)
    go (Ok step) q = moves e p step q

-- at the start nothing is asked
none_counted : {A : Type 0} (n : Name) → Counted [] n → A
unfolding asked
none_counted n c = true_false (sym c.was_asked)

module _ (start : Start) (max : ℕ) where
  none_owed : (t : List ℕ) → Owed start.counts max t []
  unfolding asked
  none_owed t = record { bills = λ i inside live asks known. true_false (sym known); once = λ n c. none_counted n c; bound = λ n c. none_counted n c }

  -- WHAT ONE UPLOAD MAY COST
  pub record Paying (t : List ℕ) (h : List Entry) : Type 0 where
    pub inv : Inv start max t h
    pub owed : Owed start.counts max t h
    pub costs : Costs start.counts max t h

  pub paying_through : {t₀ s₀ t s : List ℕ} {h : List Entry} → Inv start max t₀ [] → Run t₀ s₀ t s h → Paying t h
  unfolding Throughout
  paying_through {t₀} v Run.start = record { inv = v; owed = none_owed t₀; costs = record { sums = tt; nothing = tt; ends = tt; once = λ n c. none_counted n c; bound = λ n c. none_counted n c } }
  paying_through v (Run.called {h = h} run e p tab sto) =
      let k : Paying (before e) h = subst (λ (x : List ℕ). Paying x h) (sym tab) (paying_through v run) in
      let a : Around e = around e p k.inv.formed in
      let m : Move e = any_move e p in
      let o : Owed start.counts max (after e) (e ∷ h) = move_owed start max e h k.inv a k.owed m in
      record {
        inv = (call_steps moves start max e h p k.inv).inv;
        owed = o;
        costs = record {
          sums = (tells_sum start max e h k.inv a k.owed m, k.costs.sums);
          nothing = (tells_nothing start max e h k.inv a k.owed m, k.costs.nothing);
          ends = (ends_told start max e h k.inv a k.owed m, k.costs.ends);
          once = o.once;
          bound = o.bound;
        };
      }

  pub costs_through : {t₀ s₀ t s : List ℕ} {h : List Entry} → Inv start max t₀ [] → Run t₀ s₀ t s h → Costs start.counts max t h
  costs_through v run = (paying_through v run).costs
