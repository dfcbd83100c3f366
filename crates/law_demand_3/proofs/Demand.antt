-- Demand 3: from a table made fresh, or from any well-formed one with its live records as the start, whatever calls follow, in any order. Assumes nothing.
use Prim.Native.Nat.{ℕ}
use mathlib.Core.Path.{◌≡◌, sym, ◌∙◌}
use mathlib.Core.List.{List, []}
use lib.ListN.{length, get_or}
use Rattle.table_fresh.specs.Fresh.{fresh_answer, table_after_fresh}
use Rattle.std.specs.Prelude.{Ok}
use Rattle.table_layout.specs.Table.{settings_of}
use Rattle.table_well_formed.specs.WellFormed.{WellFormed}
use Rattle.law_fresh_formed.specs.FreshOk.{FreshOk}
use Rattle.law_fresh_formed.proofs.Formed.{fresh_ok}
use Rattle.step_shown.specs.Parts.{data_of}
use Rattle.step_shown.specs.declared.Place.{Place}
use Rattle.step_shown.specs.declared.Shown.TheVariants as Shown
use Rattle.law_history.specs.Trace.{Entry, Promise, Run}
use Rattle.law_history.specs.Start.{Start, fresh, start_of}
use Rattle.law_history.specs.Changed.{CallFramed}
use Rattle.law_history.specs.Demand.{Shows, user_data, OwnAborts, Demand3}
use Rattle.law_one_turn.proofs.Moves.{moves}
use Rattle.law_data_shown.specs.Cells.{CellsHold}
use Rattle.law_data_shown.proofs.Results.{result_exact}
use Rattle.law_data_shown.proofs.Throughout.{results_exact, invokes_exact, invokes_0_exact, cells_of_none, formed_cells}
use Rattle.law_each_call.proofs.OwnAborts.{own_aborts}
use Rattle.law_each_call.proofs.Changed.{call_framed}
use Rattle.law_invariant.specs.Invariant.{Inv, Held}
use Rattle.law_invariant.proofs.Fresh.{made_inv}
use Rattle.law_invariant.proofs.Formed.{formed_inv}
use Rattle.law_invariant.proofs.Through.{throughout, kept_through}

-- from any start that satisfies the invariant and whose cells hold the Invokes that are to be verified
pub demand_3_from : {t₀ s₀ t s : List ℕ} {h : List Entry} (start : Start) (max : ℕ) → Inv start max t₀ [] → CellsHold start t₀ s₀ [] → Run t₀ s₀ t s h → Demand3 start max t h
demand_3_from start max inv cells run =
    let k : Held start max _ _ = kept_through moves start max inv run in
    record {
      unique = k.inv.formed.unique;
      limits = k.limits;
      calm = k.calm;
      alone = k.alone;
      own_aborts = throughout OwnAborts (λ e h p. own_aborts e p h) run;
      results = results_exact run;
      invokes = invokes_exact start run cells;
      invokes_0 = invokes_0_exact start run cells;
      framed = throughout CallFramed (λ e h p. call_framed e p h) run;
    }

-- from a table made fresh, with RCR_MAX its first setting
pub demand_3_holds : (old settings : List ℕ) (first : ℕ) → fresh_answer (length old) settings first ≡ Ok tt
    → {s₀ t s : List ℕ} {h : List Entry} → Run (table_after_fresh (Ok tt) old settings first) s₀ t s h → Demand3 fresh (get_or settings 0 0) t h
demand_3_holds old settings first made {s₀} run =
    let ok : FreshOk old (table_after_fresh (Ok tt) old settings first) first = fresh_ok old settings first made in
    demand_3_from fresh (get_or settings 0 0) (made_inv old settings first made) (cells_of_none fresh (table_after_fresh (Ok tt) old settings first) s₀ ok.no_record) run

-- from any well-formed table, with its live records and what the store holds for them as the start: one that salvage left is such a table
pub demand_3_salvaged : (t₀ s₀ : List ℕ) → WellFormed t₀ → {t s : List ℕ} {h : List Entry} → Run t₀ s₀ t s h → Demand3 (start_of t₀ s₀) (settings_of t₀).rcr_max t h
demand_3_salvaged t₀ s₀ formed run = demand_3_from (start_of t₀ s₀) (settings_of t₀).rcr_max (formed_inv t₀ s₀ formed) (formed_cells t₀ s₀) run

-- an empty result shown means that a Result PDU with empty data was taken
pub empty_result_taken : (e : Entry) → Promise e → (peer tid : ℕ) (place : Place) → Shows e (Shown.Result peer tid place)
    → data_of e.lent.given e.done.store place ≡ [] → user_data e.lent.given ≡ []
empty_result_taken e p peer tid place shown empty = sym (result_exact e p [] peer tid place shown).exact ∙ empty
