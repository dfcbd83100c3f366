-- Over any history each result and each Invoke is that of its PDU, with exact data. Assumes nothing.
use Prim.Native.Nat.{ℕ}
use mathlib.Core.Path.{◌≡◌, refl, sym, ap, ◌∙◌}
use mathlib.Core.List.{List, []}
use mathlib.Core.Logic.{inr}
use Rattle.base_lists.proofs.StoresAndParts.{true_false}
use Rattle.table_record.specs.declared.State.TheVariants.{Free}
use Rattle.table_layout.specs.Table.{record_at}
use Rattle.law_history.specs.Trace.{Entry, Run, Throughout}
use Rattle.law_history.specs.Start.{Start, start_of, in_tidok_wait}
use Rattle.law_history.specs.Demand.{Unopened, ResultExact, InvokeExact, Invoke0Exact}
use Rattle.law_data_shown.specs.Cells.{CellsHold}
use Rattle.law_data_shown.proofs.Results.{result_exact}
use Rattle.law_data_shown.proofs.Held.{still_held}
use Rattle.law_data_shown.proofs.Invokes.{invoke_exact, invoke_0_exact}

-- a table without a live record, as a fresh one is
pub cells_of_none : (start : Start) (t s : List ℕ) → ((i : ℕ) → (record_at t i).state ≡ Free) → CellsHold start t s []
cells_of_none start t s none i inside waits = true_false (sym (ap in_tidok_wait (sym (none i)) ∙ waits))

-- a table and its store taken as the start: each record in TIDOK WAIT is that of the Invoke whose data its cell holds
pub formed_cells : (t s : List ℕ) → CellsHold (start_of t s) t s []
unfolding Unopened
formed_cells t s i inside waits = inr (record {
  unopened = tt;
  kept = record { place = i; inside = inside; waits = waits; peer_is = refl; tid_is = refl; class_is = refl; up_is = refl; holds = refl };
})

pub results_exact : {t₀ s₀ t s : List ℕ} {h : List Entry} → Run t₀ s₀ t s h → Throughout ResultExact h
unfolding Throughout
results_exact Run.start = tt
results_exact (Run.called {h = h} run e p table store) = (result_exact e p h, results_exact run)

pub cells_held : (start : Start) {t₀ s₀ t s : List ℕ} {h : List Entry} → Run t₀ s₀ t s h → CellsHold start t₀ s₀ [] → CellsHold start t s h
cells_held start Run.start first = first
cells_held start (Run.called {h = h} run e p table store) first = still_held start e p h (rw (table, store) (cells_held start run first))

pub invokes_exact : (start : Start) {t₀ s₀ t s : List ℕ} {h : List Entry} → Run t₀ s₀ t s h → CellsHold start t₀ s₀ [] → Throughout (InvokeExact start) h
unfolding Throughout
invokes_exact start Run.start first = tt
invokes_exact start (Run.called {h = h} run e p table store) first = (invoke_exact start e p h (rw (table, store) (cells_held start run first)), invokes_exact start run first)

pub invokes_0_exact : (start : Start) {t₀ s₀ t s : List ℕ} {h : List Entry} → Run t₀ s₀ t s h → CellsHold start t₀ s₀ [] → Throughout Invoke0Exact h
unfolding Throughout
invokes_0_exact start Run.start first = tt
invokes_0_exact start (Run.called {h = h} run e p table store) first = (invoke_0_exact start e p h (rw (table, store) (cells_held start run first)), invokes_0_exact start run first)
