-- Firing the record that is named (02, L3): "the other fires the transaction named .. Refusals: firing a live record that isn't due gives 9, an unknown one 8".
use Rattle.std.specs.Prelude.{ℕ, List, [], ◌∷◌, ◌++◌, Bool, false, not, Result, Option, Some, None, is_some}
use Rattle.base_numbers.specs.declared.Refusal.{Refusal}
use Rattle.base_numbers.specs.declared.Refusal.TheVariants.{NoRecord, NotAllowed}
use Rattle.table_layout.specs.Table.{record_at}
use Rattle.table_finding.specs.Finding.{is_due}
use Rattle.row_events.specs.declared.Event.TheVariants as Event
use Rattle.step_opening.specs.Opens.{place_for}
use Rattle.step_plan.specs.Steps.{Plan}
use Rattle.call_refusal.specs.Judging.{Test, test, lowest, plan_by, placed_by, peer_tests}
use Rattle.call_primitive.specs.Primitives.{found_for}
use Rattle.call_primitive.specs.declared.Primitive.{Primitive}
use Rattle.call_timer.specs.Timers.{step_by}

-- a firing names its record as a primitive does, by role, peer and TID, and brings nothing but its time
abbrev pub as_fire : ℕ → ℕ → ℕ → ℕ → Primitive
as_fire time role peer tid = record { event = Event.Timer; time = time; role = role; peer = peer; tid = tid; reason = 0; len = 0; exit_len = 0 }

-- "it isn't due: no deadline, or one after `now`"
unfoldable pub not_due : List ℕ → ℕ → Option ℕ → Bool
not_due t time (Some i) = not (is_due time (record_at t i))
not_due t time None = false

-- numbers 8 and 9, of the record that is named
abbrev pub named_tests : List ℕ → ℕ → Option ℕ → List Test
named_tests t time found = test NoRecord (not (is_some found)) ∷ test NotAllowed (not_due t time found) ∷ []

-- all of them: 1, 2, 3, 8, 9; the conditions are in crates/law_refusals
abbrev pub fire_tests : List ℕ → ℕ → ℕ → Primitive → List Test
fire_tests t store output p = peer_tests t store output p.time p.peer ++ named_tests t p.time (found_for t p)

-- the step of an accepted one is what the timer call does with a due record: its Timer row
unfoldable pub fire_plan : List ℕ → ℕ → ℕ → Primitive → Plan
fire_plan t store output p = plan_by (lowest (fire_tests t store output p)) (step_by (found_for t p) t p.time)

-- ---- what the code takes apart: the place of the record that is fired

-- with the named record found
unfoldable pub named_place : List ℕ → ℕ → Option ℕ → Result ℕ Refusal
named_place t time found = placed_by (lowest (named_tests t time found)) (place_for found)

unfoldable pub fire_place : List ℕ → ℕ → ℕ → Primitive → Result ℕ Refusal
fire_place t store output p = placed_by (lowest (fire_tests t store output p)) (place_for (found_for t p))
