-- A user's answer, result or abort (01, "Events"): its refusals, and the step of an accepted one.
use Rattle.std.specs.Prelude.{ℕ, ◌≤◌, ◌<◌, ◌≡◌, List, [], ◌∷◌, ◌++◌, Bool, true, false, not, ltb, eqb, Result, Option, Some, None, is_some}
use Rattle.base_numbers.specs.declared.Refusal.{Refusal}
use Rattle.base_layout.specs.Layout.{exit_bound, cell_size}
use Rattle.base_lists.specs.Seq.{pick}
use Rattle.base_numbers.specs.declared.Refusal.TheVariants.{TooLong, NoRecord, NotAllowed}
use Rattle.table_record.specs.Record.{role_of, class_of, role_number}
use Rattle.table_record.specs.declared.Role.{Role}
use Rattle.table_record.specs.declared.Role.TheVariants.{Initiator, Responder}
use Rattle.table_layout.specs.Table.{count, record_at}
use Rattle.table_record_ok.specs.OneRecord.{Live}
use Rattle.table_finding.specs.Finding.{named_of}
use Rattle.row_events.specs.Events.{same_row_is}
use Rattle.row_events.specs.declared.Event.{Event}
use Rattle.row_events.specs.declared.Row.{Row}
use Rattle.row_turns.specs.declared.Given.{Given}
use Rattle.call_refusal.specs.Judging.{Test, test, lowest, plan_by, placed_by, peer_tests}
use Rattle.step_plan.specs.Steps.{no_part, Plan}
use Rattle.step_plan.specs.declared.Call.{Call}
use Rattle.step_plan.specs.declared.Tells.TheVariants.{Nothing}
use Rattle.step_plan.specs.declared.Step.{Step}
use Rattle.step_opening.specs.Opens.{place_for}
use Rattle.step_live.specs.Turning.{row_at, live_step}
use Rattle.step_carrying.specs.declared.Coming.{Coming}
use Rattle.call_primitive.specs.declared.Primitive.{Primitive}

-- ---- what the conditions of its refusals name; the conditions are in crates/law_refusals

-- the live record at place i has the role, peer and TID that the primitive names; role 0 is the initiator's, 1 the responder's
pub record Named (t : List ℕ) (p : Primitive) (i : ℕ) : Type 0 where
  pub inside : i < count t
  pub live : Live (record_at t i)
  pub role : role_number (role_of (record_at t i).state) ≡ p.role
  pub peer : (record_at t i).peer ≡ p.peer
  pub tid : (record_at t i).tid ≡ p.tid

-- 4: "exit information with an answer naming a live class 2 responder record"; a result and an abort bring none
pub record ExitRefused (t : List ℕ) (p : Primitive) (i : ℕ) : Type 0 where
  pub some : 1 ≤ p.exit_len
  pub names : Named t p i
  pub responder : role_of (record_at t i).state ≡ Responder
  pub class : class_of (record_at t i).state ≡ 2

-- 8: "the named role, peer and TID has no live record"
abbrev pub NoneNamed : List ℕ → Primitive → Type 0
NoneNamed t p = (i : ℕ) → Named t p i → ⊥

-- ---- the tests of its refusals

-- the record that a primitive names; a role other than 0 and 1 names none
unfoldable pub named_by : List ℕ → ℕ → ℕ → ℕ → Option ℕ
named_by t role peer tid =
    pick (eqb role 0) (named_of t (count t) Initiator peer tid) (pick (eqb role 1) (named_of t (count t) Responder peer tid) None)

abbrev pub is_responder : Role → Bool
is_responder Initiator = false
is_responder Responder = true

unfoldable pub exit_refused : List ℕ → Option ℕ → Bool
exit_refused t (Some i) = pick (eqb (class_of (record_at t i).state) 2) (is_responder (role_of (record_at t i).state)) false
exit_refused t None = false

unfoldable pub too_much_is : List ℕ → Primitive → Option ℕ → Bool
too_much_is t p found =
    pick (ltb cell_size p.len) true (pick (ltb exit_bound p.exit_len) true (pick (ltb 0 p.exit_len) (exit_refused t found) false))

-- the row of a primitive that isn't allowed
unfoldable pub refuses_row : Row → Bool
refuses_row row = same_row_is row Row.NotAllowed

-- "a primitive without [a row] gets 9"
unfoldable pub not_allowed : List ℕ → Option ℕ → Event → Bool
not_allowed t (Some i) event = refuses_row (row_at t i event)
not_allowed t None event = false

-- numbers 1 to 3
abbrev pub entry_tests : List ℕ → ℕ → ℕ → Primitive → List Test
entry_tests t store output p = peer_tests t store output p.time p.peer

-- numbers 4, 8, 9, of the record that is named
abbrev pub found_tests : List ℕ → Option ℕ → Primitive → List Test
found_tests t found p =
    test TooLong (too_much_is t p found)
    ∷ test NoRecord (not (is_some found))
    ∷ test NotAllowed (not_allowed t found p.event)
    ∷ []

-- the record that the primitive names
abbrev pub found_for : List ℕ → Primitive → Option ℕ
found_for t p = named_by t p.role p.peer p.tid

-- all of them
abbrev pub primitive_tests : List ℕ → ℕ → ℕ → Primitive → List Test
primitive_tests t store output p = entry_tests t store output p ++ found_tests t (found_for t p) p

-- ---- the step

-- a primitive brings its time, an abort's reason, the lengths of its data and its exit information
unfoldable pub primitive_given : Primitive → Given
primitive_given p = record { time = p.time; kind = 0; reason = p.reason; len = p.len; exit_len = p.exit_len; unknown = 0 }

-- its message is all of its data
unfoldable pub primitive_call : Primitive → Call
primitive_call p = record { message = record { start = 0; len = p.len }; info = no_part; user = no_part; tells = Nothing }

unfoldable pub primitive_step : List ℕ → ℕ → Primitive → Step
primitive_step t place p = live_step t place p.event (primitive_given p) (primitive_call p)

-- the whole plan
unfoldable pub primitive_plan : List ℕ → ℕ → ℕ → Primitive → Plan
primitive_plan t store output p =
    plan_by (lowest (primitive_tests t store output p)) (primitive_step t (place_for (found_for t p)) p)

-- ---- what the code takes apart: the place of its record, and the row

-- with the named record found
unfoldable pub found_place : List ℕ → Option ℕ → Primitive → Result ℕ Refusal
found_place t found p = placed_by (lowest (found_tests t found p)) (place_for found)

unfoldable pub primitive_place : List ℕ → ℕ → ℕ → Primitive → Result ℕ Refusal
primitive_place t store output p = placed_by (lowest (primitive_tests t store output p)) (place_for (found_for t p))

unfoldable pub primitive_row : List ℕ → ℕ → Primitive → Coming
primitive_row t place p = Coming.Live place (row_at t place p.event)
