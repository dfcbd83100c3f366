-- A request (01, "Events", "Initiator"): its refusals, and the step of an accepted one.
use Rattle.std.specs.Prelude.{ℕ, ◌%◌, ◌<◌, ◌≡◌, List, [], ◌∷◌, ◌++◌, Bool, false, not, ltb, Option, Some, Result, is_some}
use Rattle.base_numbers.specs.declared.Refusal.{Refusal}
use Rattle.base_layout.specs.Layout.{peers, cell_size}
use Rattle.base_lists.specs.Seq.{pick}
use Rattle.base_numbers.specs.declared.Refusal.TheVariants.{TooLong, WrongClass, TidInUse, TableFull}
use Rattle.table_record.specs.Record.{role_of}
use Rattle.table_record.specs.declared.Role.TheVariants.{Initiator}
use Rattle.table_layout.specs.Table.{count, gen_tid_of, record_at, tidnew_due_of}
use Rattle.table_record_ok.specs.OneRecord.{Live}
use Rattle.table_finding.specs.Finding.{free_of, tid_in_use}
use Rattle.row_choice.specs.Rows.{requested_of}
use Rattle.table_tids.specs.Tids.{next_tid, carries_tidnew, due_after}
use Rattle.row_turns.specs.declared.Given.{Given}
use Rattle.step_commit.specs.declared.GenTid.{GenTid}
use Rattle.call_refusal.specs.Judging.{Test, test, lowest, plan_by, placed_by, peer_tests}
use Rattle.step_plan.specs.Steps.{no_part, Plan}
use Rattle.step_plan.specs.declared.Holder.{Holder}
use Rattle.step_plan.specs.declared.Call.{Call}
use Rattle.step_plan.specs.declared.Tells.TheVariants.{Tid}
use Rattle.step_plan.specs.declared.Step.{Step}
use Rattle.step_opening.specs.Opens.{place_for, opening_step}
use Rattle.step_carrying.specs.declared.Coming.{Coming}
use Rattle.step_carrying.specs.declared.Coming.TheVariants.{Opens}
use Rattle.call_request.specs.declared.Request.{Request}

-- 6: "GenTID is the TID of a live initiator record, any peer"
pub record UsesGenTid (t : List ℕ) (i : ℕ) : Type 0 where
  pub inside : i < count t
  pub live : Live (record_at t i)
  pub initiator : role_of (record_at t i).state ≡ Initiator
  pub tid : (record_at t i).tid ≡ gen_tid_of t

-- ---- the tests of its refusals; document 01's conditions are in crates/law_refusals

-- numbers 4 to 6
abbrev pub own_tests : List ℕ → Request → List Test
own_tests t q =
    test TooLong (ltb cell_size q.len)
    ∷ test WrongClass (ltb 2 q.class)
    ∷ test TidInUse (tid_in_use t (count t) (gen_tid_of t))
    ∷ []

-- numbers 1 to 6
abbrev pub entry_tests : List ℕ → ℕ → ℕ → Request → List Test
entry_tests t store output q = peer_tests t store output q.time q.peer ++ own_tests t q

-- number 7, of the lowest free record
unfoldable pub none_free : Option ℕ → ℕ → Bool
none_free free class = pick (ltb 0 class) (not (is_some free)) false

abbrev pub full_tests : Option ℕ → Request → List Test
full_tests free q = test TableFull (none_free free q.class) ∷ []

-- numbers 1 to 7
abbrev pub request_tests : List ℕ → ℕ → ℕ → Request → List Test
request_tests t store output q = entry_tests t store output q ++ full_tests (free_of t (count t)) q

-- ---- the step

-- the new record: an initiator's, under GenTID, with TIDnew where that is due
unfoldable pub requester : List ℕ → ℕ → Request → Holder
requester t place q = record {
  place = place;
  role = Initiator;
  peer = q.peer % peers;
  tid = gen_tid_of t;
  class = q.class % 256;
  up = q.user_ack;
  tidnew = carries_tidnew (q.class % 256) (tidnew_due_of t);
  len = 0;
}

-- 01: "GenTID counts modulo 32,768, also for class 0"; 02, L2: and whether TIDnew is then due
unfoldable pub counted_by : List ℕ → Request → Option GenTid
counted_by t q = Some (record { tid = next_tid (gen_tid_of t); tidnew_due = due_after (q.class % 256) (tidnew_due_of t) (next_tid (gen_tid_of t)) })

-- a request brings its time and the length of its data
unfoldable pub request_given : Request → Given
request_given q = record { time = q.time; kind = 0; reason = 0; len = q.len; exit_len = 0; unknown = 0 }

-- its message is all of its data; the answer tells its TID
unfoldable pub request_call : Request → Call
request_call q = record { message = record { start = 0; len = q.len }; info = no_part; user = no_part; tells = Tid }

-- 01: "Request: send Invoke; class 0 ends; else RCR 0, timer R[0], RESULT WAIT"
unfoldable pub request_step : List ℕ → ℕ → Request → Step
request_step t place q =
    opening_step t (requested_of (q.class % 256)) (requester t place q) (request_given q) (counted_by t q) (request_call q)

-- the whole plan: "takes the lowest free record when it opens one"
unfoldable pub request_plan : List ℕ → ℕ → ℕ → Request → Plan
request_plan t store output q =
    plan_by (lowest (request_tests t store output q)) (request_step t (place_for (free_of t (count t))) q)

-- ---- what the code takes apart: the place of its record, and the opening

-- with the lowest free record found
unfoldable pub free_place : Option ℕ → Request → Result ℕ Refusal
free_place free q = placed_by (lowest (full_tests free q)) (place_for free)

unfoldable pub request_place : List ℕ → ℕ → ℕ → Request → Result ℕ Refusal
request_place t store output q = placed_by (lowest (request_tests t store output q)) (place_for (free_of t (count t)))

unfoldable pub request_opens : List ℕ → ℕ → Request → Coming
request_opens t place q = Opens (requested_of (q.class % 256)) (requester t place q) (counted_by t q)
