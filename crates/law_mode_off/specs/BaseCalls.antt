-- The base's engine, before the waiting limit (02, L6): the calls. Their refusals and what they find are definitions that L6 left alone, but for two: number 9 of a primitive is by the base's row here, and of number 1 `fits_as_before` says that its test is the base's condition.
use Rattle.std.specs.Prelude.{ℕ, ◌%◌, Bool, false, not, List, [], ◌∷◌, ◌++◌, length, None, Option, Some, is_some, Ok, Err}
use Rattle.base_layout.specs.Layout.{peers}
use Rattle.base_lists.specs.Seq.{put}
use Rattle.base_numbers.specs.declared.Refusal.TheVariants.{TooLong, NoRecord, NotAllowed}
use Rattle.codec_reading.specs.Read.{pdu_of}
use Rattle.table_record.specs.declared.Role.{Role}
use Rattle.table_layout.specs.Table.{count}
use Rattle.table_finding.specs.Finding.{named_of, free_of, due_of}
use Rattle.row_events.specs.declared.Event.{Event}
use Rattle.row_events.specs.declared.Event.TheVariants as Event
use Rattle.row_choice.specs.Rows.{requested_of}
use Rattle.step_arrivals.specs.Arrivals.{name_of, event_of}
use Rattle.step_plan.specs.Steps.{idle_step, Plan}
use Rattle.step_plan.specs.declared.Step.{Step}
use Rattle.step_opening.specs.Opens.{place_for}
use Rattle.step_outcome.specs.Carry.{Lent, Done, done, octets_out, store_then, taken_of}
use Rattle.call_refusal.specs.Judging.{Test, test, lowest, plan_by}
use Rattle.call_request.specs.Requests.{request_tests, requester, counted_by, request_given, request_call}
use Rattle.call_request.specs.declared.Request.{Request}
use Rattle.call_primitive.specs.Primitives.{too_much_is, refuses_row, entry_tests, found_for, primitive_given, primitive_call}
use Rattle.call_primitive.specs.declared.Primitive.{Primitive}
use Rattle.call_receive.specs.Receives.{receive_tests, taken_given, taken_call, arriver_of, opened_given, opened_call, arrival_opening}
use Rattle.call_timer.specs.Timers.{timer_tests, fired_given, fired_call}
use Rattle.call_fire.specs.Fires.{as_fire, fire_tests}
use Rattle.call_plans.specs.Calls.{Call, as_request, as_answer, as_result, as_abort, store_size, output_size}
use Rattle.c_answers.specs.Answers.{more_words}
use Rattle.wtp.specs.Engine.{Called, handed, costed, or_small, item_told}
use Rattle.law_mode_off.specs.Base.{base_row_at, base_live_step, base_opening_step}
use Rattle.law_mode_off.specs.BaseFormed.{base_table_changed}

-- 01: "Request: send Invoke; class 0 ends; else RCR 0, timer R[0], RESULT WAIT"
unfoldable pub base_request_plan : List ℕ → (store output : ℕ) → Request → Plan
base_request_plan t store output q =
    plan_by (lowest (request_tests t store output q))
    (base_opening_step t (requested_of (q.class % 256)) (requester t (place_for (free_of t (count t))) q) (request_given q) (counted_by t q) (request_call q))

-- 01: "a primitive without [a row] gets 9"
unfoldable pub base_not_allowed : List ℕ → Option ℕ → Event → Bool
base_not_allowed t (Some i) event = refuses_row (base_row_at t i event)
base_not_allowed t None event = false

-- 01, "Numbers given back": numbers 4, 8, 9, of the record that is named
abbrev pub base_found_tests : List ℕ → Option ℕ → Primitive → List Test
base_found_tests t found p =
    test TooLong (too_much_is t p found)
    ∷ test NoRecord (not (is_some found))
    ∷ test NotAllowed (base_not_allowed t found p.event)
    ∷ []

-- 01, "Events": the user's answer, result or abort to the record that it names
unfoldable pub base_primitive_plan : List ℕ → (store output : ℕ) → Primitive → Plan
base_primitive_plan t store output p =
    plan_by (lowest (entry_tests t store output p ++ base_found_tests t (found_for t p) p)) (base_live_step t (place_for (found_for t p)) p.event (primitive_given p) (primitive_call p))

-- 01, "Events": a PDU to the live record that it names, or without one
abbrev pub base_taken : Option ℕ → List ℕ → Role → (peer tid time : ℕ) → List ℕ → Step
base_taken (Some i) t role peer tid time s = base_live_step t i (event_of (pdu_of s).kind) (taken_given time (pdu_of s)) (taken_call (pdu_of s))
base_taken None t role peer tid time s =
    base_opening_step t (arrival_opening t peer tid s (pdu_of s)) (arriver_of (place_for (free_of t (count t))) role peer tid (pdu_of s).kind) (opened_given time (pdu_of s)) None (opened_call (pdu_of s))

-- 01, "TIDs": "a shorter one names none"
abbrev pub base_received : Option (Role × ℕ) → List ℕ → (time peer : ℕ) → List ℕ → Step
base_received None t time peer s = idle_step time
base_received (Some (role, tid)) t time peer s = base_taken (named_of t (count t) role peer tid) t role peer tid time s

-- 01, "Events": the PDU that was received
unfoldable pub base_receive_plan : List ℕ → (store output time peer : ℕ) → List ℕ → Plan
base_receive_plan t store output time peer s = plan_by (lowest (receive_tests t store output time peer (length s))) (base_received (name_of s) t time (peer % peers) s)

-- 01: the timer call "fires the due record [..] or says none is due"
abbrev pub base_fired : Option ℕ → List ℕ → (time : ℕ) → Step
base_fired (Some i) t time = base_live_step t i Event.Timer (fired_given time) fired_call
base_fired None t time = idle_step time

-- 01, "Events": the timer call
unfoldable pub base_timer_plan : List ℕ → (store output time : ℕ) → Plan
base_timer_plan t store output time = plan_by (lowest (timer_tests t store output time)) (base_fired (due_of t (count t) time) t time)

-- 02, L3: "the other fires the transaction named"
unfoldable pub base_fire_plan : List ℕ → (store output : ℕ) → Primitive → Plan
base_fire_plan t store output p = plan_by (lowest (fire_tests t store output p)) (base_fired (found_for t p) t p.time)

-- 01, "Events": the base's plan of any call: a refusal, or a step
abbrev pub base_plan_for : Call → Lent → Plan
base_plan_for (Call.Request time peer class user_ack) l = base_request_plan l.table (store_size l) (output_size l) (as_request time peer class user_ack (length l.given))
base_plan_for (Call.Answer time role peer tid) l = base_primitive_plan l.table (store_size l) (output_size l) (as_answer time role peer tid (length l.exit))
base_plan_for (Call.Result time role peer tid) l = base_primitive_plan l.table (store_size l) (output_size l) (as_result time role peer tid (length l.given))
base_plan_for (Call.Abort time role peer tid reason) l = base_primitive_plan l.table (store_size l) (output_size l) (as_abort time role peer tid reason)
base_plan_for (Call.Receive time peer) l = base_receive_plan l.table (store_size l) (output_size l) time peer l.given
base_plan_for (Call.Timer time) l = base_timer_plan l.table (store_size l) (output_size l) time
base_plan_for (Call.Fire time role peer tid) l = base_fire_plan l.table (store_size l) (output_size l) (as_fire time role peer tid)

-- 01: "sends at most one PDU", "Output after the PDU is unchanged": the base's step, carried out on the base's table
unfoldable pub base_carried_out : Lent → Step → Done
base_carried_out l step =
    let table : List ℕ = base_table_changed l.table step.changes l.exit in
    let sent : List ℕ = octets_out l.given (store_then l step) table step.send step.by in
    done (taken_of (length sent) step) table (store_then l step) (put l.output 0 sent)

-- 01: "A refusal gives only its number and changes no lent byte"
unfoldable pub base_outcome : Lent → Plan → Done
base_outcome l (Err r) = done (Err r) l.table l.store l.output
base_outcome l (Ok step) = base_carried_out l step

-- 01, "Numbers given back": what the base's call gives and leaves: its plan, carried out
unfoldable pub base_promised : Call → Lent → Done
base_promised c l = base_outcome l (base_plan_for c l)

-- 01, "How the answers are held": what a caller of the base's exported function sees
abbrev pub base_called_by : Call → Lent → List ℕ → Called
base_called_by c l words = or_small l words (handed (base_promised c l) (costed l.table (base_plan_for c l) words)) (more_words (item_told c l))
