-- With the mode off every call is planned as the base plans it, refusals among them. Assumes nothing.
use Prim.Native.Nat.{ℕ, ◌%◌}
use mathlib.Core.Path.{◌≡◌, refl, ap}
use mathlib.Core.List.{List, ◌++◌}
use Rattle.std.specs.Prelude.{None, Result, Ok, Err, Option, Some}
use Rattle.base_numbers.specs.declared.Refusal.{Refusal}
use Rattle.base_layout.specs.Layout.{peers}
use Rattle.base_lists.proofs.StoresAndParts.{true_false}
use Rattle.codec_reading.specs.Read.{pdu_of}
use Rattle.table_record.specs.declared.Role.{Role}
use Rattle.table_layout.specs.Table.{count, record_at}
use Rattle.table_finding.specs.Finding.{named_of, free_of, due_of}
use Rattle.table_finding.proofs.Searches.{named_found}
use Rattle.table_finding.proofs.Earliest.{due_found}
use Rattle.law_places.proofs.Places.{live_number}
use Rattle.row_events.specs.declared.Event.TheVariants as Event
use Rattle.row_choice.specs.Rows.{requested_of}
use Rattle.step_arrivals.specs.Arrivals.{name_of, event_of}
use Rattle.step_plan.specs.declared.Step.{Step}
use Rattle.step_plan.specs.Steps.{Plan}
use Rattle.step_opening.specs.Opens.{place_for}
use Rattle.step_outcome.specs.Carry.{Lent}
use Rattle.call_refusal.specs.Judging.{lowest, plan_by}
use Rattle.call_refusal.proofs.Fits.{accepted}
use Rattle.call_refusal.proofs.Stages.{both_stages}
use Rattle.call_request.specs.Requests.{requester, counted_by, request_given, request_call, request_step, request_plan}
use Rattle.call_request.specs.declared.Request.{Request}
use Rattle.call_primitive.specs.Primitives.{not_allowed, entry_tests, found_for, primitive_tests, primitive_given, primitive_call, primitive_step, primitive_plan}
use Rattle.call_primitive.specs.declared.Primitive.{Primitive}
use Rattle.call_primitive.proofs.Named.{found_named}
use Rattle.call_receive.specs.Receives.{taken_given, taken_call, taken_step, arriver_of, opened_given, opened_call, opened_step, arrival_opening, unmatched_step, step_by, naming_step, step_of_name, receive_step, receive_plan}
use Rattle.call_timer.specs.Timers.{fired_given, fired_call, timer_step, timer_plan}
use Rattle.call_timer.specs.Timers as Timers
use Rattle.call_fire.specs.Fires.{fire_plan}
use Rattle.call_plans.specs.Calls.{Call, plan_for}
use Rattle.law_mode_off.specs.Base.{base_live_step}
use Rattle.law_mode_off.specs.BaseCalls.{base_request_plan, base_not_allowed, base_found_tests, base_primitive_plan, base_taken, base_received, base_receive_plan, base_fired, base_timer_plan, base_fire_plan, base_plan_for}
use Rattle.law_mode_off.specs.ModeOff.{ModeOff}
use Rattle.law_mode_off.proofs.Steps.{mode_off_row, mode_off_live, mode_off_opening}

-- the same judgement, and the same step where it accepts
same_plan : (i j : Result Unit Refusal) (a b : Step) → i ≡ j → (j ≡ Ok tt → a ≡ b) → plan_by i a ≡ plan_by j b
same_plan i j a b e f = rw e (go j f)
  where
    go : (k : Result Unit Refusal) → (k ≡ Ok tt → a ≡ b) → plan_by k a ≡ plan_by k b
    go (Ok a) h = ap Ok (h refl)
    go (Err r) h = refl

module _ (t : List ℕ) (off : ModeOff t) (store output : ℕ) where
  request_same : (q : Request) → request_plan t store output q ≡ base_request_plan t store output q
  unfolding request_plan request_step base_request_plan
  request_same q = rw (mode_off_opening t off (requested_of (q.class % 256)) (requester t (place_for (free_of t (count t))) q) (request_given q) (counted_by t q) (request_call q)) refl

  -- 9, of the record that was found
  refused_same : (p : Primitive) (found : Option ℕ) → found_for t p ≡ found → not_allowed t found p.event ≡ base_not_allowed t found p.event
  unfolding not_allowed base_not_allowed
  refused_same p (Some i) e = let n = found_named t p i e in rw (mode_off_row t off i n.inside n.live p.event) refl
  refused_same p None e = refl

  -- what was found is live where none of the tests holds
  primitive_step_holds : (p : Primitive) (found : Option ℕ) → found_for t p ≡ found → lowest (entry_tests t store output p ++ base_found_tests t found p) ≡ Ok tt
      → primitive_step t (place_for found) p ≡ base_live_step t (place_for found) p.event (primitive_given p) (primitive_call p)
  unfolding primitive_step place_for
  primitive_step_holds p (Some i) e h = let n = found_named t p i e in mode_off_live t off i n.inside n.live p.event (primitive_given p) (primitive_call p)
  primitive_step_holds p None e h = true_false (accepted (base_found_tests t None p) (both_stages (entry_tests t store output p) (base_found_tests t None p) h).1).1.0

  judged_same : (p : Primitive) → lowest (primitive_tests t store output p) ≡ lowest (entry_tests t store output p ++ base_found_tests t (found_for t p) p)
  judged_same p = rw (refused_same p (found_for t p) refl) refl

  primitive_same : (p : Primitive) → primitive_plan t store output p ≡ base_primitive_plan t store output p
  unfolding primitive_plan base_primitive_plan
  primitive_same p = same_plan _ _ _ _ (judged_same p) (primitive_step_holds p (found_for t p) refl)

  taken_same : (role : Role) (peer tid time : ℕ) (s : List ℕ) (f : Option ℕ) → named_of t (count t) role peer tid ≡ f → step_by f t role peer tid time s ≡ base_taken f t role peer tid time s
  unfolding taken_step unmatched_step opened_step
  taken_same role peer tid time s (Some i) e =
      let n = named_found t (count t) role peer tid i e in
      mode_off_live t off i n.below (live_number (record_at t i).state n.is_so.live) (event_of (pdu_of s).kind) (taken_given time (pdu_of s)) (taken_call (pdu_of s))
  taken_same role peer tid time s None e =
      mode_off_opening t off (arrival_opening t peer tid s (pdu_of s)) (arriver_of (place_for (free_of t (count t))) role peer tid (pdu_of s).kind) (opened_given time (pdu_of s)) None (opened_call (pdu_of s))

  received_same : (time peer : ℕ) (s : List ℕ) (n : Option (Role × ℕ)) → step_of_name n t time peer s ≡ base_received n t time peer s
  unfolding naming_step
  received_same time peer s None = refl
  received_same time peer s (Some (role, tid)) = taken_same role peer tid time s (named_of t (count t) role peer tid) refl

  receive_same : (time peer : ℕ) (s : List ℕ) → receive_plan t store output time peer s ≡ base_receive_plan t store output time peer s
  unfolding receive_plan receive_step base_receive_plan
  receive_same time peer s = rw (received_same time (peer % peers) s (name_of s)) refl

  due_same : (time : ℕ) (f : Option ℕ) → due_of t (count t) time ≡ f → Timers.step_by f t time ≡ base_fired f t time
  due_same time (Some i) e =
      let d = due_found t time (count t) i e in
      mode_off_live t off i d.below (live_number (record_at t i).state d.is_due_holds.live) Event.Timer (fired_given time) fired_call
  due_same time None e = refl

  timer_same : (time : ℕ) → timer_plan t store output time ≡ base_timer_plan t store output time
  unfolding timer_plan timer_step base_timer_plan
  timer_same time = rw (due_same time (due_of t (count t) time) refl) refl

  fired_same : (p : Primitive) (f : Option ℕ) → found_for t p ≡ f → Timers.step_by f t p.time ≡ base_fired f t p.time
  fired_same p (Some i) e = let n = found_named t p i e in mode_off_live t off i n.inside n.live Event.Timer (fired_given p.time) fired_call
  fired_same p None e = refl

  fire_same : (p : Primitive) → fire_plan t store output p ≡ base_fire_plan t store output p
  unfolding fire_plan base_fire_plan
  fire_same p = rw (fired_same p (found_for t p) refl) refl

-- the plan of any call, on any table with the mode off: the same number, or the same step
pub mode_off_plan : (c : Call) (l : Lent) → ModeOff l.table → plan_for c l ≡ base_plan_for c l
mode_off_plan (Call.Request time peer class user_ack) l off = request_same l.table off _ _ _
mode_off_plan (Call.Answer time role peer tid) l off = primitive_same l.table off _ _ _
mode_off_plan (Call.Result time role peer tid) l off = primitive_same l.table off _ _ _
mode_off_plan (Call.Abort time role peer tid reason) l off = primitive_same l.table off _ _ _
mode_off_plan (Call.Receive time peer) l off = receive_same l.table off _ _ _ _ _
mode_off_plan (Call.Timer time) l off = timer_same l.table off _ _ _
mode_off_plan (Call.Fire time role peer tid) l off = fire_same l.table off _ _ _
