-- Where a record is due the timer call is the deadline call and then the firing of the record that it told; where none is due it stores its time, and every firing is refused. Assumes nothing.
use Prim.Native.Nat.{ℕ, ◌≤◌, ◌<◌}
use native.Mathlib.Omega.{arith}
use mathlib.Core.Path.{◌≡◌, refl, sym, ap, ◌∙◌}
use mathlib.Core.List.{List, [], ◌∷◌, ◌++◌}
use mathlib.Core.Logic.{◌⊎◌, inl, inr}
use lib.ListN.{length, get_or}
use lib.Dec.{ltb}
use borrow.Author.Tests.{le-ltb}
use Rattle.std.specs.Prelude.{Result, Ok, Err, Option, Some, None}
use Rattle.base_layout.specs.Layout.{peer_bound}
use Rattle.base_lists.proofs.StoresAndParts.{lt_or_le}
use Rattle.base_numbers.specs.declared.Refusal.{Refusal}
use Rattle.base_numbers.specs.declared.Refusal.TheVariants.{PeerTooLarge}
use Rattle.table_layout.specs.Table.{count, record_at, clock_of}
use Rattle.table_layout.proofs.Put.{clock_same}
use Rattle.table_finding.specs.Finding.{due_of}
use Rattle.table_finding.specs.Searched.{Due, Earliest}
use Rattle.table_finding.proofs.Earliest.{due_found, due_nothing}
use Rattle.table_finding.proofs.Tests.{tells_due}
use Rattle.table_well_formed.specs.WellFormed.{WellFormed}
use Rattle.law_places.proofs.Places.{live_number, live_range}
use Rattle.step_plan.specs.Steps.{idle_step, idle_changes, Plan}
use Rattle.step_plan.specs.declared.Step.{Step}
use Rattle.step_commit.specs.Commit.{table_changed, record_changed, exit_stored, gen_tid_changed, cache_changed}
use Rattle.step_outcome.specs.Carry.{Lent, done, table_then, carried_out, outcome}
use Rattle.call_refusal.specs.Judging.{Test, test, lowest, first_tests, peer_tests}
use Rattle.call_refusal.proofs.Stages.{next, in_stages}
use Rattle.call_primitive.specs.Primitives.{Named, found_for}
use Rattle.call_primitive.specs.declared.Primitive.{Primitive}
use Rattle.call_primitive.proofs.Named as Names
use Rattle.call_timer.specs.Timers.{step_by, timer_step, timer_plan}
use Rattle.call_timer.proofs.Accepted.{timer_accepted}
use Rattle.call_fire.specs.Fires.{as_fire, not_due, named_tests, fire_tests, fire_plan}
use Rattle.call_fire.proofs.Accepted.{fire_accepted}
use Rattle.call_plans.specs.Calls.{Call, plan_for, promised}
use Rattle.call_deadline.specs.Deadlines.{due_after}
use Rattle.law_timer_in_two.specs.InTwo.{Runs, Soonest, Told, SomeDue, fire_told, NoneDue}
use Rattle.law_timer_in_two.proofs.Deadlines.{deadline_told}

-- tests that accept leave the judgement to those before them
pass : (ts us : List Test) → lowest us ≡ Ok tt → lowest (ts ++ us) ≡ lowest ts
pass ts us e = in_stages ts us ∙ rw e (go (lowest ts))
  where
    go : (j : Result Unit Refusal) → next j (Ok tt) ≡ j
    go (Ok a) = refl
    go (Err r) = refl

-- the record that is due is the one with the earliest deadline of all
module _ (t : List ℕ) (time j : ℕ) (s : Soonest t j) where
  same_place : (k : ℕ) → Earliest t time (count t) k → k ≡ j
  same_place k d = go (lt_or_le k j) (lt_or_le j k)
    where
      runs : Runs (record_at t k)
      runs = record { live = d.is_due_holds.live; deadline = d.is_due_holds.runs }

      earlier : (record_at t j).deadline ≤ (record_at t k).deadline
      earlier = s.none_earlier k d.below runs

      is_due_holds : Due time (record_at t j)
      is_due_holds = record { live = s.runs.live; runs = s.runs.deadline; not_after = omega (arith, earlier, d.is_due_holds.not_after) }

      later : (record_at t k).deadline ≤ (record_at t j).deadline
      later = d.no_earlier j s.inside is_due_holds

      go : (k < j) ⊎ (j ≤ k) → (j < k) ⊎ (k ≤ j) → k ≡ j
      go (inl h) x = absurd (s.none_before k h runs (omega (arith, earlier, later)))
      go (inr g) (inl h) = absurd (omega (arith, d.before_later j h is_due_holds, earlier))
      go (inr g) (inr h) = omega arith

  due_soonest : SomeDue t time → due_of t (count t) time ≡ Some j
  due_soonest some = go (due_of t (count t) time) refl
    where
      go : (f : Option ℕ) → due_of t (count t) time ≡ f → f ≡ Some j
      go None e = absurd (due_nothing t time (count t) e some.0 some.1.0 some.1.1)
      go (Some k) e = ap Some (same_place k (due_found t time (count t) k e))

  -- and it is due
  soonest_due : SomeDue t time → Due time (record_at t j)
  soonest_due some = (due_found t time (count t) j (due_soonest some)).is_due_holds

-- the record at j is found by its name
module _ (t : List ℕ) (w : WellFormed t) (p : Primitive) (j : ℕ) (n : Named t p j) where
  found_by_name : found_for t p ≡ Some j
  found_by_name = go (found_for t p) refl
    where
      go : (f : Option ℕ) → found_for t p ≡ f → f ≡ Some j
      go None e = absurd (Names.found_none t p e j n)
      go (Some i) e = ap Some (Names.one_named t p w i j (Names.found_named t p i e) n)

  -- none of the numbers 3, 8 and 9 is given for it, where it is due
  judged_first : (store output : ℕ) → Due p.time (record_at t j) → lowest (fire_tests t store output p) ≡ lowest (first_tests t store output p.time)
  unfolding lowest not_due
  judged_first store output d =
      let bound = (live_range t w j (record { inside = n.inside; live = n.live })).bounds.peer in
      let due : lowest (named_tests t p.time (Some j)) ≡ Ok tt = rw ((tells_due (record_at t j) p.time).1 d) refl in
      let named : lowest (named_tests t p.time (found_for t p)) ≡ Ok tt = ap (λ (f : Option ℕ). lowest (named_tests t p.time f)) found_by_name ∙ due in
      let peer : lowest (test PeerTooLarge (ltb peer_bound p.peer) ∷ []) ≡ Ok tt = rw (le-ltb peer_bound p.peer (omega (arith, n.peer, bound))) refl in
      pass (peer_tests t store output p.time p.peer) (named_tests t p.time (found_for t p)) named
      ∙ pass (first_tests t store output p.time) (test PeerTooLarge (ltb peer_bound p.peer) ∷ []) peer

  fires_it : (store output : ℕ) → Due p.time (record_at t j) → due_of t (count t) p.time ≡ Some j → timer_plan t store output p.time ≡ fire_plan t store output p
  unfolding timer_plan timer_step fire_plan
  fires_it store output d e = rw (judged_first store output d, e, found_by_name) refl

module _ (l : Lent) (due : List ℕ) (time : ℕ) (w : WellFormed l.table) (enough : 5 ≤ length due) (some : SomeDue l.table time) where
  abbrev t : List ℕ
  t = l.table

  by_told : Told t (due_after t due) → plan_for (Call.Timer time) l ≡ plan_for (fire_told time (due_after t due)) l
  by_told (inr none) =
      let d = some.1.1 in
      absurd (none.none some.0 some.1.0 (record { live = d.live; deadline = d.runs }))
  by_told (inl (j, (s, words))) =
      let n : Named t (as_fire time (get_or (due_after t due) 2 0) (get_or (due_after t due) 3 0) (get_or (due_after t due) 4 0)) j =
      record { inside = s.inside; live = live_number (record_at t j).state s.runs.live; role = sym words.word_2; peer = sym words.word_3; tid = sym words.word_4 } in
      fires_it t w (as_fire time (get_or (due_after t due) 2 0) (get_or (due_after t due) 3 0) (get_or (due_after t due) 4 0)) j n (length l.store) (length l.output) (soonest_due t time j s some) (due_soonest t time j s some)

  -- both have one plan
  pub plan_in_two : plan_for (Call.Timer time) l ≡ plan_for (fire_told time (due_after l.table due)) l
  plan_in_two = by_told (deadline_told l.table due w enough)

  -- WHERE A RECORD IS DUE THE TIMER CALL IS THE DEADLINE CALL AND THEN THE FIRING OF THE RECORD THAT IT TOLD
  pub timer_in_two : promised (Call.Timer time) l ≡ promised (fire_told time (due_after l.table due)) l
  unfolding promised
  timer_in_two = ap (outcome l) plan_in_two

-- where none is due
module _ (l : Lent) (time : ℕ) (none : SomeDue l.table time → ⊥) where
  nothing_found : due_of l.table (count l.table) time ≡ None
  nothing_found = go (due_of l.table (count l.table) time) refl
    where
      go : (f : Option ℕ) → due_of l.table (count l.table) time ≡ f → f ≡ None
      go None e = refl
      go (Some k) e =
          let d = due_found l.table time (count l.table) k e in
          absurd (none (k, (d.below, d.is_due_holds)))

  stores_time : (step : Step) → plan_for (Call.Timer time) l ≡ Ok step → clock_of (promised (Call.Timer time) l).table ≡ time
  unfolding promised outcome carried_out table_then table_changed record_changed exit_stored gen_tid_changed cache_changed timer_step idle_step idle_changes
  stores_time step e =
      let a = timer_accepted l.table (length l.store) (length l.output) time step e in
      let is : step ≡ idle_step time = a.step_is ∙ ap (λ (f : Option ℕ). step_by f l.table time) nothing_found in
      rw (e, is) (clock_same l.table time (omega (arith, a.enters.fitting.formed.sized.whole)) (omega (arith, a.enters.bounded)))

  pub fire_refused : (role peer tid : ℕ) → (r : Refusal) × (plan_for (Call.Fire time role peer tid) l ≡ Err r)
  fire_refused role peer tid = go (plan_for (Call.Fire time role peer tid) l) refl
    where
      go : (plan : Plan) → plan_for (Call.Fire time role peer tid) l ≡ plan → (r : Refusal) × (plan_for (Call.Fire time role peer tid) l ≡ Err r)
      go (Err r) e = (r, e)
      go (Ok step) e =
          let a = fire_accepted l.table (length l.store) (length l.output) (as_fire time role peer tid) step e in
          absurd (none (a.place, (a.live.inside, a.due)))

  refuses : (role peer tid : ℕ) → (r : Refusal) × (promised (Call.Fire time role peer tid) l ≡ done (Err r) l.table l.store l.output)
  unfolding promised outcome
  refuses role peer tid = ((fire_refused role peer tid).0, ap (outcome l) (fire_refused role peer tid).1)

  -- WHERE NONE IS DUE AN ACCEPTED TIMER CALL STORES ITS TIME, AND EVERY FIRING IS REFUSED
  pub none_due : (step : Step) → plan_for (Call.Timer time) l ≡ Ok step → NoneDue l time
  none_due step e = record { stores = stores_time step e; refused = refuses }
