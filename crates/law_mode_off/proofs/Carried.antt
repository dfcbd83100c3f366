-- With the mode off every call gives and leaves what the base's call gives and leaves, to the last lent octet. Assumes nothing.
use Prim.Native.Nat.{ℕ, ◌+◌, ◌%◌, ◌<◌}
use native.Mathlib.Omega.{arith}
use mathlib.Core.Path.{◌≡◌, refl, sym, ap, subst, ◌∙◌}
use mathlib.Core.Bool.{Bool, true, false}
use mathlib.Core.List.{List}
use mathlib.Core.Logic.{inl, inr}
use lib.ListN.{length}
use lib.Dec.{eqb}
use Rattle.std.specs.Prelude.{Option, None, Ok, Err}
use Rattle.base_layout.specs.Layout.{limit_offset, base}
use Rattle.base_lists.specs.Seq.{pick}
use Rattle.codec_reading.specs.Read.{pdu_of}
use Rattle.table_record.specs.Record.{state_number}
use Rattle.table_record.specs.declared.Record.{Record}
use Rattle.table_layout.specs.Table.{count, settings_of}
use Rattle.table_ranges.specs.Ranges.{Zeros}
use Rattle.table_record_ok.specs.OneRecord.{RecordOk}
use Rattle.table_well_formed.specs.WellFormed.{WellFormed}
use Rattle.table_finding.specs.Finding.{free_of}
use Rattle.law_places.specs.Places.{LiveAt}
use Rattle.law_places.proofs.Places.{free_place_holds}
use Rattle.row_events.specs.declared.Event.{Event}
use Rattle.row_events.specs.declared.Opening.{Opening}
use Rattle.row_choice.specs.Rows.{requested_of}
use Rattle.row_turns.specs.declared.Given.{Given}
use Rattle.step_commit.specs.Commit.{record_changed, table_changed}
use Rattle.step_commit.specs.declared.Change.{Change}
use Rattle.step_commit.specs.declared.Change.TheVariants as Change
use Rattle.step_commit.specs.declared.GenTid.{GenTid}
use Rattle.step_changes.specs.Changes.{change_of, turn_changes}
use Rattle.step_plan.specs.Steps.{step_of, idle_changes, idle_step, Plan}
use Rattle.step_plan.specs.declared.Holder.{Holder}
use Rattle.step_plan.specs.declared.Call.{Call as Asked}
use Rattle.step_plan.specs.declared.Step.{Step}
use Rattle.step_live.specs.Turning.{live_turn, live_step}
use Rattle.step_opening.specs.Opens.{place_for, opening_changes, opened_turn, opening_step}
use Rattle.step_outcome.specs.Carry.{Lent, table_then, sent_then, carried_out, outcome}
use Rattle.call_refusal.proofs.Fits.{record_there}
use Rattle.call_request.specs.Requests.{requester, counted_by, request_given, request_call, request_step}
use Rattle.call_request.specs.declared.Request.{Request}
use Rattle.call_receive.specs.Receives.{arriver_of, opened_given, opened_call, opened_step, arrival_opening, unmatched_step}
use Rattle.call_plans.specs.Calls.{Call, as_request, plan_for, promised, time_of}
use Rattle.law_ways.proofs.Ways.{Way}
use Rattle.law_ways.proofs.CallWays.{call_ways}
use Rattle.law_mode_off.specs.BaseFormed.{base_record_changed, base_table_changed}
use Rattle.law_mode_off.specs.BaseCalls.{base_carried_out, base_outcome, base_promised}
use Rattle.law_mode_off.specs.ModeOff.{ModeOff}
use Rattle.law_mode_off.proofs.Steps.{live_limit, opened_limit}
use Rattle.law_mode_off.proofs.Calls.{mode_off_plan}
use Rattle.law_mode_off.proofs.Formed.{limit_octets, same_octet}
use Rattle.law_mode_off.proofs.Written.{put_as_before}

module _ (t : List ℕ) (w : WellFormed t) (m : ModeOff t) where
  -- the octets of a waiting limit are zero in every record, free or live
  zeros_there : (i : ℕ) → i < count t → Zeros t (base i + limit_offset) 4
  zeros_there i inside = go (w.records i inside)
    where
      go : RecordOk t (settings_of t) i → Zeros t (base i + limit_offset) 4
      go (inl free) = λ k h. same_octet t (base i + limit_offset + k) (base i + (limit_offset + k)) (omega arith) ∙ free (limit_offset + k) (omega arith)
      go (inr ok) = limit_octets t i (m.records i inside ok.range.live)

  -- the record at a place is changed as the base changes it
  abbrev ChangedSo : ℕ → Change → Type 0
  ChangedSo place change = record_changed t place change ≡ base_record_changed t place change

  nothing_so : (place : ℕ) → ChangedSo place Change.Nothing
  unfolding record_changed base_record_changed
  nothing_so place = refl

  clear_so : (place : ℕ) → ChangedSo place Change.Clear
  unfolding record_changed base_record_changed
  clear_so place = refl

  put_so : (place : ℕ) → place < count t → (r : Record) → r.limit ≡ 0 → ChangedSo place (Change.Put r)
  unfolding record_changed base_record_changed
  put_so place inside r e = put_as_before t place (record_there t place w inside) (zeros_there place inside) r e

  changed_so : (place : ℕ) → place < count t → (r : Record) → r.limit ≡ 0 → (ended : Change) → ChangedSo place ended → ChangedSo place (change_of r ended)
  unfolding change_of
  changed_so place inside r e ended so = go (eqb (state_number r.state) 0)
    where
      go : (b : Bool) → ChangedSo place (pick b ended (Change.Put r))
      go true = so
      go false = put_so place inside r e

  -- and so by every step
  abbrev StepSo : Step → Type 0
  StepSo step = ChangedSo step.changes.place step.changes.change

  idle_so : (time : ℕ) → StepSo (idle_step time)
  unfolding idle_step idle_changes
  idle_so time = nothing_so 0

  live_so : (place : ℕ) → LiveAt t place → (event : Event) (g : Given) (c : Asked) → StepSo (live_step t place event g c)
  unfolding live_step step_of turn_changes
  live_so place l event g c = changed_so place l.inside (live_turn t place event g).after (live_limit t m place l.inside l.live event g) Change.Clear (clear_so place)

  opening_so : (opening : Opening) (h : Holder) (g : Given) (gen_tid : Option GenTid) (c : Asked) → h.place < count t → StepSo (opening_step t opening h g gen_tid c)
  unfolding opening_step step_of opening_changes
  opening_so opening h g gen_tid c inside = changed_so h.place inside (opened_turn t opening h g).after (opened_limit t m opening h g) Change.Nothing (nothing_so h.place)

  request_so : (q : Request) → StepSo (request_step t (place_for (free_of t (count t))) q)
  unfolding request_step requester
  request_so q = opening_so (requested_of (q.class % 256)) (requester t (place_for (free_of t (count t))) q) (request_given q) (counted_by t q) (request_call q) (free_place_holds t w)

module _ (c : Call) (l : Lent) (m : ModeOff l.table) (w : WellFormed l.table) (step : Step) where
  abbrev t : List ℕ
  t = l.table

  way_so : Way c l step → StepSo t w m step
  unfolding unmatched_step opened_step arriver_of
  way_so (inl i) = subst (StepSo t w m) (sym i.step_is) (idle_so t w m (time_of c))
  way_so (inr (inl k)) = subst (StepSo t w m) (sym k.step_is) (live_so t w m k.place k.live k.event k.given k.asked)
  way_so (inr (inr (inl q))) = subst (StepSo t w m) (sym q.accepted.step_is) (request_so t w m (as_request q.time q.peer q.class q.user_ack (length l.given)))
  way_so (inr (inr (inr u))) =
      let p = pdu_of l.given in
      let tid = u.unmatched.tid in
      let h : Holder = arriver_of (place_for (free_of t (count t))) u.unmatched.role u.peer tid p.kind in
      subst (StepSo t w m) (sym u.step_is) (opening_so t w m (arrival_opening t u.peer tid l.given p) h (opened_given u.time p) None (opened_call p) (free_place_holds t w))

  carried_so : Way c l step → carried_out l step ≡ base_carried_out l step
  unfolding carried_out base_carried_out table_then sent_then table_changed base_table_changed
  carried_so way = rw (way_so way) refl

-- MODE OFF: what any call gives and leaves is what the base's engine gives and leaves
pub mode_off_call : (c : Call) (l : Lent) → ModeOff l.table → promised c l ≡ base_promised c l
unfolding promised base_promised outcome base_outcome
mode_off_call c l m = go (plan_for c l) refl ∙ ap (base_outcome l) (mode_off_plan c l m)
  where
    go : (plan : Plan) → plan_for c l ≡ plan → outcome l plan ≡ base_outcome l plan
    go (Err r) e = refl
    go (Ok step) e = let a = call_ways c l step e in carried_so c l m a.fits.formed step a.way
