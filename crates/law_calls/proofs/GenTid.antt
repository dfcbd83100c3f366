-- No call but a request changes GenTID. Assumes nothing.
use Prim.Native.Nat.{ℕ, ◌+◌, ◌*◌, ◌≤◌}
use native.Mathlib.Omega.{arith}
use mathlib.Core.Path.{◌≡◌, refl, sym, ap, ◌∙◌}
use mathlib.Core.List.{List}
use mathlib.Core.Bool.{Bool, true, false}
use mathlib.Core.Logic.{◌⊎◌, inl, inr}
use lib.ListN.{replicate}
use Rattle.std.specs.Prelude.{Option, Some, None, Ok, Err}
use Rattle.base_layout.specs.Layout.{record_size, cached_at, base, exit_base}
use Rattle.base_lists.specs.Seq.{put}
use Rattle.base_lists.proofs.StoresAndParts.{true_false}
use Rattle.base_octets.specs.Octets.{enc}
use Rattle.base_octets.proofs.StoredAndRead.{length_enc}
use Rattle.table_record.specs.Record.{octets_of}
use Rattle.codec_reading.specs.Read.{pdu_of}
use Rattle.table_layout.specs.Table.{count, gen_tid_of, put_record, clear_record, put_cached, put_clock}
use Rattle.table_layout.proofs.Apart.{gen_tid_apart}
use Rattle.table_finding.specs.Finding.{due_of}
use Rattle.step_commit.specs.declared.Change.{Change}
use Rattle.step_commit.specs.declared.Change.TheVariants.{Nothing, Put, Clear}
use Rattle.step_commit.specs.declared.Changes.{Changes}
use Rattle.step_commit.specs.Commit.{record_changed, exit_stored, gen_tid_changed, cache_changed, table_changed}
use Rattle.step_changes.specs.Changes.{turn_changes}
use Rattle.step_plan.specs.Steps.{step_of, idle_changes, idle_step, Plan}
use Rattle.step_plan.specs.declared.Step.{Step}
use Rattle.step_live.specs.Turning.{live_step}
use Rattle.step_opening.specs.Opens.{opening_changes, opening_step}
use Rattle.call_primitive.specs.Primitives.{primitive_step}
use Rattle.call_primitive.specs.declared.Primitive.{Primitive}
use Rattle.call_primitive.proofs.Accepted.{primitive_accepted}
use Rattle.call_receive.specs.Receives.{taken_step, opened_step, unmatched_step, receive_step}
use Rattle.call_receive.proofs.Ways.{Taken, Unmatched, ways}
use Rattle.call_receive.proofs.Accepted.{receive_accepted}
use Rattle.call_timer.specs.Timers.{step_by, timer_step}
use Rattle.call_timer.proofs.Accepted.{timer_accepted}
use Rattle.step_outcome.specs.Carry.{Lent, table_then, carried_out, outcome}
use Rattle.call_plans.specs.Calls.{Call, promised, plan_for, is_request}
use Rattle.law_ways.proofs.Ways.{Way}
use Rattle.law_ways.proofs.CallWays.{call_ways}

-- a store past the two octets of GenTID
past : (t : List ℕ) (b : ℕ) (w : List ℕ) → 10 ≤ b → gen_tid_of (put t b w) ≡ gen_tid_of t
past t b w h = gen_tid_apart t b w (inl (omega arith))

changed_keeps : (t : List ℕ) (place : ℕ) (c : Change) → gen_tid_of (record_changed t place c) ≡ gen_tid_of t
unfolding record_changed put_record clear_record
changed_keeps t place Nothing = refl
changed_keeps t place (Put r) = past t (base place) (octets_of r) (omega arith)
changed_keeps t place Clear = past t (base place) (replicate record_size 0) (omega arith)

exit_keeps : (t : List ℕ) (place : ℕ) (stored : Bool) (exit : List ℕ) → gen_tid_of (exit_stored t place stored exit) ≡ gen_tid_of t
unfolding exit_stored
exit_keeps t place true exit = past t (exit_base place) exit (omega arith)
exit_keeps t place false exit = refl

cached_keeps : (t : List ℕ) (peer : ℕ) (c : Option ℕ) → gen_tid_of (cache_changed t peer c) ≡ gen_tid_of t
unfolding cache_changed put_cached
cached_keeps t peer None = refl
cached_keeps t peer (Some v) = past t (cached_at + peer * 2) (enc 2 v) (omega arith)

clock_keeps : (t : List ℕ) (time : ℕ) → gen_tid_of (put_clock t time) ≡ gen_tid_of t
unfolding put_clock
clock_keeps t time = gen_tid_apart t 0 (enc 8 time) (inr (omega (arith, length_enc 8 time)))

-- whatever else a step changes, GenTID is as its own column says
after_changes : (t : List ℕ) (c : Changes) (exit : List ℕ) → gen_tid_of (table_changed t c exit) ≡ gen_tid_of (gen_tid_changed (exit_stored (record_changed t c.place c.change) c.place c.exit exit) c.gen_tid)
unfolding table_changed
after_changes t c exit = clock_keeps _ c.time ∙ cached_keeps _ c.peer c.cached

pub step_keeps_gen_tid : (l : Lent) (step : Step) → step.changes.gen_tid ≡ None → gen_tid_of (carried_out l step).table ≡ gen_tid_of l.table
unfolding carried_out table_then gen_tid_changed
step_keeps_gen_tid l step e =
    after_changes l.table step.changes l.exit
    ∙ (rw e (exit_keeps _ step.changes.place step.changes.exit l.exit ∙ changed_keeps l.table step.changes.place step.changes.change))

-- a step that leaves GenTID
abbrev Leaves : Step → Type 0
Leaves step = step.changes.gen_tid ≡ None

pub step_leaves : (c : Call) (l : Lent) (step : Step) → is_request c ≡ false → Way c l step → Leaves step
unfolding idle_step idle_changes live_step step_of turn_changes unmatched_step opened_step opening_step opening_changes
step_leaves c l step r (inl i) = rw i.step_is refl
step_leaves c l step r (inr (inl k)) = rw k.step_is refl
step_leaves c l step r (inr (inr (inl q))) = true_false (sym (ap is_request q.call_is) ∙ r)
step_leaves c l step r (inr (inr (inr u))) = rw u.step_is refl

of_plan : (l : Lent) (p : Plan) → ((step : Step) → p ≡ Ok step → Leaves step) → gen_tid_of (outcome l p).table ≡ gen_tid_of l.table
unfolding outcome
of_plan l (Err r) leaves = refl
of_plan l (Ok step) leaves = step_keeps_gen_tid l step (leaves step refl)

-- only a request changes GenTID
pub call_keeps_gen_tid : (c : Call) (l : Lent) → is_request c ≡ false → gen_tid_of (promised c l).table ≡ gen_tid_of l.table
unfolding promised
call_keeps_gen_tid c l r = of_plan l (plan_for c l) (λ step e. step_leaves c l step r (call_ways c l step e).way)
