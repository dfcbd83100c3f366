-- LastTID after a call is as document 01 says of the row: a valid TID becomes it, a verified one only if none is cached, else it is the same. Assumes nothing.
use Prim.Native.Nat.{ℕ, ◌+◌, ◌<◌}
use mathlib.Core.Path.{◌≡◌, refl, ap, ◌∙◌}
use mathlib.Core.Bool.{Bool, true, false}
use mathlib.Core.List.{List}
use mathlib.Core.Logic.{◌⊎◌, inl, inr}
use lib.Dec.{eqb}
use Rattle.std.specs.Prelude.{Option, Some, None, Ok}
use Rattle.base_layout.specs.Layout.{peers}
use Rattle.base_lists.specs.Seq.{pick}
use Rattle.table_layout.specs.Table.{cached_of, record_at}
use Rattle.table_record.specs.declared.Record.{Record}
use Rattle.law_formed_kept.proofs.InRecord.{equal_or}
use Rattle.row_columns.specs.declared.Cache.{Cache}
use Rattle.row_columns.specs.declared.Cache.TheVariants as Cache
use Rattle.row_columns.specs.declared.Act.{Act}
use Rattle.row_turns.specs.Turns.{turn_of, row_turn, opening_turn}
use Rattle.step_changes.specs.Changes.{cached_after, turn_changes}
use Rattle.step_plan.specs.Steps.{step_of, idle_changes, idle_step}
use Rattle.step_plan.specs.declared.Step.{Step}
use Rattle.step_live.specs.Turning.{row_at, live_turn, live_step}
use Rattle.step_opening.specs.Opens.{opened_turn, opening_changes, opening_step}
use Rattle.step_outcome.specs.Carry.{Lent, Done, table_then, carried_out, outcome}
use Rattle.law_steps_sound.specs.Sound.{Sound}
use Rattle.law_plans_sound.specs.Plans.{PlanSound}
use Rattle.law_commit.proofs.Frame.{commit_frames}
use Rattle.law_rows_done.specs.LiveRows.{document_act}
use Rattle.law_rows_done.specs.OpeningRows.{document_opening_act}
use Rattle.law_rows_done.proofs.SameActs.{acts_are_listed, opening_acts_are_listed}
use Rattle.call_plans.specs.Calls.{Call, Lends, plan_for, time_of}
use Rattle.law_plans_sound.proofs.CallSound.{call_sound}
use Rattle.law_calls.proofs.Outcomes.{as_planned}
use Rattle.law_afterwards.specs.Ways.{TakenBy, ComesAlone, table_left}
use Rattle.law_afterwards.specs.LastTid.{last_tid_of, opening_last_tid, last_tid_by}
use Rattle.law_commit.proofs.Left.{header_then, cached_left}
use Rattle.law_afterwards.proofs.Ways.{call_way}

-- the cached TID that the changes set is the one that document 01 names
named : (cache : Cache) (cached tid : ℕ) → header_then (cached_after cache cached tid) cached ≡ last_tid_by cache cached tid
unfolding cached_after
named Cache.Same cached tid = refl
named Cache.Set cached tid = refl
named Cache.SetIfNone cached tid = go (eqb cached 0)
  where
    go : (b : Bool) → header_then (pick b (Some (tid + 1)) None) cached ≡ pick b (tid + 1) cached
    go true = refl
    go false = refl
named Cache.Drop cached tid = refl

module _ (c : Call) (l : Lent) (step : Step) (lends : Lends c l) (goes : plan_for c l ≡ Ok step) where
  -- the cached TID of the peer of the step's changes
  left : cached_of (table_left c l) step.changes.peer ≡ header_then step.changes.cached (cached_of l.table step.changes.peer)
  unfolding outcome carried_out table_then PlanSound
  left =
      let s : Sound l step = rw goes at (call_sound c l lends) in
      ap (λ (d : Done). cached_of d.table step.changes.peer) (as_planned c l ∙ ap (outcome l) goes)
      ∙ cached_left l.table step.changes l.exit (call_way c l step goes).1 s.allowed

  -- an event of a live record: the peer's cached TID by the row
  pub last_tid_live : (k : TakenBy c l step) → let r = record_at l.table k.place in
      cached_of (table_left c l) r.peer ≡ last_tid_by (last_tid_of (row_at l.table k.place k.event)) (cached_of l.table r.peer) r.tid
  unfolding live_step live_turn step_of turn_changes row_turn turn_of document_act
  last_tid_live k =
      let t : List ℕ = l.table in
      let r : Record = record_at t k.place in
      (rw k.step_is at left)
      ∙ named (live_turn t k.place k.event k.given).cache (cached_of t r.peer) r.tid
      ∙ ap (λ (a : Act). last_tid_by a.cache (cached_of t r.peer) r.tid) (acts_are_listed (row_at t k.place k.event) r.tidok_sent k.given.kind k.given.reason)

  -- what comes without one: that of the peer that sent it, by the opening
  pub last_tid_opening : (k : ComesAlone c l step)
      → cached_of (table_left c l) k.holder.peer ≡ last_tid_by (opening_last_tid k.opening) (cached_of l.table k.holder.peer) k.holder.tid
  unfolding opening_step opened_turn opening_changes step_of opening_turn turn_of document_opening_act
  last_tid_opening k =
      let t : List ℕ = l.table in
      (rw k.step_is at left)
      ∙ named (opened_turn t k.opening k.holder k.given).cache (cached_of t k.holder.peer) k.holder.tid
      ∙ ap (λ (a : Act). last_tid_by a.cache (cached_of t k.holder.peer) k.holder.tid) (opening_acts_are_listed k.opening)

  -- nothing but the time: every peer's is the same
  pub last_tid_idle : step ≡ idle_step (time_of c) → (peer : ℕ) → peer < peers → cached_of (table_left c l) peer ≡ cached_of l.table peer
  unfolding outcome carried_out table_then PlanSound idle_step idle_changes
  last_tid_idle e peer h = go (equal_or peer step.changes.peer)
    where
      kept : step.changes.cached ≡ None
      kept = ap (λ (y : Step). y.changes.cached) e

      go : (peer ≡ step.changes.peer) ⊎ (peer ≡ step.changes.peer → ⊥) → cached_of (table_left c l) peer ≡ cached_of l.table peer
      go (inl d) = rw d (left ∙ ap (λ (x : Option ℕ). header_then x (cached_of l.table step.changes.peer)) kept)
      go (inr d) =
          let s : Sound l step = rw goes at (call_sound c l lends) in
          ap (λ (y : Done). cached_of y.table peer) (as_planned c l ∙ ap (outcome l) goes)
          ∙ (commit_frames l.table step.changes l.exit (call_way c l step goes).1 s.allowed).other_peers peer h d
