-- The step of a live record that a call concerns is that record's turn. Assumes nothing.
use Prim.Native.Nat.{ℕ}
use mathlib.Core.Path.{◌≡◌, refl, sym, ◌∙◌}
use mathlib.Core.Bool.{true}
use mathlib.Core.Logic.{inl, inr}
use Rattle.std.specs.Prelude.{Ok}
use Rattle.base_lists.proofs.StoresAndParts.{true_false}
use Rattle.table_record.specs.Record.{role_of}
use Rattle.table_layout.specs.Table.{record_at}
use Rattle.step_plan.specs.Steps as Steps
use Rattle.step_plan.specs.declared.Step.{Step}
use Rattle.step_plan.specs.declared.Told.TheVariants as Told
use Rattle.step_live.specs.Turning.{holder_of, live_turn, live_step}
use Rattle.step_outcome.specs.Carry.{Lent, carried_out, Answer}
use Rattle.call_plans.specs.Calls.{Call, plan_for}
use Rattle.call_plans.specs.Concerns.{Concerns, fires}
use Rattle.law_steps_sound.specs.Sound.{Fits, Sound}
use Rattle.law_ways.proofs.Ways.{ToldOrNamed, Lived}
use Rattle.law_history.specs.Tally.{told_of_is, peer_of, adds}
use Rattle.law_history.specs.Cost.{MeantBy}
use Rattle.law_history.specs.Moves.{name_of, turn_adds, Turned}
use Rattle.law_one_turn.proofs.Counted.{entry_of}
use Rattle.law_one_turn.proofs.Turned.{own_adds, turned}

-- the record that a call concerns is the one that it means
meant_by : (c : Call) (l : Lent) (place : ℕ) (a : Answer) → Concerns c l place
    → (fires c ≡ true → told_of_is a ≡ Told.Fired (role_of (record_at l.table place).state) (record_at l.table place).peer (record_at l.table place).tid) → MeantBy c l a (name_of (record_at l.table place))
meant_by (Call.Request time peer class user_ack) l place a k told = absurd k
meant_by (Call.Answer time role peer tid) l place a k told = record { role_is = k.role_is; peer_is = k.peer_is; tid_is = k.tid_is }
meant_by (Call.Result time role peer tid) l place a k told = record { role_is = k.role_is; peer_is = k.peer_is; tid_is = k.tid_is }
meant_by (Call.Abort time role peer tid reason) l place a k told = record { role_is = k.role_is; peer_is = k.peer_is; tid_is = k.tid_is }
meant_by (Call.Receive time peer) l place a k told = (k.name_is, k.peer_is)
meant_by (Call.Timer time) l place a k told = told refl
meant_by (Call.Fire time role peer tid) l place a k told = told refl

module _ (c : Call) (l : Lent) (f : Fits l) (step : Step) (k : Lived c l step) where
  abbrev its : Step
  its = live_step l.table k.place k.event k.given k.asked

  -- its PDU goes to the record's peer
  pub its_peer : ToldOrNamed c l k.place k.asked.tells → peer_of c (carried_out l its).answer ≡ (record_at l.table k.place).peer
  unfolding carried_out live_step Steps.step_of Steps.told_of_is holder_of
  its_peer (inl (f, e)) = rw e refl
  its_peer (inr (f, (e, p))) = rw e p

  -- a firing tells its record
  its_told : ToldOrNamed c l k.place k.asked.tells → fires c ≡ true → told_of_is (carried_out l its).answer ≡ Told.Fired (role_of (record_at l.table k.place).state) (record_at l.table k.place).peer (record_at l.table k.place).tid
  unfolding carried_out live_step Steps.step_of Steps.told_of_is holder_of
  its_told (inl (f, e)) fired = rw e refl
  its_told (inr (f, e)) fired = true_false (sym fired ∙ f)

  pub lived_turned : plan_for c l ≡ Ok its → Sound l its → Turned (entry_of c l its)
  lived_turned plan ok =
      turned c l k.place k.event k.given k.asked f k.live k.given_ok ok (its_peer k.known) (λ n. rw k.no_request refl) plan (meant_by c l k.place _ k.concerns (its_told k.known))

  -- what its name is brought is what the turn sends and shows
  pub lived_adds : Sound l its → adds (entry_of c l its) (name_of (record_at l.table k.place)) ≡ turn_adds (live_turn l.table k.place k.event k.given)
  lived_adds ok = own_adds c l k.place k.event k.given k.asked f k.live k.given_ok ok (its_peer k.known) (λ n. rw k.no_request refl)
