-- Each row sends and shows only what its record's role sends and shows. Assumes nothing.
use Prim.Native.Nat.{ℕ, ◌≤◌}
use native.Mathlib.Omega.{arith}
use mathlib.Core.Path.{◌≡◌, refl}
use mathlib.Core.Bool.{Bool, true, false}
use mathlib.Core.List.{List}
use Rattle.base_lists.specs.Seq.{pick, every}
use Rattle.base_lists.proofs.StoresAndParts.{both_fst, both_snd}
use Rattle.table_record.specs.Record.{state_number, state_of, role_of, class_of}
use Rattle.table_record.specs.declared.Role.{Role}
use Rattle.table_record.specs.declared.State.{State}
use Rattle.table_record.specs.declared.State.TheVariants as State
use Rattle.table_layout.specs.Table.{settings_of, record_at}
use Rattle.row_events.specs.declared.Event.{Event}
use Rattle.row_events.specs.declared.Conditions.{Conditions}
use Rattle.row_events.specs.declared.Opening.{Opening}
use Rattle.row_events.proofs.Finite.{at_state, at_opening}
use Rattle.row_choice.specs.Rows.{row_of}
use Rattle.row_conditions.specs.Conditions.{conditions_of}
use Rattle.row_columns.specs.Columns.{act_with, taken, acked, stored, shown}
use Rattle.row_columns.specs.declared.Act.{Act}
use Rattle.row_entries.specs.Acts.{act_of, opening_act}
use Rattle.row_turns.specs.Turns.{turn_of, row_turn, opening_turn}
use Rattle.row_turns.specs.declared.Given.{Given}
use Rattle.row_turns.specs.declared.Turn.{Turn}
use Rattle.law_rows.specs.Shown.{act_at, SendProper}
use Rattle.law_rows.proofs.Rows.{proper, proper_opening}
use Rattle.step_live.specs.Turning.{row_at, live_turn}
use Rattle.step_opening.specs.Opens.{opened_turn}
use Rattle.step_plan.specs.declared.Holder.{Holder}
use Rattle.law_plans_sound.proofs.Openings.{opened_role}
use Rattle.law_one_turn.proofs.Sent.{sends_as}
use Rattle.law_one_turn.proofs.Shown.{shows_as}

-- a turn sends and shows what its role does
pub record InRole (role : Role) (turn : Turn) : Type 0 where
  pub sends : sends_as role turn.send ≡ true
  pub proper : SendProper turn.send
  pub first : shows_as role turn.first ≡ true
  pub second : shows_as role turn.second ≡ true

abbrev in_role : Role → Act → Bool
in_role role a = pick (sends_as role a.send) (pick (shows_as role a.first) (shows_as role a.second) false) false

row_in_role : (s : State) (e : Event) (c : Conditions) (tidok : Bool) (kind reason : ℕ) → in_role (role_of s) (act_at s e c tidok kind reason) ≡ true
unfolding every state_of row_of act_of act_with taken acked stored shown
row_in_role s e c true kind reason = at_state (λ s e c. in_role (role_of s) (act_at s e c true kind reason)) refl s e c
row_in_role s e c false kind reason = at_state (λ s e c. in_role (role_of s) (act_at s e c false kind reason)) refl s e c

opening_in_role : (o : Opening) → in_role (opened_role o) (opening_act o) ≡ true
unfolding every opening_act act_with stored shown
opening_in_role o = at_opening (λ x. in_role (opened_role x) (opening_act x)) refl o

parted : (role : Role) (a : Act) → in_role role a ≡ true → (sends_as role a.send ≡ true) × ((shows_as role a.first ≡ true) × (shows_as role a.second ≡ true))
parted role a e =
    let shows : pick (shows_as role a.first) (shows_as role a.second) false ≡ true = both_snd (sends_as role a.send) _ e in
    (both_fst (sends_as role a.send) _ e, (both_fst (shows_as role a.first) _ shows, both_snd (shows_as role a.first) _ shows))

pub live_in_role : (t : List ℕ) (place : ℕ) (event : Event) (g : Given) → InRole (role_of (record_at t place).state) (live_turn t place event g)
unfolding live_turn row_at row_turn turn_of
live_in_role t place event g =
    let r = record_at t place in
    let c : Conditions = conditions_of (settings_of t) r in
    let a : Act = act_at r.state event c r.tidok_sent g.kind g.reason in
    let p = parted (role_of r.state) a (row_in_role r.state event c r.tidok_sent g.kind g.reason) in
    record { sends = p.0; proper = proper (row_of r.state event c) r.tidok_sent g.kind g.reason; first = p.1.0; second = p.1.1 }

pub opened_in_role : (t : List ℕ) (o : Opening) (h : Holder) (g : Given) → InRole (opened_role o) (opened_turn t o h g)
unfolding opened_turn opening_turn turn_of
opened_in_role t o h g =
    let p = parted (opened_role o) (opening_act o) (opening_in_role o) in
    record { sends = p.0; proper = proper_opening o; first = p.1.0; second = p.1.1 }

-- a live record has a class
pub class_some : (s : State) → 1 ≤ state_number s → 1 ≤ class_of s
class_some State.Free h = absurd (omega (arith, h))
class_some State.IResultWait1 h = omega arith
class_some State.IResultWait2 h = omega arith
class_some State.IResultRespWait h = omega arith
class_some State.IWaitTimeout h = omega arith
class_some State.RTidokWait1 h = omega arith
class_some State.RTidokWait2 h = omega arith
class_some State.RInvokeRespWait1 h = omega arith
class_some State.RInvokeRespWait2 h = omega arith
class_some State.RResultWait h = omega arith
class_some State.RResultRespWait h = omega arith
class_some State.RWaitTimeout h = omega arith
