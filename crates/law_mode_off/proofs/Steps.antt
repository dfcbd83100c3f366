-- With the mode off the row, the turn and the step of a live record are the base's, and so are those of an opening. Assumes nothing.
use Prim.Native.Nat.{ℕ, ◌<◌}
use mathlib.Core.Path.{◌≡◌, refl}
use mathlib.Core.List.{List}
use Rattle.std.specs.Prelude.{Option}
use Rattle.table_layout.specs.Table.{count, settings_of, intervals_of, record_at}
use Rattle.table_record_ok.specs.OneRecord.{Live}
use Rattle.row_events.specs.declared.Event.{Event}
use Rattle.row_events.specs.declared.Opening.{Opening}
use Rattle.row_entries.specs.Acts.{act_of, opening_act}
use Rattle.row_turns.specs.Turns.{new_record, row_turn, opening_turn}
use Rattle.row_turns.specs.declared.Given.{Given}
use Rattle.law_rows_done.proofs.SameActs.{acts_are_listed, opening_acts_are_listed}
use Rattle.step_commit.specs.declared.GenTid.{GenTid}
use Rattle.step_plan.specs.declared.Holder.{Holder}
use Rattle.step_plan.specs.declared.Call.{Call}
use Rattle.step_live.specs.Turning.{row_at, live_turn, live_step}
use Rattle.step_opening.specs.Opens.{opened_turn, opening_step}
use Rattle.law_mode_off.specs.Base.{base_row_at, base_turn, base_opened, base_live_step, base_opening_step}
use Rattle.law_mode_off.specs.ModeOff.{ModeOff}
use Rattle.law_mode_off.proofs.Rows.{record_row, turn_same, turn_none}

module _ (t : List ℕ) (off : ModeOff t) where
  module _ (place : ℕ) (inside : place < count t) (live : Live (record_at t place)) where
    -- 9 is given by this row too
    pub mode_off_row : (event : Event) → row_at t place event ≡ base_row_at t place event
    unfolding row_at base_row_at
    mode_off_row event = record_row (settings_of t) (record_at t place) event (off.records place inside live)

    pub mode_off_turn : (event : Event) (g : Given) → live_turn t place event g ≡ base_turn t place event g
    unfolding live_turn base_turn row_turn
    mode_off_turn event g =
        rw (mode_off_row event, acts_are_listed (base_row_at t place event) (record_at t place).tidok_sent g.kind g.reason)
        (turn_same g (settings_of t) (intervals_of t) (record_at t place) off.settings (off.records place inside live) _)

    pub mode_off_live : (event : Event) (g : Given) (c : Call) → live_step t place event g c ≡ base_live_step t place event g c
    unfolding live_step base_live_step
    mode_off_live event g c = rw (mode_off_turn event g) refl

    -- no waiting limit is in force afterwards
    pub live_limit : (event : Event) (g : Given) → (live_turn t place event g).after.limit ≡ 0
    unfolding live_turn row_turn
    live_limit event g =
        turn_none g (settings_of t) (intervals_of t) (record_at t place) off.settings (off.records place inside live) (act_of (row_at t place event) (record_at t place).tidok_sent g.kind g.reason)

  new_limit : (peer tid : ℕ) (h : Holder) → (new_record peer tid h.up h.tidnew).limit ≡ 0
  unfolding new_record
  new_limit peer tid h = refl

  pub mode_off_opened : (opening : Opening) (h : Holder) (g : Given) → opened_turn t opening h g ≡ base_opened t opening h g
  unfolding opened_turn base_opened opening_turn
  mode_off_opened opening h g =
      rw (opening_acts_are_listed opening)
      (turn_same g (settings_of t) (intervals_of t) (new_record h.peer h.tid h.up h.tidnew) off.settings (new_limit h.peer h.tid h) _)

  pub mode_off_opening : (opening : Opening) (h : Holder) (g : Given) (gen_tid : Option GenTid) (c : Call) → opening_step t opening h g gen_tid c ≡ base_opening_step t opening h g gen_tid c
  unfolding opening_step base_opening_step
  mode_off_opening opening h g gen_tid c = rw (mode_off_opened opening h g) refl

  pub opened_limit : (opening : Opening) (h : Holder) (g : Given) → (opened_turn t opening h g).after.limit ≡ 0
  unfolding opened_turn opening_turn
  opened_limit opening h g =
      turn_none g (settings_of t) (intervals_of t) (new_record h.peer h.tid h.up h.tidnew) off.settings (new_limit h.peer h.tid h) (opening_act opening)
