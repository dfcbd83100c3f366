-- The step of a live record, of an opening, and of a call that does nothing is sound. Assumes nothing.
use Prim.Native.Nat.{ℕ, ◌≤◌, ◌<◌}
use native.Mathlib.Omega.{arith}
use mathlib.Core.Path.{◌≡◌, refl}
use mathlib.Core.List.{List}
use mathlib.Core.Bool.{Bool, true, false}
use lib.ListN.{length}
use Rattle.std.specs.Prelude.{Option}
use Rattle.base_layout.specs.Layout.{time_bound, tid_bound, peers, exit_bound, cell_size}
use Rattle.base_lists.proofs.StoresAndParts.{true_false}
use Rattle.base_lists.specs.Seq.{bit}
use Rattle.table_record.specs.Record.{role_of, class_of, state_number}
use Rattle.table_record.specs.declared.State.{State}
use Rattle.table_layout.specs.Table.{count, record_at}
use Rattle.law_formed_kept.specs.UnusedName.{Unused}
use Rattle.row_events.specs.declared.Event.{Event}
use Rattle.row_events.specs.declared.Opening.{Opening}
use Rattle.row_entries.specs.Acts.{opening_act}
use Rattle.table_ranges.specs.Ranges.{UnknownOk, none, some}
use Rattle.table_record_ok.specs.OneRecord.{tidnew_bound}
use Rattle.law_rows.specs.Shown.{living_state, SendProper}
use Rattle.law_rows.proofs.Rows.{proper, proper_opening}
use Rattle.row_turns.specs.Turns.{turn_of, row_turn, opening_turn}
use Rattle.row_turns.specs.declared.Given.{Given}
use Rattle.row_turns.specs.declared.Turn.{Turn}
use Rattle.step_commit.specs.declared.GenTid.{GenTid}
use Rattle.step_commit.specs.declared.Changes.{Changes}
use Rattle.law_commit.specs.Allowed.{CountOk, Allowed}
use Rattle.step_changes.specs.Changes.{turn_changes}
use Rattle.law_sending.specs.SendingLaws.{ClassFits}
use Rattle.step_plan.specs.Steps.{step_of, idle_changes, idle_step}
use Rattle.step_plan.specs.declared.Holder.{Holder}
use Rattle.step_plan.specs.declared.Call.{Call}
use Rattle.step_live.specs.Turning.{row_at, holder_of, live_turn, live_step}
use Rattle.step_opening.specs.Opens.{opened_turn, opening_changes, opening_step}
use Rattle.law_places.specs.Places.{LiveAt}
use Rattle.law_places.proofs.Places.{live_range}
use Rattle.step_outcome.specs.Carry.{Lent, CellFits, FitOut}
use Rattle.law_steps_sound.specs.Sound.{Fits, LentOk, GivenOk, Sound}
use Rattle.law_steps_sound.proofs.Sends.{class_fits, sends_fit}
use Rattle.law_steps_sound.proofs.Changed.{live_allowed, turn_bounded, opening_allowed, opened_bounded, idle_allowed}

-- the message has room in the cell of a place inside
cell_fits : (l : Lent) (c : Call) → Fits l → LentOk l c → (cell : Bool) (place : ℕ) → place < count l.table → CellFits cell place c.message (length l.store) (length l.given)
cell_fits l c f ok true place h = (omega (arith, f.cells, ok.message_fits), ok.message_inside)
cell_fits l c f ok false place h = tt

step_sound : (l : Lent) (turn : Turn) (changes : Changes) (h : Holder) (c : Call) → Fits l → LentOk l c → changes.place ≡ h.place → h.len ≤ cell_size
    → SendProper turn.send → ClassFits turn.send h.class → turn.after.exit_len ≤ exit_bound → turn.after.unknown < 16 → Allowed l.table changes l.exit → Sound l (step_of turn changes h c)
unfolding step_of
step_sound l turn changes h c f ok e message p k x u allowed =
    let inside : h.place < count l.table = rw e at allowed.place in
    record {
      allowed = allowed;
      ready = record {
        place = omega (arith, f.formed.sized.whole, allowed.place);
        peer = allowed.peer;
        exit_fits = ok.exit_fits;
        cell_fits = cell_fits l c f ok turn.cell changes.place allowed.place;
        sends = sends_fit l c h f ok inside message turn p k x u;
        room = f.room;
      };
    }

class_small : (s : State) → class_of s ≤ 2
class_small State.Free = omega arith
class_small State.IResultWait1 = omega arith
class_small State.IResultWait2 = omega arith
class_small State.IResultRespWait = omega arith
class_small State.IWaitTimeout = omega arith
class_small State.RTidokWait1 = omega arith
class_small State.RTidokWait2 = omega arith
class_small State.RInvokeRespWait1 = omega arith
class_small State.RInvokeRespWait2 = omega arith
class_small State.RResultWait = omega arith
class_small State.RResultRespWait = omega arith
class_small State.RWaitTimeout = omega arith

unknown_small : {k : ℕ} → UnknownOk k → k < 16
unknown_small (none e) = omega arith
unknown_small (some l m) = omega arith

live_proper : (t : List ℕ) (place : ℕ) (event : Event) (g : Given) → SendProper (live_turn t place event g).send
unfolding live_turn row_turn turn_of
live_proper t place event g = proper (row_at t place event) (record_at t place).tidok_sent g.kind g.reason

-- an event that comes to a live record
pub live_sound : (l : Lent) (place : ℕ) (event : Event) (g : Given) (c : Call) → Fits l → LiveAt l.table place → GivenOk g → LentOk l c → Sound l (live_step l.table place event g c)
unfolding live_step holder_of turn_changes
live_sound l place event g c f lives given ok =
    let t : List ℕ = l.table in
    let turn : Turn = live_turn t place event g in
    step_sound l turn _ _ c f ok refl (live_range t f.formed place lives).bounds.message (live_proper t place event g)
    (class_fits turn.send (class_of (record_at t place).state) (class_small (record_at t place).state))
    (turn_bounded t f.formed place lives event g given).exit
    (unknown_small (turn_bounded t f.formed place lives event g given).unknown)
    (live_allowed t f.formed place lives event g given l.exit ok.exit_fits)

opening_proper : (t : List ℕ) (opening : Opening) (h : Holder) (g : Given) → SendProper (opened_turn t opening h g).send
unfolding opened_turn opening_turn turn_of
opening_proper t opening h g = proper_opening opening

class_opening : (t : List ℕ) (opening : Opening) (h : Holder) (g : Given) → ClassFits (opening_act opening).send h.class → ClassFits (opened_turn t opening h g).send h.class
unfolding opened_turn opening_turn turn_of
class_opening t opening h g k = k

-- what comes without a live record, under a name that no live record has
pub opening_sound : (l : Lent) (opening : Opening) (h : Holder) (g : Given) (gen_tid : Option GenTid) (c : Call) → Fits l → GivenOk g → LentOk l c → CountOk gen_tid
    → h.place < count l.table → h.peer < peers → h.tid ≤ tid_bound → bit h.tidnew ≤ tidnew_bound (role_of (living_state (opening_act opening).next State.Free)) → h.len ≤ cell_size → ClassFits (opening_act opening).send h.class
    → (1 ≤ state_number (opened_turn l.table opening h g).after.state → Unused l.table h.place (opened_turn l.table opening h g).after)
    → Sound l (opening_step l.table opening h g gen_tid c)
unfolding opening_step opening_changes
opening_sound l opening h g gen_tid c f given ok counted inside peer tid tidnew message class unused =
    let t : List ℕ = l.table in
    let turn : Turn = opened_turn t opening h g in
    step_sound l turn _ h c f ok refl message (opening_proper t opening h g)
    (class_opening t opening h g class)
    (opened_bounded t f.formed opening h g given inside peer tid tidnew).exit
    (unknown_small (opened_bounded t f.formed opening h g given inside peer tid tidnew).unknown)
    (opening_allowed t f.formed opening h g given inside peer tid tidnew unused gen_tid l.exit counted ok.exit_fits)

-- an accepted call that only stores its time
pub idle_sound : (l : Lent) (time : ℕ) → Fits l → time ≤ time_bound → length l.exit ≤ exit_bound → Sound l (idle_step time)
unfolding idle_step FitOut idle_changes
idle_sound l time f h x = record {
  allowed = idle_allowed l.table time l.exit f.formed h x;
  ready = record {
    place = omega (arith, f.formed.sized.whole, f.formed.sized.least);
    peer = omega arith;
    exit_fits = x;
    cell_fits = tt;
    sends = λ some. absurd (true_false some);
    room = f.room;
  };
}
