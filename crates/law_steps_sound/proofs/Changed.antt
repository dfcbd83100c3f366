-- The changes of a live record's turn, of an opening, and of a call that does nothing keep the table well formed. Assumes nothing.
use Prim.Native.Nat.{ℕ, ◌+◌, ◌≤◌, ◌<◌}
use native.Mathlib.Omega.{arith}
use borrow.Author.Tests.{eqb-false}
use mathlib.Core.Path.{◌≡◌, refl, sym, ap}
use mathlib.Core.List.{List}
use mathlib.Core.Bool.{Bool, true, false}
use mathlib.Core.Logic.{inl, inr}
use lib.ListN.{length}
use lib.Dec.{eqb}
use Rattle.std.specs.Prelude.{Option, Some, None}
use Rattle.base_layout.specs.Layout.{time_bound, tid_bound, peers, exit_bound}
use Rattle.base_lists.specs.Seq.{pick, bit}
use Rattle.table_record.specs.Record.{state_number, role_of}
use Rattle.table_record.specs.declared.State.TheVariants.{Free}
use Rattle.table_record.specs.declared.Record.{Record}
use Rattle.table_layout.specs.Table.{count, settings_of, intervals_of, cached_of, record_at}
use Rattle.table_record_ok.specs.OneRecord.{tidnew_bound, Bounded}
use Rattle.table_well_formed.specs.WellFormed.{WellFormed}
use Rattle.law_formed_kept.specs.UnusedName.{Unused}
use Rattle.law_formed_kept.proofs.Keeps.{own_name}
use Rattle.row_events.specs.declared.Event.{Event}
use Rattle.row_events.specs.declared.Opening.{Opening}
use Rattle.row_columns.specs.declared.Cache.{Cache}
use Rattle.row_entries.specs.Acts.{opening_act}
use Rattle.law_rows.specs.Shown.{living_state}
use Rattle.table_ranges.proofs.Modes.{limit_most}
use Rattle.law_rows.specs.Range.{Within}
use Rattle.law_rows.specs.Transaction.{FreedOrSame}
use Rattle.law_rows.proofs.Range.{new_in_range, turn_in_range, opening_in_range}
use Rattle.law_rows.proofs.Transaction.{turn_keeps}
use Rattle.row_turns.specs.Turns.{new_record}
use Rattle.row_turns.specs.declared.Given.{Given}
use Rattle.step_commit.specs.declared.Change.TheVariants as Change
use Rattle.step_commit.specs.declared.GenTid.{GenTid}
use Rattle.law_commit.specs.Allowed.{ChangeOk, SetOk, CountOk, Allowed}
use Rattle.step_changes.specs.Changes.{change_of, cached_after, turn_changes}
use Rattle.step_plan.specs.Steps.{idle_changes}
use Rattle.step_plan.specs.declared.Holder.{Holder}
use Rattle.step_live.specs.Turning.{row_at, live_turn}
use Rattle.step_opening.specs.Opens.{opened_turn, opening_changes}
use Rattle.law_places.specs.Places.{LiveAt}
use Rattle.law_places.proofs.Places.{live_range}
use Rattle.law_steps_sound.specs.Sound.{GivenOk}
use Rattle.law_steps_sound.proofs.Ends.{ended_stores_none}

-- what the settings of a well-formed table and the event bring is within its bounds
pub within : (t : List ℕ) (g : Given) → WellFormed t → GivenOk g → Within g (settings_of t) (intervals_of t)
within t g w ok = record {
  time = ok.time;
  len = ok.len;
  exit_len = ok.exit_len;
  unknown = ok.unknown;
  a = w.header.settings.interval_a.most;
  w = w.header.settings.interval_w.most;
  limit = limit_most w.header.modes;
  intervals = λ i n h k. (w.header.rows i n h k).most;
}

-- a TID that is cached is one
pub cached_ok : (cache : Cache) (cached tid : ℕ) → tid ≤ tid_bound → SetOk (cached_after cache cached tid)
unfolding cached_after SetOk
cached_ok Cache.Same cached tid h = tt
cached_ok Cache.Set cached tid h = omega arith
cached_ok Cache.SetIfNone cached tid h = go (eqb cached 0)
  where
    go : (b : Bool) → SetOk (pick b (Some (tid + 1)) None)
    go true = omega arith
    go false = tt
cached_ok Cache.Drop cached tid h = omega arith

module _ (t : List ℕ) (w : WellFormed t) (place : ℕ) (lives : LiveAt t place) (event : Event) (g : Given) (ok : GivenOk g) where
  abbrev was : Record
  was = record_at t place

  abbrev after : Record
  after = (live_turn t place event g).after

  pub turn_bounded : Bounded (settings_of t) after
  unfolding live_turn row_at
  turn_bounded = turn_in_range g (settings_of t) (intervals_of t) (within t g w ok) event was (live_range t w place lives).bounds

  kept_or_freed : FreedOrSame was after
  unfolding live_turn row_at
  kept_or_freed = turn_keeps g (settings_of t) (intervals_of t) was event

  no_exit : eqb (state_number after.state) 0 ≡ true → (live_turn t place event g).exit ≡ false
  unfolding live_turn
  no_exit h = ended_stores_none (row_at t place event) was g (settings_of t) (intervals_of t) h

  own : (r : Record) → FreedOrSame was r → 1 ≤ state_number r.state → Unused t place r
  unfolding new_record
  own r (inl e) h = absurd (omega (arith, h, ap (λ (x : Record). state_number x.state) e))
  own r (inr s) h = own_name t place r w lives.inside lives.live (record { role = sym s.role; peer = sym s.peer; tid = sym s.tid })

  change_ok : (b : Bool) → eqb (state_number after.state) 0 ≡ b → ChangeOk t place (pick b Change.Clear (Change.Put after)) (live_turn t place event g).exit
  unfolding ChangeOk
  change_ok true e = no_exit e
  change_ok false e =
      let h : 1 ≤ state_number after.state = omega (arith, eqb-false (state_number after.state) 0 e) in
      (record { live = h; bounds = turn_bounded }, own after kept_or_freed h)

  pub live_allowed : (exit : List ℕ) → length exit ≤ exit_bound
      → Allowed t (turn_changes (live_turn t place event g) place was.peer was.tid (cached_of t was.peer) g.time) exit
  unfolding turn_changes change_of CountOk
  live_allowed exit x = record {
    place = lives.inside;
    change = change_ok (eqb (state_number after.state) 0) refl;
    exit_fits = x;
    gen_tid = tt;
    peer = (live_range t w place lives).bounds.peer;
    cached = cached_ok (live_turn t place event g).cache (cached_of t was.peer) was.tid (live_range t w place lives).bounds.tid;
    time = ok.time;
  }

-- an opening for a holder whose name no live record has
module _ (t : List ℕ) (w : WellFormed t) (opening : Opening) (h : Holder) (g : Given) (ok : GivenOk g) (inside : h.place < count t) (peer : h.peer < peers) (tid : h.tid ≤ tid_bound)
    (tidnew : bit h.tidnew ≤ tidnew_bound (role_of (living_state (opening_act opening).next Free))) where
  abbrev opened : Record
  opened = (opened_turn t opening h g).after

  pub opened_bounded : Bounded (settings_of t) opened
  unfolding opened_turn new_record
  opened_bounded =
      let in_bounds : Within g (settings_of t) (intervals_of t) = within t g w ok in
      opening_in_range g (settings_of t) (intervals_of t) in_bounds opening _ (new_in_range g (settings_of t) (intervals_of t) in_bounds h.peer h.tid h.up h.tidnew peer tid) refl tidnew

  module _ (unused : 1 ≤ state_number opened.state → Unused t h.place opened) where
    opened_ok : (b : Bool) → eqb (state_number opened.state) 0 ≡ b → ChangeOk t h.place (pick b Change.Nothing (Change.Put opened)) false
    unfolding ChangeOk
    opened_ok true e = refl
    opened_ok false e =
        let l : 1 ≤ state_number opened.state = omega (arith, eqb-false (state_number opened.state) 0 e) in
        (record { live = l; bounds = opened_bounded }, unused l)

    pub opening_allowed : (gen_tid : Option GenTid) (exit : List ℕ) → CountOk gen_tid → length exit ≤ exit_bound
        → Allowed t (opening_changes (opened_turn t opening h g) h (cached_of t h.peer) gen_tid g.time) exit
    unfolding opening_changes change_of
    opening_allowed gen_tid exit counted x = record {
      place = inside;
      change = opened_ok (eqb (state_number opened.state) 0) refl;
      exit_fits = x;
      gen_tid = counted;
      peer = peer;
      cached = cached_ok (opened_turn t opening h g).cache (cached_of t h.peer) h.tid tid;
      time = ok.time;
    }

pub idle_allowed : (t : List ℕ) (time : ℕ) (exit : List ℕ) → WellFormed t → time ≤ time_bound → length exit ≤ exit_bound → Allowed t (idle_changes time) exit
unfolding idle_changes ChangeOk SetOk CountOk
idle_allowed t time exit w h x = record {
  place = omega (arith, w.sized.least);
  change = refl;
  exit_fits = x;
  gen_tid = tt;
  peer = omega arith;
  cached = tt;
  time = h;
}
