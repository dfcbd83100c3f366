-- A turn carried out part by part is its step carried out and handed over; what the parts need. Assumes nothing.
use Prim.Native.Nat.{ℕ, ◌+◌, ◌*◌, ◌≤◌, ◌<◌}
use native.Mathlib.Omega.{arith}
use mathlib.Core.Path.{◌≡◌, refl}
use mathlib.Core.List.{List}
use mathlib.Core.Bool.{Bool, true, false}
use lib.ListN.{length}
use lib.Dec.{eqb}
use Rattle.std.specs.Prelude.{Ok}
use Rattle.base_layout.specs.Layout.{header_size, record_size, tid_bound, records_bound}
use Rattle.base_lists.specs.Seq.{pick, put}
use Rattle.table_record.specs.Record.{state_number}
use Rattle.table_record.specs.declared.Record.{Record}
use Rattle.table_layout.specs.Table.{record_at}
use Rattle.row_turns.specs.declared.Given.{Given}
use Rattle.row_turns.specs.declared.Turn.{Turn}
use Rattle.step_commit.specs.declared.Change.TheVariants as Change
use Rattle.step_commit.specs.declared.Changes.{Changes}
use Rattle.step_changes.specs.Changes.{change_of, turn_changes}
use Rattle.step_plan.specs.Steps.{step_of}
use Rattle.step_plan.specs.declared.Holder.{Holder}
use Rattle.step_plan.specs.declared.Call.{Call}
use Rattle.step_live.specs.Turning.{holder_of}
use Rattle.step_opening.specs.Opens.{opening_changes}
use Rattle.step_outcome.specs.Carry.{Lent, done, taken_of, carried_out, outcome, Ready}
use Rattle.c_answers.specs.Answers.{answer_number, answer_after, turn_words, change_cost, cost_by, cost_words}
use Rattle.c_answers.specs.declared.Cost.{Cost}
use Rattle.c_answers.specs.Handed.{called, handed, plan_cost, costed, handed_by}
use Rattle.step_carrying.specs.Coming.{place_of, record_for, turn_for, holder_for, changes_for, coming_step, InRange}
use Rattle.step_carrying.specs.declared.Coming.{Coming}
use Rattle.step_carrying.specs.declared.Coming.TheVariants.{Live, Opens}

place_is : (t : List ℕ) (coming : Coming) (g : Given) (c : Call) → (coming_step t coming g c).changes.place ≡ place_of coming
unfolding coming_step step_of changes_for turn_changes opening_changes holder_of
place_is t (Live place row) g c = refl
place_is t (Opens opening h gen_tid) g c = refl

holder_place : (coming : Coming) (r : Record) → (holder_for coming r).place ≡ place_of coming
unfolding holder_of
holder_place (Live place row) r = refl
holder_place (Opens opening h gen_tid) r = refl

module _ (l : Lent) (coming : Coming) (g : Given) (c : Call) (ready : Ready l (coming_step l.table coming g c)) where
  pub record_there : header_size + place_of coming * record_size + record_size ≤ length l.table
  record_there = rw (place_is l.table coming g c) at ready.place

  pub header_there : header_size ≤ length l.table
  header_there = omega (arith, record_there)

module _ (t : List ℕ) (coming : Coming) (g : Given) (range : InRange t coming g) (r : Record) (re : r ≡ record_for t coming) (h : Holder) (he : h ≡ holder_for coming r) where
  pub tid_small : h.tid ≤ tid_bound
  tid_small = rw (he, re) range.tid

  pub place_small : h.place < records_bound
  place_small = rw (he, holder_place coming r) range.place

-- an opening frees no record, so that it tells nothing of the one before
opening_cost_holds : (after was instead : Record) → change_cost (change_of after Change.Nothing) was ≡ change_cost (change_of after Change.Nothing) instead
unfolding change_of change_cost
opening_cost_holds after was instead = go (eqb (state_number after.state) 0)
  where
    go : (b : Bool) → change_cost (pick b Change.Nothing (Change.Put after)) was ≡ change_cost (pick b Change.Nothing (Change.Put after)) instead
    go true = refl
    go false = refl

coming_cost : (t : List ℕ) (coming : Coming) (turn : Turn) (time : ℕ) → let changes : Changes = changes_for t coming turn (holder_for coming (record_for t coming)) time in change_cost changes.change (record_for t coming) ≡ change_cost changes.change (record_at t changes.place)
unfolding changes_for turn_changes opening_changes holder_of
coming_cost t (Live place row) turn time = refl
coming_cost t (Opens opening h gen_tid) turn time = opening_cost_holds turn.after (record_for t (Opens opening h gen_tid)) (record_at t h.place)

module _ (l : Lent) (coming : Coming) (g : Given) (c : Call)
    (r : Record) (re : r ≡ record_for l.table coming)
    (turn : Turn) (te : turn ≡ turn_for l.table coming r g)
    (h : Holder) (he : h ≡ holder_for coming r)
    (changes : Changes) (ce : changes ≡ changes_for l.table coming turn h g.time) where
  step_is : step_of turn changes h c ≡ coming_step l.table coming g c
  unfolding coming_step
  step_is = rw (ce, te, he, re) refl

  -- what is told of the record that turns is what its step tells
  cost_same : change_cost changes.change r ≡ cost_by l.table (changes)
  unfolding cost_by
  cost_same = rw (ce, he, re) (coming_cost l.table coming turn g.time)

  pub ready_so : Ready l (coming_step l.table coming g c) → Ready l (step_of turn changes h c)
  ready_so k = rw step_is k

  pub given_so : (sent : ℕ) (t s o words told w : List ℕ) (cost : Cost)
      → cost ≡ change_cost changes.change r
      → told ≡ put words 32 (cost_words cost)
      → done (taken_of sent (step_of turn changes h c)) t s o ≡ carried_out l (step_of turn changes h c)
      → w ≡ put told 0 (turn_words sent turn h c)
      → called 0 t s o w ≡ handed_by l (Ok (coming_step l.table coming g c)) words
  unfolding handed_by costed plan_cost outcome handed answer_number answer_after turn_words step_of
  given_so sent t s o words told w cost k p d e = rw (← step_is, ← d, e, p, k, cost_same) refl
