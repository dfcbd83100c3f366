-- Allowed changes keep a table well formed. Assumes nothing.
use Prim.Native.Nat.{ℕ, ◌+◌, ◌≤◌, ◌<◌}
use native.Mathlib.Omega.{arith}
use mathlib.Core.Path.{◌≡◌, refl}
use mathlib.Core.List.{List}
use mathlib.Core.Bool.{Bool, true, false}
use lib.ListN.{length}
use Rattle.std.specs.Prelude.{Option, Some, None}
use Rattle.base_layout.specs.Layout.{record_size, base, peers, exit_bound}
use Rattle.base_lists.proofs.StoresAndParts.{true_false}
use Rattle.table_layout.specs.Table.{count, record_at, put_record}
use Rattle.table_layout.proofs.Put.{record_same}
use Rattle.table_record_ok.specs.OneRecord.{Live}
use Rattle.table_well_formed.specs.WellFormed.{WellFormed}
use Rattle.law_formed_kept.proofs.InHeader.{clock_keeps, gen_tid_keeps, tidnew_due_keeps, cached_keeps}
use Rattle.law_formed_kept.proofs.Keeps.{range_fits, put_keeps, clear_keeps, exit_keeps}
use Rattle.step_commit.specs.declared.Change.{Change}
use Rattle.step_commit.specs.declared.Change.TheVariants.{Nothing, Put, Clear}
use Rattle.step_commit.specs.declared.GenTid.{GenTid}
use Rattle.step_commit.specs.declared.Changes.{Changes}
use Rattle.step_commit.specs.Commit.{record_changed, exit_stored, gen_tid_changed, cache_changed, table_changed}
use Rattle.step_commit.proofs.Length.{length_changed}
use Rattle.law_commit.specs.Allowed.{ChangeOk, SetOk, CountOk, Allowed}

-- a place below the count lies within the table
room : (t : List ℕ) (i : ℕ) → WellFormed t → i < count t → base i + record_size ≤ length t
room t i w h = omega (arith, w.sized.whole)

module _ (t : List ℕ) (place : ℕ) (w : WellFormed t) (h : place < count t) where
  pub change_keeps : (c : Change) (exit : Bool) → ChangeOk t place c exit → WellFormed (record_changed t place c)
  unfolding record_changed ChangeOk
  change_keeps Nothing exit ok = w
  change_keeps (Put r) exit ok = put_keeps t place r w h ok.0 ok.1
  change_keeps Clear exit ok = clear_keeps t place w h

  -- exit information goes to a record that is live then
  pub live_after : (c : Change) → ChangeOk t place c true → Live (record_at (record_changed t place c) place)
  unfolding record_changed ChangeOk
  live_after Nothing ok = true_false ok
  live_after (Put r) ok =
      let e : record_at (put_record t place r) place ≡ r = record_same t place r (room t place w h) (range_fits t r w ok.0) in
      rw e ok.0.live
  live_after Clear ok = true_false ok

exit_part : (t : List ℕ) (place : ℕ) (stored : Bool) (exit : List ℕ) → WellFormed t → place < count t → (stored ≡ true → Live (record_at t place)) → length exit ≤ exit_bound
    → WellFormed (exit_stored t place stored exit)
unfolding exit_stored
exit_part t place true exit w h live fits = exit_keeps t place exit w h (live refl) fits
exit_part t place false exit w h live fits = w

gen_tid_part : (t : List ℕ) (c : Option GenTid) → WellFormed t → CountOk c → WellFormed (gen_tid_changed t c)
unfolding gen_tid_changed CountOk
gen_tid_part t None w ok = w
gen_tid_part t (Some g) w ok = tidnew_due_keeps _ g.tidnew_due (gen_tid_keeps t g.tid w ok)

cached_part : (t : List ℕ) (peer : ℕ) (c : Option ℕ) → WellFormed t → peer < peers → SetOk c → WellFormed (cache_changed t peer c)
unfolding cache_changed SetOk
cached_part t peer None w h ok = w
cached_part t peer (Some v) w h ok = cached_keeps t peer v w h ok

pub commit_keeps : (t : List ℕ) (c : Changes) (exit : List ℕ) → WellFormed t → Allowed t c exit → WellFormed (table_changed t c exit)
unfolding table_changed
commit_keeps t c exit w ok =
    let changed : List ℕ = record_changed t c.place c.change in
    let w₁ : WellFormed changed = change_keeps t c.place w ok.place c.change c.exit ok.change in
    let n : length changed ≡ length t = length_changed t c.place c.change in
    let h : c.place < count changed = rw n ok.place in
    let live : c.exit ≡ true → Live (record_at changed c.place) = λ e. live_after t c.place w ok.place c.change (rw e at ok.change) in
    let w₂ = exit_part changed c.place c.exit exit w₁ h live ok.exit_fits in
    let w₃ = gen_tid_part _ c.gen_tid w₂ ok.gen_tid in
    let w₄ = cached_part _ c.peer c.cached w₃ ok.peer ok.cached in
    clock_keeps _ c.time w₄ ok.time
