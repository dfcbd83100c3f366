-- The changes of a call leave the table as long as it was. Assumes nothing.
use Prim.Native.Nat.{ℕ}
use mathlib.Core.Path.{◌≡◌, refl, ◌∙◌}
use mathlib.Core.List.{List}
use mathlib.Core.Bool.{Bool, true, false}
use lib.ListN.{length}
use Rattle.std.specs.Prelude.{Option, Some, None}
use Rattle.base_lists.proofs.StoresAndParts.{length_put}
use Rattle.table_layout.specs.Table.{put_record, clear_record, put_gen_tid, put_tidnew_due, put_cached, put_clock}
use Rattle.step_commit.specs.declared.Change.{Change}
use Rattle.step_commit.specs.declared.Change.TheVariants.{Nothing, Put, Clear}
use Rattle.step_commit.specs.declared.GenTid.{GenTid}
use Rattle.step_commit.specs.declared.Changes.{Changes}
use Rattle.step_commit.specs.Commit.{record_changed, exit_stored, gen_tid_changed, cache_changed, table_changed}

pub length_changed : (t : List ℕ) (place : ℕ) (c : Change) → length (record_changed t place c) ≡ length t
unfolding record_changed put_record clear_record
length_changed t place Nothing = refl
length_changed t place (Put r) = length_put t _ _
length_changed t place Clear = length_put t _ _

exit_stored_holds : (t : List ℕ) (place : ℕ) (stored : Bool) (exit : List ℕ) → length (exit_stored t place stored exit) ≡ length t
unfolding exit_stored
exit_stored_holds t place true exit = length_put t _ exit
exit_stored_holds t place false exit = refl

gen_tid_changed_holds : (t : List ℕ) (c : Option GenTid) → length (gen_tid_changed t c) ≡ length t
unfolding gen_tid_changed put_gen_tid put_tidnew_due
gen_tid_changed_holds t None = refl
gen_tid_changed_holds t (Some g) = length_put _ _ _ ∙ length_put t _ _

cache_changed_holds : (t : List ℕ) (peer : ℕ) (c : Option ℕ) → length (cache_changed t peer c) ≡ length t
unfolding cache_changed put_cached
cache_changed_holds t peer None = refl
cache_changed_holds t peer (Some cached) = length_put t _ _

pub length_clock : (t : List ℕ) (time : ℕ) → length (put_clock t time) ≡ length t
unfolding put_clock
length_clock t time = length_put t _ _

pub length_after : (t : List ℕ) (c : Changes) (exit : List ℕ) → length (table_changed t c exit) ≡ length t
unfolding table_changed
length_after t c exit =
    length_clock _ c.time
    ∙ cache_changed_holds _ c.peer c.cached
    ∙ gen_tid_changed_holds _ c.gen_tid
    ∙ exit_stored_holds _ c.place c.exit exit
    ∙ length_changed t c.place c.change
