-- What an accepted call leaves in the table, from the changes that its row names (01, "Numbers given back").
use Rattle.std.specs.Prelude.{ℕ, List, Bool, true, false, Option, Some, None}
use Rattle.base_layout.specs.Layout.{exit_base}
use Rattle.base_lists.specs.Seq.{put}
use Rattle.table_layout.specs.Table.{put_record, clear_record, put_gen_tid, put_tidnew_due, put_cached, put_clock}
use Rattle.step_commit.specs.declared.Change.{Change}
use Rattle.step_commit.specs.declared.Change.TheVariants.{Nothing, Put, Clear}
use Rattle.step_commit.specs.declared.GenTid.{GenTid}
use Rattle.step_commit.specs.declared.Changes.{Changes}

-- the record at a place: as it was, with other fields, or freed: "A freed record is zeroed"
unfoldable pub record_changed : List ℕ → ℕ → Change → List ℕ
record_changed t place Nothing = t
record_changed t place (Put r) = put_record t place r
record_changed t place Clear = clear_record t place

-- 01: "exit information is kept in the record"
unfoldable pub exit_stored : List ℕ → ℕ → Bool → List ℕ → List ℕ
exit_stored t place true exit = put t (exit_base place) exit
exit_stored t place false exit = t

-- GenTID, and whether TIDnew is then due
unfoldable pub gen_tid_changed : List ℕ → Option GenTid → List ℕ
gen_tid_changed t None = t
gen_tid_changed t (Some g) = put_tidnew_due (put_gen_tid t g.tid) g.tidnew_due

unfoldable pub cache_changed : List ℕ → ℕ → Option ℕ → List ℕ
cache_changed t peer None = t
cache_changed t peer (Some cached) = put_cached t peer cached

-- 01: "An accepted call stores its time"
unfoldable pub table_changed : List ℕ → Changes → List ℕ → List ℕ
table_changed t c exit =
    put_clock
    (cache_changed
    (gen_tid_changed
    (exit_stored (record_changed t c.place c.change) c.place c.exit exit)
    c.gen_tid)
    c.peer
    c.cached)
    c.time
