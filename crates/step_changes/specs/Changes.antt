-- The changes of the table that a turn stands for (01, "Numbers given back", "TIDs").
use Rattle.std.specs.Prelude.{ℕ, ◌+◌, eqb, Option, Some, None}
use Rattle.base_lists.specs.Seq.{pick}
use Rattle.table_record.specs.Record.{state_number}
use Rattle.table_record.specs.declared.Record.{Record}
use Rattle.row_columns.specs.declared.Cache.{Cache}
use Rattle.row_columns.specs.declared.Cache.TheVariants as Cache
use Rattle.row_turns.specs.declared.Turn.{Turn}
use Rattle.step_commit.specs.declared.Change.{Change}
use Rattle.step_commit.specs.declared.Change.TheVariants as Change
use Rattle.step_commit.specs.declared.Changes.{Changes}

-- a record that is live afterwards is put; what becomes of one that isn't, the second says
unfoldable pub change_of : Record → Change → Change
change_of after ended = pick (eqb (state_number after.state) 0) ended (Change.Put after)

-- 01: "A valid TID becomes LastTID. A verified one does so only if none is cached"
unfoldable pub cached_after : Cache → ℕ → ℕ → Option ℕ
cached_after Cache.Same cached tid = None
cached_after Cache.Set cached tid = Some (tid + 1)
cached_after Cache.SetIfNone cached tid = pick (eqb cached 0) (Some (tid + 1)) None
-- 02, L2: "drops the cached TID for that peer"; 0 is none
cached_after Cache.Drop cached tid = Some 0

-- 01: "A freed record is zeroed"; a turn leaves GenTID as it is: only a request counts it
unfoldable pub turn_changes : Turn → ℕ → ℕ → ℕ → ℕ → ℕ → Changes
turn_changes turn place peer tid cached time = record {
  place = place;
  change = change_of turn.after Change.Clear;
  exit = turn.exit;
  gen_tid = None;
  peer = peer;
  cached = cached_after turn.cache cached tid;
  time = time;
}
