-- LastTID after a row (01, "TIDs"): the cached TID of the peer.
use Rattle.std.specs.Prelude.{ℕ, ◌+◌, eqb}
use Rattle.base_lists.specs.Seq.{pick}
use Rattle.row_events.specs.Events.{same_row_is, same_opening}
use Rattle.row_events.specs.declared.Row.{Row}
use Rattle.row_events.specs.declared.Opening.{Opening}
use Rattle.row_columns.specs.declared.Cache.{Cache}
use Rattle.row_columns.specs.declared.Cache.TheVariants as Cache
use Rattle.law_rows_done.specs.Lists.{listed}
use Rattle.law_rows_done.specs.LiveRows as Live
use Rattle.law_rows_done.specs.OpeningRows as Opening

-- what document 01 says of LastTID for a row, and for an opening
abbrev pub last_tid_of : Row → Cache
last_tid_of row = listed same_row_is Live.last_tid_lines row Cache.Same

abbrev pub opening_last_tid : Opening → Cache
opening_last_tid opening = listed same_opening Opening.last_tid_lines opening Cache.Same

-- the cached TID of the peer, 0 for none, else LastTID + 1: "A valid TID becomes LastTID. A verified one does so only if none is cached."
abbrev pub last_tid_by : Cache → (cached tid : ℕ) → ℕ
last_tid_by Cache.Same cached tid = cached
last_tid_by Cache.Set cached tid = tid + 1
last_tid_by Cache.SetIfNone cached tid = pick (eqb cached 0) (tid + 1) cached
-- 02, L2: "drops the cached TID for that peer"
last_tid_by Cache.Drop cached tid = 0
