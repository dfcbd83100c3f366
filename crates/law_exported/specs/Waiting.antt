-- A record reached only by due firings (02, L6), by calls of the exported functions.
use Rattle.std.specs.Prelude.{ℕ, ◌+◌, ◌≤◌, ◌≡◌, List, length}
use Rattle.base_layout.specs.Layout.{answer_size}
use Rattle.table_layout.specs.Table.{record_at}
use Rattle.law_waiting.specs.Waiting.{FiredAt}
use Rattle.law_exported.specs.Session.{Exported, Keeps, entry_for}

-- from one table to another by so many due firings of the record at a place, of wtp_timer or wtp_fire, and by any calls that leave that record as it is
pub data OnlyFiredBy (place : ℕ) (from : List ℕ) : ℕ → List ℕ → Type 0 where
  none : OnlyFiredBy place from 0 from
  fired : {n : ℕ} {t : List ℕ} → OnlyFiredBy place from n t → (x : Exported) → Keeps x → x.lent.table ≡ t → answer_size ≤ length x.words → FiredAt (entry_for x) place → OnlyFiredBy place from (n + 1) x.seen.table
  apart : {n : ℕ} {t : List ℕ} → OnlyFiredBy place from n t → (x : Exported) → Keeps x → x.lent.table ≡ t → record_at x.seen.table place ≡ record_at x.lent.table place → OnlyFiredBy place from n x.seen.table
