-- The header of a well-formed table (01, "What the reader carries"): as a sentence, and as a test.
use Rattle.std.specs.Prelude.{ℕ, ◌+◌, ◌*◌, ◌≤◌, ◌<◌, List, [], ◌∷◌, Bool, get_or, leb}
use Rattle.base_layout.specs.Layout.{row1_at, limit_at, modes_at, tidnew_due_at, header_spare_at, header_spare_size, time_bound, maximum_bound, tid_bound, cached_bound, peers}
use Rattle.base_lists.specs.Seq.{every}
use Rattle.base_octets.specs.Octets.{num, gets}
use Rattle.table_layout.specs.Table.{clock_of, gen_tid_of, settings_of, intervals_of, cached_of}
use Rattle.table_layout.specs.declared.Settings.{Settings}
use Rattle.table_ranges.specs.Ranges.{Interval, interval, ModesOk, modes_ok, Zeros, zeros, all_of}

-- 01: "RCR_MAX and AEC_MAX are 0 to 8. The intervals A, W and R are 1 to 86,400,000"
pub record SettingsOk (s : Settings) : Type 0 where
  pub rcr_max : s.rcr_max ≤ maximum_bound
  pub aec_max : s.aec_max ≤ maximum_bound
  pub interval_a : Interval s.a
  pub interval_w : Interval s.w

-- 01: "one of two rows of nine intervals, class 1 and class 2"
abbrev pub RowsOk : List (List ℕ) → Type 0
RowsOk rows = (row rcr : ℕ) → row < 2 → rcr < 9 → Interval (get_or (get_or rows row []) rcr 0)

-- 01: "A table is well formed when all fields are in range", those before the records
pub record HeaderOk (t : List ℕ) : Type 0 where
  pub clock : clock_of t ≤ time_bound
  pub gen_tid : gen_tid_of t ≤ tid_bound
  pub settings : SettingsOk (settings_of t)
  pub modes : ModesOk (get_or t modes_at 0) (settings_of t).limit
  pub tidnew_due : get_or t tidnew_due_at 0 ≤ 1
  pub spare : Zeros t header_spare_at header_spare_size
  pub rows : RowsOk (intervals_of t)
  pub cached : (peer : ℕ) → peer < peers → cached_of t peer ≤ cached_bound

-- the test of the settings
abbrev pub settings_tests : Settings → List Bool
settings_tests s = leb s.rcr_max maximum_bound ∷ leb s.aec_max maximum_bound ∷ interval s.a ∷ interval s.w ∷ []

unfoldable pub settings_ok : Settings → Bool
settings_ok s = all_of (settings_tests s)

-- the test of what the requests of document 02 added, and of the spare octets: the waiting limit with its mode (L6), the flag of TIDnew (L2: 0 or 1)
abbrev pub requests_tests : List ℕ → List Bool
requests_tests t =
    modes_ok (get_or t modes_at 0) (num (gets 4 limit_at t))
    ∷ leb (get_or t tidnew_due_at 0) 1
    ∷ zeros t header_spare_at header_spare_size
    ∷ []

unfoldable pub requests_ok : List ℕ → Bool
requests_ok t = all_of (requests_tests t)

-- the k-th of the 18 intervals, row after row
unfoldable pub interval_at : List ℕ → ℕ → ℕ
interval_at t k = num (gets 4 (row1_at + k * 4) t)

-- the test of the header
abbrev pub header_tests : List ℕ → List Bool
header_tests t =
    leb (clock_of t) time_bound
    ∷ leb (gen_tid_of t) tid_bound
    ∷ settings_ok (settings_of t)
    ∷ requests_ok t
    ∷ every (λ k. interval (interval_at t k)) 18
    ∷ every (λ peer. leb (cached_of t peer) cached_bound) peers
    ∷ []

unfoldable pub header_ok_is : List ℕ → Bool
header_ok_is t = all_of (header_tests t)
