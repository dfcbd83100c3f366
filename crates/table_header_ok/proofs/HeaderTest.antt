-- The test of the header holds exactly when its sentence does. Assumes nothing.
use mathlib.Core.Path.{◌≡◌}
use mathlib.Core.List.{List, []}
use mathlib.Core.Bool.{true}
use Prim.Native.Nat.{ℕ, zero, suc, ◌+◌, ◌*◌, ◌/◌, ◌%◌, ◌<◌}
use native.Mathlib.Omega.{arith}
use native.Mathlib.Nat.{add-zero, zero-add}
use lib.ListN.{get_or}
use lib.Dec.{leb}
use borrow.Author.Tests.{leb-true, le-leb}
use Rattle.base_layout.specs.Layout.{header_spare_at, header_spare_size, cached_bound, peers}
use Rattle.base_lists.proofs.StoresAndParts.{every_all, every_at}
use Rattle.base_lists.specs.Seq.{every}
use Rattle.base_octets.specs.Octets.{num, gets}
use Rattle.table_layout.specs.Table.{fours, intervals_of, settings_of, cached_of}
use Rattle.table_layout.specs.declared.Settings.{Settings}
use Rattle.table_ranges.specs.Ranges.{Interval, interval}
use Rattle.table_ranges.proofs.Tests.{Each, each, all, interval_to, interval_from}
use Rattle.table_ranges.proofs.Modes.{modes_to, modes_from}
use Rattle.table_ranges.proofs.Zeros.{zeros_to, zeros_from}
use Rattle.table_header_ok.specs.Header.{SettingsOk, RowsOk, HeaderOk, settings_tests, settings_ok, requests_tests, requests_ok, interval_at, header_tests, header_ok_is}

fours_at : (n at k : ℕ) (t : List ℕ) → k < n → get_or (fours n at t) k 0 ≡ num (gets 4 (at + k * 4) t)
unfolding fours
fours_at zero at k t h = absurd (omega arith)
fours_at (suc n) at zero t h = rw add-zero
fours_at (suc n) at (suc k) t h =
    let e : at + suc k * 4 ≡ at + 4 + k * 4 = omega arith in
    rw e (fours_at n (at + 4) k t (omega arith))

-- the two rows are the 18 intervals, row after row
pub row_at : (t : List ℕ) (row rcr : ℕ) → row < 2 → rcr < 9 → get_or (get_or (intervals_of t) row []) rcr 0 ≡ interval_at t (row * 9 + rcr)
unfolding intervals_of interval_at
row_at t zero rcr h l = rw zero-add (fours_at 9 20 rcr t l)
row_at t (suc zero) rcr h l =
    let e : 20 + (9 + rcr) * 4 ≡ 56 + rcr * 4 = omega arith in
    rw e (fours_at 9 56 rcr t l)
row_at t (suc (suc row)) rcr h l = absurd (omega arith)

rows_to : (t : List ℕ) → every (λ k. interval (interval_at t k)) 18 ≡ true → RowsOk (intervals_of t)
rows_to t h row rcr a b = rw (row_at t row rcr a b) (interval_to _ (every_at (λ k. interval (interval_at t k)) 18 h (row * 9 + rcr) (omega arith)))

rows_from : (t : List ℕ) → RowsOk (intervals_of t) → every (λ k. interval (interval_at t k)) 18 ≡ true
rows_from t h = every_all (λ k. interval (interval_at t k)) 18 (λ k l. interval_from _ (at k l)) where
  at : (k : ℕ) → k < 18 → Interval (interval_at t k)
  at k l =
      let e : k ≡ k / 9 * 9 + k % 9 = omega arith in
      rw e (rw (row_at t (k / 9) (k % 9) (omega arith) (omega arith)) at (h (k / 9) (k % 9) (omega arith) (omega arith)))

pub settings_to : (s : Settings) → settings_ok s ≡ true → SettingsOk s
unfolding settings_ok
settings_to s h =
    let e : Each (settings_tests s) = each (settings_tests s) h in
    record {
      rcr_max = leb-true _ _ e.0;
      aec_max = leb-true _ _ e.1.0;
      interval_a = interval_to s.a e.1.1.0;
      interval_w = interval_to s.w e.1.1.1;
    }

pub settings_from : (s : Settings) → SettingsOk s → settings_ok s ≡ true
unfolding settings_ok
settings_from s h = all (settings_tests s) (le-leb _ _ h.rcr_max, (le-leb _ _ h.aec_max, (interval_from s.a h.interval_a, interval_from s.w h.interval_w)))

-- THE TEST OF THE HEADER HOLDS EXACTLY WHEN ITS SENTENCE DOES
pub header_to : (t : List ℕ) → header_ok_is t ≡ true → HeaderOk t
unfolding header_ok_is requests_ok settings_of
header_to t h =
    let e : Each (header_tests t) = each (header_tests t) h in
    let f : Each (requests_tests t) = each (requests_tests t) e.1.1.1.0 in
    record {
      clock = leb-true _ _ e.0;
      gen_tid = leb-true _ _ e.1.0;
      settings = settings_to (settings_of t) e.1.1.0;
      modes = modes_to _ _ f.0;
      tidnew_due = leb-true _ _ f.1.0;
      spare = zeros_to t header_spare_at header_spare_size f.1.1;
      rows = rows_to t e.1.1.1.1.0;
      cached = λ p l. leb-true _ _ (every_at (λ p. leb (cached_of t p) cached_bound) peers e.1.1.1.1.1 p l);
    }

pub header_from : (t : List ℕ) → HeaderOk t → header_ok_is t ≡ true
unfolding header_ok_is requests_ok settings_of
header_from t h =
    all (header_tests t) (
      le-leb _ _ h.clock,
      (
        le-leb _ _ h.gen_tid,
        (
          settings_from (settings_of t) h.settings,
          (
            all (requests_tests t) (modes_from _ _ h.modes, (le-leb _ _ h.tidnew_due, zeros_from t header_spare_at header_spare_size h.spare)),
            (rows_from t h.rows, every_all (λ p. leb (cached_of t p) cached_bound) peers (λ p l. le-leb _ _ (h.cached p l))),
          ),
        ),
      ),
    )
