-- A fresh table satisfies the invariant: no record is live and nothing was counted. Assumes nothing.
use Prim.Native.Nat.{ℕ}
use native.Mathlib.Omega.{arith}
use mathlib.Core.Path.{◌≡◌, refl, ap}
use mathlib.Core.List.{List, []}
use lib.ListN.{length, get_or}
use Rattle.table_record.specs.Record.{state_number}
use Rattle.table_layout.specs.Table.{count, settings_of}
use Rattle.table_layout.specs.declared.Settings.{Settings}
use Rattle.law_counting.specs.Counting.{none, Limits}
use Rattle.table_fresh.specs.Fresh.{fresh_answer, table_after_fresh}
use Rattle.std.specs.Prelude.{Ok}
use Rattle.table_fresh.proofs.Ranges.{in_range_holds}
use Rattle.table_fresh.proofs.Answers.{accepted}
use Rattle.table_fresh.proofs.Facts.{fresh_facts}
use Rattle.law_fresh_formed.specs.FreshOk.{FreshOk}
use Rattle.law_fresh_formed.proofs.Formed.{fresh_ok}
use Rattle.law_history.specs.Tally.{tally}
use Rattle.law_history.specs.Start.{fresh}
use Rattle.law_invariant.specs.Invariant.{Inv}

pub none_limits : (max : ℕ) → Limits max none
none_limits max = record { sends = omega arith; results_sent = omega arith; confirms = omega arith; results = omega arith; aborts = omega arith; shows = omega arith }

pub fresh_inv : (old t : List ℕ) (first : ℕ) → FreshOk old t first → Inv fresh (settings_of t).rcr_max t []
unfolding tally
fresh_inv old t first f = record {
  formed = f.formed;
  rcr_max = refl;
  says = λ i inside live. absurd (omega (arith, live, ap state_number (f.no_record i)));
  limits = λ n. none_limits (settings_of t).rcr_max;
}

module _ (old ws : List ℕ) (first : ℕ) (made : fresh_answer (length old) ws first ≡ Ok tt) where
  -- RCR_MAX of a fresh table is its first setting
  fresh_rcr_max : (settings_of (table_after_fresh (Ok tt) old ws first)).rcr_max ≡ get_or ws 0 0
  unfolding table_after_fresh
  fresh_rcr_max = ap (λ (s : Settings). s.rcr_max) (fresh_facts (count old) ws first (in_range_holds ws first (accepted (length old) ws first made).1)).settings

  pub made_inv : Inv fresh (get_or ws 0 0) (table_after_fresh (Ok tt) old ws first) []
  made_inv =
      let v = fresh_inv old (table_after_fresh (Ok tt) old ws first) first (fresh_ok old ws first made) in
      rw fresh_rcr_max at v
