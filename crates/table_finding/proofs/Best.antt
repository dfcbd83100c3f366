-- The turns of the loop that looks for the earliest due record. Assumes nothing.
use Rattle.std.specs.Prelude.{Option, Some, None}
use mathlib.Core.Path.{◌≡◌, refl}
use mathlib.Core.List.{List}
use mathlib.Core.Bool.{Bool, true, false}
use Prim.Native.Nat.{ℕ, suc, ◌+◌, ◌-◌, ◌≤◌, ◌<◌}
use native.Mathlib.Omega.{arith}
use lib.ListN.{length}
use lib.Dec.{ltb}
use Rattle.base_layout.specs.Layout.{record_size, base}
use Rattle.base_lists.specs.Seq.{pick}
use Rattle.table_layout.specs.Table.{record_at}
use Rattle.table_finding.specs.Finding.{is_due, earlier_of, better_of, best, Within}

module _ (f : ℕ → Option ℕ → Option ℕ) (n i : ℕ) (b : Option ℕ) where
  pub turn : i < n → best f (n - i) i b ≡ best f (n - (i + 1)) (i + 1) (f i b)
  unfolding best
  turn h =
      let e : n - i ≡ suc (n - (i + 1)) = omega arith in
      rw e refl

  pub over : n ≤ i → best f (n - i) i b ≡ b
  unfolding best
  over h =
      let e : n - i ≡ 0 = omega arith in
      rw e refl

-- a record that is due is weighed, another is passed over
module _ (t : List ℕ) (time i : ℕ) (b : Option ℕ) where
  pub weighed : is_due time (record_at t i) ≡ true → earlier_of t i b ≡ better_of t time i b
  unfolding better_of
  weighed q = rw q refl

  pub passed_over : is_due time (record_at t i) ≡ false → b ≡ better_of t time i b
  unfolding better_of
  passed_over q = rw q refl

-- what is best lies in the table
module _ (t : List ℕ) (time i : ℕ) (h : base i + record_size ≤ length t) where
  one_within : (x : Bool) (j : ℕ) → Within t (Some j) → Within t (pick x (Some i) (Some j))
  one_within true j v = h
  one_within false j v = v

  pub better_within : (b : Option ℕ) → Within t b → Within t (better_of t time i b)
  unfolding better_of earlier_of
  better_within b w = go (is_due time (record_at t i)) b w
    where
      go : (x : Bool) (b : Option ℕ) → Within t b → Within t (pick x (earlier_of t i b) b)
      go true (Some j) v = one_within (ltb (record_at t i).deadline (record_at t j).deadline) j v
      go true None v = h
      go false b v = v
