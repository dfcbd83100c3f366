-- What the size of information, and of the command Reserve or Release, says of its part. Assumes nothing.
use Prim.Native.Nat.{ℕ, ◌+◌, ◌≤◌}
use native.Mathlib.Omega.{arith}
use mathlib.Core.Path.{◌≡◌, refl}
use mathlib.Core.List.{List}
use mathlib.Core.Bool.{Bool, true, false}
use lib.ListN.{length}
use lib.Dec.{ltb, eqb}
use Rattle.base_lists.specs.Seq.{pick, bit, part}
use Rattle.rds_parameters.specs.Parameters.{items_from}
use Rattle.rds_size.specs.Size.{inside, is_application, information_size, asking_size}
use Rattle.rds_size.proofs.SizeTests.{inside_ends, application}

module _ (s : List ℕ) where
  pub information_fits : (start len : ℕ) (items : Bool) → information_size s start len items ≤ 1520
      → (start + len ≤ length s) × (information_size s start len items ≡ len)
  unfolding information_size
  information_fits start len items = go (ltb 1520 len) refl (inside (length s) start len) refl items (items_from len (part s start len)) where
    go : (a : Bool) → ltb 1520 len ≡ a → (b : Bool) → inside (length s) start len ≡ b → (i t : Bool)
        → pick a 1521 (pick b (pick i (pick t len 1521) len) 1521) ≤ 1520 → (start + len ≤ length s) × (pick a 1521 (pick b (pick i (pick t len 1521) len) 1521) ≡ len)
    go true p b q i t h = absurd (omega (arith, h))
    go false p false q i t h = absurd (omega (arith, h))
    go false p true q true true h = (inside_ends (length s) start len q, refl)
    go false p true q true false h = absurd (omega (arith, h))
    go false p true q false t h = (inside_ends (length s) start len q, refl)

  pub asking_fits : (a start len : ℕ) → asking_size s a start len ≤ 1520 → (start + len ≤ length s) × (asking_size s a start len ≡ 2 + len + bit (eqb a 5))
  unfolding asking_size
  asking_fits a start len = go (is_application s start len) refl (eqb a 5) where
    go : (x : Bool) → is_application s start len ≡ x → (y : Bool) → pick x (pick y (2 + len + 1) (2 + len)) 1521 ≤ 1520
        → (start + len ≤ length s) × (pick x (pick y (2 + len + 1) (2 + len)) 1521 ≡ 2 + len + bit y)
    go true p true h = ((application s start len p).ends, refl)
    go true p false h = ((application s start len p).ends, omega arith)
    go false p y h = absurd (omega (arith, h))
