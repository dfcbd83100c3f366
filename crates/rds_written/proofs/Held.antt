-- A command that is not too long has an Application ID. Assumes nothing.
use Prim.Native.Nat.{ℕ, ◌+◌, ◌≤◌}
use native.Mathlib.Omega.{arith}
use mathlib.Core.Path.{◌≡◌, refl}
use mathlib.Core.List.{List}
use mathlib.Core.Bool.{Bool, true, false}
use lib.Dec.{eqb}
use Rattle.base_lists.specs.Seq.{pick}
use Rattle.rds_size.specs.Size.{is_application, asking_size}
use Rattle.rds_size.proofs.SizeTests.{Application, application}

-- a command Reserve or Release that is not too long has an Application ID
pub asking_held : (s : List ℕ) (a start len : ℕ) → asking_size s a start len ≤ 1520 → Application s start len
unfolding asking_size
asking_held s a start len = go (is_application s start len) refl where
  go : (b : Bool) → is_application s start len ≡ b → pick b (pick (eqb a 5) (2 + len + 1) (2 + len)) 1521 ≤ 1520 → Application s start len
  go true p h = application s start len p
  go false p h = absurd (omega (arith, h))
