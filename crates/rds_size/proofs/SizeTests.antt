-- What the tests of a body to be written say of its parts and sizes. Assumes nothing.
use mathlib.Core.Path.{◌≡◌, refl, sym}
use mathlib.Core.List.{List}
use mathlib.Core.Bool.{Bool, true, false}
use Prim.Native.Nat.{ℕ, ◌+◌, ◌-◌, ◌≤◌}
use native.Mathlib.Omega.{arith}
use borrow.Author.Tests.{leb-true, ltb-false, eqb-true, eqb-false}
use lib.ListN.{length}
use lib.Dec.{ltb, leb, eqb}
use Rattle.base_lists.specs.Seq.{pick, part}
use Rattle.base_lists.proofs.StoresAndParts.{true_false}
use Rattle.rds_entries.specs.Entries.{application_length}
use Rattle.rds_size.specs.Size.{inside, is_application}

-- a part that lies inside ends inside
pub inside_ends : (n start len : ℕ) → inside n start len ≡ true → start + len ≤ n
unfolding inside
inside_ends n start len = go (leb start n) refl where
  go : (b : Bool) → leb start n ≡ b → pick b (leb len (n - start)) false ≡ true → start + len ≤ n
  go true p e = omega (arith, leb-true start n p, leb-true len (n - start) e)
  go false p e = true_false (sym e)

-- what an Application ID is
pub record Application (s : List ℕ) (start len : ℕ) : Type 0 where
  pub some : len ≡ 0 → ⊥
  pub bounded : len ≤ 272
  pub ends : start + len ≤ length s
  pub whole : application_length (part s start len) ≡ len

pub application : (s : List ℕ) (start len : ℕ) → is_application s start len ≡ true → Application s start len
unfolding is_application
application s start len = go (eqb len 0) refl (ltb 272 len) refl (inside (length s) start len) refl where
  go : (a : Bool) → eqb len 0 ≡ a → (b : Bool) → ltb 272 len ≡ b → (c : Bool) → inside (length s) start len ≡ c
      → pick a false (pick b false (pick c (eqb (application_length (part s start len)) len) false)) ≡ true → Application s start len
  go true p b q c r e = true_false (sym e)
  go false p true q c r e = true_false (sym e)
  go false p false q false r e = true_false (sym e)
  go false p false q true r e = record { some = eqb-false len 0 p; bounded = ltb-false 272 len q; ends = inside_ends (length s) start len r; whole = eqb-true _ len e }

-- the same, of its length alone, as the check finds it
pub application_short : (s : List ℕ) (start len : ℕ) → is_application s start len ≡ true → len ≤ 272
application_short s start len e = (application s start len e).bounded
