-- What a loop keeps that tests every place below a bound, one by one or by marks. Assumes nothing.
use mathlib.Core.Path.{◌≡◌, refl, sym, ◌∙◌}
use mathlib.Core.Bool.{Bool, true, false}
use mathlib.Core.Logic.{◌⊎◌, inl, inr}
use Prim.Native.Nat.{ℕ, ◌+◌, ◌≤◌}
use native.Mathlib.Omega.{arith}
use native.Mathlib.Numerals.{add-one}
use lib.Bits.{bit_or, or_comm, or_add_and, and_le_l, and_le_r}
use lib.Dec.{eqb}
use borrow.Author.Tests.{eqb-true, eqb-false, eq-eqb, ne_eqb}
use Rattle.base_lists.specs.Seq.{pick, every}
use Rattle.base_lists.proofs.StoresAndParts.{told, not_so, true_false}

pub every_done : (p : ℕ → Bool) (n i : ℕ) → i ≤ n → n ≤ i → every p i ≡ true → every p n ≡ true
every_done p n i a b e =
    let k : n ≡ i = omega arith in
    rw k e

-- two tests that hold together are one
pub same_test : (a b : Bool) → (a ≡ true → b ≡ true) → (b ≡ true → a ≡ true) → a ≡ b
same_test a b f g = go (told a) where
  go : (a ≡ true) ⊎ (a ≡ false) → a ≡ b
  go (inl e) = e ∙ sym (f e)
  go (inr e) = e ∙ sym (not_so b (λ (h : b ≡ true). true_false (sym (g h) ∙ e)))

-- two numbers have no bit exactly when neither has
pub or_none : (a b : ℕ) → eqb (bit_or a b) 0 ≡ pick (eqb a 0) (eqb b 0) false
or_none a b = go (told (eqb a 0)) (told (eqb b 0)) where
  go : (eqb a 0 ≡ true) ⊎ (eqb a 0 ≡ false) → (eqb b 0 ≡ true) ⊎ (eqb b 0 ≡ false) → eqb (bit_or a b) 0 ≡ pick (eqb a 0) (eqb b 0) false
  go (inl e) (inl f) = rw (e, f) (eq-eqb (bit_or a b) 0 (omega (arith, or_add_and a b, eqb-true a 0 e, eqb-true b 0 f)))
  go (inl e) (inr f) = rw (e, f) (ne_eqb (bit_or a b) 0 (λ (z : bit_or a b ≡ 0). eqb-false b 0 f (omega (arith, or_add_and a b, and_le_l a b))))
  go (inr e) f = rw e (ne_eqb (bit_or a b) 0 (λ (z : bit_or a b ≡ 0). eqb-false a 0 e (omega (arith, or_add_and a b, and_le_r a b))))

-- a loop that gathers a mark for each test that fails: there is none exactly while every test holds
pub marks_more : (p : ℕ → Bool) (n c w : ℕ) → eqb c 0 ≡ every p n → w ≡ pick (p n) 0 1 → eqb (bit_or c w) 0 ≡ every p (n + 1)
unfolding every
marks_more p n c w e f = rw or_comm (or_none w c ∙ rw (add-one, e, f, unmarked (p n))) where
  unmarked : (b : Bool) → eqb (pick b 0 1) 0 ≡ b
  unmarked true = refl
  unmarked false = refl
