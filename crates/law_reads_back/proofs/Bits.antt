-- Bits that were written into an octet are read as they were; what a test picks. Assumes nothing.
use Prim.Native.Nat.{ℕ, ◌+◌, ◌*◌, ◌/◌, ◌%◌, ◌<◌}
use native.Mathlib.Omega.{arith}
use borrow.Author.Tests.{le-leb, lt-leb}
use mathlib.Core.Path.{◌≡◌, ap, ◌∙◌}
use mathlib.Core.Bool.{Bool, true, false}
use lib.Dec.{leb, eqb}
use Rattle.base_lists.specs.Seq.{pick, bit}

pub pick_true {ℓ} : {A : Type ℓ} (b : Bool) (x y : A) → b ≡ true → pick b x y ≡ x
pick_true b x y e = rw e

pub pick_false {ℓ} : {A : Type ℓ} (b : Bool) (x y : A) → b ≡ false → pick b x y ≡ y
pick_false b x y e = rw e

pub bit_is : (b : Bool) (x : ℕ) → x ≡ bit b → eqb x 1 ≡ b
bit_is true x e = rw e
bit_is false x e = rw e

pub low_bit : (b : Bool) (x : ℕ) → (x * 2 + bit b) % 2 ≡ bit b
low_bit true x = omega arith
low_bit false x = omega arith

top_bit : (b : Bool) (x : ℕ) → x < 128 → leb 128 (bit b * 128 + x) ≡ b
top_bit true x h = le-leb 128 (1 * 128 + x) (omega arith)
top_bit false x h = lt-leb 128 (0 * 128 + x) (omega arith)

-- the first octet of a PDU or of an item: CON, four bits and three
module _ (con : Bool) (four three : ℕ) (four-fits : four < 16) (three-fits : three < 8) where
  abbrev octet : ℕ
  octet = bit con * 128 + four * 8 + three

  pub con_is : leb 128 octet ≡ con
  con_is = let e : octet ≡ bit con * 128 + (four * 8 + three) = omega arith in ap (leb 128) e ∙ top_bit con (four * 8 + three) (omega arith)

  pub four_is : octet / 8 % 16 ≡ four
  four_is = omega arith

  pub three_is : octet % 8 ≡ three
  three_is = omega arith
