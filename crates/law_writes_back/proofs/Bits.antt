-- The bits of an octet, taken apart and put together again. Assumes nothing.
use Prim.Native.Nat.{ℕ, ◌+◌, ◌*◌, ◌/◌, ◌%◌, ◌<◌}
use native.Mathlib.Omega.{arith}
use borrow.Author.Tests.{le-leb, lt-leb, leb-true, leb-false, eqb-true, eqb-false}
use mathlib.Core.Path.{◌≡◌, refl, sym, ap, ◌∙◌}
use mathlib.Core.Bool.{Bool, true, false}
use lib.Dec.{leb, eqb}
use Rattle.base_lists.specs.Seq.{bit}
use Rattle.codec_reading.specs.Read.{flag, lowest}
use Rattle.codec_encoding.specs.Write.{three}
use Rattle.law_writes_back.specs.WritesBack.{without}

low_bit : (y : ℕ) → bit (eqb (y % 2) 1) ≡ y % 2
low_bit y = go (eqb (y % 2) 1) refl
  where
    go : (b : Bool) → eqb (y % 2) 1 ≡ b → bit b ≡ y % 2
    go true e = omega (arith, eqb-true (y % 2) 1 e)
    go false e = let n = eqb-false (y % 2) 1 e in omega arith

-- CON
top_bit : (x : ℕ) → x < 256 → bit (leb 128 x) ≡ x / 128
top_bit x k = go (leb 128 x) refl
  where
    go : (b : Bool) → leb 128 x ≡ b → bit b ≡ x / 128
    go true e = omega (arith, leb-true 128 x e)
    go false e = omega (arith, leb-false 128 x e)

-- one bit cleared: what stands over it and under it
clear_1 : (x : ℕ) → without 1 x ≡ x / 2 * 2
clear_1 x = omega arith

clear_2 : (x : ℕ) → without 2 x ≡ x / 4 * 4 + x % 2
clear_2 x = omega arith

clear_4 : (x : ℕ) → without 4 x ≡ x / 8 * 8 + x % 4
clear_4 x = omega arith

clear_8 : (x : ℕ) → without 8 x ≡ x / 16 * 16 + x % 8
clear_8 x = omega arith

-- two adjacent bits cleared
pub clear_21 : (x : ℕ) → without 1 (without 2 x) ≡ x / 4 * 4
clear_21 x = ap (without 1) (clear_2 x) ∙ clear_1 (x / 4 * 4 + x % 2) ∙ omega arith

clear_42 : (x : ℕ) → without 2 (without 4 x) ≡ x / 8 * 8 + x % 2
clear_42 x = ap (without 2) (clear_4 x) ∙ clear_2 (x / 8 * 8 + x % 4) ∙ omega arith

clear_84 : (x : ℕ) → without 4 (without 8 x) ≡ x / 16 * 16 + x % 4
clear_84 x = ap (without 4) (clear_8 x) ∙ clear_4 (x / 16 * 16 + x % 8) ∙ omega arith

-- the first octet of a header or an item
module _ (x : ℕ) (octet : x < 256) where
  -- CON and the four bits after it
  upper : bit (leb 128 x) * 128 + x / 8 % 16 * 8 ≡ x / 8 * 8
  upper = omega (arith, top_bit x octet)

  lower : three (flag 4 (x % 8)) (flag 2 (x % 8)) (lowest (x % 8)) ≡ x % 8
  lower =
      let a : x % 8 / 2 ≡ x % 8 / 4 * 2 + x % 8 / 2 % 2 = omega arith in
      let b : x % 8 / 4 % 2 ≡ x % 8 / 4 = omega arith in
      rw (low_bit (x % 8 / 4), low_bit (x % 8 / 2), low_bit (x % 8), b) (omega arith)

  ack_lower : three (flag 4 (x % 8)) false (lowest (x % 8)) ≡ x % 8 / 4 * 4 + x % 2
  ack_lower = rw (low_bit (x % 8 / 4), low_bit (x % 8)) (omega arith)

  pub plain_flags : bit (leb 128 x) * 128 + x / 8 % 16 * 8 + x % 8 ≡ x
  plain_flags = omega (arith, upper)

  pub three_flags : bit (leb 128 x) * 128 + x / 8 % 16 * 8 + three (flag 4 (x % 8)) (flag 2 (x % 8)) (lowest (x % 8)) ≡ x
  three_flags = rw lower plain_flags

  pub ack_flags : bit (leb 128 x) * 128 + x / 8 % 16 * 8 + three (flag 4 (x % 8)) false (lowest (x % 8)) ≡ without 2 x
  ack_flags = rw (ack_lower, clear_2 x, upper) (omega arith)

  pub nack_flags : bit (leb 128 x) * 128 + x / 8 % 16 * 8 + bit (lowest (x % 8)) ≡ without 2 (without 4 x)
  nack_flags = rw (low_bit (x % 8), clear_42 x, upper) (omega arith)

  pub short_octet : x / 4 % 2 ≡ 0 → bit (leb 128 x) * 128 + x / 8 % 16 * 8 + x % 4 ≡ x
  short_octet e = rw upper (omega arith)

  pub long_octet : (x / 4 % 2 ≡ 0 → ⊥) → bit (leb 128 x) * 128 + x / 8 % 16 * 8 + 4 ≡ without 1 (without 2 x)
  long_octet e = rw (upper, clear_21 x) (omega arith)

-- an Invoke's octet after the TID
pub invoke_octet_holds : (x : ℕ) → x / 64 * 64 + bit (flag 32 x) * 32 + bit (flag 16 x) * 16 + x % 4 ≡ without 4 (without 8 x)
invoke_octet_holds x = rw (low_bit (x / 32), low_bit (x / 16), clear_84 x) (omega arith)

-- CON is the same of octets with the same upper bits
pub same_top : (x y : ℕ) → x / 8 ≡ y / 8 → leb 128 x ≡ leb 128 y
same_top x y e = go (leb 128 y) refl
  where
    go : (b : Bool) → leb 128 y ≡ b → leb 128 x ≡ b
    go true q = le-leb 128 x (omega (arith, leb-true 128 y q))
    go false q = lt-leb 128 x (omega (arith, leb-false 128 y q))

-- what stands over two places is the same where what stands over one is
over_32 : (x y : ℕ) → x / 16 ≡ y / 16 → x / 32 ≡ y / 32
over_32 x y e = omega arith

over_64 : (x y : ℕ) → x / 32 ≡ y / 32 → x / 64 ≡ y / 64
over_64 x y e = omega arith

-- the flags of an octet
first_flag : (x : ℕ) → x % 8 / 4 ≡ x / 4 % 2
first_flag x = omega arith

last_flag : (x : ℕ) → x % 8 % 2 ≡ x % 2
last_flag x = omega arith

-- clearing reserved bits changes no other bit
module _ (x : ℕ) where
  pub invoke_class : without 4 (without 8 x) % 4 ≡ x % 4
  invoke_class = rw (clear_84 x) (omega arith)

  pub invoke_over_16 : without 4 (without 8 x) / 16 ≡ x / 16
  invoke_over_16 = rw (clear_84 x) (omega arith)

  pub invoke_over_32 : without 4 (without 8 x) / 32 ≡ x / 32
  invoke_over_32 = over_32 _ x invoke_over_16

  pub invoke_over_64 : without 4 (without 8 x) / 64 ≡ x / 64
  invoke_over_64 = over_64 _ x invoke_over_32

  pub ack_upper : without 2 x / 8 ≡ x / 8
  ack_upper = rw (clear_2 x) (omega arith)

  pub ack_first : without 2 x % 8 / 4 ≡ x % 8 / 4
  ack_first = first_flag (without 2 x) ∙ rw (clear_2 x) (ap (λ (y : ℕ). y % 2) over_4) ∙ sym (first_flag x)
    where
      over_4 : (x / 4 * 4 + x % 2) / 4 ≡ x / 4
      over_4 = omega arith

  pub ack_last : without 2 x % 8 % 2 ≡ x % 8 % 2
  ack_last = last_flag (without 2 x) ∙ rw (clear_2 x) (omega arith) ∙ sym (last_flag x)

  pub nack_upper : without 2 (without 4 x) / 8 ≡ x / 8
  nack_upper = rw (clear_42 x) (omega arith)

  pub nack_last : without 2 (without 4 x) % 8 % 2 ≡ x % 8 % 2
  nack_last = last_flag (without 2 (without 4 x)) ∙ rw (clear_42 x) (omega arith) ∙ sym (last_flag x)
