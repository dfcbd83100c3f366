-- A fixed header with its reserved bits cleared is read as it was. Assumes nothing.
use Prim.Native.Nat.{ℕ, zero, suc, ◌+◌, ◌/◌, ◌%◌, ◌<◌}
use native.Mathlib.Omega.{arith}
use mathlib.Core.Path.{◌≡◌, refl}
use mathlib.Core.List.{List, [], ◌∷◌}
use mathlib.Core.Bool.{Bool, true, false}
use mathlib.Core.Logic.{◌⊎◌, inl, inr}
use lib.ListN.{get_or}
use lib.Dec.{eqb}
use Rattle.base_lists.specs.Seq.{pick}
use Rattle.codec_reading.specs.Read.{type_of, kind_of}
use Rattle.law_reading_order.specs.Layout.{header_length}
use Rattle.law_reading_order.proofs.Heads.{fourth_of}
use Rattle.law_reading_order.specs.Order.{WrongType}
use Rattle.law_writes_back.specs.WritesBack.{clear_header}
use Rattle.law_writes_back.proofs.Bits.{invoke_class, invoke_over_16, invoke_over_32, invoke_over_64, ack_upper, ack_first, ack_last, nack_upper, nack_last}
use Rattle.law_writes_back.proofs.Header.{kind_as, Three, three_of}

-- what of a fixed header is read, in octets c of one of type t
pub record HeaderAgain (t : ℕ) (c b : List ℕ) : Type 0 where
  pub upper : get_or c 0 0 / 8 ≡ get_or b 0 0 / 8
  pub high : get_or c 1 0 ≡ get_or b 1 0
  pub low : get_or c 2 0 ≡ get_or b 2 0
  pub kind : kind_as t c ≡ kind_as t b
  pub long : header_length t (get_or c 3 0) ≡ header_length t (get_or b 3 0)

unchanged : {t : ℕ} {b : List ℕ} → HeaderAgain t b b
unchanged = record { upper = refl; high = refl; low = refl; kind = refl; long = refl }

header_again : (x₀ x₁ x₂ t : ℕ) (r : List ℕ) → ((t ≡ 0) ⊎ (7 < t) → ⊥) → HeaderAgain t (clear_header t (x₀ ∷ x₁ ∷ x₂ ∷ r)) (x₀ ∷ x₁ ∷ x₂ ∷ r)
unfolding clear_header kind_of header_length
header_again x₀ x₁ x₂ zero r w = absurd (w (inl refl))
header_again x₀ x₁ x₂ (suc zero) [] w = unchanged
header_again x₀ x₁ x₂ (suc zero) (x₃ ∷ r) w = record { upper = refl; high = refl; low = refl; kind = rw (invoke_class x₃, invoke_over_64 x₃, invoke_over_32 x₃, invoke_over_16 x₃); long = refl }
header_again x₀ x₁ x₂ (suc (suc zero)) r w = unchanged
header_again x₀ x₁ x₂ (suc (suc (suc zero))) r w = record { upper = ack_upper x₀; high = refl; low = refl; kind = rw (ack_first x₀, ack_last x₀); long = refl }
header_again x₀ x₁ x₂ (suc (suc (suc (suc zero)))) r w = unchanged
header_again x₀ x₁ x₂ (suc (suc (suc (suc (suc zero))))) r w = unchanged
header_again x₀ x₁ x₂ (suc (suc (suc (suc (suc (suc zero)))))) r w = unchanged
header_again x₀ x₁ x₂ (suc (suc (suc (suc (suc (suc (suc zero))))))) r w = record { upper = nack_upper x₀; high = refl; low = refl; kind = rw (nack_last x₀); long = refl }
header_again x₀ x₁ x₂ (suc (suc (suc (suc (suc (suc (suc (suc n)))))))) r w = absurd (w (inr (omega arith)))

pub again_of_holds : {b : List ℕ} → Three b → (WrongType b → ⊥) → HeaderAgain (type_of b) (clear_header (type_of b) b) b
again_of_holds (three_of x₀ x₁ x₂ r) w = header_again x₀ x₁ x₂ (x₀ / 8 % 16) r w

-- only where a header of type t has a fourth octet is it looked at
pub fourth_same : (t x y : ℕ) → (3 < header_length t x → y ≡ x) → (fourth_of t y ≡ fourth_of t x) × (header_length t y ≡ header_length t x)
unfolding header_length
fourth_same t x y f = go (eqb t 2) refl (eqb t 3) refl
  where
    go : (a : Bool) → eqb t 2 ≡ a → (b : Bool) → eqb t 3 ≡ b → (fourth_of t y ≡ fourth_of t x) × (header_length t y ≡ header_length t x)
    go true p b q = rw p (refl, refl)
    go false p true q = rw (p, q) (refl, refl)
    go false p false q = let e : y ≡ x = f (rw (p, q) (more (eqb t 7))) in rw e (refl, refl)
      where
        more : (c : Bool) → 3 < pick c (x + 4) 4
        more true = omega arith
        more false = omega arith
