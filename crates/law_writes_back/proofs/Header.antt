-- A fixed header that was read is written as it was, reserved bits cleared. Assumes nothing.
use Prim.Native.Nat.{ℕ, zero, suc, ◌+◌, ◌*◌, ◌/◌, ◌%◌, ◌<◌, ◌≤◌}
use native.Mathlib.Omega.{arith}
use native.Mathlib.Numerals.{add-four}
use borrow.Author.Tests.{ne_eqb, le-ltb}
use mathlib.Core.Path.{◌≡◌, refl, ap}
use mathlib.Core.List.{List, [], ◌∷◌}
use mathlib.Core.Bool.{Bool, true, false}
use mathlib.Core.Logic.{◌⊎◌, inl, inr}
use lib.ListN.{length, get_or, take, drop}
use lib.Dec.{leb, ltb, eqb}
use Rattle.base_lists.specs.Seq.{pick}
use Rattle.std.specs.Prelude.{Ok}
use Rattle.codec_pdu.specs.declared.Kind.{Kind}
use Rattle.codec_reading.specs.Read.{type_of, kind_of}
use Rattle.codec_encoding.specs.Write.{type_number, flags_of, extra_of, header_of_is, FitKind, kind_fault}
use Rattle.law_reading_order.specs.Layout.{header_length, fixed_length}
use Rattle.law_reading_order.specs.Order.{WrongType, ClassThree, AbortTypeOver}
use Rattle.law_reading_order.proofs.Heads.{fourth_of}
use Rattle.law_writes_back.specs.WritesBack.{clear_header}
use Rattle.law_writes_back.proofs.Bits.{plain_flags, three_flags, ack_flags, nack_flags, invoke_octet_holds}
use Rattle.law_writes_back.proofs.Agree.{Agree}

-- the kind of b, of type t
abbrev pub kind_as : ℕ → List ℕ → Kind
kind_as t b = kind_of t (get_or b 0 0 % 8) (fourth_of t (get_or b 3 0))

pub record HeaderBack (t : ℕ) (b : List ℕ) : Type 0 where
  pub written : header_of_is b (leb 128 (get_or b 0 0)) (kind_as t b) (get_or b 1 0 * 256 + get_or b 2 0) ≡ take (header_length t (get_or b 3 0)) (clear_header t b)
  pub agree : Agree (header_length t (get_or b 3 0)) (clear_header t b) b
  pub fits : FitKind b (kind_as t b)
  pub sound : kind_fault (kind_as t b) ≡ Ok tt

same : {a a' h h' l l' : ℕ} {e e' : List ℕ} → a ≡ a' → h ≡ h' → l ≡ l' → e ≡ e' → ◌≡◌ {A = List ℕ} (a ∷ h ∷ l ∷ e) (a' ∷ h' ∷ l' ∷ e')
same p q r s = cc

back : {t : ℕ} {b : List ℕ}
    → header_of_is b (leb 128 (get_or b 0 0)) (kind_as t b) (get_or b 1 0 * 256 + get_or b 2 0) ≡ take (header_length t (get_or b 3 0)) (clear_header t b)
    → length (clear_header t b) ≡ length b
    → drop (header_length t (get_or b 3 0)) (clear_header t b) ≡ drop (header_length t (get_or b 3 0)) b
    → FitKind b (kind_as t b)
    → kind_fault (kind_as t b) ≡ Ok tt
    → HeaderBack t b
back w l d f s = record { written = w; agree = record { long = l; from = d }; fits = f; sound = s }

module _ (x₀ x₁ x₂ : ℕ) (o₀ : x₀ < 256) (o₂ : x₂ < 256) where
  high : (x₁ * 256 + x₂) / 256 ≡ x₁
  high = omega arith

  low : (x₁ * 256 + x₂) % 256 ≡ x₂
  low = omega arith

  -- by the type: 2 and 3 have three octets, the others at least four
  header_back : (t : ℕ) (r : List ℕ) → x₀ / 8 % 16 ≡ t → ((t ≡ 0) ⊎ (7 < t) → ⊥) → header_length t (get_or r 0 0) ≤ 3 + length r → ((t ≡ 1) × (get_or r 0 0 % 4 ≡ 3) → ⊥) → ((t ≡ 4) × (1 < x₀ % 8) → ⊥)
      → get_or r 0 0 < 256 → HeaderBack t (x₀ ∷ x₁ ∷ x₂ ∷ r)
  unfolding header_length clear_header kind_of header_of_is type_number flags_of extra_of FitKind kind_fault
  header_back zero r e w l c a o = absurd (w (inl refl))
  header_back (suc zero) [] e w l c a o = absurd (omega arith)
  header_back (suc zero) (x₃ ∷ r) e w l c a o =
      let n : eqb (x₃ % 4) 3 ≡ false = ne_eqb (x₃ % 4) 3 (λ q. c (refl, q)) in
      back (rw n (same (rw e at (three_flags x₀ o₀)) high low (ap (λ (x : ℕ). x ∷ []) (invoke_octet_holds x₃)))) refl refl (rw n (omega arith, omega arith)) (rw (n, n))
  header_back (suc (suc zero)) r e w l c a o = back (same (rw e at (three_flags x₀ o₀)) high low refl) refl refl tt refl
  header_back (suc (suc (suc zero))) r e w l c a o = back (same (rw e at (ack_flags x₀ o₀)) high low refl) refl refl tt refl
  header_back (suc (suc (suc (suc zero)))) [] e w l c a o = absurd (omega arith)
  header_back (suc (suc (suc (suc zero)))) (x₃ ∷ r) e w l c a o =
      let k : 1 < x₀ % 8 → ⊥ = λ q. a (refl, q) in
      let n : ltb 1 (x₀ % 8) ≡ false = le-ltb 1 (x₀ % 8) (omega arith) in
      back (rw n (same (rw e at (plain_flags x₀ o₀)) high low refl)) refl refl (rw n (omega arith)) (rw (n, n))
  header_back (suc (suc (suc (suc (suc zero))))) [] e w l c a o = absurd (omega arith)
  header_back (suc (suc (suc (suc (suc zero))))) (x₃ ∷ r) e w l c a o = back (same (rw e at (three_flags x₀ o₀)) high low refl) refl refl tt refl
  header_back (suc (suc (suc (suc (suc (suc zero)))))) [] e w l c a o = absurd (omega arith)
  header_back (suc (suc (suc (suc (suc (suc zero)))))) (x₃ ∷ r) e w l c a o = back (same (rw e at (three_flags x₀ o₀)) high low refl) refl refl tt refl
  header_back (suc (suc (suc (suc (suc (suc (suc zero))))))) [] e w l c a o = absurd (omega arith)
  header_back (suc (suc (suc (suc (suc (suc (suc zero))))))) (x₃ ∷ r) e w l c a o = back (rw add-four (same (rw e at (nack_flags x₀ o₀)) high low refl)) refl (rw add-four) (omega arith) refl
  header_back (suc (suc (suc (suc (suc (suc (suc (suc n)))))))) r e w l c a o = absurd (w (inr (omega arith)))

pub header_least : (t x : ℕ) → 3 ≤ header_length t x
unfolding header_length
header_least t x = go (eqb t 2) (eqb t 3) (eqb t 7)
  where
    go : (a b c : Bool) → 3 ≤ pick a 3 (pick b 3 (pick c (x + 4) 4))
    go true b c = omega arith
    go false true c = omega arith
    go false false true = omega arith
    go false false false = omega arith

-- a header that is not cut has three octets at least
pub data Three : List ℕ → Type 0 where
  three_of : (x₀ x₁ x₂ : ℕ) (r : List ℕ) → Three (x₀ ∷ x₁ ∷ x₂ ∷ r)

pub three_octets : (b : List ℕ) → fixed_length b ≤ length b → Three b
three_octets [] l = absurd (omega (arith, header_least (type_of []) 0))
three_octets (x₀ ∷ []) l = absurd (omega (arith, header_least (type_of (x₀ ∷ [])) 0))
three_octets (x₀ ∷ x₁ ∷ []) l = absurd (omega (arith, header_least (type_of (x₀ ∷ x₁ ∷ [])) 0))
three_octets (x₀ ∷ x₁ ∷ x₂ ∷ r) l = three_of x₀ x₁ x₂ r

pub header_of : {b : List ℕ} → Three b → ((i : ℕ) → get_or b i 0 < 256) → (WrongType b → ⊥) → fixed_length b ≤ length b → (ClassThree b → ⊥) → (AbortTypeOver b → ⊥) → HeaderBack (type_of b) b
header_of (three_of x₀ x₁ x₂ r) o w l c a = header_back x₀ x₁ x₂ (o 0) (o 2) (x₀ / 8 % 16) r refl w (omega arith) c a (o 3)
