-- The seven types, and what fitting words say of each: the kind fits, and its header is as long as said. Assumes nothing.
use Prim.Native.Nat.{ℕ, zero, suc, ◌+◌, ◌%◌, ◌≤◌, ◌<◌}
use native.Mathlib.Omega.{arith}
use mathlib.Core.Path.{◌≡◌, refl, ap, ◌∙◌}
use mathlib.Core.List.{List, []}
use lib.ListN.{length, get_or}
use Rattle.codec_pdu.specs.declared.Kind.{Kind}
use Rattle.codec_said.specs.Said.{word, set?, kind_said}
use Rattle.codec_said.proofs.ByType.{said_invoke, said_result, said_ack, said_abort, said_seg_invoke, said_seg_result, said_nack}
use Rattle.codec_encoding.specs.Write.{extra_of, FitKind}
use Rattle.codec_encoding.proofs.Nacks.{nack_length}
use Rattle.codec_verdict.specs.Length.{header_said}
use Rattle.codec_verdict.specs.Widths.{widths}
use Rattle.codec_verdict.proofs.Bounds.{Fitting, at_type}

pub data Typed (t : ℕ) : Type 0 where
  invoke : t ≡ 1 → Typed t
  result : t ≡ 2 → Typed t
  ack : t ≡ 3 → Typed t
  abort : t ≡ 4 → Typed t
  seg_invoke : t ≡ 5 → Typed t
  seg_result : t ≡ 6 → Typed t
  nack : t ≡ 7 → Typed t

pub typed : (t : ℕ) → (t ≡ 0 → ⊥) → t ≤ 7 → Typed t
typed zero h l = absurd (h refl)
typed (suc zero) h l = invoke refl
typed (suc (suc zero)) h l = result refl
typed (suc (suc (suc zero))) h l = ack refl
typed (suc (suc (suc (suc zero)))) h l = abort refl
typed (suc (suc (suc (suc (suc zero))))) h l = seg_invoke refl
typed (suc (suc (suc (suc (suc (suc zero)))))) h l = seg_result refl
typed (suc (suc (suc (suc (suc (suc (suc zero))))))) h l = nack refl
typed (suc (suc (suc (suc (suc (suc (suc (suc t)))))))) h l = absurd (omega arith)

-- a number below 8 that is none of the seven
pub untyped : (t : ℕ) → t < 8 → (t ≡ 1 → ⊥) → (t ≡ 2 → ⊥) → (t ≡ 3 → ⊥) → (t ≡ 4 → ⊥) → (t ≡ 5 → ⊥) → (t ≡ 6 → ⊥) → (t ≡ 7 → ⊥) → t ≡ 0
untyped zero h a b c d e f g = refl
untyped (suc t) h a b c d e f g = absurd (none (typed (suc t) (λ z. omega arith) (omega arith)))
  where
    none : Typed (suc t) → ⊥
    none (invoke q) = a q
    none (result q) = b q
    none (ack q) = c q
    none (abort q) = d q
    none (seg_invoke q) = e q
    none (seg_result q) = f q
    none (nack q) = g q

-- the kind fits s, and its header is as long as the words say
pub record KindFits (s w : List ℕ) (k : Kind) : Type 0 where
  pub fits : FitKind s k
  pub long : 3 + length (extra_of s k) ≡ header_said w

module _ (s w : List ℕ) (f : Fitting w (length s)) where
  bound : (i t : ℕ) → i < 24 → word w 0 ≡ t → word w i ≤ get_or (get_or widths i []) t 0
  bound = at_type w (length s) f

  pub kind_fits : Typed (word w 0) → KindFits s w (kind_said w)
  unfolding widths header_said FitKind extra_of
  kind_fits (invoke e) =
      let v : word w 5 ≤ 3 = bound 5 1 (omega arith) e in
      let l : word w 8 ≤ 3 = bound 8 1 (omega arith) e in
      rw (said_invoke w e) (record { fits = (omega arith, omega arith); long = rw e })
  kind_fits (result e) = rw (said_result w e) (record { fits = tt; long = rw e })
  kind_fits (ack e) = rw (said_ack w e) (record { fits = tt; long = rw e })
  kind_fits (abort e) =
      let t : word w 10 ≤ 7 = bound 10 4 (omega arith) e in
      rw (said_abort w e) (record { fits = omega arith; long = rw e })
  kind_fits (seg_invoke e) = rw (said_seg_invoke w e) (record { fits = tt; long = rw e })
  kind_fits (seg_result e) = rw (said_seg_result w e) (record { fits = tt; long = rw e })
  kind_fits (nack e) =
      let n : word w 13 ≤ 255 = bound 13 7 (omega arith) e in
      let same : word w 13 % 256 ≡ word w 13 = omega arith in
      let lies : word w 14 + word w 13 % 256 ≤ length s = omega (arith, f.list_inside) in
      rw (said_nack w e)
      (record { fits = lies; long = ap (λ (x : ℕ). 3 + x) (nack_length s (set? w 3) (word w 13 % 256) (word w 14) lies) ∙ rw e (omega arith) })
