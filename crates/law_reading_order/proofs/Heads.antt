-- What the reader makes of a fixed header, by the conditions D2, D1, D5 and D6. Assumes nothing.
use Prim.Native.Nat.{ℕ, zero, suc, ◌+◌, ◌%◌, ◌<◌, ◌≤◌}
use native.Mathlib.Omega.{arith}
use borrow.Author.Tests.{ltb-true, ltb-false, lt-ltb, eq-eqb, ne_eqb, le-ltb}
use mathlib.Core.Path.{◌≡◌, refl, sym, ap, ◌∙◌}
use mathlib.Core.List.{List}
use mathlib.Core.Bool.{Bool, true, false}
use mathlib.Core.Logic.{◌⊎◌, inl, inr}
use lib.ListN.{length, get_or}
use lib.Dec.{ltb, eqb}
use Rattle.base_lists.specs.Seq.{pick}
use Rattle.base_numbers.specs.declared.Malformed.TheVariants.{D1, D2, D5, D6}
use Rattle.codec_pdu.specs.declared.Kind.{Kind}
use Rattle.codec_pdu.specs.declared.Kind.TheVariants.{Wrong}
use Rattle.codec_pdu.specs.Pdu.{sound_of, bare_of}
use Rattle.codec_reading.specs.declared.Head.{Head}
use Rattle.codec_reading.specs.Read.{type_of, bad_head, good_head, kind_of, head_of}
use Rattle.law_reading_order.specs.Layout.{header_length, fixed_length}
use Rattle.law_reading_order.specs.Order.{WrongType, ClassThree, AbortTypeOver, Bare}
use Rattle.law_reading_order.proofs.Decided.{neither}

-- the octet x after the TID, 0 where a header of type t has none
abbrev pub fourth_of : ℕ → ℕ → ℕ
fourth_of t x = pick (eqb t 2) 0 (pick (eqb t 3) 0 x)

abbrev pub fourth : List ℕ → ℕ
fourth s = fourth_of (type_of s) (get_or s 3 0)

-- the header of s where it is neither of a wrong type nor cut
abbrev pub header : List ℕ → Head
header s = good_head s (type_of s) (fourth s) (fixed_length s)

module _ (s : List ℕ) where
  pub head_wrong : WrongType s → head_of s ≡ bad_head D2
  unfolding head_of
  head_wrong (inl e) = rw (eq-eqb (type_of s) 0 e)
  head_wrong (inr l) = rw (ne_eqb (type_of s) 0 (λ e. omega arith), lt-ltb 7 (type_of s) l)

  -- a header of a right type is cut or whole
  pub head_right : (WrongType s → ⊥) → head_of s ≡ pick (ltb (length s) (fixed_length s)) (bad_head D1) (header s)
  unfolding head_of header_length
  head_right r = go (type_of s) refl
    where
      -- a test that a later one makes needless
      two : (n m : ℕ) (h : Head) (a b : Bool) → n ≤ m → ltb (length s) n ≡ a → ltb (length s) m ≡ b → pick a (bad_head D1) (pick b (bad_head D1) h) ≡ pick b (bad_head D1) h
      two n m h true true l p q = refl
      two n m h true false l p q = absurd (omega (arith, ltb-true (length s) n p, ltb-false (length s) m q))
      two n m h false b l p q = refl

      go : (t : ℕ) → type_of s ≡ t → head_of s ≡ pick (ltb (length s) (fixed_length s)) (bad_head D1) (header s)
      go zero e = absurd (r (inl e))
      go (suc zero) e = rw e (two 3 4 _ _ _ (omega arith) refl refl)
      go (suc (suc zero)) e = rw e
      go (suc (suc (suc zero))) e = rw e
      go (suc (suc (suc (suc zero)))) e = rw e (two 3 4 _ _ _ (omega arith) refl refl)
      go (suc (suc (suc (suc (suc zero))))) e = rw e (two 3 4 _ _ _ (omega arith) refl refl)
      go (suc (suc (suc (suc (suc (suc zero)))))) e = rw e (two 3 4 _ _ _ (omega arith) refl refl)
      go (suc (suc (suc (suc (suc (suc (suc zero))))))) e = rw e (two 3 4 _ _ _ (omega arith) refl refl ∙ two 4 (get_or s 3 0 + 4) _ _ _ (omega arith) refl refl)
      go (suc (suc (suc (suc (suc (suc (suc (suc n)))))))) e = absurd (r (inr (omega arith)))

-- the kind of a header, by its type t, flags f and fourth octet x
pub kind_class : (f x : ℕ) → x % 4 ≡ 3 → kind_of 1 f x ≡ Wrong D5
unfolding kind_of
kind_class f x e = rw (eq-eqb (x % 4) 3 e)

pub kind_abort : (f x : ℕ) → 1 < f → kind_of 4 f x ≡ Wrong D6
unfolding kind_of
kind_abort f x l = rw (lt-ltb 1 f l)

-- a sound kind of type t, which is bare or not
pub record Good (t : ℕ) (k : Kind) : Type 0 where
  pub sound : sound_of k ≡ true
  pub bare : (Bare t × (bare_of k ≡ true)) ⊎ ((Bare t → ⊥) × (bare_of k ≡ false))

user_data_holds : {t : ℕ} {k : Kind} → sound_of k ≡ true → bare_of k ≡ false → (Bare t → ⊥) → Good t k
user_data_holds s b n = record { sound = s; bare = inr (n, b) }

no_user_data : {t : ℕ} {k : Kind} → sound_of k ≡ true → bare_of k ≡ true → Bare t → Good t k
no_user_data s b t = record { sound = s; bare = inl (t, b) }

pub kind_good : (t f x : ℕ) → ((t ≡ 0) ⊎ (7 < t) → ⊥) → ((t ≡ 1) × (x % 4 ≡ 3) → ⊥) → ((t ≡ 4) × (1 < f) → ⊥) → Good t (kind_of t f x)
unfolding kind_of sound_of bare_of
kind_good zero f x a b c = absurd (a (inl refl))
kind_good (suc zero) f x a b c = rw (ne_eqb (x % 4) 3 (λ e. b (refl, e))) (user_data_holds refl refl (neither (omega arith) (neither (omega arith) (omega arith))))
kind_good (suc (suc zero)) f x a b c = user_data_holds refl refl (neither (omega arith) (neither (omega arith) (omega arith)))
kind_good (suc (suc (suc zero))) f x a b c = no_user_data refl refl (inl refl)
kind_good (suc (suc (suc (suc zero)))) f x a b c =
    let l : 1 < f → ⊥ = λ l. c (refl, l) in
    rw (le-ltb 1 f (omega arith)) (no_user_data refl refl (inr (inl refl)))
kind_good (suc (suc (suc (suc (suc zero))))) f x a b c = user_data_holds refl refl (neither (omega arith) (neither (omega arith) (omega arith)))
kind_good (suc (suc (suc (suc (suc (suc zero)))))) f x a b c = user_data_holds refl refl (neither (omega arith) (neither (omega arith) (omega arith)))
kind_good (suc (suc (suc (suc (suc (suc (suc zero))))))) f x a b c = no_user_data refl refl (inr (inr refl))
kind_good (suc (suc (suc (suc (suc (suc (suc (suc n)))))))) f x a b c = absurd (a (inr (omega arith)))

pub header_good : (s : List ℕ) → (WrongType s → ⊥) → (ClassThree s → ⊥) → (AbortTypeOver s → ⊥) → Good (type_of s) (header s).kind
header_good s w c a = kind_good (type_of s) (get_or s 0 0 % 8) (fourth s) w (λ p. c (p.0, ap (λ (x : ℕ). x % 4) (sym (fourth_is p.0)) ∙ p.1)) a
  where
    fourth_is : type_of s ≡ 1 → fourth s ≡ get_or s 3 0
    fourth_is e = rw e
