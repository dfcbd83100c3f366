-- The first reason that holds is given back, and the PDU said where none does. Assumes nothing.
use Prim.Native.Nat.{ℕ, ◌+◌, ◌*◌, ◌%◌, ◌≤◌, ◌<◌}
use native.Mathlib.Omega.{arith}
use mathlib.Core.Path.{◌≡◌, refl, sym, subst, ◌∙◌}
use mathlib.Core.List.{List, ◌∷◌}
use mathlib.Core.Bool.{Bool, true, false}
use mathlib.Core.Logic.{◌⊎◌, inl, inr}
use lib.Dec.{ltb, eqb}
use borrow.Author.Tests.{ltb-true, ltb-false, leb-true, leb-false, eqb-true, eqb-false}
use Rattle.base_lists.specs.Seq.{pick}
use Rattle.base_lists.proofs.StoresAndParts.{told, true_false, every_at, some_fails}
use Rattle.base_numbers.specs.declared.Malformed.TheVariants.{D1, D2, D3, D4, D5, D6, D7}
use Rattle.base_numbers.specs.declared.Refusal.TheVariants.{WrongLength}
use Rattle.std.specs.Prelude.{Ok, Err}
use Rattle.codec_items.specs.declared.Item.{Item}
use Rattle.codec_pdu.specs.Pdu.{bare_of, blank_pdu}
use Rattle.codec_pdu.specs.declared.Kind.{Kind}
use Rattle.codec_pdu.specs.declared.Kind.TheVariants.{Wrong, Refused}
use Rattle.codec_pdu.specs.declared.Pdu.{Pdu}
use Rattle.codec_said.specs.Said.{word, kind_said, item_said, items_said, pdu_said}
use Rattle.codec_said.proofs.ByType.{said_invoke, said_result, said_ack, said_abort, said_seg_invoke, said_seg_result, said_nack}
use Rattle.codec_encoding.specs.Write.{or_else, kind_fault, rest_fault}
use Rattle.codec_items.specs.Items.{Verdict}
use Rattle.codec_verdict.specs.Length.{placed, length_said}
use Rattle.codec_verdict.specs.Widths.{widths, widest, narrow_at, none_too_wide, inside, fits}
use Rattle.codec_verdict.specs.Judge.{item_inside, items_inside, fault_in, ruled, judged_of}
use Rattle.law_writing_order.specs.Order.{WrongType, OverLong, TooWide, ClassThree, AbortTypeOver, ItemPast, Bare, Reason, reason, rest_reasons, item_reasons, kind_reasons, width_reasons, reasons, FirstOf}
use Rattle.codec_verdict.proofs.Bounds.{Fitting, fits_tell, at_type}
use Rattle.codec_verdict.proofs.Types.{Typed, typed}
use Rattle.codec_verdict.proofs.SaidItems.{said_at}

-- a test that tells a condition: where it is true the condition holds, where it is false it doesn't
abbrev Tells : Bool → Type 0 → Type 0
Tells b C = (b ≡ true → C) × (b ≡ false → C → ⊥)

-- one reason, told by a test, before the others
first : {C : Type 0} (b : Bool) (d : Kind) (cs : List Reason) (p r : Pdu) → Tells b C → (b ≡ false → FirstOf cs p r) → FirstOf (reason C d ∷ cs) p (pick b (blank_pdu d) r)
first true d cs p r t f = inl (t.0 refl, refl)
first false d cs p r t f = inr (t.1 refl, f refl)

-- the same, told by a test that is passed where the reason doesn't hold
unless : {C : Type 0} (b : Bool) (d : Kind) (cs : List Reason) (p r : Pdu) → (b ≡ false → C) → (b ≡ true → C → ⊥) → (b ≡ true → FirstOf cs p r) → FirstOf (reason C d ∷ cs) p (pick b r (blank_pdu d))
unless true d cs p r y x f = inr (x refl, f refl)
unless false d cs p r y x f = inl (y refl, refl)

tells_lt : (a b : ℕ) → Tells (ltb a b) (a < b)
tells_lt a b = (ltb-true a b, λ e h. omega (arith, ltb-false a b e))

module _ (w : List ℕ) (n : ℕ) where
  abbrev p : Pdu
  p = pdu_said w

  -- D4 and D7
  not_bare : (t : ℕ) → (t ≡ 3 → ⊥) → (t ≡ 4 → ⊥) → (t ≡ 7 → ⊥) → Bare t → ⊥
  not_bare t a b c (inl e) = a e
  not_bare t a b c (inr (inl e)) = b e
  not_bare t a b c (inr (inr e)) = c e

  bare_told : Typed (word w 0) → Tells (bare_of (kind_said w)) (Bare (word w 0))
  unfolding bare_of
  bare_told (Typed.invoke e) = rw (said_invoke w e) ((λ q. true_false (sym q)), (λ q. not_bare (word w 0) (λ x. omega arith) (λ x. omega arith) (λ x. omega arith)))
  bare_told (Typed.result e) = rw (said_result w e) ((λ q. true_false (sym q)), (λ q. not_bare (word w 0) (λ x. omega arith) (λ x. omega arith) (λ x. omega arith)))
  bare_told (Typed.ack e) = rw (said_ack w e) ((λ q. inl e), (λ q x. true_false q))
  bare_told (Typed.abort e) = rw (said_abort w e) ((λ q. inr (inl e)), (λ q x. true_false q))
  bare_told (Typed.seg_invoke e) = rw (said_seg_invoke w e) ((λ q. true_false (sym q)), (λ q. not_bare (word w 0) (λ x. omega arith) (λ x. omega arith) (λ x. omega arith)))
  bare_told (Typed.seg_result e) = rw (said_seg_result w e) ((λ q. true_false (sym q)), (λ q. not_bare (word w 0) (λ x. omega arith) (λ x. omega arith) (λ x. omega arith)))
  bare_told (Typed.nack e) = rw (said_nack w e) ((λ q. inr (inr e)), (λ q x. true_false q))

  rest_first : Typed (word w 0) → FirstOf (rest_reasons w) p (ruled (rest_fault p) p)
  unfolding rest_fault pdu_said
  rest_first t = go (told (ltb 16 (word w 15))) (told (bare_of (kind_said w))) (told (eqb (word w 17) 0))
    where
      go : (ltb 16 (word w 15) ≡ true) ⊎ (ltb 16 (word w 15) ≡ false) → (bare_of (kind_said w) ≡ true) ⊎ (bare_of (kind_said w) ≡ false) → (eqb (word w 17) 0 ≡ true) ⊎ (eqb (word w 17) 0 ≡ false)
          → FirstOf (rest_reasons w) p (ruled (pick (ltb 16 (word w 15)) (Err D4) (pick (bare_of (kind_said w)) (pick (eqb (word w 17) 0) (Ok tt) (Err D7)) (Ok tt))) p)
      go (inl a) b c = inl (ltb-true 16 (word w 15) a, rw a)
      go (inr a) (inl b) (inl c) = inr ((tells_lt 16 (word w 15)).1 a, inr ((λ d. omega (arith, d.1, eqb-true (word w 17) 0 c)), rw (a, b, c)))
      go (inr a) (inl b) (inr c) = inr ((tells_lt 16 (word w 15)).1 a, inl (((bare_told t).0 b, positive (word w 17) (eqb-false (word w 17) 0 c)), rw (a, b, c)))
        where
          positive : (x : ℕ) → (x ≡ 0 → ⊥) → 1 ≤ x
          positive x h = omega arith
      go (inr a) (inr b) c = inr ((tells_lt 16 (word w 15)).1 a, inr ((λ d. (bare_told t).1 b d.0), rw (a, b)))

  -- D3
  pub past_told : items_inside n (items_said w) (word w 15) ≡ false → ItemPast w n
  unfolding items_inside inside item_said
  past_told e =
      let r = some_fails (item_inside n (items_said w)) (placed (word w 15)) e in
      let k = r.0 in
      let there : k < 16 = omega (arith, r.1) in
      let past : inside n (word w (24 + 4 * k + 2)) (word w (24 + 4 * k + 3)) ≡ false = subst (λ (it : Item). inside n it.start it.len ≡ false) (said_at w k there) r.2 in
      (k, there, omega (arith, r.1), leb-false (word w (24 + 4 * k + 2) + word w (24 + 4 * k + 3)) n past)

  past_not : items_inside n (items_said w) (word w 15) ≡ true → ItemPast w n → ⊥
  unfolding items_inside inside item_said
  past_not e x =
      let k = x.0 in
      let lies : inside n (word w (24 + 4 * k + 2)) (word w (24 + 4 * k + 3)) ≡ true
      = subst (λ (it : Item). inside n it.start it.len ≡ true) (said_at w k x.1) (every_at (item_inside n (items_said w)) (placed (word w 15)) e k (omega (arith, x.1, x.2))) in
      omega (arith, x.3, leb-true (word w (24 + 4 * k + 2) + word w (24 + 4 * k + 3)) n lies)

  items_first : Typed (word w 0) → FirstOf (item_reasons w n) p (ruled (pick (items_inside n (items_said w) (word w 15)) (rest_fault p) (Err D3)) p)
  items_first t = go (told (items_inside n (items_said w) (word w 15)))
    where
      go : (items_inside n (items_said w) (word w 15) ≡ true) ⊎ (items_inside n (items_said w) (word w 15) ≡ false)
          → FirstOf (item_reasons w n) p (ruled (pick (items_inside n (items_said w) (word w 15)) (rest_fault p) (Err D3)) p)
      go (inl e) = rw e (inr (past_not e, rest_first t))
      go (inr e) = rw e (inl (past_told e, refl))

  -- D5 and D6: what a verdict on the kind tells
  abbrev KindTold : Verdict → Type 0
  KindTold v = (ClassThree w × (v ≡ Err D5)) ⊎ ((ClassThree w → ⊥) × ((AbortTypeOver w × (v ≡ Err D6)) ⊎ ((AbortTypeOver w → ⊥) × (v ≡ Ok tt))))

  neither : (t : ℕ) → word w 0 ≡ t → (t ≡ 1 → ⊥) → (t ≡ 4 → ⊥) → KindTold (Ok tt)
  neither t e a b = inr ((λ c. a (sym e ∙ c.0)), inr ((λ c. b (sym e ∙ c.0)), refl))

  kind_told : Typed (word w 0) → Fitting w n → KindTold (kind_fault (kind_said w))
  unfolding kind_fault widths
  kind_told (Typed.invoke e) f = rw (said_invoke w e) (go (told (eqb (word w 8 % 256) 3)))
    where
      class : word w 8 ≤ 3
      class = at_type w n f 8 1 (omega arith) e

      go : (eqb (word w 8 % 256) 3 ≡ true) ⊎ (eqb (word w 8 % 256) 3 ≡ false) → KindTold (pick (eqb (word w 8 % 256) 3) (Err D5) (Ok tt))
      go (inl q) = rw q (inl ((e, omega (arith, class, eqb-true (word w 8 % 256) 3 q)), refl))
      go (inr q) = rw q (inr ((λ c. eqb-false (word w 8 % 256) 3 q (omega (arith, class, c.1))), inr ((λ c. omega (arith, c.0, e)), refl)))
  kind_told (Typed.result e) f = rw (said_result w e) (neither 2 e (λ x. omega arith) (λ x. omega arith))
  kind_told (Typed.ack e) f = rw (said_ack w e) (neither 3 e (λ x. omega arith) (λ x. omega arith))
  kind_told (Typed.abort e) f = rw (said_abort w e) (go (told (ltb 1 (word w 10 % 256))))
    where
      type : word w 10 ≤ 7
      type = at_type w n f 10 4 (omega arith) e

      go : (ltb 1 (word w 10 % 256) ≡ true) ⊎ (ltb 1 (word w 10 % 256) ≡ false) → KindTold (pick (ltb 1 (word w 10 % 256)) (Err D6) (Ok tt))
      go (inl q) = rw q (inr ((λ c. omega (arith, c.0, e)), inl ((e, omega (arith, type, ltb-true 1 (word w 10 % 256) q)), refl)))
      go (inr q) = rw q (inr ((λ c. omega (arith, c.0, e)), inr ((λ c. omega (arith, type, c.1, ltb-false 1 (word w 10 % 256) q)), refl)))
  kind_told (Typed.seg_invoke e) f = rw (said_seg_invoke w e) (neither 5 e (λ x. omega arith) (λ x. omega arith))
  kind_told (Typed.seg_result e) f = rw (said_seg_result w e) (neither 6 e (λ x. omega arith) (λ x. omega arith))
  kind_told (Typed.nack e) f = rw (said_nack w e) (neither 7 e (λ x. omega arith) (λ x. omega arith))

  kind_first : (v u : Verdict) (cs : List Reason) → KindTold v → FirstOf cs p (ruled u p) → FirstOf (kind_reasons w cs) p (ruled (or_else v u) p)
  kind_first v u cs (inl k) f = inl (k.0, rw k.1)
  kind_first v u cs (inr (x, inl k)) f = inr (x, inl (k.0, rw k.1))
  kind_first v u cs (inr (x, inr k)) f = inr (x, inr (k.0, rw k.1 f))

  fault_first : Typed (word w 0) → Fitting w n → FirstOf (kind_reasons w (item_reasons w n)) p (ruled (fault_in n p) p)
  unfolding fault_in pdu_said
  fault_first t f = kind_first (kind_fault (kind_said w)) _ (item_reasons w n) (kind_told t f) (items_first t)

  -- D1
  pub wide_told : fits w n ≡ false → TooWide w n
  unfolding fits none_too_wide inside
  wide_told e = go (told (none_too_wide w)) (told (inside n (word w 14) (word w 13))) e
    where
      go : (none_too_wide w ≡ true) ⊎ (none_too_wide w ≡ false) → (inside n (word w 14) (word w 13) ≡ true) ⊎ (inside n (word w 14) (word w 13) ≡ false) → fits w n ≡ false → TooWide w n
      go (inr a) b q =
          let r = some_fails (narrow_at w) 88 a in
          inl (r.0, r.1, leb-false (word w r.0) (widest w r.0) r.2)
      go (inl a) (inr b) q = inr (inl (leb-false (word w 14 + word w 13) n b))
      go (inl a) (inl b) q = inr (inr (leb-false (word w 16 + word w 17) n (rw (a, b) at q)))

  wide_not : Fitting w n → TooWide w n → ⊥
  wide_not f (inl x) = omega (arith, x.2, f.narrow x.0 x.1)
  wide_not f (inr (inl x)) = omega (arith, f.list_inside)
  wide_not f (inr (inr x)) = omega (arith, f.user_inside)

  -- D2
  type_first : (d : Kind) (cs : List Reason) (r : Pdu) → (Typed (word w 0) → FirstOf cs p r) → FirstOf (reason (WrongType w) d ∷ cs) p (pick (eqb (word w 0) 0) (blank_pdu d) (pick (ltb 7 (word w 0)) (blank_pdu d) r))
  type_first d cs r f = go (told (eqb (word w 0) 0)) (told (ltb 7 (word w 0)))
    where
      go : (eqb (word w 0) 0 ≡ true) ⊎ (eqb (word w 0) 0 ≡ false) → (ltb 7 (word w 0) ≡ true) ⊎ (ltb 7 (word w 0) ≡ false)
          → FirstOf (reason (WrongType w) d ∷ cs) p (pick (eqb (word w 0) 0) (blank_pdu d) (pick (ltb 7 (word w 0)) (blank_pdu d) r))
      go (inl a) b = inl (inl (eqb-true (word w 0) 0 a), rw a)
      go (inr a) (inl b) = inl (inr (ltb-true 7 (word w 0) b), rw (a, b))
      go (inr a) (inr b) = rw (a, b) (inr (neither_end, f (typed (word w 0) (eqb-false (word w 0) 0 a) (ltb-false 7 (word w 0) b))))
        where
          neither_end : WrongType w → ⊥
          neither_end (inl x) = eqb-false (word w 0) 0 a x
          neither_end (inr x) = omega (arith, ltb-false 7 (word w 0) b)

  -- THE FIRST REASON IS GIVEN BACK
  pub in_order : FirstOf (reasons w n) (pdu_said w) (judged_of w n)
  unfolding judged_of
  in_order =
      type_first (Wrong D2) (reason (OverLong w) (Refused WrongLength) ∷ width_reasons w n) _
      (λ t. first (ltb 1500 (length_said w)) (Refused WrongLength) (width_reasons w n) p _ (tells_lt 1500 (length_said w))
      (λ l. unless (fits w n) (Wrong D1) (kind_reasons w (item_reasons w n)) p _ wide_told (λ e. wide_not (fits_tell w n e)) (λ e. fault_first t (fits_tell w n e))))
