-- Octets of a permitted length are answered by the first condition that holds. Assumes nothing.
use Prim.Native.Nat.{ℕ, ◌-◌, ◌%◌, ◌<◌, ◌≤◌}
use native.Mathlib.Omega.{arith}
use borrow.Author.Tests.{le-ltb, lt-ltb, ne_eqb, eq-eqb}
use mathlib.Core.Path.{◌≡◌, sym, ◌∙◌}
use mathlib.Core.List.{List, [], ◌∷◌}
use mathlib.Core.Bool.{true, false}
use mathlib.Core.Logic.{◌⊎◌, inl, inr}
use lib.ListN.{length, get_or}
use Rattle.base_numbers.specs.declared.Malformed.TheVariants.{D3, D4, D5, D6, D7}
use Rattle.codec_items.specs.Items.{Verdict}
use Rattle.std.specs.Prelude.{Err}
use Rattle.codec_pdu.specs.declared.Kind.TheVariants.{Wrong}
use Rattle.codec_pdu.specs.Pdu.{sound_of, bare_of}
use Rattle.codec_reading.specs.declared.Head.{Head}
use Rattle.codec_reading.specs.Read.{type_of, head_of, items_after, finished, after_head}
use Rattle.law_reading_order.specs.Layout.{fixed_length}
use Rattle.law_reading_order.specs.Order.{WrongType, HeaderCut, ClassThree, AbortTypeOver, ItemCut, TooMany, Bare, BytesLeft, conditions}
use Rattle.law_reading_order.proofs.Decided.{Decided, equal, under, both, either}
use Rattle.law_reading_order.proofs.Heads.{head_wrong, head_right, kind_class, kind_abort, Good, header, header_good}
use Rattle.law_reading_order.proofs.Walks.{found, Outcome, found_outcome, cut_verdict, many_verdict, end_verdict}
use Rattle.law_reading_order.proofs.Judged.{Answered, holds, passed, none_held, bad_sound}

many_cut : {A : Type 0} → ◌≡◌ {A = Verdict} (Err D4) (Err D3) → A
many_cut e = absurd cc

module _ (s : List ℕ) where
  -- a header that is whole, and what follows a sound one
  pub head_whole : (WrongType s → ⊥) → fixed_length s ≤ length s → head_of s ≡ header s
  head_whole r l = head_right s r ∙ rw (le-ltb (length s) (fixed_length s) l)

  pub after_sound : sound_of (header s).kind ≡ true → after_head s (header s) ≡ finished s (header s) (found s)
  unfolding after_head items_after
  after_sound e = rw e

  judged_rest : (h : Head) → Good (type_of s) h.kind → Outcome s (found s) → Answered ((ItemCut s, D3) ∷ (TooMany s, D4) ∷ (BytesLeft s, D7) ∷ []) (finished s h (found s))
  unfolding Outcome finished
  judged_rest h g (inl o) = holds o.1 (rw o.0)
  judged_rest h g (inr (inl o)) = passed (λ c. many_cut (sym o.0 ∙ cut_verdict s c)) (holds o.1 (rw o.0))
  judged_rest h g (inr (inr o)) =
      passed (λ c. bad_sound D3 (sym (cut_verdict s c) ∙ o.0)) (passed (λ c. bad_sound D4 (sym (many_verdict s c) ∙ o.0)) (go g.bare (under (found s).end (length s))))
    where
      go : (Bare (type_of s) × (bare_of h.kind ≡ true)) ⊎ ((Bare (type_of s) → ⊥) × (bare_of h.kind ≡ false)) → Decided ((found s).end < length s)
          → Answered ((BytesLeft s, D7) ∷ []) (finished s h (found s))
      go (inl b) (inl l) = holds (record { bare = b.0; end = (found s).end; all = o.1; left = l }) (rw (o.0, b.1, ne_eqb (length s - (found s).end) 0 (λ e. omega arith)))
      go (inl b) (inr n) = passed (λ c. let e = (end_verdict s c.all).1 in n (omega (arith, c.left))) (none_held (rw (o.0, b.1, eq-eqb (length s - (found s).end) 0 (omega arith)) g.sound))
      go (inr b) l = passed (λ c. b.0 c.bare) (none_held (rw (o.0, b.1) g.sound))

  judged_kind : Decided (ClassThree s) → Decided (AbortTypeOver s) → (WrongType s → ⊥)
      → Answered ((ClassThree s, D5) ∷ (AbortTypeOver s, D6) ∷ (ItemCut s, D3) ∷ (TooMany s, D4) ∷ (BytesLeft s, D7) ∷ []) (after_head s (header s))
  unfolding after_head sound_of
  judged_kind (inl c) a r =
      let e : (header s).kind ≡ Wrong D5 = rw c.0 (kind_class (get_or s 0 0 % 8) (get_or s 3 0) c.1) in
      holds c (rw e)
  judged_kind (inr n) (inl c) r =
      let e : (header s).kind ≡ Wrong D6 = rw c.0 (kind_abort (get_or s 0 0 % 8) (get_or s 3 0) c.1) in
      passed n (holds c (rw e))
  judged_kind (inr n) (inr m) r =
      let g : Good (type_of s) (header s).kind = header_good s r n m in
      passed n (passed m (rw (after_sound g.sound) (judged_rest (header s) g (found_outcome s))))

  judged_head : Decided (WrongType s) → Decided (HeaderCut s) → Answered (conditions s) (after_head s (head_of s))
  unfolding after_head sound_of
  judged_head (inl w) l = holds w (rw (head_wrong s w))
  judged_head (inr r) (inl l) = passed r (holds l (rw (head_right s r, lt-ltb (length s) (fixed_length s) l)))
  judged_head (inr r) (inr n) =
      let whole : fixed_length s ≤ length s = omega arith in
      passed r (passed n (rw (head_whole r whole) (judged_kind (both (equal (type_of s) 1) (equal (get_or s 3 0 % 4) 3)) (both (equal (type_of s) 4) (under 1 (get_or s 0 0 % 8))) r)))

  pub judged : Answered (conditions s) (after_head s (head_of s))
  judged = judged_head (either (equal (type_of s) 0) (under 7 (type_of s))) (under (length s) (fixed_length s))
