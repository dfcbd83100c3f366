-- What the test of the settings says, each condition on its own. Assumes nothing.
use mathlib.Core.Path.{◌≡◌, sym, ◌∙◌}
use mathlib.Core.Bool.{Bool, true, false}
use mathlib.Core.List.{List}
use mathlib.Core.Logic.{◌⊎◌, inl, inr}
use Prim.Native.Nat.{ℕ, zero, suc, ◌≤◌, ◌<◌}
use native.Mathlib.Omega.{arith}
use lib.ListN.{length}
use lib.Dec.{leb, eqb}
use borrow.Author.Tests.{lt-ltb, le-ltb, le-leb, leb-true, leb-false, eqb-true, eqb-false}
use Rattle.base_lists.specs.Seq.{pick}
use Rattle.base_lists.proofs.StoresAndParts.{told, lt_or_le, both, both_fst, both_snd, not_so, true_false, every_at, some_fails}
use Rattle.table_ranges.specs.Ranges.{interval, ModesOk, off, on, modes_ok}
use Rattle.table_ranges.proofs.Modes.{modes_to}
use Rattle.table_fresh.specs.Fresh.{word_ok, words_ok, in_range}
use Rattle.table_fresh.specs.Conditions.{word, NoInterval, OutOfRange, not_32_words, rcr_max_over_8, aec_max_over_8, no_interval, unknown_mode, limit_without_mode, mode_without_limit, not_zero, gen_tid_over_32767, AllInRange}

-- ---- one word
module _ (k w : ℕ) where
  maximum_word : k < 2 → word_ok k w ≡ leb w 8
  unfolding word_ok
  maximum_word h = simp (lt-ltb k 2 h)

  interval_word : 2 ≤ k → k < 22 → word_ok k w ≡ pick (leb 1 w) (leb w 86400000) false
  unfolding word_ok
  interval_word h l = simp (le-ltb k 2 h, lt-ltb k 22 l)

  -- words 22 and 23 are judged together, not here
  mode_word : 22 ≤ k → k < 24 → word_ok k w ≡ true
  unfolding word_ok
  mode_word h l =
      let a : 2 ≤ k = omega arith in
      simp (le-ltb k 2 a, le-ltb k 22 h, lt-ltb k 24 l)

  spare_word : 24 ≤ k → word_ok k w ≡ eqb w 0
  unfolding word_ok
  spare_word h =
      let a : 2 ≤ k = omega arith in
      let b : 22 ≤ k = omega arith in
      simp (le-ltb k 2 a, le-ltb k 22 b, le-ltb k 24 h)

  interval_told : pick (leb 1 w) (leb w 86400000) false ≡ true → (1 ≤ w) × (w ≤ 86400000)
  interval_told e = (leb-true 1 w (both_fst _ _ e), leb-true w 86400000 (both_snd (leb 1 w) _ e))

  no_interval_told : pick (leb 1 w) (leb w 86400000) false ≡ false → NoInterval w
  no_interval_told e = go (lt_or_le w 1) (lt_or_le 86400000 w)
    where
      go : (w < 1) ⊎ (1 ≤ w) → (86400000 < w) ⊎ (w ≤ 86400000) → NoInterval w
      go (inl h) y = inl h
      go (inr h) (inl y) = inr y
      go (inr h) (inr y) = true_false (sym (both _ _ (le-leb 1 w h) (le-leb w 86400000 y)) ∙ e)

module _ (ws : List ℕ) (first : ℕ) where
  abbrev passes : ℕ → Bool
  passes k = word_ok k (word ws k)

  abbrev modes : Bool
  modes = modes_ok (word ws 22) (word ws 23)

  pub in_range_holds : in_range ws first ≡ true → AllInRange ws first
  unfolding in_range words_ok
  in_range_holds e =
      let r = both_snd (eqb (length ws) 32) (pick (words_ok ws) (pick modes (leb first 32767) false) false) e in
      let m = both_snd (words_ok ws) (pick modes (leb first 32767) false) r in
      let all : (k : ℕ) → k < 32 → passes k ≡ true = every_at passes 32 (both_fst (words_ok ws) (pick modes (leb first 32767) false) r) in
      record {
        words_32 = eqb-true (length ws) 32 (both_fst _ _ e);
        rcr_max = leb-true (word ws 0) 8 (sym (maximum_word 0 (word ws 0) (omega arith)) ∙ all 0 (omega arith));
        aec_max = leb-true (word ws 1) 8 (sym (maximum_word 1 (word ws 1) (omega arith)) ∙ all 1 (omega arith));
        intervals = λ k h l. interval_told k (word ws k) (sym (interval_word k (word ws k) h l) ∙ all k (omega arith));
        modes = modes_to (word ws 22) (word ws 23) (both_fst modes (leb first 32767) m);
        zero_words = λ k h l. eqb-true (word ws k) 0 (sym (spare_word k (word ws k) h) ∙ all k l);
        gen_tid = leb-true first 32767 (both_snd modes (leb first 32767) m);
      }

  -- the word that fails says which condition it is
  maximum_out : (k : ℕ) → k < 2 → 8 < word ws k → OutOfRange ws first
  maximum_out zero l h = rcr_max_over_8 h
  maximum_out (suc zero) l h = aec_max_over_8 h
  maximum_out (suc (suc k)) l h = absurd (omega arith)

  word_out : (k : ℕ) → k < 32 → passes k ≡ false → OutOfRange ws first
  word_out k l e = go (lt_or_le k 2) (lt_or_le k 22) (lt_or_le k 24)
    where
      go : (k < 2) ⊎ (2 ≤ k) → (k < 22) ⊎ (22 ≤ k) → (k < 24) ⊎ (24 ≤ k) → OutOfRange ws first
      go (inl a) b d = maximum_out k a (leb-false (word ws k) 8 (sym (maximum_word k (word ws k) a) ∙ e))
      go (inr a) (inl b) d = no_interval k a b (no_interval_told k (word ws k) (sym (interval_word k (word ws k) a b) ∙ e))
      go (inr a) (inr b) (inl d) = true_false (sym (mode_word k (word ws k) b d) ∙ e)
      go (inr a) (inr b) (inr d) = not_zero k d l (eqb-false (word ws k) 0 (sym (spare_word k (word ws k) d) ∙ e))

  modes_out : modes ≡ false → OutOfRange ws first
  unfolding modes_ok interval
  modes_out e = go (told (eqb (word ws 22) 0)) (told (eqb (word ws 22) 1)) where
    go : (eqb (word ws 22) 0 ≡ true) ⊎ (eqb (word ws 22) 0 ≡ false) → (eqb (word ws 22) 1 ≡ true) ⊎ (eqb (word ws 22) 1 ≡ false) → OutOfRange ws first
    go (inl a) b = limit_without_mode (eqb-true (word ws 22) 0 a) (eqb-false (word ws 23) 0 (rw a at e))
    go (inr a) (inl b) = mode_without_limit (eqb-true (word ws 22) 1 b) (no_interval_told 0 (word ws 23) (rw (a, b) at e))
    go (inr a) (inr b) = unknown_mode (omega (arith, eqb-false (word ws 22) 0 a, eqb-false (word ws 22) 1 b))

  pub out_of_range : in_range ws first ≡ false → OutOfRange ws first
  unfolding in_range words_ok
  out_of_range e = go (told (eqb (length ws) 32)) (told (words_ok ws)) (told modes) (told (leb first 32767))
    where
      go : (eqb (length ws) 32 ≡ true) ⊎ (eqb (length ws) 32 ≡ false) → (words_ok ws ≡ true) ⊎ (words_ok ws ≡ false) → (modes ≡ true) ⊎ (modes ≡ false) → (leb first 32767 ≡ true) ⊎ (leb first 32767 ≡ false) → OutOfRange ws first
      go (inr a) b m c = not_32_words (eqb-false (length ws) 32 a)
      go (inl a) (inr b) m c =
          let f = some_fails passes 32 b in
          word_out f.0 f.1 f.2
      go (inl a) (inl b) (inr m) c = modes_out m
      go (inl a) (inl b) (inl m) (inr c) = gen_tid_over_32767 (leb-false first 32767 c)
      go (inl a) (inl b) (inl m) (inl c) = true_false (sym (both _ _ a (both _ _ b (both _ _ m c))) ∙ e)

  pub never_both : AllInRange ws first → OutOfRange ws first → ⊥
  never_both a (not_32_words h) = h a.words_32
  never_both a (rcr_max_over_8 h) = omega (arith, a.rcr_max)
  never_both a (aec_max_over_8 h) = omega (arith, a.aec_max)
  never_both a (no_interval k h l (inl x)) = omega (arith, (a.intervals k h l).0)
  never_both a (no_interval k h l (inr x)) = omega (arith, (a.intervals k h l).1)
  never_both a (unknown_mode h) = never a.modes where
    never : ModesOk (word ws 22) (word ws 23) → ⊥
    never (off z l) = omega arith
    never (on z l) = omega arith
  never_both a (limit_without_mode z h) = never a.modes where
    never : ModesOk (word ws 22) (word ws 23) → ⊥
    never (off y l) = h l
    never (on y l) = omega arith
  never_both a (mode_without_limit z h) = never a.modes h where
    never : ModesOk (word ws 22) (word ws 23) → NoInterval (word ws 23) → ⊥
    never (off y l) n = omega arith
    never (on y l) (inl n) = omega (arith, l.least)
    never (on y l) (inr n) = omega (arith, l.most)
  never_both a (not_zero k h l x) = x (a.zero_words k h l)
  never_both a (gen_tid_over_32767 h) = omega (arith, a.gen_tid)

  pub refused_range : OutOfRange ws first → in_range ws first ≡ false
  refused_range o = not_so (in_range ws first) (λ e. never_both (in_range_holds e) o)
