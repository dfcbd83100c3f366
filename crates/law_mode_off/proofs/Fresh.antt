-- With mode 0 the fresh-table call is the base's: its number, and every octet of the table. Assumes nothing.
use Prim.Native.Nat.{ℕ, ◌≤◌, ◌<◌}
use native.Mathlib.Omega.{arith}
use mathlib.Core.Path.{◌≡◌, refl, sym, ap, ◌∙◌}
use mathlib.Core.Bool.{Bool, true, false}
use mathlib.Core.List.{List}
use mathlib.Core.Logic.{◌⊎◌, inl, inr}
use lib.ListN.{length, get_or}
use lib.Dec.{ltb, leb, eqb}
use borrow.Author.Tests.{lt-ltb, le-ltb}
use Rattle.base_lists.specs.Seq.{pick}
use Rattle.base_lists.proofs.StoresAndParts.{lt_or_le, both, both_fst, both_snd, every_at, every_all}
use Rattle.base_octets.specs.Octets.{enc}
use Rattle.table_layout.specs.Table.{count}
use Rattle.table_ranges.specs.Ranges.{ModesOk, off, on, modes_ok}
use Rattle.table_fresh.specs.Fresh.{word_ok, words_ok, in_range, fresh_answer, zeros, fields_of, fresh_table, table_after_fresh, left_by_is, left}
use Rattle.std.specs.Prelude.{Result, Ok, Err}
use Rattle.base_numbers.specs.declared.Refusal.{Refusal}
use Rattle.table_fresh.specs.Conditions.{AllInRange}
use Rattle.table_fresh.proofs.Ranges.{in_range_holds}
use Rattle.table_fresh.proofs.Answers.{accepted}
use Rattle.law_mode_off.specs.BaseFresh.{base_word_ok, base_words_ok, base_in_range, base_fresh_answer, base_fresh_table, base_table_after_fresh, base_left_by}

-- two tests, each of which tells the other
same_test : (a b : Bool) → (a ≡ true → b ≡ true) → (b ≡ true → a ≡ true) → a ≡ b
same_test true b f g = sym (f refl)
same_test false true f g = g refl
same_test false false f g = refl

module _ (k w : ℕ) where
  word_then : word_ok k w ≡ true → (22 ≤ k → w ≡ 0) → base_word_ok k w ≡ true
  unfolding word_ok base_word_ok
  word_then h z = go (lt_or_le k 22)
    where
      go : (k < 22) ⊎ (22 ≤ k) → base_word_ok k w ≡ true
      go (inl l) = rw (lt-ltb k 22 l) (rw (lt-ltb k 22 l) at h)
      go (inr l) = rw (le-ltb k 2 (omega arith), le-ltb k 22 l, z l) refl

  word_zero : base_word_ok k w ≡ true → 22 ≤ k → eqb w 0 ≡ true
  unfolding base_word_ok
  word_zero h l = rw (le-ltb k 2 (omega arith), le-ltb k 22 l) at h

  word_now : base_word_ok k w ≡ true → word_ok k w ≡ true
  unfolding word_ok base_word_ok
  word_now h = go (lt_or_le k 22) (ltb k 24) refl
    where
      go : (k < 22) ⊎ (22 ≤ k) → (b : Bool) → ltb k 24 ≡ b → word_ok k w ≡ true
      go (inl l) b e = rw (lt-ltb k 22 l) (rw (lt-ltb k 22 l) at h)
      go (inr l) true e = rw (le-ltb k 2 (omega arith), le-ltb k 22 l, e) refl
      go (inr l) false e = rw (le-ltb k 2 (omega arith), le-ltb k 22 l, e) (word_zero h l)

module _ (ws : List ℕ) (first : ℕ) (mode : get_or ws 22 0 ≡ 0) where
  abbrev word : ℕ → ℕ
  word k = get_or ws k 0

  -- mode 0 has no limit
  pub no_limit : ModesOk (word 22) (word 23) → word 23 ≡ 0
  no_limit (off e z) = z
  no_limit (on e i) = absurd (omega (arith, e, mode))

  -- the words after the intervals
  zero_words : AllInRange ws first → (k : ℕ) → 22 ≤ k → k < 32 → word k ≡ 0
  zero_words a k h l = go (lt_or_le k 23) (lt_or_le k 24)
    where
      go : (k < 23) ⊎ (23 ≤ k) → (k < 24) ⊎ (24 ≤ k) → word k ≡ 0
      go (inl x) y = ap word (omega arith) ∙ mode
      go (inr x) (inl y) = ap word (omega arith) ∙ no_limit a.modes
      go (inr x) (inr y) = a.zero_words k y l

  words_then : in_range ws first ≡ true → base_in_range ws first ≡ true
  unfolding in_range words_ok base_in_range base_words_ok
  words_then e =
      let a = in_range_holds ws first e in
      let r = both_snd (eqb (length ws) 32) (pick (words_ok ws) (pick (modes_ok (word 22) (word 23)) (leb first 32767) false) false) e in
      let each : (k : ℕ) → k < 32 → word_ok k (word k) ≡ true = every_at (λ (k : ℕ). word_ok k (word k)) 32 (both_fst (words_ok ws) _ r) in
      both _ _ (both_fst (eqb (length ws) 32) _ e)
      (both _ _ (every_all (λ (k : ℕ). base_word_ok k (word k)) 32 (λ k l. word_then k (word k) (each k l) (λ h. zero_words a k h l))) (both_snd (modes_ok (word 22) (word 23)) _ (both_snd (words_ok ws) _ r)))

  words_now : base_in_range ws first ≡ true → in_range ws first ≡ true
  unfolding in_range words_ok modes_ok base_in_range base_words_ok
  words_now e =
      let r = both_snd (eqb (length ws) 32) (pick (base_words_ok ws) (leb first 32767) false) e in
      let each : (k : ℕ) → k < 32 → base_word_ok k (word k) ≡ true = every_at (λ (k : ℕ). base_word_ok k (word k)) 32 (both_fst (base_words_ok ws) _ r) in
      let none : eqb (word 23) 0 ≡ true = word_zero 23 (word 23) (each 23 (omega arith)) (omega arith) in
      let modes : modes_ok (word 22) (word 23) ≡ true = rw mode none in
      both _ _ (both_fst (eqb (length ws) 32) _ e) (both _ _ (every_all (λ (k : ℕ). word_ok k (word k)) 32 (λ k l. word_now k (word k) (each k l))) (both _ _ modes (both_snd (base_words_ok ws) _ r)))

  pub range_as_before : in_range ws first ≡ base_in_range ws first
  range_as_before = same_test (in_range ws first) (base_in_range ws first) words_then words_now

  pub number_as_before : (len : ℕ) → fresh_answer len ws first ≡ base_fresh_answer len ws first
  unfolding fresh_answer base_fresh_answer
  number_as_before len = rw range_as_before refl

  table_made : word 23 ≡ 0 → (n : ℕ) → fresh_table n ws first ≡ base_fresh_table n ws first
  unfolding fresh_table base_fresh_table fields_of zeros enc
  table_made z n = rw (z, mode) refl

  table_as_before : (old : List ℕ) (a : Result Unit Refusal) → fresh_answer (length old) ws first ≡ a → table_after_fresh a old ws first ≡ base_table_after_fresh a old ws first
  unfolding table_after_fresh base_table_after_fresh
  table_as_before old (Ok x) e = table_made (no_limit (in_range_holds ws first (accepted (length old) ws first e).1).modes) (count old)
  table_as_before old (Err r) e = refl

  -- MODE 0: what wtp_fresh gives and leaves is what the base's gives and leaves
  pub fresh_as_before : (old : List ℕ) → left_by_is old ws first ≡ base_left_by old ws first
  unfolding left_by_is base_left_by
  fresh_as_before old = ap (left (fresh_answer (length old) ws first)) (table_as_before old (fresh_answer (length old) ws first) refl) ∙ ap (λ (a : Result Unit Refusal). left a (base_table_after_fresh a old ws first)) (number_as_before (length old))
