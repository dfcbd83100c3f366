-- The words of the entries, five for each: their number, and one entry more; and stores one after the other. Assumes nothing.
use Prim.Native.Nat.{ℕ, ◌+◌, ◌*◌, ◌<◌}
use native.Mathlib.Omega.{arith}
use native.Mathlib.Numerals.{add-one}
use mathlib.Core.Path.{◌≡◌, refl, sym, ap, ◌∙◌}
use mathlib.Core.List.{List, [], ◌∷◌, ◌++◌, append-nil, append_assoc}
use lib.ListN.{length, get_or, take}
use lib.Seq.{take-suc, length-take-le}
use Rattle.base_lists.specs.Seq.{put}
use Rattle.base_lists.proofs.StoresAndParts.{put_append}
use Rattle.rds_entries.specs.declared.Entry.{Entry}
use Rattle.rds_words.specs.Words.{entry_words, entries_words, list_words}

pub length_entries_words : (l : List Entry) → length (entries_words l) ≡ 5 * length l
unfolding entries_words entry_words
length_entries_words [] = refl
length_entries_words (e ∷ l) = omega (arith, length_entries_words l)

entries_words_last : (l : List Entry) (e : Entry) → entries_words (l ++ (e ∷ [])) ≡ entries_words l ++ entry_words e
unfolding entries_words
entries_words_last [] e = append-nil (entry_words e)
entries_words_last (a ∷ l) e = ap (λ (x : List ℕ). entry_words a ++ x) (entries_words_last l e) ∙ sym (append_assoc (entry_words a) (entries_words l) (entry_words e))

module _ (fields : List ℕ) (list : List Entry) (k : ℕ) (e : Entry) (inside : k < length list) where
  -- the words of k entries and then those of the next
  pub one_more : put (put fields 24 (entries_words (take k list))) (24 + 5 * k) (entry_words (get_or list k e)) ≡ put fields 24 (entries_words (take (k + 1) list))
  one_more =
      let n : 24 + length (entries_words (take k list)) ≡ 24 + 5 * k = omega (arith, length_entries_words (take k list), length-take-le k list (omega arith)) in
      ap (λ (i : ℕ). put (put fields 24 (entries_words (take k list))) i (entry_words (get_or list k e))) (sym n)
      ∙ sym (put_append (entries_words (take k list)) (entry_words (get_or list k e)) fields 24)
      ∙ ap (put fields 24) (sym (entries_words_last (take k list) (get_or list k e)) ∙ ap entries_words (sym (take-suc list k e inside)) ∙ rw add-one)

-- the words of fifteen entries and then the last
pub last_word : (fields : List ℕ) (list : List Entry) → length list ≡ 15 → put (put fields 24 (entries_words list)) 99 (0 ∷ []) ≡ put fields 24 (list_words list)
unfolding list_words
last_word fields list h =
    let n : length (entries_words list) ≡ 75 = omega (arith, length_entries_words list) in
    rw (put_append (entries_words list) (0 ∷ []) fields 24, n)

-- stores one after the other, from the start on, are one store
pub three_stores : (fields a b c : List ℕ) → length a ≡ 11 → length b ≡ 13 → put (put (put fields 0 a) 11 b) 24 c ≡ put fields 0 (a ++ (b ++ c))
three_stores fields a b c la lb = rw (put_append a (b ++ c) fields 0, la, put_append b c, lb)
