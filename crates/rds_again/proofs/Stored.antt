-- The words of the entries of a list, where they are stored among all. Assumes nothing.
use Prim.Native.Nat.{ℕ, zero, suc, ◌+◌, ◌*◌, ◌<◌}
use native.Mathlib.Omega.{arith}
use mathlib.Core.Path.{◌≡◌, ap, ◌∙◌}
use mathlib.Core.List.{List, [], ◌∷◌, ◌++◌}
use lib.ListN.{length, get_or, get_or-append}
use lib.Seq.{get_or-append-add}
use Rattle.rds_entries.specs.declared.Entry.{Entry}
use Rattle.rds_entries.specs.Entries.{no_entry}
use Rattle.rds_words.specs.Words.{entry_words, entries_words, list_words}
use Rattle.rds_said.specs.Said.{word}

-- the word j of the entry k
entry_stored : (l : List Entry) (k j : ℕ) (rest : List ℕ) → k < length l → j < 5 → get_or (entries_words l ++ rest) (5 * k + j) 0 ≡ get_or (entry_words (get_or l k no_entry)) j 0
unfolding entries_words entry_words
entry_stored [] k j rest h g = absurd (omega (arith, h))
entry_stored (e ∷ l) zero j rest h g =
    let z : 5 * 0 + j ≡ j = omega arith in
    ap (λ (i : ℕ). get_or (entry_words e ++ (entries_words l ++ rest)) i 0) z ∙ get_or-append (entry_words e) (entries_words l ++ rest) 0 j g
entry_stored (e ∷ l) (suc k) j rest h g =
    let z : 5 * suc k + j ≡ 5 + (5 * k + j) = omega arith in
    ap (λ (i : ℕ). get_or (entry_words e ++ (entries_words l ++ rest)) i 0) z
    ∙ get_or-append-add (entry_words e) (entries_words l ++ rest) (5 * k + j) 0
    ∙ entry_stored l k j rest (omega (arith, h)) g

module _ (front : List ℕ) (l : List Entry) (f24 : length front ≡ 24) (full : length l ≡ 15) where
  abbrev W : List ℕ
  W = front ++ list_words l

  pub word_at : (k j : ℕ) → k < 15 → j < 5 → word W (24 + 5 * k + j) ≡ get_or (entry_words (get_or l k no_entry)) j 0
  unfolding list_words
  word_at k j h g =
      let z : 24 + 5 * k + j ≡ length front + (5 * k + j) = omega (arith, f24) in
      ap (λ (i : ℕ). get_or W i 0) z ∙ get_or-append-add front (entries_words l ++ (0 ∷ [])) (5 * k + j) 0 ∙ entry_stored l k j (0 ∷ []) (omega (arith, full, h)) g
