-- The words of the items, four for each: their number; and the stores of all words. Assumes nothing.
use Prim.Native.Nat.{ℕ, ◌+◌, ◌*◌, ◌≤◌}
use native.Mathlib.Omega.{arith}
use mathlib.Core.Path.{◌≡◌, refl, sym, ap, ◌∙◌}
use mathlib.Core.List.{List, [], ◌∷◌, ◌++◌, append_assoc}
use lib.ListN.{length, take, drop, length-append}
use lib.Seq.{sets-eq, length-take-le, drop-append_seam}
use Rattle.base_lists.specs.Seq.{put}
use Rattle.base_lists.proofs.StoresAndParts.{put_append, put_front, length_put}
use Rattle.codec_items.specs.declared.Item.{Item}
use Rattle.codec_words.specs.Words.{item_words, items_words}

pub length_items_words : (l : List Item) → length (items_words l) ≡ 4 * length l
unfolding items_words item_words
length_items_words [] = refl
length_items_words (it ∷ l) = omega (arith, length_items_words l)

-- what is stored before a store can be stored after it
before_the_rest : (fields h e : List ℕ) → length h + length e ≤ length fields → put (put fields (length h) e) 0 h ≡ put fields 0 (h ++ e)
unfolding put
before_the_rest fields h e l =
    let n : ℕ = length h in
    let front : length (take n fields) ≡ n = length-take-le n fields (omega (arith, l)) in
    let stored : drop n (put fields n e) ≡ e ++ drop (n + length e) fields =
    ap (drop n) (sets-eq e fields n l ∙ append_assoc (take n fields) e (drop (n + length e) fields)) ∙ ap (λ (k : ℕ). drop k (take n fields ++ (e ++ drop (n + length e) fields))) (sym front) ∙ drop-append_seam (take n fields) (e ++ drop (n + length e) fields) in
    put_front (put fields n e) h (rw (length_put fields n e) (omega (arith, l)))
    ∙ ap (λ (x : List ℕ). h ++ x) stored
    ∙ sym (append_assoc h e (drop (n + length e) fields))
    ∙ ap (λ (k : ℕ). (h ++ e) ++ drop k fields) (sym (length-append h e))
    ∙ sym (put_front fields (h ++ e) (rw (length-append h e) l))

-- the items' words and then the others, one after the other, are one store
pub five_stores : (fields a b c d e : List ℕ) → length a ≡ 5 → length b ≡ 4 → length c ≡ 6 → length d ≡ 9 → 24 + length e ≤ length fields
    → put (put (put (put (put fields 24 e) 0 a) 5 b) 9 c) 15 d ≡ put fields 0 ((a ++ (b ++ (c ++ d))) ++ e)
five_stores fields a b c d e la lb lc ld l =
    let head : List ℕ = a ++ (b ++ (c ++ d)) in
    let n : length head ≡ 24 = rw (length-append a (b ++ (c ++ d)), length-append b (c ++ d), length-append c d, la, lb, lc, ld) refl in
    let four : put (put (put (put (put fields 24 e) 0 a) 5 b) 9 c) 15 d ≡ put (put fields 24 e) 0 head =
    rw (put_append a (b ++ (c ++ d)) (put fields 24 e) 0, la, put_append b (c ++ d), put_append c d, lb, lc) in
    four ∙ ap (λ (k : ℕ). put (put fields k e) 0 head) (sym n) ∙ before_the_rest fields head e (rw n l)
