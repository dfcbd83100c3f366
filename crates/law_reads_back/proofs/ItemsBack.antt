-- Items that were written are read as they were, one after another; sixteen of which the last has CON set are D4. Assumes nothing.
use Prim.Native.Nat.{ℕ, zero, suc, ◌+◌, ◌-◌, ◌<◌, ◌≤◌}
use native.Mathlib.Omega.{arith}
use mathlib.Core.Path.{◌≡◌, refl, sym, ap, ◌∙◌}
use mathlib.Core.List.{List, [], ◌∷◌, ◌++◌, append_assoc}
use mathlib.Core.Bool.{Bool, true, false}
use lib.ListN.{length, set, drop, replicate, length-append, length-replicate, replicate-append-replicate}
use lib.Seq.{sets, sets-eq, drop_at}
use Rattle.base_lists.specs.Seq.{pick}
use Rattle.base_numbers.specs.declared.Malformed.TheVariants.{D4}
use Rattle.std.specs.Prelude.{Ok, Err}
use Rattle.codec_items.specs.declared.Item.{Item}
use Rattle.codec_items.specs.Items.{Items, item_at, walk_from, after_item, no_item, no_items_is}
use Rattle.codec_items.proofs.Forms.{met}
use Rattle.codec_encoding.specs.Write.{item_octets, items_octets, followed, FitItem, FitItems}
use Rattle.law_reads_back.specs.ReadsBack.{lead, item_placed, items_placed}
use Rattle.law_reads_back.proofs.Bits.{pick_true}
use Rattle.law_reads_back.proofs.ItemBack.{item_length_holds, item_read}

-- one item of the walk, with the octets y of the others after it
module _ (s pre y rest : List ℕ) (con : Bool) (it : Item) (fits : FitItem s it) (k : ℕ) (read : List Item) where
  abbrev x : List ℕ
  x = item_octets s con it

  abbrev read' : List Item
  read' = set read (16 - suc k) (item_placed (length pre) it)

  walk_one : walk_from (suc k) (pre ++ ((x ++ y) ++ rest)) (length pre) read
      ≡ pick con (walk_from k ((pre ++ x) ++ (y ++ rest)) (length (pre ++ x)) read') (record { verdict = Ok tt; count = 17 - suc k; end = length (pre ++ x); list = read' })
  unfolding walk_from
  walk_one =
      let apart : pre ++ ((x ++ y) ++ rest) ≡ pre ++ (x ++ (y ++ rest)) = ap (λ (l : List ℕ). pre ++ l) (append_assoc x y rest) in
      let next : length pre + (lead it.long + it.len) ≡ length (pre ++ x) = omega (arith, length-append pre x, item_length_holds s con it fits) in
      (λ i. after_item (suc k) (walk_from k (apart i)) read (item_at (apart i) (length pre)))
      ∙ ap (after_item (suc k) (walk_from k (pre ++ (x ++ (y ++ rest)))) read) (item_read s con it fits pre (y ++ rest))
      ∙ (λ i. after_item (suc k) (walk_from k (sym (append_assoc pre x (y ++ rest)) i)) read (met (item_placed (length pre) it) con (next i)))

  walk_more : con ≡ true → walk_from (suc k) (pre ++ ((x ++ y) ++ rest)) (length pre) read ≡ walk_from k ((pre ++ x) ++ (y ++ rest)) (length (pre ++ x)) read'
  walk_more e = walk_one ∙ pick_true con _ _ e

all_followed : (l : List Item) → followed l true ≡ true
all_followed [] = refl
all_followed (it ∷ l) = refl

pub too_many : (s : List ℕ) (its : List Item) (k : ℕ) (pre rest : List ℕ) (read : List Item) → FitItems s its → length its ≡ k
    → walk_from k (pre ++ (items_octets s true its ++ rest)) (length pre) read ≡ no_items_is (Err D4) 0
unfolding items_octets FitItems walk_from
too_many s [] zero pre rest read f e = refl
too_many s [] (suc k) pre rest read f e = absurd (omega arith)
too_many s (it ∷ its) zero pre rest read f e = absurd (omega arith)
too_many s (it ∷ its) (suc k) pre rest read f e =
    walk_more s pre (items_octets s true its) rest (followed its true) it f.0 k read (all_followed its)
    ∙ too_many s its k (pre ++ item_octets s (followed its true) it) rest (set read (16 - suc k) (item_placed (length pre) it)) f.1 (omega arith)

-- what the walk makes of items at `at`, where k were permitted
abbrev walked : List ℕ → ℕ → ℕ → List Item → List Item → Items
walked s k at read its = record { verdict = Ok tt; count = 16 - k + length its; end = at + length (items_octets s false its); list = sets read (16 - k) (items_placed at its) }

walk_read : (s : List ℕ) (it : Item) (its : List Item) (k : ℕ) (pre rest : List ℕ) (read : List Item) → FitItems s (it ∷ its) → length (it ∷ its) ≤ k → k ≤ 16
    → walk_from k (pre ++ (items_octets s false (it ∷ its) ++ rest)) (length pre) read ≡ walked s k (length pre) read (it ∷ its)
unfolding items_octets FitItems items_placed
walk_read s it its zero pre rest read f a b = absurd (omega arith)
walk_read s it [] (suc k) pre rest read f a b =
    let x : List ℕ = item_octets s false it in
    let n : 17 - suc k ≡ 16 - suc k + 1 = omega arith in
    let e : length (pre ++ x) ≡ length pre + length (x ++ []) = omega (arith, length-append pre x, length-append x []) in
    walk_one s pre [] rest false it f.0 k read
    ∙ (λ i. record { verdict = Ok tt; count = n i; end = e i; list = set read (16 - suc k) (item_placed (length pre) it) })
walk_read s it (it₂ ∷ l) (suc k) pre rest read f a b =
    let x : List ℕ = item_octets s true it in
    let y : List ℕ = items_octets s false (it₂ ∷ l) in
    let read' : List Item = set read (16 - suc k) (item_placed (length pre) it) in
    let n : 16 - k + length (it₂ ∷ l) ≡ 16 - suc k + suc (length (it₂ ∷ l)) = omega arith in
    let e : length (pre ++ x) + length y ≡ length pre + length (x ++ y) = omega (arith, length-append pre x, length-append x y) in
    let from : 16 - k ≡ suc (16 - suc k) = omega arith in
    let at : length (pre ++ x) ≡ length pre + (lead it.long + it.len) = omega (arith, length-append pre x, item_length_holds s true it f.0) in
    walk_one s pre y rest true it f.0 k read
    ∙ walk_read s it₂ l k (pre ++ x) rest read' f.1 (omega arith) (omega arith)
    ∙ (λ i. record { verdict = Ok tt; count = n i; end = e i; list = sets read' (from i) (items_placed (at i) (it₂ ∷ l)) })

pub length_placed : (at : ℕ) (its : List Item) → length (items_placed at its) ≡ length its
unfolding items_placed
length_placed at [] = refl
length_placed at (it ∷ l) = ap suc (length_placed (at + (lead it.long + it.len)) l)

-- m unused places after the first n
drop_replicate : (n m : ℕ) (it : Item) → n ≤ m → drop n (replicate m it) ≡ replicate (m - n) it
drop_replicate n m it h =
    let e : n + (m - n) ≡ m = omega arith in
    ap (λ (j : ℕ). drop n (replicate j it)) (sym e) ∙ ap (drop n) (sym (replicate-append-replicate n (m - n) it)) ∙ drop_at (replicate n it) _ n (length-replicate n it)

-- the items at `at`, and no item after them
abbrev pub items_found : List ℕ → ℕ → List Item → Items
items_found s at its =
    record { verdict = Ok tt; count = length its; end = at + length (items_octets s false its); list = items_placed at its ++ replicate (16 - length its) no_item }

pub items_read : (s : List ℕ) (its : List Item) (pre rest : List ℕ) → FitItems s its → 0 < length its → length its ≤ 16
    → walk_from 16 (pre ++ (items_octets s false its ++ rest)) (length pre) (replicate 16 no_item) ≡ items_found s (length pre) its
items_read s [] pre rest f g h = absurd (omega arith)
items_read s (it ∷ its) pre rest f g h =
    let new : List Item = items_placed (length pre) (it ∷ its) in
    let n : 16 - 16 + length (it ∷ its) ≡ length (it ∷ its) = omega arith in
    let size : 0 + length new ≡ length (it ∷ its) = omega (arith, length_placed (length pre) (it ∷ its)) in
    let l : sets (replicate 16 no_item) 0 new ≡ new ++ replicate (16 - length (it ∷ its)) no_item =
    sets-eq new (replicate 16 no_item) 0 (omega (arith, length-replicate 16 no_item))
    ∙ ap (λ (j : ℕ). new ++ drop j (replicate 16 no_item)) size
    ∙ ap (λ (j : List Item). new ++ j) (drop_replicate (length (it ∷ its)) 16 no_item h) in
    walk_read s it its 16 pre rest (replicate 16 no_item) f h (omega arith)
    ∙ (λ i. record { verdict = Ok tt; count = n i; end = length pre + length (items_octets s false (it ∷ its)); list = l i })
