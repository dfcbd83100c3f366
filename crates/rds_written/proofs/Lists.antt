-- The entries of a list that is written, beside those of the words. Assumes nothing.
use Prim.Native.Nat.{ℕ, zero, suc, ◌+◌, ◌-◌, ◌%◌, ◌≤◌, ◌<◌}
use native.Mathlib.Omega.{arith}
use mathlib.Core.Path.{◌≡◌, refl, sym, ap, ◌∙◌}
use mathlib.Core.List.{List, [], ◌∷◌, ◌++◌, append_assoc, map}
use mathlib.Core.Bool.{Bool}
use lib.ListN.{length, get_or, take, drop, replicate, length-append, length-drop, length-replicate, get_or-replicate, take-append-drop}
use lib.Seq.{sets, sets-eq, drop_at, take_at, get_or-drop, get_or-take, ext_get_or, length-take-le}
use borrow.Author.Tests.{le-ltb}
use Rattle.base_lists.specs.Seq.{bit, part, tab}
use Rattle.base_lists.proofs.StoresAndParts.{length_part, length_tab, get_tab}
use Rattle.rds_entries.specs.declared.Entry.{Entry}
use Rattle.rds_entries.specs.Entries.{no_entry}
use Rattle.rds_pieces.specs.Octets.{ports_octet}
use Rattle.rds_encoding.specs.Encoding.{entry_octets, entries_octets}
use Rattle.rds_said.specs.Said.{entry_said, list_said}
use Rattle.rds_written.specs.Trips.{unplaced_entry, entry_part}
use Rattle.rds_written.proofs.Narrow.{NarrowEntry}
use Rattle.rds_written.proofs.Walk.{movedFrom, length_moved, AllNarrow, length_entry}

map_append {ℓ} : {A B : Type ℓ} (g : A → B) (a b : List A) → map g (a ++ b) ≡ map g a ++ map g b
map_append g [] b = refl
map_append g (x ∷ a) b = ap (λ (y : _). g x ∷ y) (map_append g a b)

-- the places past the entries are alike
map_none {ℓ} : {B : Type ℓ} (g h : Entry → B) → g no_entry ≡ h no_entry → (m n : ℕ) → map g (drop n (replicate m no_entry)) ≡ map h (drop n (replicate m no_entry))
map_none g h e zero zero = refl
map_none g h e zero (suc n) = refl
map_none g h e (suc m) zero = λ i. e i ∷ map_none g h e m zero i
map_none g h e (suc m) (suc n) = map_none g h e m n

module _ (s : List ℕ) (f : Bool) where
  -- moved entries are the same but for their starts
  moved_alike : (at : ℕ) (l : List Entry) → map unplaced_entry (movedFrom s f at l) ≡ map unplaced_entry l
  unfolding movedFrom
  moved_alike at [] = refl
  moved_alike at (e ∷ l) = ap (λ (x : List Entry). unplaced_entry e ∷ x) (moved_alike (at + (1 + e.len + bit f)) l)

  -- and have the same Application IDs
  moved_parts : (l : List Entry) → AllNarrow s f l → (pre rest : List ℕ) (at : ℕ) → length pre ≡ at
      → map (entry_part (pre ++ (entries_octets s f l ++ rest))) (movedFrom s f at l) ≡ map (entry_part s) l
  unfolding movedFrom entries_octets entry_octets
  moved_parts [] n pre rest at h = refl
  moved_parts (e ∷ l) n pre rest at h =
      let m : NarrowEntry s f e = n 0 (omega arith) in
      let p : ℕ = ports_octet e.source e.destination in
      let P : List ℕ = part s e.start e.len in
      let T : List ℕ = take (bit f) (e.format % 8 ∷ []) in
      let R : List ℕ = entries_octets s f l ++ rest in
      let lp : length P ≡ e.len = length_part s e.start e.len m.application.ends in
      let first : pre ++ ((entry_octets s f e ++ entries_octets s f l) ++ rest) ≡ pre ++ (entry_octets s f e ++ R) = ap (λ (x : List ℕ). pre ++ x) (append_assoc (entry_octets s f e) (entries_octets s f l) rest) in
      let one : pre ++ (entry_octets s f e ++ R) ≡ (pre ++ (p ∷ [])) ++ (P ++ (T ++ R)) = ap (λ (x : List ℕ). pre ++ (p ∷ x)) (append_assoc P T R) ∙ sym (append_assoc pre (p ∷ []) (P ++ (T ++ R))) in
      let two : pre ++ (entry_octets s f e ++ R) ≡ (pre ++ entry_octets s f e) ++ R = sym (append_assoc pre (entry_octets s f e) R) in
      let here : part (pre ++ ((entry_octets s f e ++ entries_octets s f l) ++ rest)) (at + 1) e.len ≡ P =
      ap (λ (x : List ℕ). part x (at + 1) e.len) (first ∙ one)
      ∙ ap (take e.len) (drop_at (pre ++ (p ∷ [])) (P ++ (T ++ R)) (at + 1) (omega (arith, length-append pre (p ∷ []), h)))
      ∙ take_at P (T ++ R) e.len lp in
      let there = ap (λ (x : List ℕ). map (entry_part x) (movedFrom s f (at + (1 + e.len + bit f)) l)) (first ∙ two)
      ∙ moved_parts l (λ i g. n (suc i) (omega (arith, g))) (pre ++ entry_octets s f e) rest (at + (1 + e.len + bit f)) (omega (arith, length-append pre (entry_octets s f e), length_entry s f e m, h)) in
      λ i. here i ∷ there i

module _ (w : List ℕ) (f : Bool) (n : ℕ) (n15 : n ≤ 15) where
  past_none : (i : ℕ) → n ≤ i → entry_said w f n i ≡ no_entry
  unfolding entry_said
  past_none i h = simp (le-ltb i n h)

  -- the places past the n entries that words say
  none_said : drop n (list_said w f n) ≡ drop n (replicate 15 no_entry)
  unfolding list_said
  none_said =
      let lt : length (drop n (tab (entry_said w f n) 15 0)) ≡ 15 - n = length-drop n (tab (entry_said w f n) 15 0) ∙ ap (λ (x : ℕ). x - n) (length_tab (entry_said w f n) 15 0) in
      let lr : length (drop n (replicate 15 no_entry)) ≡ 15 - n = length-drop n (replicate 15 no_entry) ∙ ap (λ (x : ℕ). x - n) (length-replicate 15 no_entry) in
      ext_get_or no_entry _ _ (lt ∙ sym lr)
      (λ (i : ℕ) (g : i < length (drop n (tab (entry_said w f n) 15 0))).
      let below : n + i < 15 = omega (arith, g, lt, n15) in
      let z : 0 + (n + i) ≡ n + i = omega arith in
      let past : n ≤ n + i = omega arith in
      get_or-drop n (tab (entry_said w f n) 15 0) i no_entry
      ∙ get_tab (entry_said w f n) 15 0 (n + i) no_entry below
      ∙ ap (entry_said w f n) z
      ∙ past_none (n + i) past
      ∙ sym (get_or-drop n (replicate 15 no_entry) i no_entry ∙ get_or-replicate 15 (n + i) no_entry no_entry below))

  pub entries_then_none : list_said w f n ≡ take n (list_said w f n) ++ drop n (replicate 15 no_entry)
  entries_then_none = sym (take-append-drop n (list_said w f n)) ∙ ap (λ (x : List Entry). take n (list_said w f n) ++ x) none_said

  pub length_first : length (take n (list_said w f n)) ≡ n
  unfolding list_said
  length_first = length-take-le n (tab (entry_said w f n) 15 0) (omega (arith, length_tab (entry_said w f n) 15 0, n15))

  -- an entry that words say
  pub said_at : (i : ℕ) → i < n → get_or (take n (list_said w f n)) i no_entry ≡ entry_said w f n i
  unfolding list_said
  said_at i h =
      let z : 0 + i ≡ i = omega arith in
      get_or-take n (tab (entry_said w f n) 15 0) i no_entry h ∙ get_tab (entry_said w f n) 15 0 i no_entry (omega (arith, h, n15)) ∙ ap (entry_said w f n) z

  -- the entries of the words, moved, in fifteen places
  module _ (s : List ℕ) (at : ℕ) where
    abbrev E : List Entry
    E = take n (list_said w f n)

    abbrev pub told : List Entry
    told = sets (replicate 15 no_entry) 0 (movedFrom s f at E)

    told_is : told ≡ movedFrom s f at E ++ drop n (replicate 15 no_entry)
    told_is =
        let l : length (movedFrom s f at E) ≡ n = length_moved s f at E ∙ length_first in
        let z : 0 + length (movedFrom s f at E) ≡ n = omega (arith, l) in
        sets-eq (movedFrom s f at E) (replicate 15 no_entry) 0 (omega (arith, l, length-replicate 15 no_entry, n15)) ∙ ap (λ (x : ℕ). movedFrom s f at E ++ drop x (replicate 15 no_entry)) z

    pub told_alike : map unplaced_entry told ≡ map unplaced_entry (list_said w f n)
    told_alike =
        ap (map unplaced_entry) told_is
        ∙ map_append unplaced_entry (movedFrom s f at E) (drop n (replicate 15 no_entry))
        ∙ ap (λ (x : List Entry). x ++ map unplaced_entry (drop n (replicate 15 no_entry))) (moved_alike s f at E)
        ∙ sym (ap (map unplaced_entry) entries_then_none ∙ map_append unplaced_entry E (drop n (replicate 15 no_entry)))

    pub told_parts : AllNarrow s f E → (pre rest : List ℕ) → length pre ≡ at → map (entry_part (pre ++ (entries_octets s f E ++ rest))) told ≡ map (entry_part s) (list_said w f n)
    told_parts narrow pre rest h =
        let X : List ℕ = pre ++ (entries_octets s f E ++ rest) in
        ap (map (entry_part X)) told_is
        ∙ map_append (entry_part X) (movedFrom s f at E) (drop n (replicate 15 no_entry))
        ∙ (λ i. moved_parts s f E narrow pre rest at h i ++ map_none (entry_part X) (entry_part s) refl 15 n i)
        ∙ sym (ap (map (entry_part s)) entries_then_none ∙ map_append (entry_part s) E (drop n (replicate 15 no_entry)))
