-- The entries of a list that was read are written as they were but for their spare bits. Assumes nothing.
use Prim.Native.Nat.{ℕ, zero, suc, ◌+◌, ◌-◌, ◌/◌, ◌%◌, ◌<◌, ◌≤◌}
use native.Mathlib.Omega.{arith}
use mathlib.Core.Path.{◌≡◌, refl, sym, ap, ◌∙◌}
use mathlib.Core.List.{List, [], ◌∷◌, ◌++◌, append-nil, append_assoc}
use mathlib.Core.Bool.{Bool, true, false}
use lib.ListN.{length, get_or, set, take, drop, length-set}
use lib.Seq.{drop-drop, drop-cons, get_or-drop, get_or-set_same}
use lib.Dec.{leb, eqb}
use borrow.Author.Tests.{eqb-false}
use Rattle.base_lists.specs.Seq.{pick, part}
use Rattle.rds_entries.specs.declared.Entry.{Entry}
use Rattle.rds_entries.specs.declared.Entries.{Entries}
use Rattle.std.specs.Prelude.{Option, Some, None}
use Rattle.std.proofs.lemmas.Option.{none-some}
use Rattle.rds_entries.specs.Entries.{no_entry, one, application_length, entry_of, entry_at, after_entry, walk_from}
use Rattle.rds_entries.proofs.Inside.{cut_one, same_size, same_entry}
use Rattle.rds_entries.proofs.Walked.{same_entries, walk_inside}
use Rattle.rds_pieces.specs.Octets.{ports_octet}
use Rattle.rds_encoding.specs.Encoding.{entry_octets, entries_octets}
use Rattle.rds_back.specs.Spare.{cleared_ports, application_after, cleared_entries}
use Rattle.rds_again.proofs.Walked.{walk_found}

module _ (s : List ℕ) (octet : (i : ℕ) → get_or s i 0 < 256) where
  module _ (x : List ℕ) (at : ℕ) (here : x ≡ drop at s) (some : 1 ≤ length x) where
    abbrev len : ℕ
    len = application_after x

    octet_x : (i : ℕ) → get_or x i 0 < 256
    octet_x i = rw (here, get_or-drop at s i 0) (octet (at + i))

    -- the ports octet and the Application ID, before r
    entry_front : (r : List ℕ) → ports_octet (get_or x 0 0 / 16) (get_or x 0 0 % 16) ∷ (part s (at + 1) len ++ r) ≡ take (1 + len) x ++ r
    entry_front r =
        let p : ports_octet (get_or x 0 0 / 16) (get_or x 0 0 % 16) ≡ get_or x 0 0 = omega (arith, octet_x 0) in
        let q : part s (at + 1) len ≡ take len (drop 1 x) = ap (take len) (sym (drop-drop 1 at s) ∙ ap (drop 1) (sym here)) in
        let z : suc len ≡ 1 + len = omega arith in
        let d : get_or x 0 0 ∷ take len (drop 1 x) ≡ take (1 + len) x = ap (take (suc len)) (sym (drop-cons x 0 0 (omega (arith, some)))) ∙ ap (λ (k : ℕ). take k x) z in
        (λ i. p i ∷ (q i ++ r)) ∙ ap (λ (u : List ℕ). u ++ r) d

    -- one entry, with a format and without, and then the others
    with_format : (n : ℕ) → cleared_entries (suc n) true x ≡ entry_octets s true (entry_of x at len (get_or x (1 + len) 0 % 8)) ++ cleared_entries n true (drop (1 + len + 1) x)
    unfolding cleared_entries entry_octets
    with_format n =
        let y : get_or x (1 + len) 0 % 8 ≡ get_or x (1 + len) 0 % 8 % 8 = omega arith in
        let C : List ℕ = cleared_entries n true (drop (1 + len + 1) x) in
        let P : List ℕ = part s (at + 1) len in
        (λ i. take (1 + len) x ++ (y i ∷ C))
        ∙ sym (entry_front (get_or x (1 + len) 0 % 8 % 8 ∷ C))
        ∙ ap (λ (u : List ℕ). ports_octet (get_or x 0 0 / 16) (get_or x 0 0 % 16) ∷ u) (sym (append_assoc P (get_or x (1 + len) 0 % 8 % 8 ∷ []) C))

    without_format : (n : ℕ) → cleared_entries (suc n) false x ≡ entry_octets s false (entry_of x at len 0) ++ cleared_entries n false (drop (1 + len) x)
    unfolding cleared_entries entry_octets
    without_format n =
        let C : List ℕ = cleared_entries n false (drop (1 + len) x) in
        let P : List ℕ = part s (at + 1) len in
        sym (entry_front C) ∙ ap (λ (u : List ℕ). ports_octet (get_or x 0 0 / 16) (get_or x 0 0 % 16) ∷ (u ++ C)) (sym (append-nil P))

  -- the entry that was found at a place
  one_cleared : (f : Bool) (n : ℕ) (x : List ℕ) (at : ℕ) → x ≡ drop at s → (e : Entry) (z : ℕ) → entry_at x at f ≡ one e z → cleared_entries (suc n) f x ≡ entry_octets s f e ++ cleared_entries n f (drop z x)
  unfolding entry_at
  one_cleared f n x at here e z = go (eqb (length x) 0) refl (eqb len' 0) f refl (leb (length x) (1 + len')) where
    len' : ℕ
    len' = application_length (drop 1 x)

    positive : (m : ℕ) → (m ≡ 0 → ⊥) → 1 ≤ m
    positive m h = omega (arith, h)

    go : (b0 : Bool) → eqb (length x) 0 ≡ b0 → (bl g : Bool) → f ≡ g → (b : Bool)
        → pick b0 None (pick bl None (pick g (pick b None (one (entry_of x at len' (get_or x (1 + len') 0 % 8)) (1 + len' + 1))) (one (entry_of x at len' 0) (1 + len')))) ≡ one e z
        → cleared_entries (suc n) f x ≡ entry_octets s f e ++ cleared_entries n f (drop z x)
    go true q bl g fg b p = cut_one e z p
    go false q true g fg b p = cut_one e z p
    go false q false true fg true p = cut_one e z p
    go false q false true fg false p = rw (fg, ← same_entry _ _ _ _ p, same_size _ _ _ _ p) (with_format x at here (positive (length x) (eqb-false (length x) 0 q)) n)
    go false q false false fg b p = rw (fg, ← same_entry _ _ _ _ p, same_size _ _ _ _ p) (without_format x at here (positive (length x) (eqb-false (length x) 0 q)) n)

  -- all that a walk found, and what follows
  pub walk_cleared : (f : Bool) (n k at : ℕ) (x : List ℕ) (read : List Entry) (r : Entries) → x ≡ drop at s → k + n ≤ length read → walk_from n k f at x read ≡ Some r
      → entries_octets s f (take n (drop k r.list)) ++ cleared_ports (drop (r.end - at) x) ≡ cleared_entries n f x
  unfolding walk_from cleared_entries entries_octets
  walk_cleared f zero k at x read r here room w =
      let e : at ≡ r.end = ap (λ (r : Entries). r.end) (same_entries (record { end = at; list = read }) r w) in
      let z : r.end - at ≡ 0 = omega (arith, e) in
      ap (λ (i : ℕ). cleared_ports (drop i x)) z
  walk_cleared f (suc n) k at x read r here room w = go (entry_at x at f) refl w (λ j b y l h g v. walk_cleared f n j b y l r h g v) where
    go : (g : Option (Entry × ℕ)) → entry_at x at f ≡ g → after_entry (λ j. walk_from n j f) k at x read g ≡ Some r
        → ((j b : ℕ) (y : List ℕ) (l : List Entry) → y ≡ drop b s → j + n ≤ length l → walk_from n j f b y l ≡ Some r → entries_octets s f (take n (drop j r.list)) ++ cleared_ports (drop (r.end - b) y) ≡ cleared_entries n f y)
        → entries_octets s f (take (suc n) (drop k r.list)) ++ cleared_ports (drop (r.end - at) x) ≡ cleared_entries (suc n) f x
    go None p w ih = absurd (none-some r w)
    go (Some (e, z)) p w ih =
        let L : List Entry = r.list in
        let end : ℕ = r.end in
        let d : drop z x ≡ drop (at + z) s = ap (drop z) here ∙ drop-drop z at s in
        let room' : k + 1 + n ≤ length (set read k e) = omega (arith, room, length-set read k e) in
        let found = walk_found s octet f n (k + 1) (at + z) (drop z x) (set read k e) r d room' w in
        let gk : get_or L k no_entry ≡ e = found.before k (omega arith) ∙ get_or-set_same read k e no_entry (omega (arith, room)) in
        let z1 : suc k ≡ k + 1 = omega arith in
        let l1 : drop k L ≡ e ∷ drop (k + 1) L = drop-cons L k no_entry (omega (arith, room, found.full, length-set read k e)) ∙ (λ i. gk i ∷ drop (z1 i) L) in
        let ends : at + z ≤ end = (walk_inside n (k + 1) f (at + z) (drop z x) (set read k e) r w).0 in
        let far : z + (end - (at + z)) ≡ end - at = omega (arith, ends) in
        let dd : drop (end - at) x ≡ drop (end - (at + z)) (drop z x) = sym (drop-drop (end - (at + z)) z x ∙ ap (λ (i : ℕ). drop i x) far) in
        let E : List ℕ = entries_octets s f (take n (drop (k + 1) L)) in
        ap (λ (y : List Entry). entries_octets s f (take (suc n) y) ++ cleared_ports (drop (end - at) x)) l1
        ∙ append_assoc (entry_octets s f e) E (cleared_ports (drop (end - at) x))
        ∙ ap (λ (y : List ℕ). entry_octets s f e ++ y) (ap (λ (u : List ℕ). E ++ cleared_ports u) dd ∙ ih (k + 1) (at + z) (drop z x) (set read k e) d room' w)
        ∙ sym (one_cleared f n x at here e z p)
