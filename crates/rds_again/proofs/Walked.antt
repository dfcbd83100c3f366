-- The entries that a walk found: each can be written again, and together they are as long as the walk went. Assumes nothing.
use Prim.Native.Nat.{ℕ, zero, suc, ◌+◌, ◌%◌, ◌<◌, ◌≤◌}
use native.Mathlib.Omega.{arith}
use mathlib.Core.Path.{◌≡◌, refl, sym, ap, subst, ◌∙◌}
use mathlib.Core.List.{List}
use mathlib.Core.Bool.{Bool, true, false}
use lib.ListN.{length, get_or, set, drop, length-set}
use lib.Seq.{drop-drop, get_or-drop, get_or-set_same, get_or-set_other}
use lib.Dec.{leb, eqb}
use borrow.Author.Tests.{eqb-false}
use Rattle.base_lists.specs.Seq.{pick, total}
use Rattle.base_lists.proofs.StoresAndParts.{true_false, total_first, total_same}
use Rattle.rds_entries.specs.declared.Entry.{Entry}
use Rattle.rds_entries.specs.declared.Entries.{Entries}
use Rattle.std.specs.Prelude.{Option, Some, None}
use Rattle.std.proofs.lemmas.Option.{none-some}
use Rattle.rds_entries.specs.Entries.{no_entry, one, application_length, entry_of, entry_at, after_entry, walk_from}
use Rattle.rds_entries.proofs.Inside.{cut_one, same_size, same_entry}
use Rattle.rds_entries.proofs.Walked.{same_entries}
use Rattle.rds_size.specs.Size.{is_application, entry_size}
use Rattle.rds_again.proofs.Plain.{application_here}

-- an entry that can be written
pub record Good (s : List ℕ) (f : Bool) (e : Entry) : Type 0 where
  pub source_narrow : e.source < 16
  pub destination_narrow : e.destination < 16
  pub format_narrow : e.format < 8
  pub no_format : f ≡ false → e.format ≡ 0

-- one entry, and its size
record Gotone (s : List ℕ) (f : Bool) (e : Entry) (z : ℕ) : Type 0 where
  good : Good s f e
  size : entry_size s f e ≡ z

-- the size of an entry whose Application ID is there
entry_sized : (s : List ℕ) (f g : Bool) (e : Entry) → f ≡ g → is_application s e.start e.len ≡ true → entry_size s f e ≡ pick g (1 + e.len + 1) (1 + e.len)
unfolding entry_size
entry_sized s f g e h app = rw (app, h) refl

module _ (s : List ℕ) (octet : (i : ℕ) → get_or s i 0 < 256) (f : Bool) where
  got_one : (x : List ℕ) (at : ℕ) → x ≡ drop at s → (e : Entry) (z : ℕ) → entry_at x at f ≡ one e z → Gotone s f e z
  unfolding entry_at
  got_one x at here e z = go (eqb (length x) 0) (eqb len 0) refl f refl (leb (length x) (1 + len)) where
    len : ℕ
    len = application_length (drop 1 x)

    octet_x : (i : ℕ) → get_or x i 0 < 256
    octet_x i = rw (here, get_or-drop at s i 0) (octet (at + i))

    app : eqb len 0 ≡ false → is_application s (at + 1) len ≡ true
    app q = application_here s (at + 1) len octet (ap application_length (sym (drop-drop 1 at s)) ∙ ap (λ (y : List ℕ). application_length (drop 1 y)) (sym here)) (eqb-false len 0 q)

    made : (g : Bool) (format : ℕ) (size : ℕ) → f ≡ g → format < 8 → (g ≡ false → format ≡ 0) → pick g (1 + len + 1) (1 + len) ≡ size → eqb len 0 ≡ false → one (entry_of x at len format) size ≡ one e z → Gotone s f e z
    made g format size fg low none m q p =
        rw (← same_entry _ _ _ _ p, same_size _ _ _ _ p) (record {
          good = record { source_narrow = omega (arith, octet_x 0); destination_narrow = omega arith; format_narrow = low; no_format = λ h. none (sym fg ∙ h) };
          size = entry_sized s f g (entry_of x at len format) fg (app q) ∙ m;
        })

    go : (b0 bl : Bool) → eqb len 0 ≡ bl → (g : Bool) → f ≡ g → (b : Bool)
        → pick b0 None (pick bl None (pick g (pick b None (one (entry_of x at len (get_or x (1 + len) 0 % 8)) (1 + len + 1))) (one (entry_of x at len 0) (1 + len)))) ≡ one e z → Gotone s f e z
    go true bl q g fg b p = cut_one e z p
    go false true q g fg b p = cut_one e z p
    go false false q true fg true p = cut_one e z p
    go false false q true fg false p = made true (get_or x (1 + len) 0 % 8) (1 + len + 1) fg (omega arith) (λ h. true_false h) refl q p
    go false false q false fg b p = made false 0 (1 + len) fg (omega arith) (λ h. refl) refl q p

  -- what a walk over n entries leaves, from place k of the list on
  pub record Found (n k : ℕ) (at : ℕ) (read : List Entry) (r : Entries) : Type 0 where
    pub before : (i : ℕ) → i < k → get_or r.list i no_entry ≡ get_or read i no_entry
    pub good : (i : ℕ) → i < n → Good s f (get_or r.list (k + i) no_entry)
    pub past : (i : ℕ) → k + n ≤ i → get_or r.list i no_entry ≡ get_or read i no_entry
    pub full : length r.list ≡ length read
    pub size : at + total (λ i. entry_size s f (get_or r.list (k + i) no_entry)) n ≡ r.end

  step : (n k at z : ℕ) (e : Entry) (read : List Entry) (r : Entries) → k < length read → Gotone s f e z → Found n (k + 1) (at + z) (set read k e) r → Found (suc n) k at read r
  step n k at z e read r inside one w =
      let here : get_or r.list k no_entry ≡ e = w.before k (omega arith) ∙ get_or-set_same read k e no_entry inside in
      let z0 : k + 0 ≡ k = omega arith in
      let first : entry_size s f (get_or r.list (k + 0) no_entry) ≡ z = ap (λ (j : ℕ). entry_size s f (get_or r.list j no_entry)) z0 ∙ ap (entry_size s f) here ∙ one.size in
      let next : (i : ℕ) → k + suc i ≡ k + 1 + i = λ i. omega arith in
      let later = total_same (λ i. entry_size s f (get_or r.list (k + suc i) no_entry)) (λ i. entry_size s f (get_or r.list (k + 1 + i) no_entry)) n (λ i h. ap (λ (j : ℕ). entry_size s f (get_or r.list j no_entry)) (next i)) in
      record {
        before = λ i h. w.before i (omega (arith, h)) ∙ get_or-set_other read k i e no_entry (λ q. omega (arith, q, h));
        good = each here;
        past = λ i h. w.past i (omega (arith, h)) ∙ get_or-set_other read k i e no_entry (λ q. omega (arith, q, h));
        full = w.full ∙ length-set read k e;
        size = omega (arith, total_first (λ i. entry_size s f (get_or r.list (k + i) no_entry)) n, first, later, w.size);
      } where
        each : get_or r.list k no_entry ≡ e → (i : ℕ) → i < suc n → Good s f (get_or r.list (k + i) no_entry)
        each here zero h =
            let z0 : k + 0 ≡ k = omega arith in
            rw (z0, here) one.good
        each here (suc i) h =
            let z1 : k + suc i ≡ k + 1 + i = omega arith in
            rw z1 (w.good i (omega (arith, h)))

  pub walk_found : (n k at : ℕ) (x : List ℕ) (read : List Entry) (r : Entries) → x ≡ drop at s → k + n ≤ length read → walk_from n k f at x read ≡ Some r → Found n k at read r
  unfolding walk_from total
  walk_found zero k at x read r here room w =
      subst (λ (r : Entries). Found zero k at read r) (same_entries (record { end = at; list = read }) r w)
      (record { before = λ i h. refl; good = λ i h. absurd (omega (arith, h)); past = λ i h. refl; full = refl; size = omega arith })
  walk_found (suc n) k at x read r here room w = go (entry_at x at f) refl w (λ j b y l h g v. walk_found n j b y l r h g v) where
    go : (g : Option (Entry × ℕ)) → entry_at x at f ≡ g → after_entry (λ j. walk_from n j f) k at x read g ≡ Some r
        → ((j b : ℕ) (y : List ℕ) (l : List Entry) → y ≡ drop b s → j + n ≤ length l → walk_from n j f b y l ≡ Some r → Found n j b l r)
        → Found (suc n) k at read r
    go None p w ih = absurd (none-some r w)
    go (Some (e, z)) p w ih =
        let d : drop z x ≡ drop (at + z) s = ap (drop z) here ∙ drop-drop z at s in
        step n k at z e read r (omega (arith, room)) (got_one x at here e z p) (ih (k + 1) (at + z) (drop z x) (set read k e) d (omega (arith, room, length-set read k e)) w)
