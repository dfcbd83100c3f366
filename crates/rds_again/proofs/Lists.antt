-- A list, as it was read: its words say it, and it is no longer than an information field. Assumes nothing.
use Prim.Native.Nat.{ℕ, ◌+◌, ◌-◌, ◌*◌, ◌/◌, ◌%◌, ◌<◌, ◌≤◌}
use native.Mathlib.Omega.{arith}
use mathlib.Core.Path.{◌≡◌, refl, sym, ap, ◌∙◌}
use mathlib.Core.List.{List, ◌++◌}
use mathlib.Core.Bool.{Bool, true, false}
use mathlib.Core.Logic.{◌⊎◌, inl, inr}
use lib.ListN.{length, get_or, drop, replicate, length-drop, length-replicate, get_or-replicate}
use lib.Seq.{drop-drop, get_or-drop, ext_get_or}
use lib.Dec.{ltb, eqb}
use borrow.Author.Tests.{eqb-true, lt-ltb, le-ltb}
use Rattle.base_lists.specs.Seq.{pick, tab}
use Rattle.base_lists.proofs.StoresAndParts.{length_tab, get_tab, lt_or_le, total_same}
use Rattle.rds_frame.specs.declared.Kind.TheVariants as K
use Rattle.rds_entries.specs.declared.Entry.{Entry}
use Rattle.rds_entries.specs.declared.Entries.{Entries}
use Rattle.rds_entries.specs.Entries.{no_entry, walk_from}
use Rattle.rds_entries.proofs.Walked.{walk_inside}
use Rattle.rds_body.specs.declared.Body.TheVariants as B
use Rattle.rds_body.specs.declared.Form.TheVariants as F
use Rattle.std.specs.Prelude.{Option, Some, None, is_some}
use Rattle.rds_written.proofs.Forms.{Bitmap}
use Rattle.rds_body.specs.Body.{form_of, bitmap_of, optional_of, list_by, list_after, list_of}
use Rattle.rds_words.specs.Words.{kind_words, body_words, entry_words, list_words}
use Rattle.rds_size.specs.Size.{entry_size, entries_size, list_size, body_size}
use Rattle.rds_said.specs.Said.{word, format_said, manage_said, u_said, body_said, entry_said, list_said, entries_said}
use Rattle.rds_writing.specs.Write.{is_items}
use Rattle.rds_again.proofs.Plain.{Each, Kept, ports_again}
use Rattle.rds_again.proofs.Stored.{word_at}
use Rattle.rds_again.proofs.Walked.{Good, Found, walk_found}

format_again : (x : ℕ) (g : Bool) → x < 8 → (g ≡ false → x ≡ 0) → format_said x g ≡ x
unfolding format_said
format_again x true h none = omega (arith, h)
format_again x false h none = sym (none refl)

module _ (front : List ℕ) (l : List Entry) (f24 : length front ≡ 24) (full : length l ≡ 15) (f : Bool) (n : ℕ) where
  abbrev W : List ℕ
  W = front ++ list_words l

  -- an entry that can be written is what its words say
  entry_said_holds : (k : ℕ) → k < 15 → k < n → (s : List ℕ) → Good s f (get_or l k no_entry) → entry_said W f n k ≡ get_or l k no_entry
  unfolding entry_said entry_words
  entry_said_holds k h below s good =
      let e : Entry = get_or l k no_entry in
      let z : 24 + 5 * k ≡ 24 + 5 * k + 0 = omega arith in
      let a : word W (24 + 5 * k) % 16 ≡ e.source = ap (λ (x : ℕ). x % 16) (ap (word W) z ∙ word_at front l f24 full k 0 h (omega arith)) ∙ omega (arith, good.source_narrow) in
      let b : word W (24 + 5 * k + 1) % 16 ≡ e.destination = ap (λ (x : ℕ). x % 16) (word_at front l f24 full k 1 h (omega arith)) ∙ omega (arith, good.destination_narrow) in
      let c : word W (24 + 5 * k + 2) ≡ e.start = word_at front l f24 full k 2 h (omega arith) in
      let d : word W (24 + 5 * k + 3) ≡ e.len = word_at front l f24 full k 3 h (omega arith) in
      let m : format_said (word W (24 + 5 * k + 4)) f ≡ e.format = ap (λ (x : ℕ). format_said x f) (word_at front l f24 full k 4 h (omega arith)) ∙ format_again e.format f good.format_narrow good.no_format in
      rw (lt-ltb k n below) (λ i. record { source = a i; destination = b i; start = c i; len = d i; format = m i })

  none_said : (k : ℕ) → n ≤ k → entry_said W f n k ≡ no_entry
  unfolding entry_said
  none_said k h = rw (le-ltb k n h) refl

  -- the list that its words say
  pub list_said_holds : (s : List ℕ) → ((i : ℕ) → i < n → Good s f (get_or l i no_entry)) → ((i : ℕ) → n ≤ i → i < 15 → get_or l i no_entry ≡ no_entry) → list_said W f n ≡ l
  unfolding list_said
  list_said_holds s good none =
      ext_get_or no_entry _ _ (length_tab (entry_said W f n) 15 0 ∙ sym full)
      (λ (i : ℕ) (h : i < length (tab (entry_said W f n) 15 0)).
      let below : i < 15 = omega (arith, h, length_tab (entry_said W f n) 15 0) in
      let z : 0 + i ≡ i = omega arith in
      get_tab (entry_said W f n) 15 0 i no_entry below ∙ ap (entry_said W f n) z ∙ at i below (lt_or_le i n)) where
        at : (i : ℕ) → i < 15 → (i < n) ⊎ (n ≤ i) → entry_said W f n i ≡ get_or l i no_entry
        at i below (inl h) = entry_said_holds i below h s (good i h)
        at i below (inr h) = none_said i h ∙ sym (none i h below)

module _ (s : List ℕ) (e p d : ℕ) (response : Bool) (a : ℕ) (ha : a < 16) (form : form_of a response ≡ Some F.List) where
  list_kept : (ports : Option ℕ) (n : ℕ) (l : List Entry) → Bitmap ports → n ≤ 15 → length l ≡ 15
      → ((i : ℕ) → i < n → Good s (ltb 5 a) (get_or l i no_entry)) → ((i : ℕ) → n ≤ i → i < 15 → get_or l i no_entry ≡ no_entry) → list_size s l a (is_some ports) n ≤ 1520
      → Kept s (K.U 10 response) false e p d (record { body = B.List a ports n; list = l })
  unfolding kind_words body_words body_said entries_said body_size is_items u_said manage_said
  list_kept ports n l even n15 full good none size =
      let za : a % 16 ≡ a = omega (arith, ha) in
      let zn : n % 16 ≡ n = omega (arith, n15) in
      record {
        said = rw (za, form) (λ i. Some (B.List a (ports_again ports even i) (zn i)));
        listed = list_said_holds (kind_words (K.U 10 response) e p d ++ body_words (B.List a ports n)) l refl full (ltb 5 a) n s good none;
        small = size;
      }

  module _ (octet : (i : ℕ) → get_or s i 0 < 256) (at : ℕ) (t : List ℕ) (here : t ≡ drop at s) (short : length t ≤ 1520) where
    abbrev n : ℕ
    n = get_or t 0 0 / 16

    abbrev f : Bool
    f = ltb 5 a

    abbrev walk : Option Entries
    walk = walk_from n 0 f (at + 1) (drop 1 t) (replicate 15 no_entry)

    n15 : n ≤ 15
    n15 = omega (arith, o) where
      o : get_or t 0 0 < 256
      o = rw (here, get_or-drop at s 0 0) (octet (at + 0))

    octet_t : (i : ℕ) → get_or t i 0 < 256
    octet_t i = rw (here, get_or-drop at s i 0) (octet (at + i))

    module _ (R : Entries) (got : walk ≡ Some R) where
      -- what follows the entries
      abbrev u : List ℕ
      u = drop (R.end - at) t

      octet_u : (i : ℕ) → get_or u i 0 < 256
      octet_u i = rw (get_or-drop (R.end - at) t i 0) (octet_t (R.end - at + i))

      found : Found s octet f n 0 (at + 1) (replicate 15 no_entry) R
      found = walk_found s octet f n 0 (at + 1) (drop 1 t) (replicate 15 no_entry) R (ap (drop 1) here ∙ drop-drop 1 at s) (omega (arith, n15, length-replicate 15 no_entry)) got

      full : length R.list ≡ 15
      full = found.full ∙ length-replicate 15 no_entry

      good : (i : ℕ) → i < n → Good s f (get_or R.list i no_entry)
      good i h = let z : 0 + i ≡ i = omega arith in rw z at (found.good i h)

      none : (i : ℕ) → n ≤ i → i < 15 → get_or R.list i no_entry ≡ no_entry
      none i h below = found.past i (omega (arith, h)) ∙ get_or-replicate 15 i no_entry no_entry below

      -- the entries are as long as the walk went
      sum : at + 1 + entries_size s f R.list n ≡ R.end
      unfolding entries_size
      sum =
          let same = total_same (λ i. entry_size s f (get_or R.list i no_entry)) (λ i. entry_size s f (get_or R.list (0 + i) no_entry)) n (λ i h. let z : i ≡ 0 + i = omega arith in ap (λ (j : ℕ). entry_size s f (get_or R.list j no_entry)) z) in
          omega (arith, same, found.size)

      within : R.end ≤ at + 1 + length (drop 1 t)
      within = (walk_inside n 0 f (at + 1) (drop 1 t) (replicate 15 no_entry) R got).1

      zn : n % 16 ≡ n
      zn = omega (arith, n15)

      without : list_size s R.list a false n ≤ 1520
      unfolding list_size
      without = rw zn (omega (arith, sum, within, length-drop 1 t, short))

      with_ports : length u ≡ 2 → list_size s R.list a true n ≤ 1520
      unfolding list_size
      with_ports two = rw zn (omega (arith, sum, within, two, length-drop (R.end - at) t, short))

      by_ports : (b0 b2 : Bool) → eqb (length u) 2 ≡ b2 → Each (Kept s (K.U 10 response) false e p d) (list_by a n R.list (pick b0 (Some None) (pick b2 (Some (Some (bitmap_of u))) None)))
      by_ports true b2 q = list_kept None n R.list tt n15 full good none without
      by_ports false true q = list_kept (Some (bitmap_of u)) n R.list (omega arith, omega (arith, octet_u 0, octet_u 1)) n15 full good none (with_ports (eqb-true (length u) 2 q))
      by_ports false false q = tt

    pub list_read : Each (Kept s (K.U 10 response) false e p d) (list_of t at a)
    unfolding list_of optional_of
    list_read = go walk refl where
      go : (w : Option Entries) → walk ≡ w → Each (Kept s (K.U 10 response) false e p d) (list_after t at a w)
      go None q = tt
      go (Some R) q = by_ports R q (eqb (length (u R q)) 0) (eqb (length (u R q)) 2) refl
