-- The entries of a list whose Application IDs lie elsewhere are said by their words. Assumes nothing.
use Prim.Native.Nat.{ℕ, ◌+◌, ◌*◌, ◌%◌, ◌<◌}
use native.Mathlib.Omega.{arith}
use mathlib.Core.Path.{◌≡◌, refl, sym, ap, ◌∙◌}
use mathlib.Core.List.{List, ◌++◌, map}
use mathlib.Core.Bool.{Bool, true, false}
use lib.ListN.{length, get_or, length-map, get_or-map}
use lib.Seq.{ext_get_or}
use lib.Dec.{ltb}
use Rattle.base_lists.specs.Seq.{pick, tab}
use Rattle.base_lists.proofs.StoresAndParts.{length_tab, get_tab}
use Rattle.rds_entries.specs.declared.Entry.{Entry}
use Rattle.rds_entries.specs.Entries.{no_entry}
use Rattle.rds_words.specs.Words.{entry_words, list_words}
use Rattle.rds_said.specs.Said.{word, format_said, entry_said, list_said}
use Rattle.rds_written.specs.Trips.{unplaced_entry}
use Rattle.rds_again.proofs.Stored.{word_at}

-- entries that are the same starts aside, and in their starts, are the same
pub same_entry : (x y : Entry) → unplaced_entry x ≡ unplaced_entry y → x.start ≡ y.start → x ≡ y
same_entry x y e s = λ i. record { source = (e i).source; destination = (e i).destination; start = s i; len = (e i).len; format = (e i).format }

module _ (g h : List Entry) (alike : map unplaced_entry g ≡ map unplaced_entry h) (none : (k : ℕ) → k < 15 → (get_or g k no_entry).len ≡ 0 → (get_or g k no_entry).start ≡ 0) where
  pub entry_alike : (k : ℕ) → unplaced_entry (get_or g k no_entry) ≡ unplaced_entry (get_or h k no_entry)
  entry_alike k = sym (get_or-map unplaced_entry g k no_entry) ∙ ap (λ (l : List Entry). get_or l k no_entry) alike ∙ get_or-map unplaced_entry h k no_entry

  pub same_length : length g ≡ length h
  same_length = sym (length-map g unplaced_entry) ∙ ap length alike ∙ length-map h unplaced_entry

  -- an entry that isn't there
  pub none_there : (k : ℕ) → k < 15 → get_or h k no_entry ≡ no_entry → get_or g k no_entry ≡ no_entry
  none_there k l e =
      let a : unplaced_entry (get_or g k no_entry) ≡ no_entry = entry_alike k ∙ ap unplaced_entry e in
      same_entry (get_or g k no_entry) no_entry a (none k l (ap (λ (x : Entry). x.len) a))

  module _ (front before : List ℕ) (f24 : length front ≡ 24) (b24 : length before ≡ 24) (full : length h ≡ 15) (f : Bool) (n : ℕ) where
    abbrev there : List ℕ
    there = front ++ list_words g

    abbrev here : List ℕ
    here = before ++ list_words h

    full_there : length g ≡ 15
    full_there = same_length ∙ full

    -- the word j of the entry k, both ways
    word_there : (k j : ℕ) → k < 15 → j < 5 → word there (24 + 5 * k + j) ≡ get_or (entry_words (get_or g k no_entry)) j 0
    word_there k j l m = word_at front g f24 full_there k j l m

    word_same : (k j : ℕ) → k < 15 → j < 5 → get_or (entry_words (get_or g k no_entry)) j 0 ≡ get_or (entry_words (get_or h k no_entry)) j 0 → word there (24 + 5 * k + j) ≡ word here (24 + 5 * k + j)
    word_same k j l m e = word_there k j l m ∙ e ∙ sym (word_at before h b24 full k j l m)

    said_there : (k : ℕ) → k < 15 → (b : Bool)
        → pick b (record { source = word here (24 + 5 * k) % 16; destination = word here (24 + 5 * k + 1) % 16; start = word here (24 + 5 * k + 2); len = word here (24 + 5 * k + 3); format = format_said (word here (24 + 5 * k + 4)) f }) no_entry ≡ get_or h k no_entry
        → pick b (record { source = word there (24 + 5 * k) % 16; destination = word there (24 + 5 * k + 1) % 16; start = word there (24 + 5 * k + 2); len = word there (24 + 5 * k + 3); format = format_said (word there (24 + 5 * k + 4)) f }) no_entry ≡ get_or g k no_entry
    unfolding entry_words
    said_there k l false e = sym (none_there k l (sym e))
    said_there k l true e =
        let a = entry_alike k in
        let z : 24 + 5 * k ≡ 24 + 5 * k + 0 = omega arith in
        let w0 : word there (24 + 5 * k) ≡ word here (24 + 5 * k) = ap (word there) z ∙ word_same k 0 l (omega arith) (ap (λ (x : Entry). x.source) a) ∙ sym (ap (word here) z) in
        let w1 = word_same k 1 l (omega arith) (ap (λ (x : Entry). x.destination) a) in
        let w3 = word_same k 3 l (omega arith) (ap (λ (x : Entry). x.len) a) in
        let w4 = word_same k 4 l (omega arith) (ap (λ (x : Entry). x.format) a) in
        let r = e ∙ refl in
        λ i. record {
          source = (ap (λ (x : ℕ). x % 16) w0 ∙ ap (λ (x : Entry). x.source) r ∙ sym (ap (λ (x : Entry). x.source) a)) i;
          destination = (ap (λ (x : ℕ). x % 16) w1 ∙ ap (λ (x : Entry). x.destination) r ∙ sym (ap (λ (x : Entry). x.destination) a)) i;
          start = word_there k 2 l (omega arith) i;
          len = (w3 ∙ ap (λ (x : Entry). x.len) r ∙ sym (ap (λ (x : Entry). x.len) a)) i;
          format = (ap (λ (x : ℕ). format_said x f) w4 ∙ ap (λ (x : Entry). x.format) r ∙ sym (ap (λ (x : Entry). x.format) a)) i;
        }

    -- a list that its words say is said with its Application IDs elsewhere too
    pub list_elsewhere : list_said here f n ≡ h → list_said there f n ≡ g
    unfolding list_said entry_said
    list_elsewhere e =
        ext_get_or no_entry _ _ (length_tab (entry_said there f n) 15 0 ∙ sym full_there)
        (λ (i : ℕ) (m : i < length (tab (entry_said there f n) 15 0)).
        let l : i < 15 = omega (arith, m, length_tab (entry_said there f n) 15 0) in
        let z : 0 + i ≡ i = omega arith in
        let q : entry_said here f n i ≡ get_or h i no_entry = sym (get_tab (entry_said here f n) 15 0 i no_entry l ∙ ap (entry_said here f n) z) ∙ ap (λ (x : List Entry). get_or x i no_entry) e in
        get_tab (entry_said there f n) 15 0 i no_entry l ∙ ap (entry_said there f n) z ∙ said_there i l (ltb i n) q)
