-- A list, as it is written, reads as itself. Assumes nothing.
use Prim.Native.Nat.{ℕ, suc, ◌+◌, ◌-◌, ◌*◌, ◌/◌, ◌%◌, ◌≤◌, ◌<◌}
use native.Mathlib.Omega.{arith}
use mathlib.Core.Path.{◌≡◌, refl, ap, ◌∙◌}
use mathlib.Core.List.{List, ◌∷◌, ◌++◌}
use Rattle.std.specs.Prelude.{Option, Some, None, is_some}
use Rattle.std.specs.Option.{unwrap_or}
use mathlib.Core.Bool.{Bool, true, false}
use lib.ListN.{length, get_or, take, drop, replicate}
use lib.Seq.{drop_at}
use lib.Dec.{ltb}
use borrow.Author.Tests.{lt-ltb}
use Rattle.base_lists.specs.Seq.{pick, bit}
use Rattle.base_lists.proofs.StoresAndParts.{length_tab, get_tab}
use Rattle.rds_entries.specs.declared.Entry.{Entry}
use Rattle.rds_entries.specs.declared.Entries.{Entries}
use Rattle.rds_entries.specs.Entries.{no_entry, walk_from}
use Rattle.rds_body.specs.declared.Body.TheVariants as B
use Rattle.rds_body.specs.declared.Form.TheVariants as F
use Rattle.rds_body.specs.Body.{form_of, optional_of, list_by, list_after, list_of, managed_of}
use Rattle.rds_size.specs.Size.{is_application, entry_size, entries_size}
use Rattle.rds_size.proofs.SizeTests.{Application, application}
use Rattle.rds_pieces.specs.Octets.{bitmap_octets, list_pieces}
use Rattle.rds_encoding.specs.Encoding.{entries_octets, pieces_octets}
use Rattle.rds_encoding.proofs.Lengths.{next_size}
use Rattle.rds_said.specs.Said.{word, format_said, entry_said, list_said}
use Rattle.rds_written.proofs.Narrow.{NarrowEntry}
use Rattle.rds_written.proofs.Walk.{AllNarrow, walked, walk_again}
use Rattle.rds_written.proofs.Lists.{told, length_first, said_at}
use Rattle.rds_written.proofs.Forms.{Bitmap, by_form, bitmap_again}

-- an entry no longer than an information field has an Application ID
held : (s : List ℕ) (f : Bool) (e : Entry) → entry_size s f e ≤ 1520 → Application s e.start e.len
unfolding entry_size
held s f e = go (is_application s e.start e.len) refl where
  go : (b : Bool) → is_application s e.start e.len ≡ b → pick b (pick f (1 + e.len + 1) (1 + e.len)) 1521 ≤ 1520 → Application s e.start e.len
  go true p h = application s e.start e.len p
  go false p h = absurd (omega (arith, h))

-- formats that words say
pub format_narrow : (x : ℕ) (f : Bool) → format_said x f < 8
unfolding format_said
format_narrow x true = omega arith
format_narrow x false = omega arith

pub no_format : (x : ℕ) (f : Bool) → f ≡ false → format_said x f ≡ 0
unfolding format_said
no_format x f e = rw e refl

module _ (w s : List ℕ) (f : Bool) (n : ℕ) (n15 : n ≤ 15) where
  -- an entry that words say, and whose Application ID is there
  narrow_said : (i : ℕ) → i < n → Application s (entry_said w f n i).start (entry_said w f n i).len → NarrowEntry s f (entry_said w f n i)
  unfolding entry_said
  narrow_said i h = go (ltb i n) (lt-ltb i n h) where
    go : (b : Bool) → b ≡ true
        → (let e : Entry = pick b (record { source = word w (24 + 5 * i) % 16; destination = word w (24 + 5 * i + 1) % 16; start = word w (24 + 5 * i + 2); len = word w (24 + 5 * i + 3); format = format_said (word w (24 + 5 * i + 4)) f }) no_entry in
        Application s e.start e.len → NarrowEntry s f e)
    go true q a = record { source_narrow = omega arith; destination_narrow = omega arith; format_narrow = format_narrow (word w (24 + 5 * i + 4)) f; no_format = no_format (word w (24 + 5 * i + 4)) f; application = a }
    go false q a = record { source_narrow = omega arith; destination_narrow = omega arith; format_narrow = omega arith; no_format = λ e. refl; application = a }

  said_in : (i : ℕ) → i < n → get_or (list_said w f n) i no_entry ≡ entry_said w f n i
  unfolding list_said
  said_in i h = let z : 0 + i ≡ i = omega arith in get_tab (entry_said w f n) 15 0 i no_entry (omega (arith, h, n15)) ∙ ap (entry_said w f n) z

  length_said_holds : length (list_said w f n) ≡ 15
  unfolding list_said
  length_said_holds = length_tab (entry_said w f n) 15 0

  pub all_narrow : entries_size s f (list_said w f n) n ≤ 1520 → AllNarrow s f (take n (list_said w f n))
  all_narrow fits i h =
      let below : i < n = omega (arith, h, length_first w f n n15) in
      let small = next_size s f (list_said w f n) n fits (omega (arith, length_said_holds, n15)) i below in
      let a = held s f (get_or (list_said w f n) i no_entry) (omega (arith, small, fits)) in
      rw (said_at w f n n15 i below) (narrow_said i below (rw (said_in i below) at a))

module _ (w s : List ℕ) (a n : ℕ) (ha : a < 16) (n15 : n ≤ 15) (at : ℕ) (narrow : AllNarrow s (ltb 5 a) (take n (list_said w (ltb 5 a) n))) where
  abbrev E : List Entry
  E = take n (list_said w (ltb 5 a) n)

  abbrev O : List ℕ
  O = entries_octets s (ltb 5 a) E

  abbrev x : ℕ
  x = n % 16 * 16 + a % 16

  abbrev W : Entries
  W = record { end = at + 1 + length O; list = told w (ltb 5 a) n n15 s (at + 1) }

  number : x / 16 ≡ n
  number = omega (arith, n15, ha)

  walk_found : (T : List ℕ) → walk_from (x / 16) 0 (ltb 5 a) (at + 1) (O ++ T) (replicate 15 no_entry) ≡ Some W
  unfolding walked
  walk_found T =
      let l : x / 16 ≡ length E = omega (arith, number, length_first w (ltb 5 a) n n15) in
      ap (λ (k : ℕ). walk_from k 0 (ltb 5 a) (at + 1) (O ++ T) (replicate 15 no_entry)) l ∙ walk_again s (ltb 5 a) E narrow T 0 (at + 1) (replicate 15 no_entry)

  list_found : (T : List ℕ) → list_of (x ∷ (O ++ T)) at a ≡ list_by a n W.list (optional_of T)
  unfolding list_of
  list_found T =
      let e : at + 1 + length O - at ≡ suc (length O) = omega arith in
      let d : drop (at + 1 + length O - at) (x ∷ (O ++ T)) ≡ T = ap (λ (k : ℕ). drop k (x ∷ (O ++ T))) e ∙ drop_at O T (length O) refl in
      ap (list_after (x ∷ (O ++ T)) at a) (walk_found T) ∙ (λ i. list_by a (number i) W.list (optional_of (d i)))

  -- the list that is written
  pub list_again : (response : Bool) (p : Option ℕ) → Bitmap p → form_of a response ≡ Some F.List
      → managed_of (pieces_octets s (list_said w (ltb 5 a) n) (list_pieces a p n)) at response ≡ Some (record { body = B.List a p n; list = told w (ltb 5 a) n n15 s (at + 1) })
  unfolding list_pieces pieces_octets optional_of
  list_again response p even form =
      let z : n % 16 ≡ n = omega (arith, n15) in
      let act : x % 16 ≡ a = omega (arith, ha) in
      let T : List ℕ = take (2 * bit (is_some p)) (bitmap_octets (unwrap_or p 0)) in
      ap (λ (k : ℕ). managed_of (x ∷ (entries_octets s (ltb 5 a) (take k (list_said w (ltb 5 a) n)) ++ T)) at response) z
      ∙ by_form (x ∷ (O ++ T)) at response a F.List (λ h. omega arith) act form
      ∙ list_found T
      ∙ last p even where
        last : (p : Option ℕ) → Bitmap p → list_by a n W.list (optional_of (take (2 * bit (is_some p)) (bitmap_octets (unwrap_or p 0)))) ≡ Some (record { body = B.List a p n; list = told w (ltb 5 a) n n15 s (at + 1) })
        last (Some p) even = λ i. Some (record { body = B.List a (Some (bitmap_again p (p / 2) even.0 even.1 i)) n; list = told w (ltb 5 a) n n15 s (at + 1) })
        last None even = refl
