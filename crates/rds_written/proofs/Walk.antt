-- The entries that are written are walked over, whatever follows them. Assumes nothing.
use Prim.Native.Nat.{ℕ, suc, ◌+◌, ◌%◌, ◌<◌}
use native.Mathlib.Omega.{arith}
use mathlib.Core.Path.{◌≡◌, refl, ap, ◌∙◌}
use mathlib.Core.List.{List, [], ◌∷◌, ◌++◌, append_assoc}
use Rattle.std.specs.Prelude.{Some}
use mathlib.Core.Bool.{Bool, true, false}
use lib.ListN.{length, get_or, take, drop, set, length-append}
use lib.Seq.{sets, drop_at}
use Rattle.base_lists.specs.Seq.{bit, part}
use Rattle.base_lists.proofs.StoresAndParts.{length_part}
use Rattle.rds_entries.specs.declared.Entry.{Entry}
use Rattle.rds_entries.specs.declared.Entries.{Entries}
use Rattle.rds_entries.specs.Entries.{no_entry, entry_at, after_entry, walk_from}
use Rattle.rds_encoding.specs.Encoding.{entry_octets, entries_octets}
use Rattle.rds_written.proofs.Narrow.{NarrowEntry}
use Rattle.rds_written.proofs.Applications.{moved, entry_again}

module _ (s : List ℕ) (f : Bool) where
  pub length_entry : (e : Entry) → NarrowEntry s f e → length (entry_octets s f e) ≡ 1 + e.len + bit f
  unfolding entry_octets
  length_entry e n = omega (arith, length-append (part s e.start e.len) (take (bit f) (e.format % 8 ∷ [])), length_part s e.start e.len n.application.ends, length_flag f) where
    length_flag : (b : Bool) → length (take (bit b) (e.format % 8 ∷ [])) ≡ bit b
    length_flag true = refl
    length_flag false = refl

  -- the entries as they are told where the first of them stands at the place `at`
  unfoldable pub movedFrom : ℕ → List Entry → List Entry
  movedFrom at [] = []
  movedFrom at (e ∷ l) = moved s at e ∷ movedFrom (at + (1 + e.len + bit f)) l

  pub length_moved : (at : ℕ) (l : List Entry) → length (movedFrom at l) ≡ length l
  unfolding movedFrom
  length_moved at [] = refl
  length_moved at (e ∷ l) = ap suc (length_moved (at + (1 + e.len + bit f)) l)

  -- every entry of a list can be written
  abbrev pub AllNarrow : List Entry → Type 0
  AllNarrow l = (i : ℕ) → i < length l → NarrowEntry s f (get_or l i no_entry)

  -- the walk over k entries and more
  unfoldable pub walked : ℕ → ℕ → List Entry → List Entry → Entries
  walked k at l read = record { end = at + length (entries_octets s f l); list = sets read k (movedFrom at l) }

  pub walk_again : (l : List Entry) → AllNarrow l → (rest : List ℕ) (k at : ℕ) (read : List Entry) → walk_from (length l) k f at (entries_octets s f l ++ rest) read ≡ Some (walked k at l read)
  unfolding walk_from walked entries_octets movedFrom
  walk_again [] n rest k at read =
      let z : at ≡ at + 0 = omega arith in
      λ i. Some (record { end = z i; list = read })
  walk_again (e ∷ l) n rest k at read =
      let m : NarrowEntry s f e = n 0 (omega arith) in
      let size : ℕ = 1 + e.len + bit f in
      let le : length (entry_octets s f e) ≡ size = length_entry e m in
      let split : (entry_octets s f e ++ entries_octets s f l) ++ rest ≡ entry_octets s f e ++ (entries_octets s f l ++ rest) = append_assoc (entry_octets s f e) (entries_octets s f l) rest in
      let d : drop size (entry_octets s f e ++ (entries_octets s f l ++ rest)) ≡ entries_octets s f l ++ rest = drop_at (entry_octets s f e) (entries_octets s f l ++ rest) size le in
      let z : at + size + length (entries_octets s f l) ≡ at + length (entry_octets s f e ++ entries_octets s f l) = omega (arith, length-append (entry_octets s f e) (entries_octets s f l), le) in
      let next : k + 1 ≡ suc k = omega arith in
      ap (λ (x : List ℕ). after_entry (λ j. walk_from (length l) j f) k at x read (entry_at x at f)) split
      ∙ rw (entry_again s e at (entries_octets s f l ++ rest) f m, d) (walk_again l (λ i h. n (suc i) (omega (arith, h))) rest (k + 1) (at + size) (set read k (moved s at e)) ∙ (λ i. Some (record { end = z i; list = sets (set read k (moved s at e)) (next i) (movedFrom (at + size) l) })))
