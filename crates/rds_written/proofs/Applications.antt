-- An Application ID is found whatever follows it, and so is an entry. Assumes nothing.
use Prim.Native.Nat.{ℕ, suc, ◌+◌, ◌/◌, ◌%◌, ◌≤◌, ◌<◌}
use native.Mathlib.Omega.{arith}
use mathlib.Core.Path.{◌≡◌, refl, sym, ap, ◌∙◌}
use mathlib.Core.List.{List, [], ◌∷◌, ◌++◌, append-nil, append_assoc}
use mathlib.Core.Bool.{Bool, true, false}
use lib.ListN.{length, get_or, length-append, get_or-append}
use lib.Seq.{get_or_at}
use lib.Dec.{ltb}
use borrow.Author.Tests.{ltb-false, le-ltb, lt-leb, ne_eqb}
use Rattle.base_lists.specs.Seq.{pick, bit, part}
use Rattle.base_lists.proofs.StoresAndParts.{length_part}
use Rattle.rds_entries.specs.declared.Entry.{Entry}
use Rattle.rds_entries.specs.Entries.{one, application_length, entry_at}
use Rattle.rds_pieces.specs.Octets.{ports_octet}
use Rattle.rds_encoding.specs.Encoding.{entry_octets}
use Rattle.rds_written.proofs.Narrow.{NarrowEntry}

-- an Application ID is as long before b as alone
pub application_before : (a b : List ℕ) (n : ℕ) → application_length a ≡ n → (n ≡ 0 → ⊥) → application_length (a ++ b) ≡ n
unfolding application_length
application_before a b n e some = go (ltb (length a) 17) refl (ltb (length a) (17 + get_or a 16 0)) refl e where
  go : (x : Bool) → ltb (length a) 17 ≡ x → (y : Bool) → ltb (length a) (17 + get_or a 16 0) ≡ y → pick x 0 (pick y 0 (17 + get_or a 16 0)) ≡ n
      → pick (ltb (length (a ++ b)) 17) 0 (pick (ltb (length (a ++ b)) (17 + get_or (a ++ b) 16 0)) 0 (17 + get_or (a ++ b) 16 0)) ≡ n
  go true p y q e = absurd (some (sym e))
  go false p true q e = absurd (some (sym e))
  go false p false q e =
      let long : 17 ≤ length a = ltb-false (length a) 17 p in
      let full : 17 + get_or a 16 0 ≤ length a = ltb-false (length a) (17 + get_or a 16 0) q in
      let same : get_or (a ++ b) 16 0 ≡ get_or a 16 0 = get_or-append a b 0 16 (omega (arith, long)) in
      let l : 17 ≤ length (a ++ b) = omega (arith, length-append a b, long) in
      let m : 17 + get_or (a ++ b) 16 0 ≤ length (a ++ b) = omega (arith, length-append a b, full, same) in
      rw (le-ltb _ _ l, le-ltb _ _ m) (ap (λ (x : ℕ). 17 + x) same ∙ e)

module _ (s : List ℕ) where
  -- an entry as it is told where it stands at the place `at`
  abbrev pub moved : ℕ → Entry → Entry
  moved at e = record { source = e.source; destination = e.destination; start = at + 1; len = e.len; format = e.format }

  module _ (e : Entry) (at : ℕ) (rest : List ℕ) where
    abbrev p : ℕ
    p = ports_octet e.source e.destination

    abbrev P : List ℕ
    P = part s e.start e.len

    -- with a format
    with_format : NarrowEntry s true e → entry_at (p ∷ (P ++ (e.format % 8 ∷ rest))) at true ≡ one (moved at e) (1 + e.len + 1)
    unfolding entry_at
    with_format n =
        let some : suc (length (P ++ (e.format % 8 ∷ rest))) ≡ 0 → ⊥ = λ h. omega arith in
        let l : length P ≡ e.len = length_part s e.start e.len n.application.ends in
        let a : application_length (P ++ (e.format % 8 ∷ rest)) ≡ e.len = application_before P (e.format % 8 ∷ rest) e.len n.application.whole n.application.some in
        let long : 1 + e.len < suc (length (P ++ (e.format % 8 ∷ rest))) = omega (arith, length-append P (e.format % 8 ∷ rest), l) in
        let g : get_or (p ∷ (P ++ (e.format % 8 ∷ rest))) (1 + e.len) 0 ≡ e.format % 8 = get_or_at (p ∷ P) (e.format % 8) rest 0 (1 + e.len) (omega (arith, l)) in
        let from : p / 16 ≡ e.source = omega (arith, n.source_narrow, n.destination_narrow) in
        let to : p % 16 ≡ e.destination = omega (arith, n.source_narrow, n.destination_narrow) in
        let f : get_or (p ∷ (P ++ (e.format % 8 ∷ rest))) (1 + e.len) 0 % 8 ≡ e.format = ap (λ (x : ℕ). x % 8) g ∙ omega (arith, n.format_narrow) in
        rw (ne_eqb _ _ some, a, ne_eqb _ _ n.application.some, lt-leb _ _ long)
        (λ i. one (record { source = from i; destination = to i; start = at + 1; len = e.len; format = f i }) (1 + e.len + 1))

    without_format : NarrowEntry s false e → entry_at (p ∷ (P ++ rest)) at false ≡ one (moved at e) (1 + e.len)
    unfolding entry_at
    without_format n =
        let some : suc (length (P ++ rest)) ≡ 0 → ⊥ = λ h. omega arith in
        let a : application_length (P ++ rest) ≡ e.len = application_before P rest e.len n.application.whole n.application.some in
        let from : p / 16 ≡ e.source = omega (arith, n.source_narrow, n.destination_narrow) in
        let to : p % 16 ≡ e.destination = omega (arith, n.source_narrow, n.destination_narrow) in
        rw (ne_eqb _ _ some, a, ne_eqb _ _ n.application.some)
        (λ i. one (record { source = from i; destination = to i; start = at + 1; len = e.len; format = sym (n.no_format refl) i }) (1 + e.len))

    -- the entry that is written, before the rest
    pub entry_again : (f : Bool) → NarrowEntry s f e → entry_at (entry_octets s f e ++ rest) at f ≡ one (moved at e) (1 + e.len + bit f)
    unfolding entry_octets
    entry_again true n = ap (λ (x : List ℕ). entry_at (p ∷ x) at true) (append_assoc P (e.format % 8 ∷ []) rest) ∙ with_format n
    entry_again false n =
        let z : 1 + e.len ≡ 1 + e.len + 0 = omega arith in
        ap (λ (x : List ℕ). entry_at (p ∷ (x ++ rest)) at false) (append-nil P) ∙ without_format n ∙ ap (one (moved at e)) z
