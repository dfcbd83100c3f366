-- Each PDU that can be written reads back as itself, so no two that differ have the same octets. Assumes nothing.
use Prim.Native.Nat.{ℕ, ◌+◌, ◌-◌, ◌≤◌}
use native.Mathlib.Omega.{arith}
use borrow.Author.Tests.{eqb-true}
use mathlib.Core.Path.{◌≡◌, refl, sym, ap, ◌∙◌}
use mathlib.Core.List.{List, ◌++◌, map}
use mathlib.Core.Bool.{Bool, true, false}
use lib.ListN.{length, take, replicate}
use lib.Seq.{take_at}
use lib.Dec.{ltb, eqb}
use Rattle.base_lists.specs.Seq.{pick, part}
use Rattle.base_lists.proofs.StoresAndParts.{length_part, true_false}
use Rattle.base_numbers.specs.declared.Malformed.TheVariants.{D4, D7}
use Rattle.base_numbers.specs.declared.Malformed.{Malformed}
use Rattle.std.specs.Prelude.{Ok, Err}
use Rattle.codec_items.specs.Items.{Verdict, no_item}
use Rattle.codec_pdu.specs.Pdu.{bare_of}
use Rattle.codec_pdu.specs.declared.Pdu.{Pdu}
use Rattle.codec_reading.specs.Read.{pdu_of}
use Rattle.codec_encoding.specs.Write.{header_of_is, items_octets, items_of, octets_of, or_else, rest_fault, kind_fault, fault_of, Fit}
use Rattle.law_reads_back.specs.ReadsBack.{items_placed, item_meaning, placed, meaning_of}
use Rattle.law_reads_back.proofs.KindMoved.{kind_twice}
use Rattle.law_reads_back.proofs.ItemsBack.{length_placed}
use Rattle.law_reads_back.proofs.WouldRead.{user_fault, few_length, sound_read}
use Rattle.law_reads_back.proofs.PartsBack.{item_parts, nack_part, user_part_holds}

bad_sound : {A : Type 0} (d : Malformed) → ◌≡◌ {A = Verdict} (Err d) (Ok tt) → A
bad_sound d e = absurd cc

or_sound : (v w : Verdict) → or_else v w ≡ Ok tt → w ≡ Ok tt
or_sound (Err d) w e = bad_sound d e
or_sound (Ok tt) w e = e

few_sound : (more : Bool) (d : Malformed) (v : Verdict) → pick more (Err d) v ≡ Ok tt → (more ≡ false) × (v ≡ Ok tt)
few_sound true d v e = bad_sound d e
few_sound false d v e = (refl, e)

bare_sound : (bare none : Bool) (d : Malformed) → ◌≡◌ {A = Verdict} (pick bare (pick none (Ok tt) (Err d)) (Ok tt)) (Ok tt) → bare ≡ true → none ≡ true
bare_sound true true d e b = refl
bare_sound true false d e b = bad_sound d e
bare_sound false none d e b = true_false (sym b)

-- at most 16 items, and no user data where there may be none
pub sound_fields : (p : Pdu) → fault_of p ≡ Ok tt → (ltb 16 p.count ≡ false) × (bare_of p.kind ≡ true → p.len ≡ 0)
unfolding fault_of rest_fault
sound_fields p e =
    let few = few_sound (ltb 16 p.count) D4 (user_fault p) (or_sound (kind_fault p.kind) (rest_fault p) e) in
    (few.0, λ b. eqb-true p.len 0 (bare_sound (bare_of p.kind) (eqb p.len 0) D7 few.1 b))

meaning_placed : (s : List ℕ) (p : Pdu) → Fit s p → fault_of p ≡ Ok tt → meaning_of (octets_of s p) (placed s p) ≡ meaning_of s p
unfolding octets_of placed meaning_of
meaning_placed s p fits sound =
    let header : List ℕ = header_of_is s (ltb 0 p.count) p.kind p.tid in
    let x : List ℕ = items_octets s (ltb 16 p.count) (items_of p) in
    let user : List ℕ = part s p.start p.len in
    let o : List ℕ = header ++ (x ++ user) in
    let items_are : take p.count (items_placed (length header) (items_of p) ++ replicate (16 - p.count) no_item) ≡ items_placed (length header) (items_of p) =
    take_at (items_placed (length header) (items_of p)) _ p.count (length_placed (length header) (items_of p) ∙ few_length s p fits (sound_fields p sound).0) in
    let items_same = ap (map (item_meaning o)) items_are ∙ item_parts s (ltb 16 p.count) (items_of p) header user fits.items_fit in
    λ i. record {
      kind = kind_twice p.kind 0 4 i;
      tid = p.tid;
      nacks = nack_part s (ltb 0 p.count) p.kind p.tid (x ++ user) fits.kind_fits i;
      items = items_same i;
      user = user_same header x (bare_of p.kind) refl i;
    }
  where
    user_same : (header x : List ℕ) (b : Bool) → bare_of p.kind ≡ b
        → part (header ++ (x ++ part s p.start p.len)) (pick b 0 (length header + length x)) p.len ≡ part s p.start p.len
    user_same header x true b = let z : p.len ≡ 0 = (sound_fields p sound).1 b in rw z
    user_same header x false b = user_part_holds header x (part s p.start p.len) p.len (length_part s p.start p.len fits.user_fits)

pub reads_itself : (s : List ℕ) (p : Pdu) → Fit s p → fault_of p ≡ Ok tt → length (octets_of s p) ≤ 1500 → meaning_of (octets_of s p) (pdu_of (octets_of s p)) ≡ meaning_of s p
reads_itself s p fits sound h = ap (meaning_of (octets_of s p)) (sound_read s p fits sound h) ∙ meaning_placed s p fits sound

pub one_reading : (s : List ℕ) (p : Pdu) (s₂ : List ℕ) (q : Pdu) → Fit s p → Fit s₂ q → fault_of p ≡ Ok tt → fault_of q ≡ Ok tt → length (octets_of s p) ≤ 1500
    → octets_of s p ≡ octets_of s₂ q → meaning_of s p ≡ meaning_of s₂ q
one_reading s p s₂ q fits fits₂ sound sound₂ h e =
    sym (reads_itself s p fits sound h) ∙ ap (λ (o : List ℕ). meaning_of o (pdu_of o)) e ∙ reads_itself s₂ q fits₂ sound₂ (omega (arith, ap length e))
