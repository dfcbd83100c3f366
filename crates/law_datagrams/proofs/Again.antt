-- Separated, joined and separated again, PDUs are as they were. Assumes nothing.
use Prim.Native.Nat.{ℕ, ◌+◌, ◌*◌, ◌%◌, ◌<◌, ◌≤◌}
use native.Mathlib.Omega.{arith}
use mathlib.Core.Path.{◌≡◌, refl, ap, ◌∙◌}
use mathlib.Core.List.{List, [], ◌∷◌, map, flatten}
use mathlib.Core.Bool.{true}
use lib.ListN.{length, get_or, length-append}
use lib.Seq.{take-append_seam, drop-append_seam}
use Rattle.base_lists.proofs.StoresAndParts.{length_part}
use Rattle.codec_separation.specs.declared.Part.{Part}
use Rattle.codec_separation.specs.Faults.{Announced, seven, fifteen}
use Rattle.codec_separation.proofs.Ordered.{kinds}
use Rattle.codec_separation.specs.Order.{Repeated}
use Rattle.codec_joining.specs.Join.{length_octets, joined_octets, each_in_range, sum, joinable}
use Rattle.codec_joining.proofs.Octets.{one_octet, at_most_two}
use Rattle.codec_joining.specs.Joinable.{size, Joinable}
use Rattle.codec_joining.proofs.Sizes.{range_rest, facts_joinable}
use Rattle.law_datagrams.specs.Pdus.{octets_of, Separates, cut}
use Rattle.law_datagrams.proofs.Joined.{joined_separated}

cut_flatten : (pdus : List (List ℕ)) → cut (flatten pdus) (map length pdus) ≡ pdus
unfolding cut flatten
cut_flatten [] = refl
cut_flatten (p ∷ ps) = rw (take-append_seam p (flatten ps), drop-append_seam p (flatten ps), cut_flatten ps)

sum_flatten : (pdus : List (List ℕ)) → sum (map length pdus) ≡ length (flatten pdus)
unfolding sum flatten
sum_flatten [] = refl
sum_flatten (p ∷ ps) = rw (length-append p (flatten ps), sum_flatten ps)

-- law: PDUs that the joiner accepts, those of a datagram too, are the same when joined and separated
pub joined_again : (pdus : List (List ℕ)) → joinable (flatten pdus) (map length pdus) ≡ true → Separates (joined_octets (flatten pdus) (map length pdus)) pdus
joined_again pdus e = rw (cut_flatten pdus) at (joined_separated (flatten pdus) (map length pdus) e)

-- a length of a datagram takes no fewer octets than the writer's
no_shorter : {d : List ℕ} {at s l : ℕ} → Announced d at s l → at + length (length_octets l) ≤ s
no_shorter {d} {at} (seven a h) = omega (arith, ap length (one_octet (get_or d at 0) (omega arith)))
no_shorter {d} {at} (fifteen a h) = omega (arith, at_most_two (get_or d at 0 % 128 * 256 + get_or d (at + 1) 0))

abbrev lengths_of : List ℕ → List Part → List ℕ
lengths_of d ps = map length (octets_of d ps)

-- the PDUs from a place on, joined, take no more octets than they do there
record Small (d : List ℕ) (at : ℕ) (ps : List Part) : Type 0 where
  room : at + size (lengths_of d ps) ≤ length d
  each : each_in_range (lengths_of d ps) ≡ true

module _ (d : List ℕ) (bound : length d ≤ 1500) where
  small : (ps : List Part) (at : ℕ) → Repeated d at ps → Small d at ps
  unfolding each_in_range
  small [] at r = record { room = omega arith; each = refl }
  small (p ∷ ps) at r =
      let rest = small ps (p.start + p.len) r.3 in
      let n = length_part d p.start p.len r.2 in
      record {
        room = rw n (omega (arith, no_shorter r.0, rest.room));
        each = rw n (range_rest p.len (lengths_of d ps) r.1 (omega (arith, r.2)) ∙ rest.each);
      }

  small_joinable : (ps : List Part) → 1 < length d → Repeated d 1 ps → Joinable (flatten (octets_of d ps)) (lengths_of d ps)
  small_joinable [] h r = absurd (omega arith)
  small_joinable (p ∷ ps) h r =
      let m = small (p ∷ ps) 1 r in
      record { some = omega arith; each = m.each; adds = sum_flatten (octets_of d (p ∷ ps)); short = omega (arith, m.room) }

-- law: the PDUs of a datagram that begins with octet 0 are accepted by the joiner, and the joined datagram separates into them again
pub separated_joined : (d : List ℕ) (pdus : List (List ℕ)) → get_or d 0 0 ≡ 0 → Separates d pdus
    → (joinable (flatten pdus) (map length pdus) ≡ true) × Separates (joined_octets (flatten pdus) (map length pdus)) pdus
separated_joined d pdus z v = (accepts, joined_again pdus accepts)
  where
    accepts : joinable (flatten pdus) (map length pdus) ≡ true
    accepts = rw (← v.octets)
        (facts_joinable _ _ (kinds d v.places v.found (λ h n q. absurd (n z)) (λ h b r. small_joinable d b v.places h r)))
