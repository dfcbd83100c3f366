-- The PDUs that stand from a place of a datagram on, as octets. Assumes nothing.
use Prim.Native.Nat.{ℕ, ◌+◌, ◌<◌, ◌≤◌}
use native.Mathlib.Omega.{arith}
use mathlib.Core.Path.{◌≡◌, refl, ◌∙◌}
use mathlib.Core.List.{List, [], ◌∷◌}
use lib.ListN.{length, get_or}
use Rattle.base_lists.specs.Seq.{part}
use Rattle.codec_separation.specs.Separate.{parts}
use Rattle.codec_separation.specs.declared.Part.{Part}
use Rattle.codec_separation.specs.Faults.{Announced}
use Rattle.codec_separation.proofs.Looks.{announced_at, found_there}
use Rattle.codec_separation.proofs.Steps.{from, from_end, from_step}
use Rattle.codec_separation.proofs.Ways.{listed_parts}
use Rattle.law_datagrams.specs.Pdus.{octets_of, Separates}

pub record Holds (d : List ℕ) (at : ℕ) (pdus : List (List ℕ)) : Type 0 where
  pub places : List Part
  pub found : from d at ≡ parts places
  pub octets : octets_of d places ≡ pdus

module _ (d : List ℕ) (at : ℕ) where
  pub holds_none : length d ≤ at → Holds d at []
  holds_none h = record { places = []; found = from_end d at h; octets = refl }

  pub holds_more : (s l : ℕ) (pdu : List ℕ) (pdus : List (List ℕ)) → Announced d at s l → 1 ≤ l → s + l ≤ length d → part d s l ≡ pdu → Holds d (s + l) pdus → Holds d at (pdu ∷ pdus)
  holds_more s l pdu pdus a h f e v = record {
    places = record { start = s; len = l } ∷ v.places;
    found = from_step d at (omega (arith, announced_at a)) ∙ rw (found_there a h f, v.found);
    octets = rw (e, v.octets);
  }

pub holds_separates : (d : List ℕ) (pdus : List (List ℕ)) → 1 < length d → length d ≤ 1500 → get_or d 0 0 ≡ 0 → Holds d 1 pdus → Separates d pdus
holds_separates d pdus a b z v = record { places = v.places; found = listed_parts d a b z ∙ v.found; octets = v.octets }
