-- The PDUs of a datagram as octets.
use Rattle.std.specs.Prelude.{ℕ, ◌≡◌, List, [], ◌∷◌, map, take, drop}
use Rattle.base_lists.specs.Seq.{part}
use Rattle.codec_separation.specs.Separate.{parts, parts_of}
use Rattle.codec_separation.specs.declared.Part.{Part}

-- the octets of the parts of d
abbrev pub octets_of : List ℕ → List Part → List (List ℕ)
octets_of d ps = map (λ (p : Part). part d p.start p.len) ps

-- d separates into these PDUs
pub record Separates (d : List ℕ) (pdus : List (List ℕ)) : Type 0 where
  pub places : List Part
  pub found : parts_of d ≡ parts places
  pub octets : octets_of d places ≡ pdus

-- bytes cut into PDUs of these lengths
unfoldable pub cut : List ℕ → List ℕ → List (List ℕ)
cut bytes [] = []
cut bytes (n ∷ ns) = take n bytes ∷ cut (drop n bytes) ns
