-- What the parts of a datagram are to it and to each other.
use Rattle.std.specs.Prelude.{ℕ, ◌+◌, ◌<◌, ◌≤◌, ◌≡◌, List, [], ◌∷◌, length}
use Rattle.codec_separation.specs.declared.Part.{Part}
use Rattle.codec_separation.specs.Faults.{Announced}

-- 01: "a length and a PDU, repeated": from `at` to the end of d there is nothing but these parts, each right after the length that announces it
abbrev pub Repeated : List ℕ → ℕ → List Part → Type 0
Repeated d at [] = at ≡ length d
Repeated d at (p ∷ ps) = Announced d at p.start p.len × (1 ≤ p.len) × (p.start + p.len ≤ length d) × Repeated d (p.start + p.len) ps

-- the first of these parts begins past `end`, where the one before them ends
abbrev pub Follows : ℕ → List Part → Type 0
Follows end [] = Unit
Follows end (p ∷ ps) = end < p.start

-- each part has an octet or more and lies within d, and the parts are in order and share nothing
abbrev pub InOrder : List ℕ → List Part → Type 0
InOrder d [] = Unit
InOrder d (p ∷ ps) = (1 ≤ p.len) × (p.start + p.len ≤ length d) × Follows (p.start + p.len) ps × InOrder d ps
