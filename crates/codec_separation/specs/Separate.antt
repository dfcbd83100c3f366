-- Separating a datagram (01, "Concatenation (8.5)").
use Rattle.std.specs.Prelude.{ℕ, zero, suc, ◌+◌, ◌-◌, ◌*◌, ◌%◌, List, [], ◌∷◌, length, get_or, ltb, leb, eqb, Option, Some, None, Result, Ok, Err}
use Rattle.base_layout.specs.Layout.{datagram_bound}
use Rattle.base_lists.specs.Seq.{pick, part}
use Rattle.base_numbers.specs.declared.Refusal.{Refusal}
use Rattle.base_numbers.specs.declared.Refusal.TheVariants.{WrongLength}
use Rattle.codec_pdu.specs.Pdu.{blank_pdu}
use Rattle.codec_pdu.specs.declared.Kind.TheVariants.{Refused}
use Rattle.codec_pdu.specs.declared.Pdu.{Pdu}
use Rattle.codec_reading.specs.Read.{pdu_of}
use Rattle.codec_separation.specs.declared.Part.{Part}
use Rattle.codec_separation.specs.declared.Parts.{Parts}

-- the parts of a datagram, in order; or 11 for the whole datagram
pub data Split : Type 0 where
  refused : Split
  parts : List Part → Split

-- 01: "Zero length, an overrun .. gives 11": else the part of len octets from start
unfoldable pub part_of : List ℕ → ℕ → ℕ → Option Part
part_of d start len = pick (eqb len 0) None (pick (leb len (length d - start)) (Some (record { start = start; len = len })) None)

-- 01: "Length is 7 bits, or 15 after a leading 1. A reader takes either form": the length at `at` and the part "that begins after its length"
unfoldable pub part_at : List ℕ → ℕ → Option Part
part_at d at =
    pick (ltb (get_or d at 0) 128) (part_of d (at + 1) (get_or d at 0))
    (pick (leb (length d) (at + 1)) None
    (part_of d (at + 1 + 1) (get_or d at 0 % 128 * 256 + get_or d (at + 1) 0)))

-- a part before the others
abbrev pub before : Part → Split → Split
before p refused = refused
before p (parts ps) = parts (p ∷ ps)

-- what is found at a place, and then the rest from the place after it
abbrev pub and_then : (ℕ → Split) → Option Part → Split
and_then rest None = refused
and_then rest (Some p) = before p (rest (p.start + p.len))

-- 01: "a length and a PDU, repeated", from `at` to the end; each takes an octet or more, so as many turns as octets are enough
unfoldable pub parts_from : ℕ → List ℕ → ℕ → Split
parts_from zero d at = parts []
parts_from (suc turns) d at = pick (ltb at (length d)) (and_then (parts_from turns d) (part_at d at)) (parts [])

-- all of it
abbrev pub whole : List ℕ → Part
whole d = record { start = 0; len = length d }

-- 01: "octet 0, then a length and a PDU, repeated"; "A datagram that doesn't begin with octet 0 is one PDU"; no PDU, or a length outside 1 to 1,500, gives 11
unfoldable pub parts_of : List ℕ → Split
parts_of d =
    pick (eqb (length d) 0) refused
    (pick (ltb datagram_bound (length d)) refused
    (pick (eqb (get_or d 0 0) 0)
    (pick (eqb (length d) 1) refused (parts_from (length d) d 1))
    (parts (whole d ∷ []))))

-- where there is no part
abbrev pub no_part : Part
no_part = record { start = 0; len = 0 }

-- how many parts there are, and the k-th of them (0 is the first); or number 11
abbrev pub answer_at : Split → ℕ → Result Parts Refusal
answer_at refused k = Err WrongLength
answer_at (parts ps) k = Ok (record { count = length ps; part = get_or ps k no_part })

-- 01: "Each PDU is handed on as the part of the datagram that begins after its length": what the reader says of it
unfoldable pub pdu_at : List ℕ → Result Parts Refusal → Pdu
pdu_at d (Err r) = blank_pdu (Refused r)
pdu_at d (Ok seen) = pdu_of (part d seen.part.start seen.part.len)
