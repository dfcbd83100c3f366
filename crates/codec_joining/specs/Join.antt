-- Joining PDUs (01, "Concatenation (8.5)"): bytes holds them one after the other, lengths says how long each is.
use Rattle.std.specs.Prelude.{ℕ, ◌+◌, ◌/◌, ◌%◌, List, [], ◌∷◌, ◌++◌, Bool, true, false, length, take, drop, ltb, leb, eqb, Result, Ok, Err}
use Rattle.base_layout.specs.Layout.{datagram_bound}
use Rattle.base_lists.specs.Seq.{pick, put}
use Rattle.base_numbers.specs.declared.Refusal.{Refusal}
use Rattle.base_numbers.specs.declared.Refusal.TheVariants.{WrongSize, WrongLength}

-- 01: "Length is 7 bits, or 15 after a leading 1 .. a writer uses 7 bits to 127"
unfoldable pub length_octets : ℕ → List ℕ
length_octets n = pick (leb n 127) (n ∷ []) ((128 + n / 256) ∷ n % 256 ∷ [])

-- 01: "a length and a PDU, repeated"
unfoldable pub listed : List ℕ → List ℕ → List ℕ
listed bytes [] = []
listed bytes (n ∷ ns) = length_octets n ++ (take n bytes ++ listed (drop n bytes) ns)

-- 01: "octet 0, then a length and a PDU, repeated", "octet 0 even for one PDU"
abbrev pub joined_octets : List ℕ → List ℕ → List ℕ
joined_octets bytes lengths = 0 ∷ listed bytes lengths

-- 01, number 11: whether no PDU's length is "outside 1 to 1,500"
unfoldable pub each_in_range : List ℕ → Bool
each_in_range [] = true
each_in_range (n ∷ ns) = pick (leb 1 n) (pick (leb n datagram_bound) (each_in_range ns) false) false

-- the lengths together
unfoldable pub sum : List ℕ → ℕ
sum [] = 0
sum (n ∷ ns) = n + sum ns

-- 01, number 11 otherwise: there is a PDU, all are in range, lent whole, and the datagram to be written is too
unfoldable pub joinable : List ℕ → List ℕ → Bool
joinable bytes lengths =
    pick (eqb (length lengths) 0) false
    (pick (each_in_range lengths)
    (pick (eqb (sum lengths) (length bytes)) (leb (length (joined_octets bytes lengths)) datagram_bound) false)
    false)

-- the length of the joined datagram, or number 11
unfoldable pub planned_answer : List ℕ → List ℕ → Result ℕ Refusal
planned_answer bytes lengths = pick (joinable bytes lengths) (Ok (length (joined_octets bytes lengths))) (Err WrongLength)

-- 01: output "at least .. 1,500 for the PDU writer and the joiner", else number 1
unfoldable pub joined_answer : List ℕ → List ℕ → List ℕ → Result ℕ Refusal
joined_answer bytes lengths out = pick (ltb (length out) datagram_bound) (Err WrongSize) (planned_answer bytes lengths)

-- 01: "A refusal gives only its number and changes no lent byte"; else the datagram stands at the start of the output
abbrev pub output_by : Result ℕ Refusal → List ℕ → List ℕ → List ℕ → List ℕ
output_by (Err r) bytes lengths out = out
output_by (Ok n) bytes lengths out = put out 0 (joined_octets bytes lengths)

-- 01: "Output after the PDU is unchanged"
abbrev pub output_after : List ℕ → List ℕ → List ℕ → List ℕ
output_after bytes lengths out = output_by (joined_answer bytes lengths out) bytes lengths out
