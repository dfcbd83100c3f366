-- Promise 10 (RDS.md, section 9), of `rds_read`, `rds_take`, `rds_put` and `rds_write`: the numbers of section 6 with what they are given for, and "the lowest that applies".
use Rattle.std.specs.Prelude.{ℕ, ◌+◌, ◌≡◌, Bool, List, [], ◌∷◌, false, length, get_or, ltb, eqb, Option, Some, None}
use Rattle.base_lists.specs.Seq.{pick}
use Rattle.rds_malformed.specs.Malformed.{not, or, malformed}
use Rattle.rds_reading.specs.declared.Frame.{Frame}
use Rattle.rds_said.specs.Said.{frame_said}
use Rattle.rds_writing.specs.Write.{accepts}
use Rattle.rds.specs.Calls.{is_on, read_number_is, put_number, put_answer, write_number}

-- a number, and when it is given
pub record Given : Type 0 where
  pub number : ℕ
  pub holds : Bool

abbrev pub given : ℕ → Bool → Given
given n h = record { number = n; holds = h }

-- "the lowest that applies and none without its condition"
abbrev pub lowest : List Given → ℕ
lowest [] = 0
lowest (x ∷ l) = pick x.holds x.number (lowest l)

-- `rds_read` and `rds_take`: 1 "FIELDS, PART .. too small", 16 "the frame is malformed"
abbrev pub read_list : ℕ → List ℕ → ℕ → List ℕ → List Given
read_list least s network words = given 1 (ltb (length words) least) ∷ given 16 (malformed s (is_on network)) ∷ []

pub record ReadNumbers (s : List ℕ) (network : ℕ) (words : List ℕ) : Type 0 where
  pub fields : read_number_is 100 s network words ≡ lowest (read_list 100 s network words)
  pub part : read_number_is 8 s network words ≡ lowest (read_list 8 s network words)

-- `rds_put`, 10: "number over 7, a port over 15, or `ports` off and a port other than 0"
abbrev pub unfit : Bool → ℕ → ℕ → ℕ → Bool
unfit ports s d n = or (ltb 7 n) (pick ports (or (ltb 15 s) (ltb 15 d)) (or (not (eqb s 0)) (not (eqb d 0))))

-- `rds_put`: 1 "ANSWER or OUT too small", 10, 11 "a datagram outside 1 to 1,500 octets"
abbrev pub put_list : List ℕ → ℕ → ℕ → ℕ → ℕ → List ℕ → List ℕ → List Given
put_list t ports s d n out answer =
    given 1 (or (ltb (length answer) 16) (ltb (length out) 1523)) ∷ given 10 (unfit (is_on ports) s d n) ∷ given 11 (or (eqb (length t) 0) (ltb 1500 (length t))) ∷ []

-- "word 12 the next number, (number + 1) modulo 8", of a number 0 to 7
pub record PutNumbers (t : List ℕ) (ports s d n : ℕ) (out answer : List ℕ) : Type 0 where
  pub number : put_number t ports s d n out answer ≡ lowest (put_list t ports s d n out answer)
  pub next : put_number t ports s d n out answer ≡ 0 → get_or (put_answer t ports s d n out answer) 12 0 ≡ pick (eqb n 7) 0 (n + 1)

-- some frame reads as the words: they say one, and it is accepted
abbrev pub accepted_as : List ℕ → List ℕ → Option Frame → Bool
accepted_as w s (Some f) = accepts w s f
accepted_as w s None = false

-- `rds_write`: 1 "FIELDS .. ANSWER or OUT too small", 16 "no frame reads as these words"
abbrev pub write_list : List ℕ → List ℕ → List ℕ → List ℕ → List Given
write_list w s out answer =
    given 1 (or (ltb (length answer) 16) (or (ltb (length w) 100) (ltb (length out) 1523))) ∷ given 16 (not (accepted_as w s (frame_said w))) ∷ []

abbrev pub WriteNumbers : List ℕ → List ℕ → ℕ → List ℕ → List ℕ → Type 0
WriteNumbers w s network out answer = write_number w s network out answer ≡ lowest (write_list w s out answer)
