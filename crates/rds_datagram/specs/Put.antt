-- A datagram in a UI frame (RDS.md, section 6, `rds_put`; TS 24.250, 5.2.8).
use Rattle.std.specs.Prelude.{ℕ, ◌+◌, ◌*◌, ◌%◌, List, [], ◌∷◌, ◌++◌, Bool, false, length, ltb, leb, eqb, Result, Ok, Err}
use Rattle.rds_lists.specs.Sizes.{frame_most}
use Rattle.base_lists.specs.Seq.{pick, put}
use Rattle.base_numbers.specs.declared.Refusal.{Refusal}
use Rattle.base_numbers.specs.declared.Refusal.TheVariants.{WrongSize, WrongSetting, WrongLength}

-- section 6, number 10: "number over 7, a port over 15, or `ports` off and a port other than 0"
unfoldable pub fit_of : Bool → ℕ → ℕ → ℕ → Bool
fit_of ports s d n =
    pick (ltb 7 n) false
    (pick ports (pick (ltb 15 s) false (leb d 15))
    (pick (eqb s 0) (eqb d 0) false))

-- section 6, the lowest of 1 (fewer than 1,523 octets of output), 10 and 11 ("a datagram outside 1 to 1,500 octets"), else the frame's length
unfoldable pub plan_of : ℕ → ℕ → Bool → Bool → Result ℕ Refusal
plan_of len room ports fits =
    pick (ltb room frame_most) (Err WrongSize)
    (pick fits
    (pick (eqb len 0) (Err WrongLength)
    (pick (ltb 1500 len) (Err WrongLength)
    (pick ports (Ok (2 + len)) (Ok (1 + len)))))
    (Err WrongSetting))

-- 5.2.8: PD 0, 1, 0, X 0, ADS, N(U); then the ports octet where ADS is 1. A value that fits is not changed by the remainder
unfoldable pub head_octets : Bool → ℕ → ℕ → ℕ → List ℕ
head_octets ports s d n = pick ports ((72 + n % 8) ∷ (s % 16 * 16 + d % 16) ∷ []) ((64 + n % 8) ∷ [])

-- the UI frame of a datagram
abbrev pub frame_octets : List ℕ → Bool → ℕ → ℕ → ℕ → List ℕ
frame_octets t ports s d n = head_octets ports s d n ++ t

-- what is given back, and the output
pub record Done : Type 0 where
  pub answer : Result ℕ Refusal
  pub output : List ℕ

abbrev pub done : Result ℕ Refusal → List ℕ → Done
done a o = record { answer = a; output = o }

-- a refused call changes nothing, and "output past what is sent is unchanged"
unfoldable pub put_by : List ℕ → List ℕ → Result ℕ Refusal → Done
put_by frame out (Ok n) = done (Ok n) (put out 0 frame)
put_by frame out (Err r) = done (Err r) out

-- what putting the datagram t gives back and leaves in the output
unfoldable pub put_of : List ℕ → Bool → ℕ → ℕ → ℕ → List ℕ → Done
put_of t ports s d n out = put_by (frame_octets t ports s d n) out (plan_of (length t) (length out) ports (fit_of ports s d n))
