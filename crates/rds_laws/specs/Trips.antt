-- What is taken of a frame, beside what is read of it and what was put into it (RDS.md, section 9, promises 1 and 5).
use Rattle.std.specs.Prelude.{ℕ, ◌+◌, ◌-◌, ◌≡◌, List, [], ◌∷◌, Bool, true, false, length, get_or, eqb, Some}
use Rattle.base_lists.specs.Seq.{pick, bit, part}
use Rattle.rds_reading.specs.Read.{frame_of}
use Rattle.rds_reading.specs.declared.Frame.{Frame}
use Rattle.rds_words.specs.Words.{part_words}

-- the words that are taken of the frame g, read in f (section 6, PART)
abbrev pub taken_words : List ℕ → Frame → List ℕ
taken_words f g = part_words g.head (length f - g.head.end)

-- a UI frame f, sound whoever sent it, with the number n and these ports, in which the datagram t lies from `start` on
pub record Taken (f t : List ℕ) (network ports : Bool) (s d n start : ℕ) : Type 0 where
  pub frame : Frame
  pub sound : frame_of f network ≡ Some frame
  pub words : taken_words f frame ≡ 3 ∷ start ∷ length t ∷ bit ports ∷ s ∷ d ∷ n ∷ 0 ∷ []
  pub same : part f start (length t) ≡ t

-- section 6: the word k of a frame, and of what is taken of it
abbrev pub word : List ℕ → ℕ → ℕ
word w k = get_or w k 0

-- I and UI have a datagram
abbrev pub has_datagram : ℕ → Bool
has_datagram kind = pick (eqb kind 1) true (pick (eqb kind 3) true false)

-- promise 1: `rds_take` "gives its words", those of `rds_read`: kind; start and length of a datagram; ADS and ports; N(S) or N(U); zero
pub record AsRead (part fields : List ℕ) : Type 0 where
  pub kind : word part 0 ≡ word fields 0
  pub start : word part 1 ≡ pick (has_datagram (word fields 0)) (word fields 11) 0
  pub len : word part 2 ≡ pick (has_datagram (word fields 0)) (word fields 12) 0
  pub ads : word part 3 ≡ word fields 1
  pub source : word part 4 ≡ word fields 2
  pub destination : word part 5 ≡ word fields 3
  pub number : word part 6 ≡ word fields 5 + word fields 8
  pub last : word part 7 ≡ 0
