-- What a call of the book leaves, and when it is refused with 1 (RDS.md, section 6).
use Rattle.std.specs.Prelude.{ℕ, List, Bool, false, length, ltb, Result, Ok, Err}
use Rattle.base_lists.specs.Seq.{pick}
use Rattle.base_numbers.specs.declared.Refusal.{Refusal}
use Rattle.base_numbers.specs.Numbers.{number_of}
use Rattle.rds_lists.specs.Sizes.{answer_least}
use Rattle.rds_book.specs.Book.{well_formed}

-- the number given back, the book, the output and the answer
pub record Left : Type 0 where
  pub number : ℕ
  pub book : List ℕ
  pub output : List ℕ
  pub answer : List ℕ

abbrev pub left : ℕ → List ℕ → List ℕ → List ℕ → Left
left n b o a = record { number = n; book = b; output = o; answer = a }

-- the number given back: 0, or that of the refusal
abbrev pub number_given : Result Unit Refusal → ℕ
number_given (Ok done) = 0
number_given (Err r) = number_of r

-- "a refused call changes no lent byte and no lent word"
abbrev pub refused : Refusal → List ℕ → List ℕ → List ℕ → Left
refused r b o a = left (number_of r) b o a

-- section 6: "`RDS_SENDING` 277 for the book's calls (2 + 1 + 1 + 272 + 1, the longest Reserve)"
abbrev pub sending_least : ℕ
sending_least = 277

-- section 6, number 1: "ANSWER or OUT too small; the book of the wrong size or not well formed"
unfoldable pub lent_well : List ℕ → List ℕ → List ℕ → Bool
lent_well b o a = pick (ltb (length a) answer_least) false (pick (ltb (length o) sending_least) false (well_formed b))
