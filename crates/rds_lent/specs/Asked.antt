-- What the calls of the book ask before anything is done, and the command that is sent (RDS.md, sections 5 and 6).
use Rattle.std.specs.Prelude.{ℕ, ◌+◌, List, [], ◌∷◌, Bool, true, false, length, get_or, ltb, eqb}
use Rattle.base_lists.specs.Seq.{pick, put}
use Rattle.rds_book.specs.declared.Place.{Place}
use Rattle.rds_book.specs.Book.{app_most, place_of}
use Rattle.rds_sending.specs.Sent.{command_frame}
use Rattle.rds_lent.specs.Left.{Left, left}

-- a command is outstanding
unfoldable pub outstanding : List ℕ → Bool
outstanding b = pick (eqb (place_of b 0).tag 0) false true

-- "own is a reserved port"; a number outside 1 to 15 is none
unfoldable pub is_reserved : List ℕ → ℕ → Bool
is_reserved b own = pick (eqb own 0) false (pick (ltb 15 own) false (pick (eqb (place_of b own).tag 0) false true))

-- `rds_reserve`, 9: "a command is outstanding, or `own` is a reserved port, or `with_format` is on and our formats are 0"
unfoldable pub not_now : List ℕ → ℕ → Bool → Bool
not_now b own with = pick (outstanding b) true (pick (is_reserved b own) true (pick with (eqb (get_or b 1 0) 0) false))

-- `rds_reserve`, 10: "`own` outside 1 to 15 or `peers` over 15"
unfoldable pub out_of_range_is : ℕ → ℕ → Bool
out_of_range_is own peers = pick (eqb own 0) true (pick (ltb 15 own) true (ltb 15 peers))

-- `rds_reserve`, 11: "APP has fewer than 17 octets, or not 17 + its octet 16"; section 2: "17 to 272"
unfoldable pub is_app : List ℕ → Bool
is_app app = pick (ltb (length app) 17) false (pick (ltb app_most (length app)) false (eqb (length app) (17 + get_or app 16 0)))

-- the answer that has word 0 alone, the length of the frame in OUT
unfoldable pub length_words : ℕ → List ℕ
length_words n = n ∷ 0 ∷ 0 ∷ 0 ∷ 0 ∷ 0 ∷ 0 ∷ 0 ∷ 0 ∷ 0 ∷ 0 ∷ 0 ∷ 0 ∷ 0 ∷ 0 ∷ 0 ∷ []

-- O1 to O3: the outstanding command of this book is sent
unfoldable pub sending : List ℕ → List ℕ → List ℕ → Left
sending b o a = left 0 b (put o 0 (command_frame b)) (put a 0 (length_words (length (command_frame b))))

-- O1: "Reserve, Source Port p, Destination Port q, X; with the format flag Action 5, else Action 1"
unfoldable pub reserving : ℕ → ℕ → Bool → Place
reserving own peers with = record { tag = pick with 5 1; own = own; peer = peers; format = 0 }

-- O2: "Release, Source Port p, Destination Port q, X" of own p, which is reserved with q, X
unfoldable pub releasing : List ℕ → ℕ → Place
releasing b own = record { tag = 2; own = own; peer = (place_of b own).peer; format = 0 }
