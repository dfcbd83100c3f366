-- The octets of the port book, and when they are well formed (RDS.md, section 4).
use Rattle.std.specs.Prelude.{ℕ, ◌+◌, ◌-◌, ◌*◌, List, [], ◌∷◌, ◌++◌, Bool, true, false, length, get_or, drop, replicate, leb, eqb}
use Rattle.base_lists.specs.Seq.{pick, part, put, every}
use Rattle.rds_book.specs.declared.Place.{Place}

-- the octets of a place: four fields, and an Application ID of at most 272 octets
abbrev pub place_size : ℕ
place_size = 276

abbrev pub app_most : ℕ
app_most = 272

-- the octets of a book: side, formats, and 16 places
abbrev pub book_size : ℕ
book_size = 4418

-- where a place begins: place 0 has our outstanding command, place p port p
abbrev pub place_at_is : ℕ → ℕ
place_at_is p = 2 + p * place_size

-- the fields of a place: by whom a port is reserved or a command's Action, 0 where there is none; a command's own port; the peer's port; a port's format
unfoldable pub place_of : List ℕ → ℕ → Place
place_of b p = record { tag = get_or b (place_at_is p) 0; own = get_or b (place_at_is p + 1) 0; peer = get_or b (place_at_is p + 2) 0; format = get_or b (place_at_is p + 3) 0 }

-- section 4: "an Application ID has 17 + its L octets"
abbrev pub app_length : List ℕ → ℕ → ℕ
app_length b p = 17 + get_or b (place_at_is p + 20) 0

unfoldable pub app_of_is : List ℕ → ℕ → List ℕ
app_of_is b p = part b (place_at_is p + 4) (app_length b p)

-- the n octets from `at` on are zero
unfoldable pub zeros : List ℕ → ℕ → ℕ → Bool
zeros b at n = every (λ k. eqb (get_or b (at + k) 0) 0) n

-- section 4, "port p": "by whom (1 or 2), the peer's port that it is paired with (0 to 15), the format (0 to 7)"
unfoldable pub port_fits : Place → Bool
port_fits x = pick (leb x.tag 2) (pick (eqb x.own 0) (pick (leb x.peer 15) (leb x.format 7) false) false) false

-- section 4, "command": "Action 1, 5 or 2"
unfoldable pub is_action : ℕ → Bool
is_action a = pick (eqb a 1) true (pick (eqb a 2) true (eqb a 5))

-- section 4, "command": "own port (1 to 15), peer's port (0 to 15)"
unfoldable pub command_fits : Place → Bool
command_fits x = pick (is_action x.tag) (pick (leb 1 x.own) (pick (leb x.own 15) (pick (leb x.peer 15) (eqb x.format 0) false) false) false) false

-- "each field in range on its own"
unfoldable pub fits : ℕ → Place → Bool
fits p x = pick (eqb p 0) (command_fits x) (port_fits x)

-- "the Application ID (17 to 272 octets)", "octets past an Application ID and spare octets are zero"
unfoldable pub app_fits : List ℕ → ℕ → Bool
app_fits b p = pick (leb (app_length b p) app_most) (zeros b (place_at_is p + 4 + app_length b p) (app_most - app_length b p)) false

-- "free places, the place of no command .. are zero"
unfoldable pub place_ok : List ℕ → ℕ → Bool
place_ok b p =
    pick (eqb (place_of b p).tag 0) (zeros b (place_at_is p) place_size)
    (pick (fits p (place_of b p)) (app_fits b p) false)

-- section 4: the side is UE or network, the formats are 0 to 7, and each place is in order
unfoldable pub well_formed : List ℕ → Bool
well_formed b =
    pick (eqb (length b) book_size)
    (pick (leb (get_or b 0 0) 1) (pick (leb (get_or b 1 0) 7) (every (place_ok b) 16) false) false) false

-- the octets of a place that keeps these fields and this Application ID
unfoldable pub place_octets : Place → List ℕ → List ℕ
place_octets x app = x.tag ∷ x.own ∷ x.peer ∷ x.format ∷ (app ++ drop (length app) (replicate app_most 0))

-- the book with these fields and this Application ID in place p
unfoldable pub keep : List ℕ → ℕ → Place → List ℕ → List ℕ
keep b p x app = put b (place_at_is p) (place_octets x app)

-- the fields of a free place
abbrev pub free : Place
free = record { tag = 0; own = 0; peer = 0; format = 0 }

-- the book with place p free
unfoldable pub cleared : List ℕ → ℕ → List ℕ
cleared b p = keep b p free []

-- two lists are the same octets
unfoldable pub same : List ℕ → List ℕ → Bool
same s t = pick (eqb (length s) (length t)) (every (λ k. eqb (get_or s k 0) (get_or t k 0)) (length t)) false
