-- A fresh book, and what is kept of a port (RDS.md, section 6).
use Rattle.std.specs.Prelude.{ℕ, List, [], ◌∷◌, Bool, length, get_or, replicate, ltb, eqb}
use Rattle.base_lists.specs.Seq.{pick, bit, put}
use Rattle.base_numbers.specs.declared.Refusal.TheVariants.{WrongSize, WrongSetting}
use Rattle.base_numbers.specs.Numbers.{number_of}
use Rattle.rds_book.specs.declared.Place.{Place}
use Rattle.rds_book.specs.Book.{book_size, place_of, app_length, app_of_is}
use Rattle.rds_lent.specs.Left.{Left, left, refused, lent_well}
use Rattle.rds_lent.specs.Asked.{length_words}

-- `rds_ports_fresh`: the side, the formats, every place free
unfoldable pub fresh_book : Bool → ℕ → List ℕ
fresh_book network formats = bit network ∷ formats ∷ replicate 4416 0

-- section 6: 1 "size only", 10 "formats over 7"
unfoldable pub fresh_number : List ℕ → ℕ → ℕ
fresh_number b formats = pick (eqb (length b) book_size) (pick (ltb 7 formats) (number_of WrongSetting) 0) (number_of WrongSize)

unfoldable pub fresh_after : List ℕ → Bool → ℕ → List ℕ
fresh_after b network formats = pick (eqb (length b) book_size) (pick (ltb 7 formats) b (fresh_book network formats)) b

-- section 6, `rds_port`, words of a port: the length of the Application ID, own port, peer's port, the format, by whom
unfoldable pub port_words : ℕ → ℕ → Place → List ℕ
port_words n p x = n ∷ 0 ∷ 0 ∷ 0 ∷ p ∷ x.peer ∷ x.format ∷ 0 ∷ 0 ∷ 0 ∷ 0 ∷ x.tag ∷ 0 ∷ 0 ∷ 0 ∷ 0 ∷ []

-- "port 0: the formats offered (Action 5), else 0"
unfoldable pub offered_number : ℕ → ℕ → ℕ
offered_number action formats = pick (eqb action 5) formats 0

-- section 6, `rds_port`, words of the outstanding command: the length of the Application ID, the Action, own port, peer's port, the formats offered
unfoldable pub command_words : ℕ → ℕ → Place → List ℕ
command_words n formats c = n ∷ 0 ∷ c.tag ∷ 0 ∷ c.own ∷ c.peer ∷ offered_number c.tag formats ∷ 0 ∷ 0 ∷ 0 ∷ 0 ∷ 0 ∷ 0 ∷ 0 ∷ 0 ∷ 0 ∷ []

-- "A free port, or no command: all 16 words are 0"
unfoldable pub told_words : List ℕ → ℕ → List ℕ
told_words b p =
    pick (eqb (place_of b p).tag 0) (length_words 0)
    (pick (eqb p 0) (command_words (app_length b p) (get_or b 1 0) (place_of b p)) (port_words (app_length b p) p (place_of b p)))

-- "and OUT is unchanged"; else the Application ID at the start of OUT
unfoldable pub told_app : List ℕ → ℕ → List ℕ
told_app b p = pick (eqb (place_of b p).tag 0) [] (app_of_is b p)

-- `rds_port`: 10 "port over 15"
unfoldable pub port_in : List ℕ → List ℕ → List ℕ → ℕ → Left
port_in b o a p = pick (ltb 15 p) (refused WrongSetting b o a) (left 0 b (put o 0 (told_app b p)) (put a 0 (told_words b p)))

unfoldable pub port_of : List ℕ → List ℕ → List ℕ → ℕ → Left
port_of b o a p = pick (lent_well b o a) (port_in b o a p) (refused WrongSize b o a)
