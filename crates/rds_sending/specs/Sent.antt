-- The frames that the book's calls send (RDS.md, section 5; TS 24.250, 5.4.2.4 and 5.4.2.6).
use Rattle.std.specs.Prelude.{ℕ, ◌+◌, ◌*◌, ◌%◌, List, [], ◌∷◌, ◌++◌, Bool, get_or, eqb}
use Rattle.base_lists.specs.Seq.{pick}
use Rattle.rds_book.specs.declared.Place.{Place}
use Rattle.rds_book.specs.Book.{place_of, app_of_is}

-- section 4: our side is the network
abbrev pub is_network : List ℕ → Bool
is_network b = eqb (get_or b 0 0) 1

-- 5.2.9, 5.2.10: octet 1 of a U frame without ports is PD 0, 1, 1, 1, ADS 0, C/R, X, X; a command has C/R 0 from the UE and 1 from the network
unfoldable pub command_octet : List ℕ → ℕ
command_octet b = pick (is_network b) 116 112

-- a response has the other value
unfoldable pub response_octet : List ℕ → ℕ
response_octet b = pick (is_network b) 112 116

-- 5.2.3 to 5.2.5: Source Port in bits 8 to 5, Destination Port in bits 4 to 1; a port has 4 bits
abbrev pub ports_octet : ℕ → ℕ → ℕ
ports_octet source destination = source % 16 * 16 + destination % 16

-- the four octets before the Application ID: octet 1, MANAGE_PORT, the Action, the ports
unfoldable pub asking_head : List ℕ → Place → List ℕ
asking_head b c = command_octet b ∷ 10 ∷ c.tag ∷ ports_octet c.own c.peer ∷ []

-- "with the format flag Action 5 and all our formats (5.4.2.6.2)"
unfoldable pub offered : List ℕ → List ℕ
offered b = pick (eqb (place_of b 0).tag 5) (get_or b 1 0 ∷ []) []

-- section 5, O1 to O3: "Reserve, Source Port p, Destination Port q, X", or Release: the outstanding command as a frame
unfoldable pub command_frame : List ℕ → List ℕ
command_frame b = asking_head b (place_of b 0) ++ (app_of_is b 0 ++ offered b)

-- section 5: "A response of ours has the command's Action, and a Serialization Format exactly for Action 5"
unfoldable pub answer_frame : List ℕ → ℕ → ℕ → ℕ → List ℕ
answer_frame b action format status =
    pick (eqb action 5) (response_octet b ∷ 10 ∷ action ∷ format ∷ status % 256 ∷ [])
    (response_octet b ∷ 10 ∷ action ∷ status % 256 ∷ [])

-- R9: "ERROR response; ADS as in the command, its ports exchanged"
unfoldable pub error_frame : List ℕ → Bool → ℕ → ℕ → List ℕ
error_frame b ads source destination =
    pick ads ((response_octet b + 8) ∷ 1 ∷ ports_octet destination source ∷ [])
    (response_octet b ∷ 1 ∷ [])
