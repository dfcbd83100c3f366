-- The octets of a frame to be written (RDS.md, sections 1 and 2; TS 24.250, clause 5). Spare bits are 0; a value that fits is not changed by the remainder.
use Rattle.std.specs.Prelude.{ℕ, ◌+◌, ◌*◌, ◌/◌, ◌%◌, List, [], ◌∷◌, Bool, false, ltb, eqb, Option, is_some}
use Rattle.std.specs.Option.{unwrap_or}
use Rattle.base_lists.specs.Seq.{pick, bit}
use Rattle.rds_frame.specs.declared.Kind.{Kind}
use Rattle.rds_frame.specs.declared.Kind.TheVariants as K
use Rattle.rds_frame.specs.Frame.{responds}
use Rattle.rds_body.specs.declared.Body.{Body}
use Rattle.rds_body.specs.declared.Body.TheVariants as B
use Rattle.rds_pieces.specs.declared.Pieces.{Pieces}

-- 5.2.4, 5.2.5: Source Port in bits 8 to 5, Destination Port in bits 4 to 1
abbrev pub ports_octet : ℕ → ℕ → ℕ
ports_octet s d = s % 16 * 16 + d % 16

-- 5.2.6 to 5.2.9: octets 1 and 2; 5.2.10: the C/R bit of a response is that which reads as one
unfoldable pub kind_octets : Kind → Bool → Bool → List ℕ
kind_octets (K.I a ns nr r) ads network = (bit a * 32 + bit ads * 8 + ns % 8) ∷ (nr % 8 * 32 + r % 8 * 4 + 3) ∷ []
kind_octets (K.S a nr r) ads network = (96 + bit ads * 8 + bit a * 4) ∷ (nr % 8 * 32 + r % 8 * 4 + 3) ∷ []
kind_octets (K.Ui nu) ads network = (64 + bit ads * 8 + nu % 8) ∷ 0 ∷ []
kind_octets (K.U m response) ads network = (112 + bit ads * 8 + bit (responds response network) * 4) ∷ m % 16 ∷ []

-- a UI frame has no second octet
unfoldable pub kind_length : Kind → ℕ
kind_length (K.I a ns nr r) = 2
kind_length (K.S a nr r) = 2
kind_length (K.Ui nu) = 1
kind_length (K.U m response) = 2

-- octets of its own, and nothing else
unfoldable pub fixed_of : List ℕ → ℕ → Pieces
fixed_of front n = record { front = front; fronts = n; start = 0; len = 0; count = 0; formats = false; tail = 0 ∷ 0 ∷ []; tails = 0 }

-- section 2: "octet 1 has Port 7 to Port 1, octet 2 Port 15 to Port 8"
abbrev pub bitmap_octets : ℕ → List ℕ
bitmap_octets p = p % 256 ∷ p / 256 % 256 ∷ []

-- section 2, the command Reserve or Release: "1; 2 ports octet; from 3 on Application ID", with Action 5 "then one octet Serialization Format"
unfoldable pub asking_pieces : ℕ → ℕ → ℕ → ℕ → ℕ → ℕ → Pieces
asking_pieces a s d start len f = record { front = a % 16 ∷ ports_octet s d ∷ 0 ∷ []; fronts = 2; start = start; len = len; count = 0; formats = false; tail = f % 8 ∷ 0 ∷ []; tails = bit (eqb a 5) }

-- section 2, the response: "1; 2 Status", with Action 5 "1; 2 Serialization Format; 3 Status"
unfoldable pub answer_pieces : ℕ → ℕ → ℕ → Pieces
answer_pieces a f t = pick (eqb a 5) (fixed_of (a % 16 ∷ f % 8 ∷ t % 4 ∷ []) 3) (fixed_of (a % 16 ∷ t % 4 ∷ 0 ∷ []) 2)

-- section 2, the command Query: "1; optionally 2, 3 Requested port numbers"
unfoldable pub query_pieces : ℕ → Option ℕ → Pieces
query_pieces a p = fixed_of (a % 16 ∷ bitmap_octets (unwrap_or p 0)) (1 + 2 * bit (is_some p))

-- section 2, "List": octet 1 with Num Entries n; n entries; "then nothing, or two octets"; with Actions 6 and 7 each entry has a format
unfoldable pub list_pieces : ℕ → Option ℕ → ℕ → Pieces
list_pieces a p n = record { front = (n % 16 * 16 + a % 16) ∷ 0 ∷ 0 ∷ []; fronts = 1; start = 0; len = 0; count = n % 16; formats = ltb 5 a; tail = bitmap_octets (unwrap_or p 0); tails = 2 * bit (is_some p) }

-- the pieces of a body
unfoldable pub pieces_of : Body → Pieces
pieces_of B.Empty = fixed_of (0 ∷ 0 ∷ 0 ∷ []) 0
pieces_of (B.Information start len) = record { front = 0 ∷ 0 ∷ 0 ∷ []; fronts = 0; start = start; len = len; count = 0; formats = false; tail = 0 ∷ 0 ∷ []; tails = 0 }
pieces_of (B.Asking a s d start len f) = asking_pieces a s d start len f
pieces_of (B.Answer a f t) = answer_pieces a f t
pieces_of (B.Query a p) = query_pieces a p
pieces_of (B.List a p n) = list_pieces a p n
