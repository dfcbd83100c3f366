-- What a frame from the peer does (RDS.md, section 5): its row, by the book, and what the row tells.
use Rattle.std.specs.Prelude.{ℕ, ◌%◌, List, [], Bool, true, false, get_or, take, drop, eqb}
use Rattle.base_lists.specs.Seq.{pick}
use Rattle.rds_frame.specs.declared.Kind.{Kind}
use Rattle.rds_frame.specs.declared.Kind.TheVariants as K
use Rattle.rds_entries.specs.Entries.{application_length}
use Rattle.rds_body.specs.declared.Body.{Body}
use Rattle.rds_body.specs.declared.Body.TheVariants as B
use Rattle.rds_book.specs.Book.{place_of, app_of_is, same}
use Rattle.rds_rows.specs.declared.Row.{Row}
use Rattle.rds_rows.specs.declared.Row.TheVariants.{R1, R2, R3, R4, R5, R6, R7, R8, R9, R10, R11, R12, R13, R14, R15}
use Rattle.rds_rows.specs.Rows.{best, reserve_row, release_row, answer_row, status_of, format_of}
use Rattle.rds_turn.specs.declared.Turn.{Turn}

-- the Application ID that stands at a place of the frame
unfoldable pub application_in : List ℕ → ℕ → List ℕ
application_in s start = take (application_length (drop start s)) (drop start s)

-- the Application ID of a Reserve or Release command; other frames have none
unfoldable pub application_of : List ℕ → Body → List ℕ
application_of s B.Empty = []
application_of s (B.Information a l) = []
application_of s (B.Asking n p d start l f) = application_in s start
application_of s (B.Answer n f t) = []
application_of s (B.Query n p) = []
application_of s (B.List n p c) = []

-- R1: "d is reserved with s, X and the format that this command would be given"; where best is none it would be given none
unfoldable pub repeats : List ℕ → List ℕ → ℕ → ℕ → ℕ → Bool → Bool
repeats b app d s given none =
    pick none false
    (pick (eqb (place_of b d).tag 0) false
    (pick (eqb (place_of b d).peer s)
    (pick (eqb (place_of b d).format given) (same (app_of_is b d) app) false) false))

-- "unless that is a Reserve with peer's port s and application X (6.3.3 a)"
unfoldable pub collides : List ℕ → List ℕ → ℕ → Bool
collides b app s = pick (eqb (place_of b 0).tag 2) false (pick (eqb (place_of b 0).peer s) (same (app_of_is b 0) app) false)

-- "or it is the own port of our outstanding command", unless they collide
unfoldable pub engaged : List ℕ → List ℕ → ℕ → ℕ → Bool
engaged b app d s =
    pick (eqb (place_of b 0).tag 0) false
    (pick (eqb (place_of b 0).own d) (pick (collides b app s) false true) false)

-- section 5, "Taken": "port d is reserved; or it is the own port of our outstanding command, unless"
unfoldable pub taken : List ℕ → List ℕ → ℕ → ℕ → Bool
taken b app d s = pick (eqb (place_of b d).tag 0) (engaged b app d s) true

-- the row of a Reserve command
unfoldable pub reserved : List ℕ → List ℕ → ℕ → ℕ → ℕ → Bool → Row
reserved b app d s given none =
    pick (eqb d 0) (reserve_row false false false none)
    (reserve_row (repeats b app d s given none) true (taken b app d s) none)

-- R7: "d is reserved for X, whatever its pair and by whom (K11)"
unfoldable pub held : List ℕ → List ℕ → ℕ → Bool
held b app d = pick (eqb (place_of b d).tag 0) false (same (app_of_is b d) app)

-- the row of a Release command
unfoldable pub released : List ℕ → List ℕ → ℕ → Row
released b app d = pick (eqb d 0) (release_row false false) (release_row true (held b app d))

-- "Action 1: 0; Action 5: best"
unfoldable pub given_format : ℕ → ℕ → ℕ → ℕ
given_format action offered ours = pick (eqb action 5) (best offered ours) 0

-- "Action 5 and best is none"
unfoldable pub wanting : ℕ → ℕ → Bool
wanting action given = pick (eqb action 5) (eqb given 0) false

-- section 6, word 7: "1 where a port was reserved, written again or freed (R5, R7, R10, and R12 if p was reserved)"
abbrev pub changes : Row → Bool → Bool
changes R1 was = false
changes R2 was = false
changes R3 was = false
changes R4 was = false
changes R5 was = true
changes R6 was = false
changes R7 was = true
changes R8 was = false
changes R9 was = false
changes R10 was = true
changes R11 was = false
changes R12 was = was
changes R13 was = false
changes R14 was = false
changes R15 was = false

-- what we answer to a command of the peer
unfoldable pub answering : Row → ℕ → ℕ → ℕ → ℕ → ℕ → ℕ → Turn
answering row action format d s start len =
    record { row = row; action = action; status = status_of row; own = d; peer = s; format = format; changed = changes row false; start = start; len = len; m = 0 }

-- rows R1 to R5
unfoldable pub reserve_turn : List ℕ → List ℕ → ℕ → ℕ → ℕ → ℕ → ℕ → ℕ → Turn
reserve_turn b app action s d start len given =
    answering (reserved b app d s given (wanting action given)) action
    (format_of (reserved b app d s given (wanting action given)) given (get_or b 1 0)) d s start len

-- rows R6 to R8
unfoldable pub release_turn : List ℕ → List ℕ → ℕ → ℕ → ℕ → ℕ → ℕ → Turn
release_turn b app action s d start len = answering (released b app d) action 0 d s start len

-- a Reserve or Release command
unfoldable pub asking_turn : List ℕ → List ℕ → ℕ → ℕ → ℕ → ℕ → ℕ → ℕ → Turn
asking_turn b app action s d start len offered =
    pick (eqb action 2) (release_turn b app action s d start len)
    (reserve_turn b app action s d start len (given_format action offered (get_or b 1 0)))

-- nothing is done: R15
abbrev pub quiet : Turn
quiet = record { row = R15; action = 0; status = 0; own = 0; peer = 0; format = 0; changed = false; start = 0; len = 0; m = 0 }

-- what is told of our outstanding command, which now is answered
unfoldable pub told : List ℕ → Row → ℕ → ℕ → Bool → Turn
told b row status format changed =
    record { row = row; action = (place_of b 0).tag; status = status; own = (place_of b 0).own; peer = (place_of b 0).peer; format = format; changed = changed; start = 0; len = 0; m = 0 }

-- the port of our outstanding command is reserved; a port has 4 bits
unfoldable pub own_reserved : List ℕ → Bool
own_reserved b = pick (eqb (place_of b ((place_of b 0).own % 16)).tag 0) false true

-- rows R10 to R13: "Response with the Action of our outstanding" command
unfoldable pub answer_turn : List ℕ → ℕ → ℕ → ℕ → Turn
answer_turn b action format status =
    pick (eqb (place_of b 0).tag 0) quiet
    (pick (eqb (place_of b 0).tag action)
    (told b (answer_row (eqb action 2) status) status format (changes (answer_row (eqb action 2) status) (own_reserved b)))
    quiet)

-- row R14: "ERROR response with ADS 0 while a command is outstanding"; section 6, word 3: 256
unfoldable pub error_turn : List ℕ → Bool → Turn
error_turn b ads = pick ads quiet (pick (eqb (place_of b 0).tag 0) quiet (told b R14 256 0 false))

-- row R9: section 6, words 2 and 10
unfoldable pub unbuilt : ℕ → ℕ → Turn
unbuilt action m = record { row = R9; action = action; status = 0; own = 0; peer = 0; format = 0; changed = false; start = 0; len = 0; m = m }

-- a U frame without a body of MANAGE_PORT: R9, or R15 for an ERROR command
unfoldable pub plain_command : ℕ → Turn
plain_command m = pick (eqb m 1) quiet (unbuilt 0 m)

-- and of the responses R14, or R15
unfoldable pub plain_response : List ℕ → Bool → ℕ → Turn
plain_response b ads m = pick (eqb m 1) (error_turn b ads) quiet

-- a command of the peer; a port has 4 bits
unfoldable pub command_turn : List ℕ → List ℕ → ℕ → Body → Turn
command_turn b app m B.Empty = plain_command m
command_turn b app m (B.Information a l) = plain_command m
command_turn b app m (B.Asking n s d start len f) = asking_turn b app n s (d % 16) start len f
command_turn b app m (B.Answer n f t) = plain_command m
command_turn b app m (B.Query n p) = unbuilt n m
command_turn b app m (B.List n p c) = unbuilt n m

-- a response of the peer
unfoldable pub response_turn : List ℕ → Bool → ℕ → Body → Turn
response_turn b ads m B.Empty = plain_response b ads m
response_turn b ads m (B.Information a l) = plain_response b ads m
response_turn b ads m (B.Asking n s d start len f) = plain_response b ads m
response_turn b ads m (B.Answer n f t) = answer_turn b n f t
response_turn b ads m (B.Query n p) = plain_response b ads m
response_turn b ads m (B.List n p c) = plain_response b ads m

-- a frame from the peer, of which only U frames do anything
unfoldable pub turn_by : List ℕ → List ℕ → Bool → Body → Kind → Turn
turn_by b app ads body (K.I a ns nr r) = quiet
turn_by b app ads body (K.S a nr r) = quiet
turn_by b app ads body (K.Ui nu) = quiet
turn_by b app ads body (K.U m response) = pick response (response_turn b ads m body) (command_turn b app m body)
