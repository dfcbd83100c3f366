-- What `rds_receive` leaves (RDS.md, sections 5 and 6).
use Rattle.std.specs.Prelude.{ℕ, ◌%◌, List, [], ◌∷◌, Bool, true, false, length, eqb, Option, Some, None}
use Rattle.base_lists.specs.Seq.{pick, bit, put}
use Rattle.base_numbers.specs.declared.Refusal.TheVariants.{WrongSize, WrongFrame}
use Rattle.rds_frame.specs.declared.Head.{Head}
use Rattle.rds_reading.specs.declared.Frame.{Frame}
use Rattle.rds_reading.specs.Read.{frame_of}
use Rattle.rds_book.specs.declared.Place.{Place}
use Rattle.rds_book.specs.Book.{app_of_is, keep, cleared}
use Rattle.rds_rows.specs.declared.Row.{Row}
use Rattle.rds_rows.specs.declared.Row.TheVariants.{R1, R2, R3, R4, R5, R6, R7, R8, R9, R10, R11, R12, R13, R14, R15}
use Rattle.rds_rows.specs.Rows.{event_of}
use Rattle.rds_turn.specs.declared.Turn.{Turn}
use Rattle.rds_turn.specs.Turn.{application_of, turn_by}
use Rattle.rds_sending.specs.Sent.{is_network, answer_frame, error_frame}
use Rattle.rds_lent.specs.Left.{Left, left, refused, lent_well}

-- section 4: a port that is reserved: by whom, the peer's port, the format
unfoldable pub reservation : ℕ → Turn → Place
reservation whom t = record { tag = whom; own = 0; peer = t.peer; format = t.format }

-- section 5, "Book", of R1 to R15; a port has 4 bits
unfoldable pub book_by : List ℕ → List ℕ → Turn → Row → List ℕ
book_by b app t R1 = b
book_by b app t R2 = b
book_by b app t R3 = b
book_by b app t R4 = b
book_by b app t R5 = keep b (t.own % 16) (reservation 2 t) app
book_by b app t R6 = b
book_by b app t R7 = cleared b (t.own % 16)
book_by b app t R8 = b
book_by b app t R9 = b
book_by b app t R10 = cleared (keep b (t.own % 16) (reservation 1 t) (app_of_is b 0)) 0
book_by b app t R11 = cleared b 0
book_by b app t R12 = cleared (cleared b (t.own % 16)) 0
book_by b app t R13 = cleared b 0
book_by b app t R14 = cleared b 0
book_by b app t R15 = b

-- section 5, "We send": a response, an ERROR response, or none
unfoldable pub reply_of : List ℕ → Turn → Head → List ℕ
reply_of b t h =
    pick (eqb (event_of t.row) 1) (answer_frame b t.action t.format t.status)
    (pick (eqb (event_of t.row) 3) (error_frame b h.ads h.source h.destination) [])

-- section 6, "Words of an answer", `rds_receive`
unfoldable pub turn_words : ℕ → Turn → List ℕ
turn_words n t =
    n ∷ event_of t.row ∷ t.action ∷ t.status ∷ t.own ∷ t.peer ∷ t.format ∷ bit t.changed ∷ t.start ∷ t.len ∷ t.m ∷ 0 ∷ 0 ∷ 0 ∷ 0 ∷ 0 ∷ []

-- a frame that does this
unfoldable pub turned : List ℕ → List ℕ → List ℕ → List ℕ → Head → Turn → Left
turned b o a app h t =
    left 0 (book_by b app t t.row) (put o 0 (reply_of b t h)) (put a 0 (turn_words (length (reply_of b t h)) t))

-- what a frame that isn't malformed does
abbrev pub turn_in : List ℕ → List ℕ → Frame → Turn
turn_in b s f = turn_by b (application_of s f.body) f.head.ads f.body f.head.kind

-- 16 for a malformed frame
unfoldable pub receive_frame : List ℕ → List ℕ → List ℕ → List ℕ → Option Frame → Left
receive_frame b o a s (Some f) = turned b o a (application_of s f.body) f.head (turn_in b s f)
receive_frame b o a s None = refused WrongFrame b o a

-- "`rds_receive` reads its frame as one of the other side"
unfoldable pub from_peer : List ℕ → Bool
from_peer b = pick (is_network b) false true

unfoldable pub receive_of : List ℕ → List ℕ → List ℕ → List ℕ → Left
receive_of b o a s = pick (lent_well b o a) (receive_frame b o a s (frame_of s (from_peer b))) (refused WrongSize b o a)
