-- The history of a book: any calls on it one after another, in any order, refused ones among them (RDS.md, section 9: "From a fresh book, over any calls in any order").
use Rattle.std.specs.Prelude.{ℕ, ◌≡◌, Bool, true, false, List, [], ◌∷◌, get_or, eqb}
use Rattle.rds_lent.specs.Left.{Left, left}
use Rattle.rds_ports.specs.Ports.{reserve_of, release_of, again_of, abandon_number, abandon_after}
use Rattle.rds_shown.specs.Shown.{fresh_number, fresh_after, port_of}
use Rattle.rds_receiving.specs.Receiving.{receive_of}
use Rattle.rds_book_laws.specs.Formed.{Octets}

-- a call of the book, and what it is asked
pub data Call : Type 0 where
  Reserve : (own peers : ℕ) (with : Bool) (app : List ℕ) → Call
  Release : (own : ℕ) → Call
  Again : Call
  Abandon : Call
  Receive : (frame : List ℕ) → Call
  Port : (port : ℕ) → Call

-- what the contract of its function says that it leaves
abbrev pub leaves : Call → List ℕ → List ℕ → List ℕ → Left
leaves (Reserve own peers with app) b o a = reserve_of b o a own peers with app
leaves (Release own) b o a = release_of b o a own
leaves Again b o a = again_of b o a
leaves Abandon b o a = left (abandon_number b) (abandon_after b) o a
leaves (Receive s) b o a = receive_of b o a s
leaves (Port p) b o a = port_of b o a p

-- the frame that is lent: octets
abbrev pub Lends : Call → Type 0
Lends (Reserve own peers with app) = Unit
Lends (Release own) = Unit
Lends Again = Unit
Lends Abandon = Unit
Lends (Receive s) = Octets s
Lends (Port p) = Unit

-- what the history keeps of a call: what it was asked and lent, and all that its caller sees of it
pub record Entry : Type 0 where
  pub call : Call
  pub book : List ℕ
  pub output : List ℕ
  pub answer : List ℕ
  pub seen : Left

-- it keeps its contract
pub record Keeps (e : Entry) : Type 0 where
  pub lends : Lends e.call
  pub keeps : e.seen ≡ leaves e.call e.book e.output e.answer

-- calls one after another from `rds_ports_fresh` on, the newest first: the book that they leave, and the history; outputs and answers of any size
pub data History : List ℕ → List Entry → Type 0 where
  -- `rds_ports_fresh` made the book, whatever it held before
  made : (old : List ℕ) (network : Bool) (formats : ℕ) → fresh_number old formats ≡ 0 → History (fresh_after old network formats) []
  -- `rds_ports_fresh` was refused
  refused : {b : List ℕ} {h : List Entry} → History b h → (network : Bool) (formats : ℕ) → (fresh_number b formats ≡ 0 → ⊥) → History (fresh_after b network formats) h
  called : {b : List ℕ} {h : List Entry} → History b h → (e : Entry) → Keeps e → e.book ≡ b → History e.seen.book (e ∷ h)

-- the call was accepted
abbrev pub accepted : Entry → Bool
accepted e = eqb e.seen.number 0

-- a word of its answer
abbrev pub word_of : Entry → ℕ → ℕ
word_of e k = get_or e.seen.answer k 0

abbrev pub is_reserve : Call → Bool
is_reserve (Reserve own peers with app) = true
is_reserve (Release own) = false
is_reserve Again = false
is_reserve Abandon = false
is_reserve (Receive s) = false
is_reserve (Port p) = false

abbrev pub is_release : Call → Bool
is_release (Reserve own peers with app) = false
is_release (Release own) = true
is_release Again = false
is_release Abandon = false
is_release (Receive s) = false
is_release (Port p) = false

abbrev pub is_abandon : Call → Bool
is_abandon (Reserve own peers with app) = false
is_abandon (Release own) = false
is_abandon Again = false
is_abandon Abandon = true
is_abandon (Receive s) = false
is_abandon (Port p) = false

abbrev pub is_receive : Call → Bool
is_receive (Reserve own peers with app) = false
is_receive (Release own) = false
is_receive Again = false
is_receive Abandon = false
is_receive (Receive s) = true
is_receive (Port p) = false
