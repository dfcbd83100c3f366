-- Promise 9 (RDS.md, section 9): "From a fresh book: port p is listed as reserved exactly where the last event with word 7 set that names p reserved it, with that event's ports, format and Application ID."
use Rattle.std.specs.Prelude.{ℕ, ◌≤◌, ◌≡◌, Bool, false, List, [], ◌∷◌, length, eqb}
use Rattle.base_lists.specs.Seq.{pick, part}
use Rattle.rds_lent.specs.Asked.{length_words}
use Rattle.rds_shown.specs.Shown.{told_words, told_app}
use Rattle.rds_history.specs.History.{Call, Entry, accepted, word_of, is_receive}
use Rattle.rds_history.specs.History.Call.{Reserve, Release, Again, Abandon, Receive, Port}

-- a port is free, or reserved: by whom, the peer's port, the format, the Application ID (section 4)
pub data Listing : Type 0 where
  Free : Listing
  Reserved : (whom peer format : ℕ) (app : List ℕ) → Listing

-- the APP of the last accepted `rds_reserve`
abbrev pub app_in : Call → Bool → List ℕ → List ℕ
app_in (Reserve own peers with app) taken before = pick taken app before
app_in (Release own) taken before = before
app_in Again taken before = before
app_in Abandon taken before = before
app_in (Receive s) taken before = before
app_in (Port p) taken before = before

abbrev pub last_app : List Entry → List ℕ
last_app [] = []
last_app (e ∷ h) = app_in e.call (accepted e) (last_app h)

-- the octets of the lent frame
abbrev pub frame_in : Call → List ℕ
frame_in (Reserve own peers with app) = []
frame_in (Release own) = []
frame_in Again = []
frame_in Abandon = []
frame_in (Receive s) = s
frame_in (Port p) = []

-- "that event's .. Application ID": of the peer's command where words 8 and 9 say (event 1), of our own as `rds_reserve` was given it (event 2)
abbrev pub event_app : Entry → List Entry → List ℕ
event_app e h = pick (eqb (word_of e 1) 1) (part (frame_in e.call) (word_of e 8) (word_of e 9)) (last_app h)

-- "by whom (1 our command was answered Success, 2 the peer's was)"
abbrev pub event_whom : Entry → ℕ
event_whom e = pick (eqb (word_of e 1) 1) 2 1

-- an event with word 7 set that names p
abbrev pub names : Entry → ℕ → Bool
names e p = pick (is_receive e.call) (pick (accepted e) (pick (eqb (word_of e 7) 1) (eqb (word_of e 4) p) false) false) false

-- what it says of p: a Release (Action 2) frees; a Reserve reserves, where the Status is 0
abbrev pub said_by : Entry → List Entry → Listing
said_by e h = pick (eqb (word_of e 2) 2) Listing.Free (pick (eqb (word_of e 3) 0) (Listing.Reserved (event_whom e) (word_of e 5) (word_of e 6) (event_app e h)) Listing.Free)

-- what the last of them says
abbrev pub listing : ℕ → List Entry → Listing
listing p [] = Listing.Free
listing p (e ∷ h) = pick (names e p) (said_by e h) (listing p h)

-- the words of `rds_port` for such a port, and its Application ID
abbrev pub listed_words : ℕ → Listing → List ℕ
listed_words p Listing.Free = length_words 0
listed_words p (Listing.Reserved whom peer format app) = length app ∷ 0 ∷ 0 ∷ 0 ∷ p ∷ peer ∷ format ∷ 0 ∷ 0 ∷ 0 ∷ 0 ∷ whom ∷ 0 ∷ 0 ∷ 0 ∷ 0 ∷ []

abbrev pub listed_app : Listing → List ℕ
listed_app Listing.Free = []
listed_app (Listing.Reserved whom peer format app) = app

-- promise 9: what `rds_port` tells of a port
pub record ListedPort (b : List ℕ) (h : List Entry) (p : ℕ) : Type 0 where
  pub words : told_words b p ≡ listed_words p (listing p h)
  pub app : told_app b p ≡ listed_app (listing p h)

abbrev pub ListedAnswered : List ℕ → List Entry → Type 0
ListedAnswered b h = (p : ℕ) → 1 ≤ p → p ≤ 15 → ListedPort b h p
