-- Promise 7 (RDS.md, section 9): "From a fresh book, over any calls in any order: while a port is reserved with s and X, no Reserve of it with another s or X is answered Success, by us or to us; port 0 is never listed."
use Rattle.std.specs.Prelude.{ℕ, ◌≤◌, ◌≡◌, Bool, true, false, List, [], ◌∷◌, get_or, eqb}
use Rattle.base_lists.specs.Seq.{pick}
use Rattle.rds_shown.specs.Shown.{told_words, told_app}
use Rattle.rds_history.specs.History.{Entry, accepted, word_of, is_receive}
use Rattle.rds_history.specs.Listed.{names, event_app}

-- "while a port is reserved with s and X": as `rds_port` lists it, words 11 and 5
pub record ReservedWith (b : List ℕ) (p s : ℕ) (x : List ℕ) : Type 0 where
  pub whom : 1 ≤ get_or (told_words b p) 11 0
  pub peer : get_or (told_words b p) 5 0 ≡ s
  pub app : told_app b p ≡ x

-- "a Reserve .. is answered Success, by us or to us": Status 0, event 1 or 2, not Action 2
abbrev pub succeeded : Entry → Bool
succeeded e =
    pick (is_receive e.call) (pick (accepted e)
    (pick (eqb (word_of e 3) 0) (pick (pick (eqb (word_of e 1) 1) true (eqb (word_of e 1) 2)) (pick (eqb (word_of e 2) 2) false true) false) false) false) false

-- "no Reserve of it with another s or X": the port that the event names, as it is listed before the call
abbrev pub NotTwice : Entry → List Entry → Type 0
NotTwice e h = succeeded e ≡ true → (s : ℕ) (x : List ℕ) → ReservedWith e.book (word_of e 4) s x → (word_of e 5 ≡ s) × (event_app e h ≡ x)

-- "port 0 is never listed": no event with word 7 set names it, and `rds_port` tells no reservation of it
pub record NeverZero (e : Entry) : Type 0 where
  pub named : names e 0 ≡ false
  pub listed : get_or (told_words e.seen.book 0) 11 0 ≡ 0

-- what holds of each entry and of the history before it
unfoldable pub Throughout : (Entry → List Entry → Type 0) → List Entry → Type 0
Throughout P [] = Unit
Throughout P (e ∷ h) = P e h × Throughout P h

-- promise 7
pub record NoPortTwice (h : List Entry) : Type 0 where
  pub once : Throughout NotTwice h
  pub zero : Throughout (λ e h. NeverZero e) h
