-- Promise 8 (RDS.md, section 9): "From a fresh book: accepted `rds_reserve` and `rds_release` calls = events 2 + accepted `rds_abandon` calls + the outstanding command, 0 or 1."
use Rattle.std.specs.Prelude.{ℕ, ◌+◌, ◌≡◌, Bool, true, false, List, [], ◌∷◌, eqb}
use Rattle.base_lists.specs.Seq.{pick, bit}
use Rattle.rds_lent.specs.Asked.{outstanding}
use Rattle.rds_history.specs.History.{Entry, accepted, word_of, is_reserve, is_release, is_abandon, is_receive}

-- how many entries are so
abbrev pub count : (Entry → Bool) → List Entry → ℕ
count p [] = 0
count p (e ∷ h) = bit (p e) + count p h

-- an accepted `rds_reserve` or `rds_release`
abbrev pub commands : Entry → Bool
commands e = pick (pick (is_reserve e.call) true (is_release e.call)) (accepted e) false

-- an event 2: section 6, word 1, "our command was answered"
abbrev pub answers : Entry → Bool
answers e = pick (is_receive e.call) (pick (accepted e) (eqb (word_of e 1) 2) false) false

-- an accepted `rds_abandon`
abbrev pub abandons : Entry → Bool
abandons e = pick (is_abandon e.call) (accepted e) false

-- promise 8
abbrev pub AnsweredOnce : List ℕ → List Entry → Type 0
AnsweredOnce b h = count commands h ≡ count answers h + count abandons h + bit (outstanding b)
