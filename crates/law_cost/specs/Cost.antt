-- What one upload may cost (02, L11): "Each ended initiator transaction of class 1 or 2 reports the bytes it sent before its result, class 1 confirmation or abort, whichever is first, the Abort PDU aside: the sum of those PDUs' lengths in the history".
use Rattle.std.specs.Prelude.{ℕ, ◌+◌, ◌*◌, ◌≤◌, ◌≡◌, Bool, true, false, not, ◌&&◌, ◌||◌, List, [], ◌∷◌, ◌⊎◌, length, ltb, eqb}
use Rattle.base_lists.specs.Seq.{pick, bit}
use Rattle.table_record.specs.declared.Role.TheVariants.{Initiator}
use Rattle.c_answers.specs.Answers.{no_cost}
use Rattle.law_counting.specs.Counting.{Counts}
use Rattle.law_history.specs.Trace.{Entry, Throughout}
use Rattle.law_history.specs.Tally.{Name, accepted, lives, opens, tally}
use Rattle.law_history.specs.Cost.{charged, class_asked, cost_told, Meant}

-- an accepted request opened a name; the last that did: its class, and n, the length of its data
unfoldable pub asked : List Entry → Name → Bool
asked [] n = false
asked (e ∷ h) n = pick (opens e n) true (asked h n)

unfoldable pub class_in : List Entry → Name → ℕ
class_in [] n = 0
class_in (e ∷ h) n = pick (opens e n) (class_asked e.call) (class_in h n)

unfoldable pub data_in : List Entry → Name → ℕ
data_in [] n = 0
data_in (e ∷ h) n = pick (opens e n) (length e.lent.given) (data_in h n)

-- "its result, class 1 confirmation or abort, whichever is first": one of them was shown, the user's own abort among them
abbrev pub over : (class : ℕ) → Counts → Bool
over class c = ltb 0 (c.results + c.aborts) || (eqb class 1 && ltb 0 c.confirms)

-- "the sum of those PDUs' lengths in the history" since the request was accepted
unfoldable pub spent : (Name → Counts) → List Entry → Name → ℕ
spent start [] n = 0
spent start (e ∷ h) n = pick (opens e n) (charged e n) (spent start h n + pick (over (class_in h n) (tally start h n)) 0 (charged e n))

-- a request of class 1 or 2 is counted from its acceptance on
pub record Counted (h : List Entry) (n : Name) : Type 0 where
  pub role : n.role ≡ Initiator
  pub was_asked : asked h n ≡ true
  pub class : 1 ≤ class_in h n

-- an accepted call tells of the request that it means, where that lives before or after it, the sum in the history
abbrev pub TellsSum : (Name → Counts) → Entry → List Entry → Type 0
TellsSum start e h = accepted e.done.answer ≡ true → (n : Name) → Meant e n → Counted (e ∷ h) n → (lives e.lent.table n ≡ true) ⊎ (lives e.done.table n ≡ true) → (cost_told e).sent ≡ spent start (e ∷ h) n

-- where it means no request that lives before or after it, it tells nothing
abbrev pub TellsNothing : Entry → List Entry → Type 0
TellsNothing e h = ((n : Name) → n.role ≡ Initiator → Meant e n → (lives e.lent.table n ≡ true) ⊎ (lives e.done.table n ≡ true) → ⊥) → cost_told e ≡ no_cost

-- an initiator's record became free in a call
pub record Ended (e : Entry) (n : Name) : Type 0 where
  pub role : n.role ≡ Initiator
  pub lived : lives e.lent.table n ≡ true
  pub gone : lives e.done.table n ≡ false

-- word 33 is 1 exactly in such a call
pub record EndsTold (e : Entry) (h : List Entry) : Type 0 where
  pub told : (n : Name) → Ended e n → (cost_told e).ended ≡ true
  pub only : (cost_told e).ended ≡ true → (n : Name) × Ended e n

-- a call reports a request: it tells that one ended, and this one did
abbrev pub reported : Entry → Name → Bool
reported e n = (cost_told e).ended && (lives e.lent.table n && not (lives e.done.table n))

-- how often a request was reported since its acceptance
unfoldable pub reports : List Entry → Name → ℕ
reports [] n = 0
reports (e ∷ h) n = pick (opens e n) 0 (reports h n) + bit (reported e n)

-- 02, L11, of a table and its history, with where it began and RCR_MAX; for requests accepted since then
pub record Costs (start : Name → Counts) (max : ℕ) (t : List ℕ) (h : List Entry) : Type 0 where
  -- "reports the bytes it sent before its result, class 1 confirmation or abort [..]: the sum of those PDUs' lengths in the history"
  pub sums : Throughout (TellsSum start) h
  pub nothing : Throughout TellsNothing h
  -- "Each ended initiator transaction": in the call that ends it
  pub ends : Throughout EndsTold h
  -- and once: while it lives not at all
  pub once : (n : Name) → Counted h n → reports h n + bit (lives t n) ≡ 1
  -- "For an unsegmented invoke of n bytes [..] it is at most (1 + RCR_MAX) times (4 + n)"
  pub bound : (n : Name) → Counted h n → spent start h n ≤ (1 + max) * (4 + data_in h n)
