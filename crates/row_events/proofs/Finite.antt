-- A test that is computed for every state, event and condition, for every row or list of flags, holds of each. Assumes nothing.
use Prim.Native.Nat.{ℕ, zero, suc, ◌+◌, ◌*◌, ◌<◌}
use native.Mathlib.Omega.{arith}
use mathlib.Core.Path.{◌≡◌, refl, sym, ap, ◌∙◌}
use mathlib.Core.Bool.{Bool, true, false}
use mathlib.Core.List.{List, [], ◌∷◌}
use lib.ListN.{length}
use borrow.Author.Tests.{eqb-true}
use Rattle.base_layout.specs.Layout.{state_bound}
use Rattle.base_lists.specs.Seq.{pick, bit, every}
use Rattle.base_lists.proofs.StoresAndParts.{both_fst, both_snd, every_at}
use Rattle.table_record.specs.Record.{state_number, state_of}
use Rattle.table_record.proofs.Back.{state_back}
use Rattle.table_record.specs.declared.State.{State}
use Rattle.table_record.specs.declared.State.TheVariants.{Free, IResultWait1, IResultWait2, IResultRespWait, IWaitTimeout, RTidokWait1, RTidokWait2, RInvokeRespWait1, RInvokeRespWait2, RResultWait, RResultRespWait, RWaitTimeout}
use Rattle.row_events.specs.Events.{event_number, event_numbered, row_number, row_numbered, opening_number, opening_numbered, conditions_number, conditions_numbered, same_row_is, same_opening}
use Rattle.row_events.specs.declared.Event.{Event}
use Rattle.row_events.specs.declared.Event.TheVariants.{Invoke, InvokeRid, ResultCut, ResultCutRid, Result, ResultRid, PlainAck, TidAck, TidAckRid, ReceivedAbort, Segmented, MalformedPdu, UserAnswer, UserResult, UserAbort, Timer}
use Rattle.row_events.specs.declared.Row.{Row}
use Rattle.row_events.specs.declared.Row.TheVariants as Row
use Rattle.row_events.specs.declared.Opening.{Opening}
use Rattle.row_events.specs.declared.Opening.TheVariants as Opening
use Rattle.row_events.specs.declared.Conditions.{Conditions}

state_small : (s : State) → state_number s < state_bound + 1
state_small Free = omega arith
state_small IResultWait1 = omega arith
state_small IResultWait2 = omega arith
state_small IResultRespWait = omega arith
state_small IWaitTimeout = omega arith
state_small RTidokWait1 = omega arith
state_small RTidokWait2 = omega arith
state_small RInvokeRespWait1 = omega arith
state_small RInvokeRespWait2 = omega arith
state_small RResultWait = omega arith
state_small RResultRespWait = omega arith
state_small RWaitTimeout = omega arith

event_numbered_holds : (x : Event) → (event_number x < 16) × (event_numbered (event_number x) ≡ x)
event_numbered_holds Invoke = (omega arith, refl)
event_numbered_holds InvokeRid = (omega arith, refl)
event_numbered_holds ResultCut = (omega arith, refl)
event_numbered_holds ResultCutRid = (omega arith, refl)
event_numbered_holds Result = (omega arith, refl)
event_numbered_holds ResultRid = (omega arith, refl)
event_numbered_holds PlainAck = (omega arith, refl)
event_numbered_holds TidAck = (omega arith, refl)
event_numbered_holds TidAckRid = (omega arith, refl)
event_numbered_holds ReceivedAbort = (omega arith, refl)
event_numbered_holds Segmented = (omega arith, refl)
event_numbered_holds MalformedPdu = (omega arith, refl)
event_numbered_holds UserAnswer = (omega arith, refl)
event_numbered_holds UserResult = (omega arith, refl)
event_numbered_holds UserAbort = (omega arith, refl)
event_numbered_holds Timer = (omega arith, refl)

row_numbered_holds : (x : Row) → (row_number x < 36) × (row_numbered (row_number x) ≡ x)
row_numbered_holds Row.Ignored = (omega arith, refl)
row_numbered_holds Row.NotAllowed = (omega arith, refl)
row_numbered_holds Row.PeerAborts = (omega arith, refl)
row_numbered_holds Row.Malformed = (omega arith, refl)
row_numbered_holds Row.UserAborts = (omega arith, refl)
row_numbered_holds Row.PeerAbortsUnseen = (omega arith, refl)
row_numbered_holds Row.MalformedUnseen = (omega arith, refl)
row_numbered_holds Row.TidokSent = (omega arith, refl)
row_numbered_holds Row.Confirmed = (omega arith, refl)
row_numbered_holds Row.HeldOn = (omega arith, refl)
row_numbered_holds Row.Resent = (omega arith, refl)
row_numbered_holds Row.GivenUp = (omega arith, refl)
row_numbered_holds Row.ResultUnsupported = (omega arith, refl)
row_numbered_holds Row.ResultConfirms = (omega arith, refl)
row_numbered_holds Row.ResultTaken = (omega arith, refl)
row_numbered_holds Row.ResultAnswered = (omega arith, refl)
row_numbered_holds Row.ResultAcked = (omega arith, refl)
row_numbered_holds Row.UserAwaited = (omega arith, refl)
row_numbered_holds Row.UserSilent = (omega arith, refl)
row_numbered_holds Row.ResultSeenAgain = (omega arith, refl)
row_numbered_holds Row.TimeoutEnds = (omega arith, refl)
row_numbered_holds Row.Verified1 = (omega arith, refl)
row_numbered_holds Row.Verified2 = (omega arith, refl)
row_numbered_holds Row.TidveRepeated = (omega arith, refl)
row_numbered_holds Row.InvokeAnswered = (omega arith, refl)
row_numbered_holds Row.InvokeAcked = (omega arith, refl)
row_numbered_holds Row.UserWorks = (omega arith, refl)
row_numbered_holds Row.HoldOnSent = (omega arith, refl)
row_numbered_holds Row.ResultSent = (omega arith, refl)
row_numbered_holds Row.HoldOnRepeated = (omega arith, refl)
row_numbered_holds Row.ResultResent = (omega arith, refl)
row_numbered_holds Row.InvokeSeenAgain = (omega arith, refl)
row_numbered_holds Row.TidokSeenAgain = (omega arith, refl)
row_numbered_holds Row.TidokWaitEnds = (omega arith, refl)
row_numbered_holds Row.HeldOnWaitEnds = (omega arith, refl)
row_numbered_holds Row.ResultWaitEnds = (omega arith, refl)

opening_numbered_holds : (x : Opening) → (opening_number x < 16) × (opening_numbered (opening_number x) ≡ x)
opening_numbered_holds Opening.Ignored = (omega arith, refl)
opening_numbered_holds Opening.Requested0 = (omega arith, refl)
opening_numbered_holds Opening.Requested1 = (omega arith, refl)
opening_numbered_holds Opening.Requested2 = (omega arith, refl)
opening_numbered_holds Opening.Malformed = (omega arith, refl)
opening_numbered_holds Opening.WrongVersion = (omega arith, refl)
opening_numbered_holds Opening.Unsupported = (omega arith, refl)
opening_numbered_holds Opening.TooLong = (omega arith, refl)
opening_numbered_holds Opening.Shown0 = (omega arith, refl)
opening_numbered_holds Opening.Valid1 = (omega arith, refl)
opening_numbered_holds Opening.Valid2 = (omega arith, refl)
opening_numbered_holds Opening.ToVerify1 = (omega arith, refl)
opening_numbered_holds Opening.ToVerify2 = (omega arith, refl)
opening_numbered_holds Opening.UnknownTidve = (omega arith, refl)
opening_numbered_holds Opening.Restarted1 = (omega arith, refl)
opening_numbered_holds Opening.Restarted2 = (omega arith, refl)

conditions_numbered_holds : (c : Conditions) → (conditions_number c < 8) × (conditions_numbered (conditions_number c) ≡ c)
conditions_numbered_holds c = go c.more c.mark c.limited
  where
    go : (a b d : Bool) → (bit a + 2 * bit b + 4 * bit d < 8) × (conditions_numbered (bit a + 2 * bit b + 4 * bit d) ≡ record { more = a; mark = b; limited = d })
    go true true true = (omega arith, refl)
    go true true false = (omega arith, refl)
    go true false true = (omega arith, refl)
    go true false false = (omega arith, refl)
    go false true true = (omega arith, refl)
    go false true false = (omega arith, refl)
    go false false true = (omega arith, refl)
    go false false false = (omega arith, refl)

-- what is computed for each number below n holds of whatever has one
each : {A : Type 0} (f : A → Bool) (n : ℕ) (of : ℕ → A) → every (λ k. f (of k)) n ≡ true → (x : A) (k : ℕ) → (k < n) × (of k ≡ x) → f x ≡ true
each f n of computed x k is = ap f (sym is.1) ∙ every_at (λ i. f (of i)) n computed k is.0

-- a test computed for every list of n flags holds of each
unfoldable pub all_flags : ℕ → (List Bool → Bool) → Bool
all_flags zero f = f []
all_flags (suc n) f = pick (all_flags n (λ l. f (true ∷ l))) (all_flags n (λ l. f (false ∷ l))) false

pub at_flags : (l : List Bool) (f : List Bool → Bool) → all_flags (length l) f ≡ true → f l ≡ true
unfolding all_flags
at_flags [] f e = e
at_flags (true ∷ l) f e = at_flags l (λ m. f (true ∷ m)) (both_fst (all_flags (length l) (λ m. f (true ∷ m))) (all_flags (length l) (λ m. f (false ∷ m))) e)
at_flags (false ∷ l) f e = at_flags l (λ m. f (false ∷ m)) (both_snd (all_flags (length l) (λ m. f (true ∷ m))) (all_flags (length l) (λ m. f (false ∷ m))) e)

abbrev pub all_states : (State → Event → Conditions → Bool) → Bool
all_states f = every (λ i. every (λ j. every (λ k. f (state_of i) (event_numbered j) (conditions_numbered k)) 8) 16) (state_bound + 1)

abbrev pub all_rows : (Row → Bool) → Bool
all_rows f = every (λ k. f (row_numbered k)) 36

abbrev pub all_openings : (Opening → Bool) → Bool
all_openings f = every (λ k. f (opening_numbered k)) 16

pub at_state : (f : State → Event → Conditions → Bool) → all_states f ≡ true → (s : State) (e : Event) (c : Conditions) → f s e c ≡ true
at_state f computed s e c =
    each (λ x. f s e x) 8 conditions_numbered
    (each (λ x. every (λ k. f s x (conditions_numbered k)) 8) 16 event_numbered
    (each (λ x. every (λ j. every (λ k. f x (event_numbered j) (conditions_numbered k)) 8) 16) (state_bound + 1) state_of computed s (state_number s) (state_small s, state_back s))
    e (event_number e) (event_numbered_holds e))
    c (conditions_number c) (conditions_numbered_holds c)

pub at_row : (f : Row → Bool) → all_rows f ≡ true → (x : Row) → f x ≡ true
at_row f computed x = each f 36 row_numbered computed x (row_number x) (row_numbered_holds x)

pub at_opening : (f : Opening → Bool) → all_openings f ≡ true → (x : Opening) → f x ≡ true
at_opening f computed x = each f 16 opening_numbered computed x (opening_number x) (opening_numbered_holds x)

pub same_row : (a b : Row) → same_row_is a b ≡ true → a ≡ b
same_row a b e = sym (row_numbered_holds a).1 ∙ ap row_numbered (eqb-true (row_number a) (row_number b) e) ∙ (row_numbered_holds b).1

pub same_opening_holds : (a b : Opening) → same_opening a b ≡ true → a ≡ b
same_opening_holds a b e = sym (opening_numbered_holds a).1 ∙ ap opening_numbered (eqb-true (opening_number a) (opening_number b) e) ∙ (opening_numbered_holds b).1
