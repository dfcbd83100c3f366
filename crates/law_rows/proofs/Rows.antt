-- Laws of every row, each computed over all states, events and conditions, and over all openings. Assumes nothing.
use Prim.Native.Nat.{ℕ}
use native.Mathlib.Omega.{arith}
use mathlib.Core.Path.{◌≡◌, refl, sym}
use mathlib.Core.Bool.{Bool, true, false, beq, ◌&&◌, ◌||◌}
use borrow.Author.Tests.{leb-true, eqb-true}
use lib.Dec.{leb, eqb}
use Rattle.base_lists.specs.Seq.{every}
use Rattle.table_record.specs.Record.{state_of, role_of, class_of, role_number}
use Rattle.table_record.specs.declared.Role.{Role}
use Rattle.table_record.specs.declared.Role.TheVariants.{Initiator, Responder}
use Rattle.table_record.specs.declared.State.{State}
use Rattle.row_events.specs.declared.Event.{Event}
use Rattle.row_events.specs.declared.Conditions.{Conditions}
use Rattle.row_events.specs.declared.Row.{Row}
use Rattle.row_events.specs.declared.Opening.{Opening}
use Rattle.row_events.proofs.Finite.{all_rows, at_state, at_row, at_opening}
use Rattle.row_choice.specs.Rows.{row_of}
use Rattle.row_columns.specs.Columns.{act_with, taken, acked, stored, shown}
use Rattle.row_columns.specs.declared.Send.{Send}
use Rattle.row_entries.specs.Acts.{act_of, opening_act}
use Rattle.law_rows.specs.Shown.{act_at, shows_abort, shows_result, takes_result, living_state, counts_rcr, sent_after_first, SendProper}

pub same_self : (b : Bool) → beq b b ≡ true
same_self true = refl
same_self false = refl

same_bool : (a b : Bool) → beq a b ≡ true → a ≡ b
same_bool true true e = refl
same_bool true false e = sym e
same_bool false true e = e
same_bool false false e = refl

same_role : (a b : Role) → eqb (role_number a) (role_number b) ≡ true → a ≡ b
same_role Initiator Initiator e = refl
same_role Initiator Responder e = absurd (omega (arith, eqb-true 0 1 e))
same_role Responder Initiator e = absurd (omega (arith, eqb-true 1 0 e))
same_role Responder Responder e = refl

module _ (kind reason : ℕ) (tidok : Bool) where
  -- no row shows both an abort and a result
  pub abort_is_no_result : (row : Row) → shows_abort (act_of row tidok kind reason) && shows_result (act_of row tidok kind reason) ≡ false
  unfolding every act_of act_with taken acked stored shown
  abort_is_no_result row =
      let shows : Row → Bool = λ x. shows_abort (act_of x tidok kind reason) && shows_result (act_of x tidok kind reason) in
      same_bool (shows row) false (at_row (λ x. beq (shows x) false) refl row)

  -- a result is shown exactly where the initiator takes a Result, TTR set, in RESULT WAIT of class 2
  pub result_exactly : (s : State) (e : Event) (c : Conditions) → shows_result (act_at s e c tidok kind reason) ≡ takes_result s e
  unfolding every state_of row_of act_of act_with taken acked stored shown
  result_exactly s e c =
      let shows : State → Event → Conditions → Bool = λ s e c. shows_result (act_at s e c tidok kind reason) in
      same_bool (shows s e c) (takes_result s e) (at_state (λ s e c. beq (shows s e c) (takes_result s e)) refl s e c)

  -- a record stays in its role
  pub keeps_role : (s : State) (e : Event) (c : Conditions) → role_of (living_state (act_at s e c tidok kind reason).next s) ≡ role_of s
  unfolding every state_of row_of act_of act_with taken acked stored shown
  keeps_role s e c =
      let role : State → Event → Conditions → Role = λ s e c. role_of (living_state (act_at s e c tidok kind reason).next s) in
      same_role (role s e c) (role_of s) (at_state (λ s e c. eqb (role_number (role s e c)) (role_number (role_of s))) refl s e c)

  -- and in its class
  pub keeps_class : (s : State) (e : Event) (c : Conditions) → class_of (living_state (act_at s e c tidok kind reason).next s) ≡ class_of s
  unfolding every state_of row_of act_of act_with taken acked stored shown
  keeps_class s e c =
      let class : State → Event → Conditions → ℕ = λ s e c. class_of (living_state (act_at s e c tidok kind reason).next s) in
      eqb-true (class s e c) (class_of s) (at_state (λ s e c. eqb (class s e c) (class_of s)) refl s e c)

-- what comes without a live record shows neither
pub opening_shows_neither : (o : Opening) → shows_abort (opening_act o) || shows_result (opening_act o) ≡ false
unfolding every opening_act act_with stored shown
opening_shows_neither o =
    let shows : Opening → Bool = λ x. shows_abort (opening_act x) || shows_result (opening_act x) in
    same_bool (shows o) false (at_opening (λ x. beq (shows x) false) refl o)

-- and counts nothing
pub opening_counts_nothing : (o : Opening) → counts_rcr (opening_act o).count || sent_after_first (opening_act o).send ≡ false
unfolding every opening_act act_with stored shown
opening_counts_nothing o =
    let counts : Opening → Bool = λ x. counts_rcr (opening_act x).count || sent_after_first (opening_act x).send in
    same_bool (counts o) false (at_opening (λ x. beq (counts x) false) refl o)

-- RCR goes up exactly where an Invoke, TIDok or Result is sent after the first
pub counts_resends : (row : Row) (tidok : Bool) (kind reason : ℕ) → counts_rcr (act_of row tidok kind reason).count ≡ sent_after_first (act_of row tidok kind reason).send
unfolding every act_of act_with taken acked stored shown
counts_resends row tidok kind reason = same_bool (counts row tidok) (sends row tidok) (at_row (λ x. beq (counts x tidok) (sends x tidok)) (computed tidok) row)
  where
    counts : Row → Bool → Bool
    counts x t = counts_rcr (act_of x t kind reason).count

    sends : Row → Bool → Bool
    sends x t = sent_after_first (act_of x t kind reason).send

    computed : (t : Bool) → all_rows (λ x. beq (counts x t) (sends x t)) ≡ true
    computed true = refl
    computed false = refl

-- whether what is sent is proper, as a test
abbrev proper_test : Send → Bool
proper_test Send.Nothing = true
proper_test (Send.Invoke again) = true
proper_test (Send.Tidok again) = true
proper_test (Send.LastAck again) = true
proper_test (Send.HoldOn again) = true
proper_test (Send.Tidve again) = true
proper_test (Send.Result again) = true
proper_test (Send.Abort kind reason) = leb kind 1

proper_tested : (send : Send) → proper_test send ≡ true → SendProper send
proper_tested Send.Nothing h = tt
proper_tested (Send.Invoke again) h = tt
proper_tested (Send.Tidok again) h = tt
proper_tested (Send.LastAck again) h = tt
proper_tested (Send.HoldOn again) h = tt
proper_tested (Send.Tidve again) h = tt
proper_tested (Send.Result again) h = tt
proper_tested (Send.Abort kind reason) h = omega (arith, leb-true kind 1 h)

-- an abort that a row sends is the provider's or the user's
pub proper : (row : Row) (tidok : Bool) (kind reason : ℕ) → SendProper (act_of row tidok kind reason).send
unfolding every act_of act_with taken acked stored shown
proper row tidok kind reason = proper_tested (act_of row tidok kind reason).send (at_row (λ x. proper_test (act_of x tidok kind reason).send) (computed tidok) row)
  where
    computed : (t : Bool) → all_rows (λ x. proper_test (act_of x t kind reason).send) ≡ true
    computed true = refl
    computed false = refl

-- and so is one that an opening sends
pub proper_opening : (o : Opening) → SendProper (opening_act o).send
unfolding every opening_act act_with stored shown
proper_opening o = proper_tested (opening_act o).send (at_opening (λ x. proper_test (opening_act x).send) refl o)
