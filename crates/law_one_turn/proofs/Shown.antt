-- What a record's turn indicates counts under its own name. Assumes nothing.
use Prim.Native.Nat.{ℕ, ◌≤◌}
use native.Mathlib.Omega.{arith}
use mathlib.Core.Path.{◌≡◌, refl, sym}
use mathlib.Core.Bool.{Bool, true, false}
use lib.Dec.{eqb}
use borrow.Author.Tests.{ne_eqb}
use Rattle.base_lists.specs.Seq.{pick}
use Rattle.base_lists.proofs.StoresAndParts.{true_false}
use Rattle.table_record.specs.declared.Role.{Role}
use Rattle.table_record.specs.declared.Role.TheVariants.{Initiator, Responder}
use Rattle.row_columns.specs.declared.Indication.{Indication}
use Rattle.row_columns.specs.declared.Indication.TheVariants as Indication
use Rattle.step_shown.specs.Shows.{shown_of}
use Rattle.step_shown.specs.declared.Context.{Context}
use Rattle.law_counting.specs.Counting.{none, requested, invoked, of_indication}
use Rattle.law_history.specs.Tally.{Name, is_named, of_shown}
use Rattle.law_one_turn.proofs.Sent.{is_initiator, is_responder, pick_none}

-- who is shown what: an Invoke a responder, a result an initiator
abbrev pub shows_as : Role → Indication → Bool
shows_as role Indication.Nothing = true
shows_as role (Indication.Invoke verified) = is_responder role
shows_as role (Indication.Confirm acked) = true
shows_as role Indication.Result = is_initiator role
shows_as role (Indication.Abort type reason) = true

-- an Invoke that counts is of class 1 or 2
abbrev pub ClassShown : ℕ → Indication → Type 0
ClassShown class Indication.Nothing = Unit
ClassShown class (Indication.Invoke verified) = 1 ≤ class
ClassShown class (Indication.Confirm acked) = Unit
ClassShown class Indication.Result = Unit
ClassShown class (Indication.Abort type reason) = Unit

pub class_shown : (class : ℕ) → 1 ≤ class → (i : Indication) → ClassShown class i
class_shown class h Indication.Nothing = tt
class_shown class h (Indication.Invoke verified) = h
class_shown class h (Indication.Confirm acked) = tt
class_shown class h Indication.Result = tt
class_shown class h (Indication.Abort type reason) = tt

module _ (n : Name) (peer tid : ℕ) where
  invoke_counts : (role : Role) (class : ℕ) → is_responder role ≡ true → 1 ≤ class
      → pick (eqb class 0) none (pick (is_named n Responder peer tid) (invoked 0 1) none) ≡ pick (is_named n role peer tid) (invoked 0 1) none
  invoke_counts Initiator class e h = true_false (sym e)
  invoke_counts Responder class e h = let z : eqb class 0 ≡ false = ne_eqb class 0 (λ d. absurd (omega (arith, d))) in rw z refl

  result_counts : (role : Role) → is_initiator role ≡ true → pick (is_named n Initiator peer tid) (requested 0 0 1) none ≡ pick (is_named n role peer tid) (requested 0 0 1) none
  result_counts Initiator e = refl
  result_counts Responder e = true_false (sym e)

pub shown_counts : (n : Name) (c : Context) (i : Indication) → ClassShown c.class i → shows_as c.role i ≡ true
    → of_shown n (shown_of i c) ≡ pick (is_named n c.role c.peer c.tid) (of_indication i) none
unfolding shown_of of_shown
shown_counts n c Indication.Nothing h e = sym (pick_none (is_named n c.role c.peer c.tid))
shown_counts n c (Indication.Invoke verified) h e = invoke_counts n c.peer c.tid c.role c.class e h
shown_counts n c (Indication.Confirm acked) h e = refl
shown_counts n c Indication.Result h e = result_counts n c.peer c.tid c.role e
shown_counts n c (Indication.Abort type reason) h e = refl
