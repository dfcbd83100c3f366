-- What comes without a live record opens one for an Invoke of class 1 or 2, or counts nothing. Assumes nothing.
use Prim.Native.Nat.{ℕ, ◌≤◌}
use native.Mathlib.Omega.{arith}
use mathlib.Core.Path.{◌≡◌, refl, sym, ◌∙◌}
use mathlib.Core.Bool.{Bool, true, false, not}
use mathlib.Core.List.{List}
use mathlib.Core.Logic.{◌⊎◌, inl, inr}
use lib.Dec.{eqb}
use borrow.Author.Tests.{eqb-true, eqb-false, eq-eqb}
use Rattle.base_lists.specs.Seq.{pick}
use Rattle.base_lists.proofs.StoresAndParts.{true_false}
use Rattle.table_record.specs.Record.{state_number}
use Rattle.table_record.specs.declared.Role.{Role}
use Rattle.table_record.specs.declared.Role.TheVariants.{Responder}
use Rattle.table_record.specs.declared.Record.{Record}
use Rattle.table_layout.specs.declared.Settings.{Settings}
use Rattle.codec_pdu.specs.declared.Pdu.{Pdu}
use Rattle.row_events.specs.declared.Opening.{Opening}
use Rattle.row_events.specs.declared.Opening.TheVariants as Opening
use Rattle.row_choice.specs.Rows.{invoke0_of, by_class, invoke12_of, opening_of}
use Rattle.row_choice.specs.declared.Arrived.{Arrived}
use Rattle.step_arrivals.specs.Arrivals.{wanted_of, arrived_of}
use Rattle.row_columns.specs.Columns.{act_with, stored, shown}
use Rattle.row_columns.specs.declared.Next.TheVariants.{Ends}
use Rattle.row_columns.specs.declared.Indication.TheVariants as Indication
use Rattle.row_entries.specs.Acts.{opening_act}
use Rattle.row_turns.specs.Turns.{moved_to, record_after, turn_of, opening_turn}
use Rattle.row_turns.specs.declared.Given.{Given}
use Rattle.step_shown.specs.Shows.{shown_of}
use Rattle.step_shown.specs.declared.Context.{Context}
use Rattle.call_receive.specs.Receives.{arrival_opening}
use Rattle.law_plans_sound.proofs.Openings.{opened_role}
use Rattle.law_plans_sound.proofs.Receives.{picked}
use Rattle.law_counting.specs.Counting.{none, of_send}
use Rattle.law_history.specs.Tally.{Name, of_shown}
use Rattle.law_one_turn.proofs.Sent.{sends_as}

-- which openings an arrived PDU may meet: class 0 is shown at once, class 1 and 2 open a record
abbrev arrives_as : Bool → Opening → Bool
arrives_as zero Opening.Ignored = true
arrives_as zero Opening.Requested0 = false
arrives_as zero Opening.Requested1 = false
arrives_as zero Opening.Requested2 = false
arrives_as zero Opening.Malformed = true
arrives_as zero Opening.WrongVersion = true
arrives_as zero Opening.Unsupported = true
arrives_as zero Opening.TooLong = true
arrives_as zero Opening.Shown0 = zero
arrives_as zero Opening.Valid1 = not zero
arrives_as zero Opening.Valid2 = not zero
arrives_as zero Opening.ToVerify1 = not zero
arrives_as zero Opening.ToVerify2 = not zero
arrives_as zero Opening.UnknownTidve = true
arrives_as zero Opening.Restarted1 = not zero
arrives_as zero Opening.Restarted2 = not zero

abbrev Arrives : Bool → Opening → Type 0
Arrives zero o = arrives_as zero o ≡ true

module _ (a : Arrived) where
  other : (zero : Bool) → arrives_as zero (pick a.malformed Opening.Ignored (pick a.tidve Opening.UnknownTidve Opening.Ignored)) ≡ true
  other zero = picked (Arrives zero) a.malformed _ _ refl (picked (Arrives zero) a.tidve _ _ refl refl)

  of_class : (zero : Bool) → arrives_as zero (pick zero (invoke0_of a) (invoke12_of a)) ≡ true
  unfolding invoke0_of by_class invoke12_of
  of_class true = picked (Arrives true) a.wrong_version _ _ refl (picked (Arrives true) a.ttr_clear _ _ refl (picked (Arrives true) a.too_long _ _ refl refl))
  of_class false =
      picked (Arrives false) a.wrong_version _ _ refl (picked (Arrives false) a.ttr_clear _ _ refl (picked (Arrives false) a.too_long _ _ refl (picked (Arrives false) a.full _ _ refl
      (picked (Arrives false) a.tidnew _ _ (picked (Arrives false) (eqb a.class 1) _ _ refl refl)
      (picked (Arrives false) a.valid _ _ (picked (Arrives false) (eqb a.class 1) _ _ refl refl) (picked (Arrives false) (eqb a.class 1) _ _ refl refl))))))

  arrives_as_holds : arrives_as (eqb a.class 0) (opening_of a) ≡ true
  unfolding opening_of
  arrives_as_holds =
      let zero : Bool = eqb a.class 0 in
      picked (Arrives zero) a.invoke _ _ (picked (Arrives zero) a.malformed _ _ refl (of_class zero)) (other zero)

-- an opening that leaves no record, sends nothing that counts and shows at most an Invoke of class 0
pub record CountsNone (class : ℕ) (o : Opening) : Type 0 where
  pub ends : (opening_act o).next ≡ Ends
  pub sends : (role : Role) → sends_as role (opening_act o).send ≡ true
  pub sends_none : of_send (opening_act o).send ≡ none
  pub first : (n : Name) (c : Context) → c.class ≡ class → of_shown n (shown_of (opening_act o).first c) ≡ none
  pub second : (opening_act o).second ≡ Indication.Nothing

-- an opening of a responder's record, of a class
pub record OpensRecord (class : ℕ) (o : Opening) : Type 0 where
  pub some : 1 ≤ class
  pub role : opened_role o ≡ Responder
  pub lives : (r : Record) (g : Given) (s : Settings) (rows : List (List ℕ)) → 1 ≤ state_number (opening_turn o r g s rows).after.state

abbrev Either : ℕ → Opening → Type 0
Either class o = CountsNone class o ⊎ OpensRecord class o

-- a PDU without indication that ends
quiet : (class : ℕ) (o : Opening) → (opening_act o).next ≡ Ends → ((role : Role) → sends_as role (opening_act o).send ≡ true) → of_send (opening_act o).send ≡ none
    → (opening_act o).first ≡ Indication.Nothing → (opening_act o).second ≡ Indication.Nothing → CountsNone class o
unfolding shown_of of_shown
quiet class o e s c f i = record { ends = e; sends = s; sends_none = c; first = λ n x k. rw f refl; second = i }

zero_shown : (n : Name) (c : Context) → c.class ≡ 0 → of_shown n (shown_of (Indication.Invoke false) c) ≡ none
unfolding shown_of of_shown
zero_shown n c e = let z : eqb c.class 0 ≡ true = eq-eqb c.class 0 e in rw z refl

over_zero : (class : ℕ) → eqb class 0 ≡ false → 1 ≤ class
over_zero class e = omega (arith, eqb-false class 0 e)

not-true : (b : Bool) → not b ≡ true → b ≡ false
not-true true e = sym e
not-true false e = refl

opens_one : (class : ℕ) (o : Opening) → not (eqb class 0) ≡ true → opened_role o ≡ Responder
    → ((r : Record) (g : Given) (s : Settings) (rows : List (List ℕ)) → 1 ≤ state_number (opening_turn o r g s rows).after.state) → Either class o
opens_one class o e role lives = inr record { some = over_zero class (not-true (eqb class 0) e); role = role; lives = lives }

either : (class : ℕ) (o : Opening) → arrives_as (eqb class 0) o ≡ true → Either class o
unfolding opening_turn turn_of opening_act act_with stored shown record_after moved_to
either class Opening.Ignored e = inl (quiet class Opening.Ignored refl (λ r. refl) refl refl refl)
either class Opening.Requested0 e = true_false (sym e)
either class Opening.Requested1 e = true_false (sym e)
either class Opening.Requested2 e = true_false (sym e)
either class Opening.Malformed e = inl (quiet class Opening.Malformed refl (λ r. refl) refl refl refl)
either class Opening.WrongVersion e = inl (quiet class Opening.WrongVersion refl (λ r. refl) refl refl refl)
either class Opening.Unsupported e = inl (quiet class Opening.Unsupported refl (λ r. refl) refl refl refl)
either class Opening.TooLong e = inl (quiet class Opening.TooLong refl (λ r. refl) refl refl refl)
either class Opening.Shown0 e =
    inl record { ends = refl; sends = λ r. refl; sends_none = refl; first = λ n c k. zero_shown n c (k ∙ eqb-true class 0 e); second = refl }
either class Opening.Valid1 e = opens_one class Opening.Valid1 e refl (λ r g s rows. omega arith)
either class Opening.Valid2 e = opens_one class Opening.Valid2 e refl (λ r g s rows. omega arith)
either class Opening.ToVerify1 e = opens_one class Opening.ToVerify1 e refl (λ r g s rows. omega arith)
either class Opening.ToVerify2 e = opens_one class Opening.ToVerify2 e refl (λ r g s rows. omega arith)
either class Opening.UnknownTidve e = inl (quiet class Opening.UnknownTidve refl (λ r. refl) refl refl refl)
either class Opening.Restarted1 e = opens_one class Opening.Restarted1 e refl (λ r g s rows. omega arith)
either class Opening.Restarted2 e = opens_one class Opening.Restarted2 e refl (λ r g s rows. omega arith)

-- a PDU without a live record
pub arrival : (t : List ℕ) (peer tid : ℕ) (s : List ℕ) (p : Pdu)
    → CountsNone (wanted_of p.kind).class (arrival_opening t peer tid s p) ⊎ OpensRecord (wanted_of p.kind).class (arrival_opening t peer tid s p)
unfolding arrival_opening arrived_of
arrival t peer tid s p = either (wanted_of p.kind).class (arrival_opening t peer tid s p) (arrives_as_holds _)
