-- The refusal of a primitive is exact: each number is given exactly when its condition holds and no lower one does. Assumes nothing.
use Prim.Native.Nat.{ℕ, ◌≤◌}
use native.Mathlib.Omega.{arith}
use borrow.Author.Tests.{ltb-true, ltb-false}
use mathlib.Core.Path.{◌≡◌, refl, sym}
use mathlib.Core.List.{List}
use mathlib.Core.Bool.{true, false, not}
use mathlib.Core.Logic.{inl, inr}
use lib.Dec.{ltb}
use Rattle.std.specs.Prelude.{Option, Some, None, is_some}
use Rattle.base_layout.specs.Layout.{peers}
use Rattle.base_lists.proofs.StoresAndParts.{true_false}
use Rattle.base_numbers.specs.declared.Refusal.TheVariants.{PeerTooLarge, TooLong, NoRecord, NotAllowed}
use Rattle.table_well_formed.specs.WellFormed.{WellFormed}
use Rattle.step_live.specs.Turning.{row_at}
use Rattle.call_refusal.specs.Judging.{lowest, Lowest, test, condition}
use Rattle.call_refusal.specs.Told.{Tells}
use Rattle.call_refusal.proofs.LowestExact.{tells_late}
use Rattle.call_primitive.specs.Primitives.{ExitRefused, NoneNamed, exit_refused, too_much_is, not_allowed, found_for, primitive_tests}
use Rattle.call_primitive.specs.declared.Primitive.{Primitive}
use Rattle.call_primitive.proofs.Named.{found_named, found_none, one_named}
use Rattle.call_primitive.proofs.PrimitiveTests.{TooMuchBy, NotTooMuch, exit_refused_holds, exit_not_refused, too_much, not_too_much, row_refuses, row_allows}
use Rattle.law_refusals.proofs.WhereFitting.{exact_where_fitting}
use Rattle.law_refusals.specs.Primitives.{TooMuch, NoRow, primitive_conditions}

pub tells_peer : (p : Primitive) → Tells (test PeerTooLarge (ltb 255 p.peer)) (condition PeerTooLarge (peers ≤ p.peer))
tells_peer p = (refl, λ e. omega (arith, ltb-true 255 p.peer e), λ e h. absurd (omega (arith, h, ltb-false 255 p.peer e)))

-- in a well-formed table, where the name finds this
module _ (t : List ℕ) (p : Primitive) (w : WellFormed t) where
  exit_found : (found : Option ℕ) → found_for t p ≡ found → 1 ≤ p.exit_len → exit_refused t found ≡ true → (i : ℕ) × ExitRefused t p i
  unfolding exit_refused
  exit_found (Some i) f some e = (i, record { some = some; names = found_named t p i f; responder = (exit_refused_holds t i e).1; class = (exit_refused_holds t i e).0 })
  exit_found None f some e = true_false (sym e)

  exit_none : (found : Option ℕ) → found_for t p ≡ found → exit_refused t found ≡ false → (i : ℕ) → ExitRefused t p i → ⊥
  exit_none (Some j) f e i x = exit_not_refused t i (rw (one_named t p w i j x.names (found_named t p j f)) e) x.class x.responder
  exit_none None f e i x = found_none t p f i x.names

  tells_too_much : (found : Option ℕ) → found_for t p ≡ found → Tells (test TooLong (too_much_is t p found)) (condition TooLong (TooMuch t p))
  tells_too_much found f = (refl, λ e. yes (too_much t p found e), λ e. no (not_too_much t p found e))
    where
      yes : TooMuchBy t p found → TooMuch t p
      yes (inl h) = inl h
      yes (inr (inl h)) = inr (inl h)
      yes (inr (inr h)) = inr (inr (exit_found found f h.0 h.1))

      no : NotTooMuch t p found → TooMuch t p → ⊥
      no n (inl h) = absurd (omega (arith, h, n.message))
      no n (inr (inl h)) = absurd (omega (arith, h, n.exit))
      no n (inr (inr h)) = exit_none found f (n.allowed h.1.some) h.0 h.1

  pub tells_none : (found : Option ℕ) → found_for t p ≡ found → Tells (test NoRecord (not (is_some found))) (condition NoRecord (NoneNamed t p))
  tells_none (Some i) f = (refl, λ e. true_false (sym e), λ e none. none i (found_named t p i f))
  tells_none None f = (refl, λ e. found_none t p f, λ e. true_false e)

  tells_row : (found : Option ℕ) → found_for t p ≡ found → Tells (test NotAllowed (not_allowed t found p.event)) (condition NotAllowed ((i : ℕ) × NoRow t p i))
  unfolding not_allowed
  tells_row (Some j) f = (
    refl,
    λ e. (j, record { names = found_named t p j f; row = row_refuses (row_at t j p.event) e }),
    λ e x. row_allows (row_at t j p.event) e (rw (one_named t p w x.0 j x.1.names (found_named t p j f)) at x.1.row),
  )
  tells_row None f = (refl, λ e. true_false (sym e), λ e x. found_none t p f x.0 x.1.names)

-- EACH NUMBER OF A PRIMITIVE IS GIVEN EXACTLY WHEN DOCUMENT 01'S TABLE SAYS SO
pub primitive_exact : (t : List ℕ) (store output : ℕ) (p : Primitive) → Lowest (primitive_conditions t store output p) (lowest (primitive_tests t store output p))
primitive_exact t store output p =
    exact_where_fitting t store output _ _
    (λ fit. (tells_late t p.time, (tells_peer p, (tells_too_much t p fit.formed (found_for t p) refl, (tells_none t p fit.formed (found_for t p) refl, (tells_row t p fit.formed (found_for t p) refl, tt))))))
