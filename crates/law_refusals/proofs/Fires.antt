-- The refusal of a firing is exact: each number is given exactly when its condition holds and no lower one does. Assumes nothing.
use Prim.Native.Nat.{ℕ}
use mathlib.Core.Path.{◌≡◌, refl, sym}
use mathlib.Core.List.{List}
use borrow.Author.Tests.{not-true, not-false}
use Rattle.std.specs.Prelude.{Option, Some, None}
use Rattle.base_lists.proofs.StoresAndParts.{true_false}
use Rattle.base_numbers.specs.declared.Refusal.TheVariants.{NotAllowed}
use Rattle.table_well_formed.specs.WellFormed.{WellFormed}
use Rattle.table_layout.specs.Table.{record_at}
use Rattle.table_finding.proofs.Tests.{denied, tells_due}
use Rattle.call_refusal.specs.Judging.{lowest, Lowest, test, condition}
use Rattle.call_refusal.specs.Told.{Tells}
use Rattle.call_refusal.proofs.LowestExact.{tells_late}
use Rattle.call_primitive.specs.Primitives.{found_for}
use Rattle.call_primitive.specs.declared.Primitive.{Primitive}
use Rattle.call_primitive.proofs.Named.{found_named, found_none, one_named}
use Rattle.call_fire.specs.Fires.{not_due, fire_tests}
use Rattle.law_refusals.specs.Fires.{NotDue, fire_conditions}
use Rattle.law_refusals.proofs.WhereFitting.{exact_where_fitting}
use Rattle.law_refusals.proofs.Primitives.{tells_peer, tells_none}

-- in a well-formed table, where the name finds this
tells_not_due : (t : List ℕ) (p : Primitive) (w : WellFormed t) (found : Option ℕ) → found_for t p ≡ found → Tells (test NotAllowed (not_due t p.time found)) (condition NotAllowed ((i : ℕ) × NotDue t p i))
unfolding not_due
tells_not_due t p w (Some j) f = (
  refl,
  λ e. (j, record { names = found_named t p j f; not_due = denied (tells_due (record_at t j) p.time) (not-true _ e) }),
  λ e x. x.1.not_due (rw (one_named t p w j x.0 (found_named t p j f) x.1.names) at ((tells_due (record_at t j) p.time).0 (not-false _ e))),
)
tells_not_due t p w None f = (refl, λ e. true_false (sym e), λ e x. found_none t p f x.0 x.1.names)

-- EACH NUMBER OF A FIRING IS GIVEN EXACTLY WHEN DOCUMENT 02 SAYS SO
pub fire_exact : (t : List ℕ) (store output : ℕ) (p : Primitive) → Lowest (fire_conditions t store output p) (lowest (fire_tests t store output p))
fire_exact t store output p =
    exact_where_fitting t store output _ _
    (λ fit. (tells_late t p.time, (tells_peer p, (tells_none t p fit.formed (found_for t p) refl, (tells_not_due t p fit.formed (found_for t p) refl, tt)))))
