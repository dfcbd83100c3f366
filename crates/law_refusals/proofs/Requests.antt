-- A request's refusal is exact: each of the numbers 1 to 7 is given if and only if its condition holds and no lower one's does. Assumes nothing.
use Prim.Native.Nat.{ℕ, ◌<◌}
use native.Mathlib.Omega.{arith}
use mathlib.Core.Path.{◌≡◌, refl, sym}
use mathlib.Core.List.{List}
use mathlib.Core.Bool.{Bool, true, false, not}
use lib.Dec.{ltb}
use borrow.Author.Tests.{ltb-true, ltb-false}
use Rattle.std.specs.Prelude.{Option, Some, None, is_some}
use Rattle.base_lists.specs.Seq.{pick}
use Rattle.base_lists.proofs.StoresAndParts.{true_false}
use Rattle.base_numbers.specs.declared.Refusal.{Refusal}
use Rattle.base_numbers.specs.declared.Refusal.TheVariants.{PeerTooLarge, TooLong, WrongClass, TableFull}
use Rattle.table_layout.specs.Table.{count, record_at}
use Rattle.table_finding.specs.Finding.{free_of}
use Rattle.table_finding.proofs.Searches.{free_found, free_nothing}
use Rattle.call_refusal.specs.Judging.{test, lowest, condition, Lowest}
use Rattle.call_refusal.specs.Told.{Tells}
use Rattle.call_refusal.proofs.LowestExact.{lowest_exact, tells_unfit, tells_late}
use Rattle.law_places.proofs.Places.{live_number}
use Rattle.call_request.specs.Requests.{none_free, request_tests}
use Rattle.call_request.specs.declared.Request.{Request}
use Rattle.call_request.proofs.InUse.{not_free, tells_in_use}
use Rattle.law_refusals.specs.Requests.{NoneFree, request_conditions}

-- numbers 3, 4 and 5: a number over its bound
tells_over : (r : Refusal) (most n : ℕ) (Over : Type 0) → (most < n → Over) → (Over → most < n) → Tells (test r (ltb most n)) (condition r Over)
tells_over r most n Over there back = (refl, λ e. there (ltb-true most n e), λ e h. absurd (omega (arith, ltb-false most n e, back h)))

module _ (t : List ℕ) where
  -- number 7
  tells_full : (class : ℕ) → Tells (test TableFull (none_free (free_of t (count t)) class)) (condition TableFull (NoneFree t class))
  unfolding none_free
  tells_full class = (refl, yes (ltb 0 class) refl (free_of t (count t)) refl, no (ltb 0 class) refl (free_of t (count t)) refl)
    where
      yes : (b : Bool) → ltb 0 class ≡ b → (f : Option ℕ) → free_of t (count t) ≡ f → pick b (not (is_some f)) false ≡ true → NoneFree t class
      yes false e f q h = true_false (sym h)
      yes true e (Some j) q h = true_false (sym h)
      yes true e None q h = (omega (arith, ltb-true 0 class e), λ i l. live_number (record_at t i).state (free_nothing t (count t) q i l))

      no : (b : Bool) → ltb 0 class ≡ b → (f : Option ℕ) → free_of t (count t) ≡ f → pick b (not (is_some f)) false ≡ false → NoneFree t class → ⊥
      no false e f q h n = absurd (omega (arith, ltb-false 0 class e, n.0))
      no true e None q h n = true_false h
      no true e (Some j) q h n =
          let l = free_found t (count t) j q in
          not_free (record_at t j).state (n.1 j l.below) l.is_so

pub request_exact : (t : List ℕ) (store output : ℕ) (q : Request) → Lowest (request_conditions t store output q) (lowest (request_tests t store output q))
request_exact t store output q =
    lowest_exact (request_tests t store output q) (request_conditions t store output q) (
      tells_unfit t store output,
      (
        tells_late t q.time,
        (
          tells_over PeerTooLarge 255 q.peer _ (λ h. omega arith) (λ h. omega arith),
          (
            tells_over TooLong 1024 q.len _ (λ h. omega arith) (λ h. omega arith),
            (
              tells_over WrongClass 2 q.class _ (λ h. omega arith) (λ h. omega arith),
              (
                tells_in_use t,
                (tells_full t q.class, tt),
              ),
            ),
          ),
        ),
      ),
    )
