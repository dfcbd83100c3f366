-- The test of the records' names holds exactly when their sentence does. Assumes nothing.
use mathlib.Core.Path.{◌≡◌, refl, sym, ap, ◌∙◌}
use mathlib.Core.List.{List}
use mathlib.Core.Bool.{true, not}
use mathlib.Core.Logic.{◌⊎◌, inl, inr}
use Prim.Native.Nat.{ℕ, ◌<◌}
use native.Mathlib.Omega.{arith}
use borrow.Author.Tests.{leb-true, le-leb, eqb-true, eq-eqb, not-true}
use Rattle.base_lists.proofs.StoresAndParts.{not_so, true_false, every_all, every_at}
use Rattle.base_octets.proofs.StoredAndRead.{two_sides}
use Rattle.table_record.specs.Record.{role_number}
use Rattle.table_record.specs.declared.Record.{Record}
use Rattle.table_record.specs.declared.Role.{Role}
use Rattle.table_record.specs.declared.Role.TheVariants.{Initiator, Responder}
use Rattle.table_layout.specs.Table.{record_at}
use Rattle.table_ranges.proofs.Tests.{Each, each, all}
use Rattle.table_record_ok.specs.OneRecord.{Live}
use Rattle.table_names_ok.specs.Names.{SameName, Unique, clash_tests, clash, new_name, names_ok}

pub role_back_holds : (a b : Role) → role_number a ≡ role_number b → a ≡ b
role_back_holds Initiator Initiator e = refl
role_back_holds Initiator Responder e = absurd (omega arith)
role_back_holds Responder Initiator e = absurd (omega arith)
role_back_holds Responder Responder e = refl

pub clash_to : (r s : Record) → clash r s ≡ true → Live r × Live s × SameName r s
unfolding clash
clash_to r s h =
    let e : Each (clash_tests r s) = each (clash_tests r s) h in (
      leb-true _ _ e.0,
      leb-true _ _ e.1.0,
      record { role = role_back_holds _ _ (eqb-true _ _ e.1.1.0); peer = eqb-true _ _ e.1.1.1.0; tid = eqb-true _ _ e.1.1.1.1 },
    )

pub clash_from : (r s : Record) → Live r → Live s → SameName r s → clash r s ≡ true
unfolding clash
clash_from r s l m n =
    all (clash_tests r s) (le-leb _ _ l, (le-leb _ _ m, (eq-eqb _ _ (ap role_number n.role), (eq-eqb _ _ n.peer, eq-eqb _ _ n.tid))))

pub name_turned : (r s : Record) → SameName r s → SameName s r
name_turned r s n = record { role = sym n.role; peer = sym n.peer; tid = sym n.tid }

-- THE TEST OF THE NAMES HOLDS EXACTLY WHEN THEIR SENTENCE DOES
pub names_to : (t : List ℕ) (n : ℕ) → names_ok t n ≡ true → Unique t n
unfolding names_ok new_name
names_to t n h i j a b d l m s = go (two_sides i j d) where
  before : (i j : ℕ) → i < j → j < n → Live (record_at t i) → Live (record_at t j) → SameName (record_at t i) (record_at t j) → ⊥
  before i j a b l m s =
      let e : not (clash (record_at t i) (record_at t j)) ≡ true = every_at (λ k. not (clash (record_at t k) (record_at t j))) j (every_at (new_name t) n h j b) i a in
      true_false (sym (clash_from (record_at t i) (record_at t j) l m s) ∙ not-true _ e)

  go : (i < j) ⊎ (j < i) → ⊥
  go (inl k) = before i j k b l m s
  go (inr k) = before j i k a m l (name_turned (record_at t i) (record_at t j) s)

pub names_from : (t : List ℕ) (n : ℕ) → Unique t n → names_ok t n ≡ true
unfolding names_ok new_name
names_from t n u = every_all (new_name t) n (λ j b. every_all (λ i. not (clash (record_at t i) (record_at t j))) j (λ i a. ap not (not_so _ (apart i j a b)))) where
  apart : (i j : ℕ) → i < j → j < n → clash (record_at t i) (record_at t j) ≡ true → ⊥
  apart i j a b h =
      let e = clash_to (record_at t i) (record_at t j) h in
      u i j (omega arith) b (λ (q : i ≡ j). omega arith) e.0 e.1 e.2
