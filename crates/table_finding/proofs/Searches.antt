-- What each search finds, in the words of 01; and where it finds nothing, there is none. Assumes nothing.
use Rattle.std.specs.Prelude.{Option, Some, None, is_some}
use mathlib.Core.Path.{◌≡◌, refl, sym}
use mathlib.Core.List.{List}
use mathlib.Core.Bool.{Bool, true, false}
use Prim.Native.Nat.{ℕ}
use native.Mathlib.Omega.{arith}
use Rattle.base_lists.proofs.StoresAndParts.{true_false}
use Rattle.table_record.specs.declared.Role.{Role}
use Rattle.table_record.specs.declared.State.TheVariants.{Free}
use Rattle.table_record.specs.declared.Record.{Record}
use Rattle.table_layout.specs.Table.{record_at}
use Rattle.table_finding.specs.Finding.{first, is_free, is_named, uses_tid, named_of, free_of, tid_in_use}
use Rattle.table_finding.proofs.First.{Lowest, Told, first_told}
use Rattle.table_finding.specs.Searched.{Called, Uses, LowestOf, NoneOf}
use Rattle.table_finding.proofs.Tests.{Tells, denied, tells_free, tells_named, tells_uses}

module _ (p : Record → Bool) (P : Record → Type 0) (f : (r : Record) → Tells (p r) (P r)) (t : List ℕ) (n : ℕ) where
  abbrev searched : Option ℕ
  searched = first (λ (i : ℕ). p (record_at t i)) n 0

  abbrev says : Told (λ (i : ℕ). p (record_at t i)) 0 n searched
  says = first_told (λ (i : ℕ). p (record_at t i)) n 0

  lowest : (j : ℕ) → searched ≡ Some j → LowestOf P t n j
  lowest j e =
      let l : Lowest (λ (i : ℕ). p (record_at t i)) 0 n j = rw e at says in
      record {
        below = omega (arith, l.below);
        is_so = (f (record_at t j)).0 l.holds;
        none_before = λ m h x. denied (f (record_at t m)) (l.before m (omega arith) h) x;
      }

  nowhere : searched ≡ None → NoneOf P t n
  nowhere e m h x =
      let l : Told (λ (i : ℕ). p (record_at t i)) 0 n None = rw e at says in
      denied (f (record_at t m)) (l m (omega arith) (omega arith)) x

  some : is_some searched ≡ true → (j : ℕ) × LowestOf P t n j
  some e = go searched refl e
    where
      go : (r : Option ℕ) → searched ≡ r → is_some r ≡ true → (j : ℕ) × LowestOf P t n j
      go (Some j) q e = (j, lowest j q)
      go None q e = true_false (sym e)

  not_some : is_some searched ≡ false → NoneOf P t n
  not_some e = go searched refl e
    where
      go : (r : Option ℕ) → searched ≡ r → is_some r ≡ false → NoneOf P t n
      go (Some j) q e = true_false e
      go None q e = nowhere q

module _ (t : List ℕ) (n : ℕ) where
  pub named_found : (role : Role) (peer tid j : ℕ) → named_of t n role peer tid ≡ Some j → LowestOf (Called role peer tid) t n j
  unfolding named_of
  named_found role peer tid j e = lowest (is_named role peer tid) (Called role peer tid) (λ r. tells_named r role peer tid) t n j e

  pub named_nothing : (role : Role) (peer tid : ℕ) → named_of t n role peer tid ≡ None → NoneOf (Called role peer tid) t n
  unfolding named_of
  named_nothing role peer tid e = nowhere (is_named role peer tid) (Called role peer tid) (λ r. tells_named r role peer tid) t n e

  pub free_found : (j : ℕ) → free_of t n ≡ Some j → LowestOf (λ (r : Record). r.state ≡ Free) t n j
  unfolding free_of
  free_found j e = lowest is_free (λ (r : Record). r.state ≡ Free) tells_free t n j e

  pub free_nothing : free_of t n ≡ None → NoneOf (λ (r : Record). r.state ≡ Free) t n
  unfolding free_of
  free_nothing e = nowhere is_free (λ (r : Record). r.state ≡ Free) tells_free t n e

  pub tid_used : (tid : ℕ) → tid_in_use t n tid ≡ true → (j : ℕ) × LowestOf (Uses tid) t n j
  unfolding tid_in_use
  tid_used tid e = some (uses_tid tid) (Uses tid) (λ r. tells_uses r tid) t n e

  pub tid_unused : (tid : ℕ) → tid_in_use t n tid ≡ false → NoneOf (Uses tid) t n
  unfolding tid_in_use
  tid_unused tid e = not_some (uses_tid tid) (Uses tid) (λ r. tells_uses r tid) t n e
