-- A name is read back from its role, peer and TID; and whether a name lives is whether some live record is called so. Assumes nothing.
use Prim.Native.Nat.{ℕ, ◌<◌}
use mathlib.Core.Path.{◌≡◌, refl, sym, ap, ◌∙◌}
use mathlib.Core.Bool.{true, false}
use mathlib.Core.List.{List}
use lib.Dec.{eqb}
use borrow.Author.Tests.{eqb-true, eq-eqb}
use Rattle.std.specs.Prelude.{Option, Some, None, is_some}
use Rattle.base_lists.specs.Seq.{pick}
use Rattle.base_lists.proofs.StoresAndParts.{true_false, both, both_fst, both_snd, not_so}
use Rattle.table_record.specs.Record.{role_number}
use Rattle.table_record.specs.declared.Role.{Role}
use Rattle.table_record.specs.declared.Role.TheVariants.{Initiator, Responder}
use Rattle.table_layout.specs.Table.{count, record_at}
use Rattle.table_finding.specs.Finding.{named_of}
use Rattle.table_finding.specs.Searched.{Called, NoneOf}
use Rattle.table_finding.proofs.Searches.{named_found, named_nothing}
use Rattle.law_history.specs.Tally.{Name, is_named, lives}

abbrev pub name : Role → ℕ → ℕ → Name
name role peer tid = record { role = role; peer = peer; tid = tid }

same_role : (a b : Role) → eqb (role_number a) (role_number b) ≡ true → a ≡ b
same_role Initiator Initiator e = refl
same_role Initiator Responder e = true_false (sym e)
same_role Responder Initiator e = true_false (sym e)
same_role Responder Responder e = refl

module _ (n : Name) (role : Role) (peer tid : ℕ) where
  pub named_is : is_named n role peer tid ≡ true → n ≡ name role peer tid
  named_is e =
      let r : n.role ≡ role = same_role n.role role (both_fst (eqb (role_number n.role) (role_number role)) _ e) in
      let rest : pick (eqb n.peer peer) (eqb n.tid tid) false ≡ true = both_snd (eqb (role_number n.role) (role_number role)) _ e in
      let p : n.peer ≡ peer = eqb-true n.peer peer (both_fst (eqb n.peer peer) _ rest) in
      let i : n.tid ≡ tid = eqb-true n.tid tid (both_snd (eqb n.peer peer) _ rest) in
      ap (λ (x : Role). name x n.peer n.tid) r ∙ (ap (λ (x : ℕ). name role x n.tid) p ∙ ap (name role peer) i)

  pub not_named : (n ≡ name role peer tid → ⊥) → is_named n role peer tid ≡ false
  not_named other = not_so (is_named n role peer tid) (λ e. other (named_is e))

pub named_self : (role : Role) (peer tid : ℕ) → is_named (name role peer tid) role peer tid ≡ true
named_self role peer tid =
    both (eqb (role_number role) (role_number role)) _ (eq-eqb (role_number role) (role_number role) refl)
    (both (eqb peer peer) _ (eq-eqb peer peer refl) (eq-eqb tid tid refl))

-- a live record of a table that is called so
pub record CalledAt (t : List ℕ) (n : Name) : Type 0 where
  pub at : ℕ
  pub inside : at < count t
  pub called : Called n.role n.peer n.tid (record_at t at)

module _ (t : List ℕ) (n : Name) where
  pub who_lives : lives t n ≡ true → CalledAt t n
  who_lives e = go (named_of t (count t) n.role n.peer n.tid) refl e
    where
      go : (f : Option ℕ) → named_of t (count t) n.role n.peer n.tid ≡ f → is_some f ≡ true → CalledAt t n
      go (Some i) q h = let l = named_found t (count t) n.role n.peer n.tid i q in record { at = i; inside = l.below; called = l.is_so }
      go None q h = true_false (sym h)

  pub it_lives : CalledAt t n → lives t n ≡ true
  it_lives c = go (named_of t (count t) n.role n.peer n.tid) refl
    where
      go : (f : Option ℕ) → named_of t (count t) n.role n.peer n.tid ≡ f → is_some f ≡ true
      go (Some i) q = refl
      go None q = absurd (named_nothing t (count t) n.role n.peer n.tid q c.at c.inside c.called)

  pub none_lives : NoneOf (Called n.role n.peer n.tid) t (count t) → lives t n ≡ false
  none_lives none = not_so (lives t n) (λ e. let c = who_lives e in none c.at c.inside c.called)
