-- Names: two are one or not; live records at two places of a well-formed table have two. Assumes nothing.
use Prim.Native.Nat.{ℕ, ◌<◌}
use native.Mathlib.Omega.{arith}
use borrow.Author.Tests.{eqb-true, eqb-false}
use mathlib.Core.Path.{◌≡◌, refl, ap}
use mathlib.Core.Bool.{true, false}
use mathlib.Core.List.{List}
use mathlib.Core.Logic.{◌⊎◌, inl, inr}
use lib.Dec.{eqb}
use Rattle.std.specs.Prelude.{Option, Some, None, is_some}
use Rattle.base_lists.proofs.StoresAndParts.{told, true_false}
use Rattle.table_record.specs.Record.{role_number}
use Rattle.table_record.specs.declared.Role.{Role}
use Rattle.table_record.specs.declared.Role.TheVariants.{Initiator, Responder}
use Rattle.table_record.specs.declared.Record.{Record}
use Rattle.table_layout.specs.Table.{count, record_at}
use Rattle.table_record_ok.specs.OneRecord.{Live}
use Rattle.table_names_ok.specs.Names.{SameName}
use Rattle.table_well_formed.specs.WellFormed.{WellFormed}
use Rattle.table_finding.specs.Finding.{named_of}
use Rattle.table_finding.proofs.Searches.{named_nothing}
use Rattle.law_plans_sound.proofs.Receives.{not_free}
use Rattle.law_history.specs.Tally.{Name, lives}
use Rattle.law_history.specs.Moves.{name_of}

-- one or not
abbrev pub SameOrNot {ℓ} : {A : Type ℓ} → A → A → Type ℓ
SameOrNot a b = (a ≡ b) ⊎ (a ≡ b → ⊥)

pub same_number : (m n : ℕ) → SameOrNot m n
same_number m n = go (told (eqb m n))
  where
    go : (eqb m n ≡ true) ⊎ (eqb m n ≡ false) → SameOrNot m n
    go (inl e) = inl (eqb-true m n e)
    go (inr e) = inr (eqb-false m n e)

same_role : (r s : Role) → SameOrNot r s
same_role Initiator Initiator = inl refl
same_role Responder Responder = inl refl
same_role Initiator Responder = inr (λ e. absurd (omega (arith, ap role_number e)))
same_role Responder Initiator = inr (λ e. absurd (omega (arith, ap role_number e)))

pub same_name : (m n : Name) → SameOrNot m n
same_name m n = go (same_role m.role n.role) (same_number m.peer n.peer) (same_number m.tid n.tid)
  where
    go : SameOrNot m.role n.role → SameOrNot m.peer n.peer → SameOrNot m.tid n.tid → SameOrNot m n
    go (inr d) p t = inr (λ e. d (ap (λ (x : Name). x.role) e))
    go (inl r) (inr d) t = inr (λ e. d (ap (λ (x : Name). x.peer) e))
    go (inl r) (inl p) (inr d) = inr (λ e. d (ap (λ (x : Name). x.tid) e))
    go (inl r) (inl p) (inl t) = inl (λ i. record { role = r i; peer = p i; tid = t i })

-- records of one name share role, peer and TID
shared : (r s : Record) → name_of r ≡ name_of s → SameName r s
shared r s e = record { role = ap (λ (x : Name). x.role) e; peer = ap (λ (x : Name). x.peer) e; tid = ap (λ (x : Name). x.tid) e }

module _ (t : List ℕ) where
  -- live records at two places have two names
  pub two_names : WellFormed t → (i j : ℕ) → i < count t → j < count t → (i ≡ j → ⊥) → Live (record_at t i) → Live (record_at t j) → name_of (record_at t i) ≡ name_of (record_at t j) → ⊥
  two_names w i j h k d live other e = w.unique i j h k d live other (shared (record_at t i) (record_at t j) e)

  -- a name that isn't found is no live record's
  pub unused_name : (n : Name) → lives t n ≡ false → (j : ℕ) → j < count t → Live (record_at t j) → name_of (record_at t j) ≡ n → ⊥
  unused_name n e j h live same = go (named_of t (count t) n.role n.peer n.tid) refl e
    where
      go : (f : Option ℕ) → named_of t (count t) n.role n.peer n.tid ≡ f → is_some f ≡ false → ⊥
      go (Some i) q x = true_false x
      go None q x = named_nothing t (count t) n.role n.peer n.tid q j h (record {
        live = not_free (record_at t j).state live;
        role_is = ap (λ (x : Name). x.role) same;
        peer_is = ap (λ (x : Name). x.peer) same;
        tid_is = ap (λ (x : Name). x.tid) same;
      })
