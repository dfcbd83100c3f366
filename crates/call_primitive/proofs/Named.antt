-- What a primitive's name finds is the live record that it names; where it finds nothing, it names none. Assumes nothing.
use Prim.Native.Nat.{ℕ, ◌≤◌}
use native.Mathlib.Omega.{arith}
use borrow.Author.Tests.{eqb-true, eqb-false}
use mathlib.Core.Path.{◌≡◌, refl, sym, ap, ◌∙◌}
use mathlib.Core.List.{List}
use mathlib.Core.Bool.{Bool, true, false}
use mathlib.Core.Logic.{◌⊎◌, inl, inr}
use lib.Dec.{eqb}
use Rattle.std.specs.Prelude.{Option, Some, None}
use Rattle.base_layout.specs.Layout.{tid_bound}
use Rattle.base_lists.specs.Seq.{pick}
use Rattle.base_lists.proofs.StoresAndParts.{told}
use Rattle.table_record.specs.Record.{role_of, role_number, state_number}
use Rattle.table_record.specs.declared.Role.{Role}
use Rattle.table_record.specs.declared.Role.TheVariants.{Initiator, Responder}
use Rattle.table_layout.specs.Table.{count, record_at}
use Rattle.table_names_ok.specs.Names.{SameName}
use Rattle.table_well_formed.specs.WellFormed.{WellFormed}
use Rattle.table_finding.specs.Finding.{Within, named_of}
use Rattle.table_finding.specs.Searched.{Called}
use Rattle.table_finding.proofs.Searches.{named_found, named_nothing}
use Rattle.law_places.specs.Places.{LiveAt}
use Rattle.law_places.proofs.Places.{live_number, live_range}
use Rattle.call_refusal.proofs.Fits.{record_there}
use Rattle.call_primitive.specs.Primitives.{Named, NoneNamed, named_by, found_for}
use Rattle.call_primitive.specs.declared.Primitive.{Primitive}

-- a role by its number
role_of_number : (a b : Role) → role_number a ≡ role_number b → a ≡ b
role_of_number Initiator Initiator e = refl
role_of_number Initiator Responder e = absurd (omega (arith, e))
role_of_number Responder Initiator e = absurd (omega (arith, e))
role_of_number Responder Responder e = refl

-- what was found, or that nothing was, in the words of the primitive
abbrev Says : List ℕ → Primitive → Option ℕ → Type 0
Says t p (Some i) = Named t p i
Says t p None = NoneNamed t p

module _ (t : List ℕ) (p : Primitive) where
  called : (a : Role) → p.role ≡ role_number a → (i : ℕ) → Named t p i → Called a p.peer p.tid (record_at t i)
  called a r i n = record {
    live = λ free. absurd (omega (arith, ap state_number free, n.live));
    role_is = role_of_number (role_of (record_at t i).state) a (n.role ∙ r);
    peer_is = n.peer;
    tid_is = n.tid;
  }

  by_role : (a : Role) → p.role ≡ role_number a → (f : Option ℕ) → named_of t (count t) a p.peer p.tid ≡ f → Says t p f
  by_role a r (Some i) e =
      let l = named_found t (count t) a p.peer p.tid i e in
      record {
        inside = l.below;
        live = live_number (record_at t i).state l.is_so.live;
        role = ap role_number l.is_so.role_is ∙ sym r;
        peer = l.is_so.peer_is;
        tid = l.is_so.tid_is;
      }
  by_role a r None e = λ i n. named_nothing t (count t) a p.peer p.tid e i n.inside (called a r i n)

  -- a role number other than 0 and 1 names no record
  pub no_role : (p.role ≡ 0 → ⊥) → (p.role ≡ 1 → ⊥) → NoneNamed t p
  no_role f g i n = go (role_of (record_at t i).state) n.role
    where
      go : (a : Role) → role_number a ≡ p.role → ⊥
      go Initiator q = f (sym q)
      go Responder q = g (sym q)

  named_says : Says t p (found_for t p)
  unfolding named_by
  named_says = go (eqb p.role 0) (eqb p.role 1) refl refl
    where
      go : (a b : Bool) → eqb p.role 0 ≡ a → eqb p.role 1 ≡ b → Says t p (pick a (named_of t (count t) Initiator p.peer p.tid) (pick b (named_of t (count t) Responder p.peer p.tid) None))
      go true b e f = by_role Initiator (eqb-true p.role 0 e) (named_of t (count t) Initiator p.peer p.tid) refl
      go false true e f = by_role Responder (eqb-true p.role 1 f) (named_of t (count t) Responder p.peer p.tid) refl
      go false false e f = no_role (eqb-false p.role 0 e) (eqb-false p.role 1 f)

  -- what is found is the record that is named
  pub found_named : (i : ℕ) → found_for t p ≡ Some i → Named t p i
  found_named i e = rw e at named_says

  pub found_none : found_for t p ≡ None → NoneNamed t p
  found_none e = rw e at named_says

  pub named_live : (i : ℕ) → Named t p i → LiveAt t i
  named_live i n = record { inside = n.inside; live = n.live }

  pub named_tid : WellFormed t → (i : ℕ) → Named t p i → (record_at t i).tid ≤ tid_bound
  named_tid w i n = (live_range t w i (named_live i n)).bounds.tid

  -- in a well-formed table it lies inside, and no other record has its name
  pub found_within : WellFormed t → Within t (found_for t p)
  found_within w = go (found_for t p) refl
    where
      go : (f : Option ℕ) → found_for t p ≡ f → Within t f
      go (Some i) e = record_there t i w (found_named i e).inside
      go None e = tt

  pub one_named : WellFormed t → (i j : ℕ) → Named t p i → Named t p j → i ≡ j
  one_named w i j n m = go (told (eqb i j))
    where
      same_name : SameName (record_at t i) (record_at t j)
      same_name = record {
        role = role_of_number (role_of (record_at t i).state) (role_of (record_at t j).state) (n.role ∙ sym m.role);
        peer = n.peer ∙ sym m.peer;
        tid = n.tid ∙ sym m.tid;
      }

      go : (eqb i j ≡ true) ⊎ (eqb i j ≡ false) → i ≡ j
      go (inl e) = eqb-true i j e
      go (inr e) = absurd (w.unique i j n.inside m.inside (eqb-false i j e) n.live m.live same_name)
