-- What the tests of a record say, in the words of 01. Assumes nothing.
use mathlib.Core.Path.{◌≡◌, refl, sym, ap, ◌∙◌}
use mathlib.Core.Bool.{Bool, true, false, not}
use Prim.Native.Nat.{ℕ, ◌≤◌}
use lib.Dec.{leb, eqb}
use borrow.Author.Tests.{eqb-true, eq-eqb, leb-true, le-leb, not-true}
use Rattle.base_lists.specs.Seq.{pick}
use Rattle.base_lists.proofs.StoresAndParts.{both, both_fst, both_snd, not_so, true_false}
use Rattle.table_record.specs.Record.{role_of, state_number, state_of, role_number}
use Rattle.table_record.specs.declared.Role.{Role}
use Rattle.table_record.specs.declared.Role.TheVariants.{Initiator, Responder}
use Rattle.table_record.specs.declared.State.{State}
use Rattle.table_record.specs.declared.State.TheVariants.{Free}
use Rattle.table_record.specs.declared.Record.{Record}
use Rattle.table_record.proofs.Back.{state_back}
use Rattle.table_finding.specs.Finding.{is_free, has_role, is_named, uses_tid, is_due}
use Rattle.table_finding.specs.Searched.{Live, Called, Uses, Due}

-- a test that is true exactly where P holds
abbrev pub Tells : Bool → Type 0 → Type 0
Tells b P = (b ≡ true → P) × (P → b ≡ true)

pub denied : {b : Bool} {P : Type 0} → Tells b P → b ≡ false → P → ⊥
denied f e h = true_false (sym (f.1 h) ∙ e)

module _ (a b : Bool) (P Q : Type 0) (f : Tells a P) (g : Tells b Q) where
  tells_both : Tells (pick a b false) (P × Q)
  tells_both = (λ e. (f.0 (both_fst a b e), g.0 (both_snd a b e)), λ h. both a b (f.1 h.0) (g.1 h.1))

  tells_not_but : Tells (pick a false b) ((P → ⊥) × Q)
  tells_not_but = (there a f, back)
    where
      there : (x : Bool) → Tells x P → pick x false b ≡ true → (P → ⊥) × Q
      there true t e = true_false (sym e)
      there false t e = (λ h. true_false (sym (t.1 h)), g.0 e)

      back : (P → ⊥) × Q → pick a false b ≡ true
      back h =
          let n : a ≡ false = not_so a (λ e. h.0 (f.0 e)) in
          rw n (g.1 h.1)

tells_not : {b : Bool} {P : Type 0} → Tells b P → Tells (not b) (P → ⊥)
tells_not {b} t = (λ e h. true_false (sym (t.1 h) ∙ not-true b e), λ f. there (not_so b (λ e. f (t.0 e))))
  where
    there : b ≡ false → not b ≡ true
    there e = rw e refl

tells_eq : (a b : ℕ) → Tells (eqb a b) (a ≡ b)
tells_eq a b = (eqb-true a b, eq-eqb a b)

tells_le : (a b : ℕ) → Tells (leb a b) (a ≤ b)
tells_le a b = (leb-true a b, le-leb a b)

pub tells_free : (r : Record) → Tells (is_free r) (r.state ≡ Free)
unfolding state_of
tells_free r = (
  λ e. sym (state_back r.state) ∙ ap state_of (eqb-true (state_number r.state) 0 e),
  λ e. ap (λ (s : State). eqb (state_number s) 0) e,
)

tells_same_role : (a b : Role) → Tells (eqb (role_number a) (role_number b)) (a ≡ b)
tells_same_role a b = (there a b, λ e. eq-eqb (role_number a) (role_number b) (ap role_number e))
  where
    there : (a b : Role) → eqb (role_number a) (role_number b) ≡ true → a ≡ b
    there Initiator Initiator e = refl
    there Initiator Responder e = true_false (sym e)
    there Responder Initiator e = true_false (sym e)
    there Responder Responder e = refl

-- the same said otherwise
tells_as : {b : Bool} {P Q : Type 0} → (P → Q) → (Q → P) → Tells b P → Tells b Q
tells_as f g t = (λ e. f (t.0 e), λ q. t.1 (g q))

module _ (r : Record) where
  tells_role : (role : Role) → Tells (has_role role r) (Live r × (role_of r.state ≡ role))
  unfolding has_role
  tells_role role = tells_not_but _ _ _ _ (tells_free r) (tells_same_role (role_of r.state) role)

  pub tells_named : (role : Role) (peer tid : ℕ) → Tells (is_named role peer tid r) (Called role peer tid r)
  unfolding is_named
  tells_named role peer tid =
      tells_as
      (λ h. record { live = h.1.1.0; role_is = h.1.1.1; peer_is = h.1.0; tid_is = h.0 })
      (λ c. (c.tid_is, (c.peer_is, (c.live, c.role_is))))
      (tells_both _ _ _ _ (tells_eq r.tid tid) (tells_both _ _ _ _ (tells_eq r.peer peer) (tells_role role)))

  pub tells_uses : (tid : ℕ) → Tells (uses_tid tid r) (Uses tid r)
  unfolding uses_tid
  tells_uses tid =
      tells_as
      (λ h. record { live = h.1.0; role_is = h.1.1; tid_is = h.0 })
      (λ c. (c.tid_is, (c.live, c.role_is)))
      (tells_both _ _ _ _ (tells_eq r.tid tid) (tells_role Initiator))

  pub tells_due : (time : ℕ) → Tells (is_due time r) (Due time r)
  unfolding is_due
  tells_due time =
      tells_as
      (λ h. record { live = h.1.1; runs = h.0; not_after = h.1.0 })
      (λ d. (d.runs, (d.not_after, d.live)))
      (tells_not_but _ _ _ _ (tells_eq r.deadline 0) (tells_both _ _ _ _ (tells_le r.deadline time) (tells_not (tells_free r))))
