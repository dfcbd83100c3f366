-- Which names a call opens: the request's own, or a responder's name that lives afterwards alone. Assumes nothing.
use Prim.Native.Nat.{ℕ}
use native.Mathlib.Omega.{arith}
use mathlib.Core.Path.{◌≡◌, refl, sym, ap, ◌∙◌}
use mathlib.Core.Bool.{Bool, true, false}
use mathlib.Core.Logic.{◌⊎◌, inl, inr}
use Rattle.base_lists.specs.Seq.{pick}
use Rattle.table_record.specs.Record.{role_of, role_number}
use Rattle.table_record.specs.declared.Role.{Role}
use Rattle.table_record.specs.declared.Role.TheVariants.{Initiator, Responder}
use Rattle.table_record.specs.declared.Record.{Record}
use Rattle.table_layout.specs.Table.{count, record_at}
use Rattle.table_finding.specs.Searched.{Called}
use Rattle.law_formed_kept.proofs.InRecord.{equal_or}
use Rattle.law_history.specs.Trace.{Entry}
use Rattle.law_history.specs.Tally.{Name, lives, accepts_by, told_of_is, opens_for, opens}
use Rattle.law_history.specs.Moves.{name_of, before, after}
use Rattle.law_one_turn.proofs.Names.{CalledAt, who_lives, it_lives}

abbrev pub CalledBy : Name → Record → Type 0
CalledBy n r = Called n.role n.peer n.tid r

pub called_name : (n : Name) (r : Record) → CalledBy n r → n ≡ name_of r
called_name n r c =
    ap (λ (x : Role). record { role = x; peer = n.peer; tid = n.tid }) (sym c.role_is)
    ∙ (ap (λ (x : ℕ). record { role = role_of r.state; peer = x; tid = n.tid }) (sym c.peer_is)
    ∙ ap (λ (x : ℕ). record { role = role_of r.state; peer = r.peer; tid = x }) (sym c.tid_is))

module _ (e : Entry) (n : Name) where
  -- no request accepted under it, and as a responder's it lived before if it lives afterwards
  pub not_opened : accepts_by e.call (told_of_is e.done.answer) n ≡ false → (lives (after e) n ≡ true → lives (before e) n ≡ true) → opens e n ≡ false
  unfolding opens
  not_opened asked still = go n.role
    where
      kept : (b c : Bool) → (c ≡ true → b ≡ true) → pick b false c ≡ false
      kept true c h = refl
      kept false true h = sym (h refl)
      kept false false h = refl

      go : (r : Role) → opens_for r e n ≡ false
      go Initiator = asked
      go Responder = kept (lives (before e) n) (lives (after e) n) still

  -- a responder's name that lives afterwards alone
  pub is_opened : n.role ≡ Responder → lives (before e) n ≡ false → lives (after e) n ≡ true → opens e n ≡ true
  unfolding opens
  is_opened role was is = go n.role role
    where
      go : (r : Role) → r ≡ Responder → opens_for r e n ≡ true
      go Initiator d = absurd (omega (arith, ap role_number d))
      go Responder d = rw (was, is) refl

  -- what lives afterwards lived before, if the one record that changed isn't called so afterwards
  pub still_lived : count (after e) ≡ count (before e) → (place : ℕ) → ((j : ℕ) → (j ≡ place → ⊥) → record_at (after e) j ≡ record_at (before e) j)
      → (CalledBy n (record_at (after e) place) → ⊥) → lives (after e) n ≡ true → lives (before e) n ≡ true
  still_lived counts place same gone is =
      let c : CalledAt (after e) n = who_lives (after e) n is in
      go c (equal_or c.at place)
    where
      go : (c : CalledAt (after e) n) → (c.at ≡ place) ⊎ (c.at ≡ place → ⊥) → lives (before e) n ≡ true
      go c (inl d) = absurd (gone (rw d at c.called))
      go c (inr d) = it_lives (before e) n (record { at = c.at; inside = rw (sym counts) c.inside; called = rw (same c.at d) at c.called })

  pub same_lived : count (after e) ≡ count (before e) → ((j : ℕ) → record_at (after e) j ≡ record_at (before e) j) → lives (after e) n ≡ true → lives (before e) n ≡ true
  same_lived counts same is =
      let c : CalledAt (after e) n = who_lives (after e) n is in
      it_lives (before e) n (record { at = c.at; inside = rw (sym counts) c.inside; called = rw (same c.at) at c.called })
