-- Which names live after a call: those that lived before, but for the one that it opens or ends. Assumes nothing.
use Prim.Native.Nat.{ℕ, ◌<◌}
use mathlib.Core.Path.{◌≡◌, refl, sym}
use mathlib.Core.Bool.{Bool, true, false}
use mathlib.Core.List.{List}
use mathlib.Core.Logic.{◌⊎◌, inl, inr}
use Rattle.base_lists.proofs.StoresAndParts.{not_so}
use Rattle.table_record.specs.declared.State.TheVariants.{Free}
use Rattle.table_record.specs.declared.Record.{Record}
use Rattle.table_layout.specs.Table.{count, record_at}
use Rattle.table_record_ok.specs.OneRecord.{Live}
use Rattle.table_well_formed.specs.WellFormed.{WellFormed}
use Rattle.law_places.proofs.Places.{live_number}
use Rattle.law_plans_sound.proofs.Receives.{not_free}
use Rattle.law_history.specs.Trace.{Entry}
use Rattle.law_history.specs.Tally.{Name, lives}
use Rattle.law_history.specs.Moves.{name_of, before, after, SameRecords, OthersSame}
use Rattle.law_one_turn.proofs.Names.{CalledAt, who_lives, it_lives}
use Rattle.law_one_turn.proofs.Openings.{CalledBy, called_name}
use Rattle.law_invariant.proofs.Names.{same_number, two_names}

-- a record's own name
pub called_self : (r : Record) → Live r → CalledBy (name_of r) r
called_self r live = record { live = not_free r.state live; role_is = refl; peer_is = refl; tid_is = refl }

-- the live record at a place lives under its name
pub named_lives : (t : List ℕ) (i : ℕ) → i < count t → Live (record_at t i) → (n : Name) → name_of (record_at t i) ≡ n → lives t n ≡ true
named_lives t i inside live n e = rw (sym e) (it_lives t (name_of (record_at t i)) (record { at = i; inside = inside; called = called_self (record_at t i) live }))

same_flag : (a b : Bool) → (a ≡ true → b ≡ true) → (b ≡ true → a ≡ true) → a ≡ b
same_flag true b f g = sym (f refl)
same_flag false true f g = g refl
same_flag false false f g = refl

module _ (e : Entry) (counts : count (after e) ≡ count (before e)) (n : Name) where
  -- no record called so changed
  same_lives : ((i : ℕ) → CalledBy n (record_at (before e) i) → record_at (after e) i ≡ record_at (before e) i) → ((i : ℕ) → CalledBy n (record_at (after e) i) → record_at (after e) i ≡ record_at (before e) i)
      → lives (after e) n ≡ lives (before e) n
  same_lives then back = same_flag (lives (after e) n) (lives (before e) n) (λ k. was (who_lives (after e) n k)) (λ k. is (who_lives (before e) n k))
    where
      was : CalledAt (after e) n → lives (before e) n ≡ true
      was c = it_lives (before e) n (record { at = c.at; inside = rw (sym counts) c.inside; called = rw (back c.at c.called) at c.called })

      is : CalledAt (before e) n → lives (after e) n ≡ true
      is c = it_lives (after e) n (record { at = c.at; inside = rw counts c.inside; called = rw (then c.at c.called) c.called })

  -- no record changed
  pub quiet_lives : SameRecords e → lives (after e) n ≡ lives (before e) n
  quiet_lives same = same_lives (λ i k. same i) (λ i k. same i)

  -- one changed, which isn't called so, before or after
  pub rest_lives : (place : ℕ) → OthersSame e place → (CalledBy n (record_at (before e) place) → ⊥) → (CalledBy n (record_at (after e) place) → ⊥) → lives (after e) n ≡ lives (before e) n
  rest_lives place rest was is = same_lives (λ i k. at i (λ d. was (rw d at k))) (λ i k. at i (λ d. is (rw d at k)))
    where
      at : (i : ℕ) → (i ≡ place → ⊥) → record_at (after e) i ≡ record_at (before e) i
      at i d = rest i d

-- a free record is called nothing
pub free_uncalled : (n : Name) (r : Record) → r.state ≡ Free → CalledBy n r → ⊥
free_uncalled n r e k = k.live e

-- a record is called by no name but its own
pub other_uncalled : (n : Name) (r : Record) → (n ≡ name_of r → ⊥) → CalledBy n r → ⊥
other_uncalled n r d k = d (called_name n r k)

-- where a live record was freed, its name lives no more
pub freed_gone : (e : Entry) → WellFormed (before e) → count (after e) ≡ count (before e) → (place : ℕ) → place < count (before e) → Live (record_at (before e) place) → OthersSame e place → (record_at (after e) place).state ≡ Free
    → lives (after e) (name_of (record_at (before e) place)) ≡ false
freed_gone e w counts place inside live rest free = not_so (lives (after e) own) (λ k. gone (who_lives (after e) own k))
  where
    own : Name
    own = name_of (record_at (before e) place)

    gone : CalledAt (after e) own → ⊥
    gone c = go (same_number c.at place)
      where
        go : (c.at ≡ place) ⊎ (c.at ≡ place → ⊥) → ⊥
        go (inl d) = free_uncalled own (record_at (after e) place) free (rw d at c.called)
        go (inr d) =
            let k : CalledBy own (record_at (before e) c.at) = rw (rest c.at d) at c.called in
            two_names (before e) w c.at place (rw (sym counts) c.inside) inside d (live_number (record_at (before e) c.at).state k.live) live (sym (called_name own (record_at (before e) c.at) k))
