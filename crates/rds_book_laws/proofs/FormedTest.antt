-- The test of a well-formed book passes exactly where section 4's sentences hold. Assumes nothing.
use mathlib.Core.Path.{◌≡◌, refl}
use mathlib.Core.List.{List}
use mathlib.Core.Bool.{true, false}
use mathlib.Core.Logic.{◌⊎◌, inl, inr}
use Prim.Native.Nat.{ℕ, zero, suc, ◌+◌}
use native.Mathlib.Omega.{arith}
use native.Mathlib.Nat.{add-zero}
use lib.ListN.{length, get_or}
use lib.Dec.{leb, eqb}
use borrow.Author.Tests.{leb-true, eqb-true, eqb-false, le-leb, eq-eqb, ne_eqb}
use Rattle.base_lists.proofs.StoresAndParts.{told, both_fst, both_snd, every_at, every_all}
use Rattle.rds_book.specs.declared.Place.{Place}
use Rattle.rds_book.specs.Book.{book_size, place_size, app_most, place_at_is, place_of, app_length, zeros, port_fits, is_action, command_fits, fits, app_fits, place_ok, well_formed}
use Rattle.rds_book_laws.specs.Formed.{PortRange, CommandRange, InRange, Zero, PlaceFormed, Formed}

zero_of : (b : List ℕ) (at n : ℕ) → zeros b at n ≡ true → Zero b at n
unfolding zeros
zero_of b at n h k l = eqb-true (get_or b (at + k) 0) 0 (every_at (λ j. eqb (get_or b (at + j) 0) 0) n h k l)

of_zero : (b : List ℕ) (at n : ℕ) → Zero b at n → zeros b at n ≡ true
unfolding zeros
of_zero b at n h = every_all (λ j. eqb (get_or b (at + j) 0) 0) n (λ k l. eq-eqb (get_or b (at + k) 0) 0 (h k l))

port_of_holds : (x : Place) → port_fits x ≡ true → PortRange x
unfolding port_fits
port_of_holds x h =
    let h1 = both_snd (leb x.tag 2) _ h in
    let h2 = both_snd (eqb x.own 0) _ h1 in
    record {
      whom = leb-true _ _ (both_fst (leb x.tag 2) _ h);
      own = eqb-true _ _ (both_fst (eqb x.own 0) _ h1);
      peer = leb-true _ _ (both_fst (leb x.peer 15) _ h2);
      format = leb-true _ _ (both_snd (leb x.peer 15) _ h2);
    }

of_port : (x : Place) → PortRange x → port_fits x ≡ true
unfolding port_fits
of_port x h = rw (le-leb _ _ h.whom, eq-eqb _ _ h.own, le-leb _ _ h.peer, le-leb _ _ h.format) refl

action_of : (a : ℕ) → is_action a ≡ true → (a ≡ 1) ⊎ ((a ≡ 2) ⊎ (a ≡ 5))
unfolding is_action
action_of a h = go (told (eqb a 1)) (told (eqb a 2)) where
  go : (eqb a 1 ≡ true) ⊎ (eqb a 1 ≡ false) → (eqb a 2 ≡ true) ⊎ (eqb a 2 ≡ false) → (a ≡ 1) ⊎ ((a ≡ 2) ⊎ (a ≡ 5))
  go (inl x) y = inl (eqb-true a 1 x)
  go (inr x) (inl y) = inr (inl (eqb-true a 2 y))
  go (inr x) (inr y) = inr (inr (eqb-true a 5 (rw (x, y) at h)))

of_action : (a : ℕ) → (a ≡ 1) ⊎ ((a ≡ 2) ⊎ (a ≡ 5)) → is_action a ≡ true
unfolding is_action
of_action a (inl e) = rw e refl
of_action a (inr (inl e)) = rw e refl
of_action a (inr (inr e)) = rw e refl

command_of : (x : Place) → command_fits x ≡ true → CommandRange x
unfolding command_fits
command_of x h =
    let h1 = both_snd (is_action x.tag) _ h in
    let h2 = both_snd (leb 1 x.own) _ h1 in
    let h3 = both_snd (leb x.own 15) _ h2 in
    record {
      action = action_of x.tag (both_fst (is_action x.tag) _ h);
      own = leb-true _ _ (both_fst (leb 1 x.own) _ h1);
      own_most = leb-true _ _ (both_fst (leb x.own 15) _ h2);
      peer = leb-true _ _ (both_fst (leb x.peer 15) _ h3);
      format = eqb-true _ _ (both_snd (leb x.peer 15) _ h3);
    }

of_command : (x : Place) → CommandRange x → command_fits x ≡ true
unfolding command_fits
of_command x h = rw (of_action _ h.action, le-leb _ _ h.own, le-leb _ _ h.own_most, le-leb _ _ h.peer, eq-eqb _ _ h.format) refl

range_of : (p : ℕ) (x : Place) → fits p x ≡ true → InRange p x
unfolding fits
range_of zero x h = command_of x h
range_of (suc p) x h = port_of_holds x (rw (ne_eqb (suc p) 0 (omega arith)) at h)

of_range : (p : ℕ) (x : Place) → InRange p x → fits p x ≡ true
unfolding fits
of_range zero x h = of_command x h
of_range (suc p) x h = rw (ne_eqb (suc p) 0 (omega arith)) (of_port x h)

module _ (b : List ℕ) (p : ℕ) where
  -- what a free place keeps
  pub free_tag : Zero b (place_at_is p) place_size → (place_of b p).tag ≡ 0
  unfolding place_of
  free_tag h = rw add-zero at (h 0 (omega arith))

  place_of_holds : place_ok b p ≡ true → PlaceFormed b p
  unfolding place_ok app_fits
  place_of_holds h = go (told (eqb (place_of b p).tag 0)) where
    go : (eqb (place_of b p).tag 0 ≡ true) ⊎ (eqb (place_of b p).tag 0 ≡ false) → PlaceFormed b p
    go (inl e) = inl (zero_of b (place_at_is p) place_size (rw e at h))
    go (inr e) =
        let h1 = rw e at h in
        let h2 = both_snd (fits p (place_of b p)) _ h1 in
        inr (record {
          kept = omega (arith, eqb-false (place_of b p).tag 0 e);
          range = range_of p (place_of b p) (both_fst (fits p (place_of b p)) _ h1);
          most = leb-true _ _ (both_fst (leb (app_length b p) app_most) _ h2);
          past = zero_of b _ _ (both_snd (leb (app_length b p) app_most) _ h2);
        })

  of_place : PlaceFormed b p → place_ok b p ≡ true
  unfolding place_ok app_fits
  of_place (inl z) = rw (eq-eqb _ _ (free_tag z)) (of_zero b (place_at_is p) place_size z)
  of_place (inr u) =
      rw (ne_eqb (place_of b p).tag 0 (omega (arith, u.kept)), of_range p (place_of b p) u.range, le-leb _ _ u.most)
      (of_zero b _ _ u.past)

-- THE TEST, both ways
pub formed_of : (b : List ℕ) → well_formed b ≡ true → Formed b
unfolding well_formed
formed_of b h =
    let h1 = both_snd (eqb (length b) book_size) _ h in
    let h2 = both_snd (leb (get_or b 0 0) 1) _ h1 in
    record {
      size = eqb-true _ _ (both_fst (eqb (length b) book_size) _ h);
      side = leb-true _ _ (both_fst (leb (get_or b 0 0) 1) _ h1);
      formats = leb-true _ _ (both_fst (leb (get_or b 1 0) 7) _ h2);
      places = λ p l. place_of_holds b p (every_at (place_ok b) 16 (both_snd (leb (get_or b 1 0) 7) _ h2) p l);
    }

pub of_formed : (b : List ℕ) → Formed b → well_formed b ≡ true
unfolding well_formed
of_formed b f = rw (eq-eqb _ _ f.size, le-leb _ _ f.side, le-leb _ _ f.formats) (every_all (place_ok b) 16 (λ p l. of_place b p (f.places p l)))
