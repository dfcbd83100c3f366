-- A port is taken exactly where section 5 says so. Assumes nothing.
use mathlib.Core.Path.{◌≡◌, refl, sym}
use mathlib.Core.List.{List}
use mathlib.Core.Bool.{Bool, true, false}
use mathlib.Core.Logic.{◌⊎◌, inl, inr}
use Prim.Native.Nat.{ℕ, ◌≤◌}
use native.Mathlib.Omega.{arith}
use lib.ListN.{length, get_or}
use lib.Dec.{eqb}
use borrow.Author.Tests.{eqb-true, eqb-false, eq-eqb, ne_eqb}
use Rattle.base_lists.specs.Seq.{pick}
use Rattle.base_lists.proofs.StoresAndParts.{told, both_fst, both_snd, every_all, true_false}
use Rattle.rds_book.specs.Book.{place_of, app_of_is, same}
use Rattle.rds_turn.specs.Turn as T
use Rattle.rds_book_laws.specs.Taken.{Collision, Engaged, Taken}
use Rattle.rds_book_laws.proofs.Deeds.{same_lists, unless}

lists_same : (s t : List ℕ) → s ≡ t → same s t ≡ true
unfolding same
lists_same s t e = rw (eq-eqb (length s) (length t) (rw e refl)) (every_all _ (length t) (λ k l. eq-eqb (get_or s k 0) (get_or t k 0) (rw e refl)))

module _ (b app : List ℕ) (s : ℕ) where
  collision_of : T.collides b app s ≡ true → Collision b app s
  unfolding T.collides
  collision_of h =
      let k = unless (eqb (place_of b 0).tag 2) _ h in
      record { reserve = λ e. not_two (eq-eqb _ _ e) h; peer = eqb-true _ _ (both_fst (eqb (place_of b 0).peer s) _ k); same = same_lists _ _ (both_snd (eqb (place_of b 0).peer s) _ k) } where
        not_two : eqb (place_of b 0).tag 2 ≡ true → pick (eqb (place_of b 0).tag 2) false (pick (eqb (place_of b 0).peer s) (same (app_of_is b 0) app) false) ≡ true → ⊥
        not_two e m = true_false (sym (rw e at m))

  of_collision : Collision b app s → T.collides b app s ≡ true
  unfolding T.collides
  of_collision c = rw (ne_eqb (place_of b 0).tag 2 c.reserve, eq-eqb _ _ c.peer) (lists_same _ _ c.same)

  module _ (d : ℕ) where
    engaged_of : T.engaged b app d s ≡ true → Engaged b app d s
    unfolding T.engaged
    engaged_of h =
        let k = unless (eqb (place_of b 0).tag 0) _ h in
        record {
          there = go (told (eqb (place_of b 0).tag 0));
          own = eqb-true _ _ (both_fst (eqb (place_of b 0).own d) _ k);
          no_collision = λ c. true_false (sym (rw (of_collision c) at (both_snd (eqb (place_of b 0).own d) _ k)));
        } where
          go : (eqb (place_of b 0).tag 0 ≡ true) ⊎ (eqb (place_of b 0).tag 0 ≡ false) → 1 ≤ (place_of b 0).tag
          go (inl e) = true_false (sym (rw e at h))
          go (inr e) = omega (arith, eqb-false (place_of b 0).tag 0 e)

    of_engaged : Engaged b app d s → T.engaged b app d s ≡ true
    unfolding T.engaged
    of_engaged g = rw (ne_eqb (place_of b 0).tag 0 (omega (arith, g.there)), eq-eqb _ _ g.own) (go (T.collides b app s) refl) where
      go : (c : Bool) → T.collides b app s ≡ c → pick (T.collides b app s) false true ≡ true
      go true e = absurd (g.no_collision (collision_of e))
      go false e = rw e refl

    -- TAKEN, both ways
    pub taken_of : T.taken b app d s ≡ true → Taken b app d s
    unfolding T.taken
    taken_of h = go (told (eqb (place_of b d).tag 0)) where
      go : (eqb (place_of b d).tag 0 ≡ true) ⊎ (eqb (place_of b d).tag 0 ≡ false) → Taken b app d s
      go (inl e) = inr (engaged_of (rw e at h))
      go (inr e) = inl (omega (arith, eqb-false (place_of b d).tag 0 e))

    pub of_taken : Taken b app d s → T.taken b app d s ≡ true
    unfolding T.taken
    of_taken (inl r) = rw (ne_eqb (place_of b d).tag 0 (omega (arith, r))) refl
    of_taken (inr g) = go (eqb (place_of b d).tag 0) where
      go : (z : Bool) → pick z (T.engaged b app d s) true ≡ true
      go true = of_engaged g
      go false = refl
