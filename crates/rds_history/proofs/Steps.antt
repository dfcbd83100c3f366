-- What holds of a book and its history, and every call keeps it. Assumes nothing.
use mathlib.Core.Path.{◌≡◌, refl, sym, ap, ◌∙◌}
use mathlib.Core.List.{List, ◌∷◌}
use mathlib.Core.Bool.{Bool, true, false}
use Prim.Native.Nat.{ℕ, ◌+◌, ◌≤◌, ◌<◌}
use native.Mathlib.Omega.{arith}
use lib.Dec.{eqb}
use borrow.Author.Tests.{eqb-true, eqb-false, eq-eqb, ne_eqb}
use Rattle.base_lists.specs.Seq.{pick, bit}
use Rattle.base_lists.proofs.StoresAndParts.{true_false}
use Rattle.rds_book.specs.declared.Place.{Place}
use Rattle.rds_book.specs.Book.{place_of, app_of_is, keep, cleared}
use Rattle.rds_lent.specs.Asked.{outstanding}
use Rattle.rds_book_laws.specs.Formed.{IsApp, Formed}
use Rattle.rds_book_laws.proofs.Stores.{place_same, app_same, clear_formed}
use Rattle.rds_history.specs.History.{Entry}
use Rattle.rds_history.specs.Counted.{commands, answers, abandons, AnsweredOnce}
use Rattle.rds_history.specs.Listed.{last_app, names, listing}
use Rattle.rds_history.proofs.Views.{kept, Same, keep_stays, clear_stays, cleared_tag, kept_stays}

-- our outstanding command is a Reserve
pub record Asking (b : List ℕ) : Type 0 where
  pub there : 1 ≤ (place_of b 0).tag
  pub reserve : eqb (place_of b 0).tag 2 ≡ false

-- its port is free, or reserved for the same pair and application (6.3.3 a)
abbrev pub Paired : List ℕ → Type 0
Paired b = Asking b → 1 ≤ (place_of b (place_of b 0).own).tag → ((place_of b (place_of b 0).own).peer ≡ (place_of b 0).peer) × (app_of_is b (place_of b 0).own ≡ app_of_is b 0)

-- THE INVARIANT
pub record Holds (b : List ℕ) (h : List Entry) : Type 0 where
  pub formed : Formed b
  pub counted : AnsweredOnce b h
  pub listed : (p : ℕ) → 1 ≤ p → p ≤ 15 → kept b p ≡ listing p h
  pub asked : Asking b → app_of_is b 0 ≡ last_app h
  pub paired : Paired b

-- nothing is outstanding
pub none_there : (b : List ℕ) → outstanding b ≡ false → (place_of b 0).tag ≡ 0
unfolding outstanding
none_there b h = go (eqb (place_of b 0).tag 0) refl h where
  go : (z : Bool) → eqb (place_of b 0).tag 0 ≡ z → pick z false true ≡ false → (place_of b 0).tag ≡ 0
  go true e k = eqb-true _ _ e
  go false e k = true_false k

pub is_there : (b : List ℕ) → 1 ≤ (place_of b 0).tag → outstanding b ≡ true
unfolding outstanding
is_there b h = rw (ne_eqb (place_of b 0).tag 0 (omega (arith, h))) refl

pub is_none : (b : List ℕ) → (place_of b 0).tag ≡ 0 → outstanding b ≡ false
unfolding outstanding
is_none b h = rw (eq-eqb (place_of b 0).tag 0 h) refl

pub there_of : (b : List ℕ) → outstanding b ≡ true → 1 ≤ (place_of b 0).tag
unfolding outstanding
there_of b h = go (eqb (place_of b 0).tag 0) refl h where
  go : (z : Bool) → eqb (place_of b 0).tag 0 ≡ z → pick z false true ≡ true → 1 ≤ (place_of b 0).tag
  go true e k = true_false (sym k)
  go false e k = omega (arith, eqb-false (place_of b 0).tag 0 e)

pub not_asking : (b : List ℕ) → (place_of b 0).tag ≡ 0 → Asking b → ⊥
not_asking b e a = omega (arith, e, a.there)

module _ (b : List ℕ) (h : List Entry) (i : Holds b h) where
  -- a call that leaves the book as it was, and is nothing that is counted
  pub nothing : (e : Entry) → e.seen.book ≡ b → commands e ≡ false → answers e ≡ false → abandons e ≡ false → ((p : ℕ) → names e p ≡ false) → last_app (e ∷ h) ≡ last_app h → Holds e.seen.book (e ∷ h)
  nothing e s c v w n l = rw s (record {
    formed = i.formed;
    counted = rw (c, v, w) (omega (arith, i.counted));
    listed = λ p lo hi. rw (n p) (i.listed p lo hi);
    asked = λ a. i.asked a ∙ sym l;
    paired = i.paired;
  })

  -- O1, O2: a command is stored
  pub stored : (e : Entry) (x : Place) (app : List ℕ) → e.seen.book ≡ keep b 0 x app → Formed (keep b 0 x app) → IsApp app → 1 ≤ x.tag → outstanding b ≡ false
      → commands e ≡ true → answers e ≡ false → abandons e ≡ false → ((p : ℕ) → names e p ≡ false)
      → (eqb x.tag 2 ≡ false → (app ≡ last_app (e ∷ h)) × (1 ≤ x.own) × (x.own < 16) × ((place_of b x.own).tag ≡ 0)) → Holds e.seen.book (e ∷ h)
  stored e x app s f a t o c v w n r = rw s (record {
    formed = f;
    counted = rw (c, v, w, is_there (keep b 0 x app) (rw same t)) (omega (arith, rw o at i.counted));
    listed = λ p lo hi. kept_stays b (keep b 0 x app) p (others p lo hi) ∙ rw (n p) (i.listed p lo hi);
    asked = λ k. app_same b 0 x app i.formed.size (omega arith) a.most a ∙ (reserve k).0;
    paired = λ k u.
        let q = reserve k in
        let own : (place_of (keep b 0 x app) 0).own ≡ x.own = ap (λ (y : Place). y.own) same in
        let free : (place_of (keep b 0 x app) x.own).tag ≡ 0 = ap (λ (y : Place). y.tag) (others x.own q.1 (omega (arith, q.2))).place ∙ q.3 in
        absurd (omega (arith, rw own at u, free));
  }) where
    same : place_of (keep b 0 x app) 0 ≡ x
    same = place_same b 0 x app i.formed.size (omega arith) a.most

    others : (p : ℕ) → 1 ≤ p → p ≤ 15 → Same b (keep b 0 x app) p
    others p lo hi = keep_stays b 0 x app i.formed (omega arith) a.most p (omega arith) (λ z. omega (arith, z, lo))

    reserve : Asking (keep b 0 x app) → (app ≡ last_app (e ∷ h)) × (1 ≤ x.own) × (x.own < 16) × ((place_of b x.own).tag ≡ 0)
    reserve k = r (rw same at k.reserve)

  -- the command is cleared, and its count goes over to what ended it
  pub ended : (e : Entry) → e.seen.book ≡ cleared b 0 → outstanding b ≡ true → commands e ≡ false → bit (answers e) + bit (abandons e) ≡ 1 → ((p : ℕ) → names e p ≡ false) → Holds e.seen.book (e ∷ h)
  ended e s o c v n = rw s (record {
    formed = clear_formed b 0 i.formed (omega arith);
    counted = rw (c, is_none (cleared b 0) gone) (omega (arith, v, rw o at i.counted));
    listed = λ p lo hi. kept_stays b (cleared b 0) p (clear_stays b 0 i.formed (omega arith) p (omega arith) (λ z. omega (arith, z, lo))) ∙ rw (n p) (i.listed p lo hi);
    asked = λ k. absurd (not_asking (cleared b 0) gone k);
    paired = λ k. absurd (not_asking (cleared b 0) gone k);
  }) where
    gone : (place_of (cleared b 0) 0).tag ≡ 0
    gone = cleared_tag b 0 i.formed (omega arith)
