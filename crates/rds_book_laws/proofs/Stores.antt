-- What a place that is kept or cleared leaves of the book: that place, every other, and the book's front. Assumes nothing.
use mathlib.Core.Path.{◌≡◌, sym, ap, ◌∙◌}
use mathlib.Core.List.{List, [], ◌∷◌, ◌++◌}
use mathlib.Core.Bool.{true, false}
use mathlib.Core.Logic.{◌⊎◌, inl, inr}
use Prim.Native.Nat.{ℕ, ◌+◌, ◌≤◌, ◌<◌}
use native.Mathlib.Omega.{arith}
use native.Mathlib.Nat.{add-zero}
use lib.ListN.{length, get_or, take, drop, replicate, length-append, length-drop, length-replicate, get_or-replicate, get_or-append}
use lib.Dec.{eqb}
use lib.Seq.{get_or-take, get_or-drop, get_or-append-add, take-append_seam}
use borrow.Author.Tests.{eqb-true, eqb-false}
use Rattle.base_lists.specs.Seq.{part, put}
use Rattle.base_lists.proofs.StoresAndParts.{told, length_put, length_part}
use Rattle.base_octets.specs.Octets.{Apart}
use Rattle.base_octets.proofs.StoredAndRead.{get_before, get_d_after, get_same, gets_apart, gets_inside, gets_part, apart_rows}
use Rattle.rds_book.specs.declared.Place.{Place}
use Rattle.rds_book.specs.Book.{book_size, place_size, app_most, place_at_is, place_of, app_length, app_of_is, place_octets, keep, free, cleared}
use Rattle.rds_book_laws.specs.Formed.{InRange, Zero, IsApp, PlaceFormed, Formed}

-- the Application ID that a place keeps
pub app_kept : (b : List ℕ) (p : ℕ) → length b ≡ book_size → p < 16 → app_length b p ≤ app_most → IsApp (app_of_is b p)
unfolding app_of_is
app_kept b p size l most =
    let n : length (part b (place_at_is p + 4) (app_length b p)) ≡ app_length b p = length_part b (place_at_is p + 4) (app_length b p) (omega arith) in
    let e : place_at_is p + 20 ≡ place_at_is p + 4 + 16 = omega arith in
    let g : get_or (part b (place_at_is p + 4) (app_length b p)) 16 0 ≡ get_or b (place_at_is p + 20) 0 =
    get_or-take (app_length b p) (drop (place_at_is p + 4) b) 16 0 (omega arith) ∙ get_or-drop (place_at_is p + 4) b 16 0 ∙ sym (ap (λ (k : ℕ). get_or b k 0) e) in
    record { long = n ∙ ap (λ (k : ℕ). 17 + k) (sym g); most = omega (arith, n) }

module _ (b : List ℕ) (p : ℕ) (x : Place) (app : List ℕ) (size : length b ≡ book_size) (l : p < 16) (short : length app ≤ app_most) where
  abbrev octets : List ℕ
  octets = place_octets x app

  length_octets_holds : length octets ≡ place_size
  unfolding place_octets
  length_octets_holds = omega (arith, length-append app (drop (length app) (replicate app_most 0)), length-drop {A = ℕ} (length app) (replicate app_most 0), length-replicate {A = ℕ} app_most 0)

  room : place_at_is p + length octets ≤ length b
  room = omega (arith, length_octets_holds)

  pub length_keep : length (keep b p x app) ≡ book_size
  unfolding keep
  length_keep = length_put b (place_at_is p) octets ∙ size

  at_same : (k : ℕ) → k < place_size → get_or (keep b p x app) (place_at_is p + k) 0 ≡ get_or octets k 0
  unfolding keep
  at_same k h = get_same octets b (place_at_is p) k room (omega (arith, length_octets_holds))

  pub at_front : (k : ℕ) → k < 2 → get_or (keep b p x app) k 0 ≡ get_or b k 0
  unfolding keep
  at_front k h = get_before octets b (place_at_is p) k (omega arith)

  pub place_same : place_of (keep b p x app) p ≡ x
  unfolding place_of place_octets
  place_same =
      let e : get_or (keep b p x app) (place_at_is p) 0 ≡ x.tag = rw add-zero at (at_same 0 (omega arith)) in
      λ i. record { tag = e i; own = at_same 1 (omega arith) i; peer = at_same 2 (omega arith) i; format = at_same 3 (omega arith) i }

  module _ (a : IsApp app) where
    long_same : app_length (keep b p x app) p ≡ length app
    unfolding place_octets
    long_same = ap (λ (k : ℕ). 17 + k) (at_same 20 (omega arith) ∙ get_or-append app _ 0 16 (omega (arith, a.long))) ∙ sym a.long

    pub app_same : app_of_is (keep b p x app) p ≡ app
    unfolding app_of_is keep place_octets
    app_same =
        let fits : place_at_is p + 4 + length app ≤ length (keep b p x app) = omega (arith, length_keep) in
        let whole : 4 + length app ≤ length octets = omega (arith, length_octets_holds) in
        ap (λ (n : ℕ). take n (drop (place_at_is p + 4) (keep b p x app))) long_same
        ∙ gets_part (length app) (place_at_is p + 4) (keep b p x app) fits
        ∙ gets_inside (length app) 4 b (place_at_is p) octets room whole
        ∙ sym (gets_part (length app) 4 octets whole)
        ∙ take-append_seam app (drop (length app) (replicate app_most 0))

    -- the place keeps what it was given
    pub kept_same : 1 ≤ x.tag → InRange p x → PlaceFormed (keep b p x app) p
    unfolding place_octets
    kept_same t r = inr (record {
      kept = rw place_same t;
      range = rw place_same r;
      most = omega (arith, long_same, short);
      past = λ k h.
          let e : place_at_is p + 4 + app_length (keep b p x app) p + k ≡ place_at_is p + (4 + (length app + k)) = omega (arith, long_same) in
          let i : length app + k < app_most = omega (arith, long_same, h) in
          rw e (
          at_same (4 + (length app + k)) (omega (arith, i)) ∙ get_or-append-add (x.tag ∷ x.own ∷ x.peer ∷ x.format ∷ []) (app ++ drop (length app) (replicate app_most 0)) (length app + k) 0
          ∙ get_or-append-add app (drop (length app) (replicate app_most 0)) k 0 ∙ get_or-drop (length app) (replicate app_most 0) k 0 ∙ get_or-replicate app_most (length app + k) 0 0 i
          );
    })

  module _ (q : ℕ) (m : q < 16) (d : q ≡ p → ⊥) where
    apart : Apart (place_at_is q) place_size (place_at_is p) place_size
    apart = apart_rows 2 place_size q p d

    pub at_other : (k : ℕ) → k < place_size → get_or (keep b p x app) (place_at_is q + k) 0 ≡ get_or b (place_at_is q + k) 0
    unfolding keep
    at_other k h = go apart where
      go : Apart (place_at_is q) place_size (place_at_is p) place_size → get_or (put b (place_at_is p) octets) (place_at_is q + k) 0 ≡ get_or b (place_at_is q + k) 0
      go (inl o) = get_before octets b (place_at_is p) (place_at_is q + k) (omega arith)
      go (inr o) = get_d_after octets b (place_at_is p) (place_at_is q + k) (omega (arith, length_octets_holds))

    pub place_other : place_of (keep b p x app) q ≡ place_of b q
    unfolding place_of
    place_other =
        let e : get_or (keep b p x app) (place_at_is q) 0 ≡ get_or b (place_at_is q) 0 = rw add-zero at (at_other 0 (omega arith)) in
        λ i. record { tag = e i; own = at_other 1 (omega arith) i; peer = at_other 2 (omega arith) i; format = at_other 3 (omega arith) i }

    long_other : app_length (keep b p x app) q ≡ app_length b q
    long_other = ap (λ (k : ℕ). 17 + k) (at_other 20 (omega arith))

    pub app_other : app_length b q ≤ app_most → app_of_is (keep b p x app) q ≡ app_of_is b q
    unfolding app_of_is keep
    app_other most =
        ap (λ (n : ℕ). take n (drop (place_at_is q + 4) (keep b p x app))) long_other
        ∙ gets_part (app_length b q) (place_at_is q + 4) (keep b p x app) (omega (arith, length_keep))
        ∙ gets_apart (app_length b q) (place_at_is q + 4) b (place_at_is p) octets (go apart)
        ∙ sym (gets_part (app_length b q) (place_at_is q + 4) b (omega arith)) where
          go : Apart (place_at_is q) place_size (place_at_is p) place_size → Apart (place_at_is q + 4) (app_length b q) (place_at_is p) (length octets)
          go (inl o) = inl (omega arith)
          go (inr o) = inr (omega (arith, length_octets_holds))

    pub kept_other : PlaceFormed b q → PlaceFormed (keep b p x app) q
    kept_other (inl z) = inl (λ k h. at_other k h ∙ z k h)
    kept_other (inr u) = inr (record {
      kept = rw place_other u.kept;
      range = rw place_other u.range;
      most = rw long_other u.most;
      past = λ k h.
          let e : place_at_is q + 4 + app_length (keep b p x app) q + k ≡ place_at_is q + (4 + app_length b q + k) = omega (arith, long_other) in
          let f : place_at_is q + 4 + app_length b q + k ≡ place_at_is q + (4 + app_length b q + k) = omega arith in
          let i : 4 + app_length b q + k < place_size = omega (arith, long_other, h, u.most) in
          rw e (at_other (4 + app_length b q + k) i ∙ (rw f at (u.past k (omega (arith, long_other, h)))));
    })

zero_same : (b : List ℕ) (p : ℕ) → length b ≡ book_size → p < 16 → Zero (keep b p free []) (place_at_is p) place_size
unfolding place_octets
zero_same b p size l k h = at_same b p free [] size l (omega arith) k h ∙ get_or-replicate place_size k 0 0 h

-- KEPT: in range, with an Application ID
pub keep_formed : (b : List ℕ) (p : ℕ) (x : Place) (app : List ℕ) → Formed b → p < 16 → 1 ≤ x.tag → InRange p x → IsApp app → Formed (keep b p x app)
keep_formed b p x app f l t r a = record {
  size = length_keep b p x app f.size l a.most;
  side = rw (at_front b p x app f.size l a.most 0 (omega arith)) f.side;
  formats = rw (at_front b p x app f.size l a.most 1 (omega arith)) f.formats;
  places = λ q m. go q m (told (eqb q p));
} where
  go : (q : ℕ) → q < 16 → (eqb q p ≡ true) ⊎ (eqb q p ≡ false) → PlaceFormed (keep b p x app) q
  go q m (inl e) = rw (eqb-true q p e) (kept_same b p x app f.size l a.most a t r)
  go q m (inr d) = kept_other b p x app f.size l a.most q m (eqb-false q p d) (f.places q m)

-- CLEARED
pub clear_formed : (b : List ℕ) (p : ℕ) → Formed b → p < 16 → Formed (cleared b p)
unfolding cleared
clear_formed b p f l = record {
  size = length_keep b p free [] f.size l (omega arith);
  side = rw (at_front b p free [] f.size l (omega arith) 0 (omega arith)) f.side;
  formats = rw (at_front b p free [] f.size l (omega arith) 1 (omega arith)) f.formats;
  places = λ q m. go q m (told (eqb q p));
} where
  go : (q : ℕ) → q < 16 → (eqb q p ≡ true) ⊎ (eqb q p ≡ false) → PlaceFormed (keep b p free []) q
  go q m (inl e) = rw (eqb-true q p e) (inl (zero_same b p f.size l))
  go q m (inr d) = kept_other b p free [] f.size l (omega arith) q m (eqb-false q p d) (f.places q m)
