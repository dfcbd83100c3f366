-- What is kept of a port, and which places a store leaves as they were. Assumes nothing.
use mathlib.Core.Path.{◌≡◌, refl, sym, ap, ◌∙◌}
use mathlib.Core.List.{List, []}
use mathlib.Core.Bool.{Bool, true, false}
use mathlib.Core.Logic.{inl, inr}
use Prim.Native.Nat.{ℕ, ◌+◌, ◌≤◌, ◌<◌}
use native.Mathlib.Omega.{arith}
use lib.ListN.{length, get_or}
use lib.Dec.{eqb}
use borrow.Author.Tests.{eqb-true, eqb-false, eq-eqb, ne_eqb}
use Rattle.base_lists.specs.Seq.{pick, part}
use Rattle.base_lists.proofs.StoresAndParts.{length_part}
use Rattle.rds_book.specs.declared.Place.{Place}
use Rattle.rds_book.specs.Book.{app_most, place_at_is, place_of, app_length, app_of_is, keep, free, cleared}
use Rattle.rds_lent.specs.Asked.{outstanding, length_words}
use Rattle.rds_shown.specs.Shown.{port_words, command_words, told_words, told_app}
use Rattle.rds_book_laws.specs.Formed.{IsApp, PlaceFormed, Formed}
use Rattle.rds_book_laws.proofs.Stores.{place_same, app_same, place_other, app_other}
use Rattle.rds_history.specs.Listed.{Listing, listed_words, listed_app}
use Rattle.rds_history.specs.Listed.Listing.{Free, Reserved}
use Rattle.rds_history.specs.Twice.{ReservedWith}

-- a port as the book keeps it
abbrev pub kept_in : Place → List ℕ → Listing
kept_in x app = pick (eqb x.tag 0) Free (Reserved x.tag x.peer x.format app)

abbrev pub kept : List ℕ → ℕ → Listing
kept b p = kept_in (place_of b p) (app_of_is b p)

-- a place is as it was
pub record Same (b after : List ℕ) (p : ℕ) : Type 0 where
  pub place : place_of after p ≡ place_of b p
  pub app : app_of_is after p ≡ app_of_is b p

pub app_most_holds : (b : List ℕ) (p : ℕ) → Formed b → p < 16 → app_length b p ≤ app_most
app_most_holds b p f l = go (f.places p l) where
  go : PlaceFormed b p → app_length b p ≤ app_most
  go (inl z) = omega (arith, z 20 (omega arith))
  go (inr u) = u.most

pub keep_stays : (b : List ℕ) (q : ℕ) (x : Place) (app : List ℕ) → Formed b → q < 16 → length app ≤ app_most → (p : ℕ) → p < 16 → (p ≡ q → ⊥) → Same b (keep b q x app) p
keep_stays b q x app f l s p m d = record { place = place_other b q x app f.size l s p m d; app = app_other b q x app f.size l s p m d (app_most_holds b p f m) }

pub clear_stays : (b : List ℕ) (q : ℕ) → Formed b → q < 16 → (p : ℕ) → p < 16 → (p ≡ q → ⊥) → Same b (cleared b q) p
unfolding cleared
clear_stays b q f l p m d = keep_stays b q free [] f l (omega arith) p m d

pub cleared_tag : (b : List ℕ) (q : ℕ) → Formed b → q < 16 → (place_of (cleared b q) q).tag ≡ 0
unfolding cleared
cleared_tag b q f l = ap (λ (x : Place). x.tag) (place_same b q free [] f.size l (omega arith))

pub kept_stays : (b after : List ℕ) (p : ℕ) → Same b after p → kept after p ≡ kept b p
kept_stays b after p s = λ i. kept_in (s.place i) (s.app i)

pub kept_free : (b : List ℕ) (p : ℕ) → (place_of b p).tag ≡ 0 → kept b p ≡ Free
kept_free b p e = rw (eq-eqb _ _ e) refl

-- a place that was kept
pub kept_new : (b : List ℕ) (q : ℕ) (x : Place) (app : List ℕ) → Formed b → q < 16 → IsApp app → 1 ≤ x.tag → kept (keep b q x app) q ≡ Reserved x.tag x.peer x.format app
kept_new b q x app f l a t =
    (λ i. kept_in (place_same b q x app f.size l a.most i) (app_same b q x app f.size l a.most a i)) ∙ rw (ne_eqb x.tag 0 (omega (arith, t))) refl

pub outstanding_stays : (b after : List ℕ) → Same b after 0 → outstanding after ≡ outstanding b
unfolding outstanding
outstanding_stays b after s = ap (λ (x : Place). pick (eqb x.tag 0) false true) s.place

-- WHAT `rds_port` TELLS of a port is what is kept
pub words_kept : (b : List ℕ) (p : ℕ) → Formed b → 1 ≤ p → p ≤ 15 → told_words b p ≡ listed_words p (kept b p)
unfolding told_words port_words app_of_is
words_kept b p f l m = go (eqb (place_of b p).tag 0) where
  long : app_length b p ≡ length (part b (place_at_is p + 4) (app_length b p))
  long = sym (length_part b (place_at_is p + 4) (app_length b p) (omega (arith, app_most_holds b p f (omega arith), f.size)))

  go : (z : Bool) → pick z (length_words 0) (pick (eqb p 0) (command_words (app_length b p) (get_or b 1 0) (place_of b p)) (port_words (app_length b p) p (place_of b p)))
      ≡ listed_words p (pick z Free (Reserved (place_of b p).tag (place_of b p).peer (place_of b p).format (app_of_is b p)))
  go true = refl
  go false = rw (ne_eqb p 0 (omega (arith, l))) (ap (λ (n : ℕ). port_words n p (place_of b p)) long)

pub app_told : (b : List ℕ) (p : ℕ) → told_app b p ≡ listed_app (kept b p)
unfolding told_app
app_told b p = go (eqb (place_of b p).tag 0) where
  go : (z : Bool) → pick z [] (app_of_is b p) ≡ listed_app (pick z Free (Reserved (place_of b p).tag (place_of b p).peer (place_of b p).format (app_of_is b p)))
  go true = refl
  go false = refl

-- port 0 is told as the command, and no reservation
pub zero_listed : (b : List ℕ) → get_or (told_words b 0) 11 0 ≡ 0
unfolding told_words command_words length_words
zero_listed b = go (eqb (place_of b 0).tag 0) where
  go : (z : Bool) → get_or (pick z (length_words 0) (command_words (app_length b 0) (get_or b 1 0) (place_of b 0))) 11 0 ≡ 0
  go true = refl
  go false = refl

-- a port that `rds_port` lists as reserved with s and X
pub record With (b : List ℕ) (p s : ℕ) (x : List ℕ) : Type 0 where
  pub port : 1 ≤ p
  pub tag : 1 ≤ (place_of b p).tag
  pub peer : (place_of b p).peer ≡ s
  pub app : app_of_is b p ≡ x

pub reserved_with : (b : List ℕ) (p s : ℕ) (x : List ℕ) → ReservedWith b p s x → With b p s x
unfolding told_words told_app port_words length_words
reserved_with b p s x r = go (eqb p 0) refl (eqb (place_of b p).tag 0) refl r.whom r.peer r.app where
  words : Bool → Bool → List ℕ
  words z t = pick t (length_words 0) (pick z (command_words (app_length b p) (get_or b 1 0) (place_of b p)) (port_words (app_length b p) p (place_of b p)))

  zero_words : p ≡ 0 → 1 ≤ get_or (told_words b p) 11 0 → ⊥
  zero_words e h =
      let k : get_or (told_words b p) 11 0 ≡ 0 = ap (λ (n : ℕ). get_or (told_words b n) 11 0) e ∙ zero_listed b in
      omega (arith, k, h)

  go : (z : Bool) → eqb p 0 ≡ z → (t : Bool) → eqb (place_of b p).tag 0 ≡ t → 1 ≤ get_or (words z t) 11 0 → get_or (words z t) 5 0 ≡ s → pick t [] (app_of_is b p) ≡ x → With b p s x
  go true e t k h m n = absurd (zero_words (eqb-true p 0 e) r.whom)
  go false e true k h m n = absurd (omega (arith, h))
  go false e false k h m n = record { port = omega (arith, eqb-false p 0 e); tag = omega (arith, eqb-false (place_of b p).tag 0 k); peer = m; app = n }
