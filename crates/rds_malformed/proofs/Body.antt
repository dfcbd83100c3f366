-- The information field of MANAGE_PORT is refused exactly where 11 to 14 of section 3 say. Assumes nothing.
use Prim.Native.Nat.{ℕ, ◌+◌, ◌-◌, ◌/◌, ◌%◌, ◌<◌, ◌≤◌}
use native.Mathlib.Omega.{arith}
use mathlib.Core.Path.{◌≡◌, refl, sym, ◌∙◌}
use mathlib.Core.List.{List}
use mathlib.Core.Bool.{Bool, true, false}
use mathlib.Core.Logic.{◌⊎◌, inl, inr}
use lib.ListN.{length, get_or, drop}
use lib.Dec.{ltb, eqb}
use borrow.Author.Tests.{lt-ltb, le-ltb, eq-eqb, ne_eqb, eqb-true}
use Rattle.base_lists.specs.Seq.{pick}
use Rattle.base_lists.proofs.StoresAndParts.{told, lt_or_le}
use Rattle.std.specs.Prelude.{Option, Some, None, is_none}
use Rattle.rds_entries.specs.declared.Entries.{Entries}
use Rattle.rds_entries.specs.Entries.{application_length}
use Rattle.rds_body.specs.declared.Body.{Body}
use Rattle.rds_body.specs.declared.Body.TheVariants as B
use Rattle.rds_body.specs.declared.Form.{Form}
use Rattle.rds_body.specs.declared.Form.TheVariants as F
use Rattle.rds_body.specs.Body.{form_of, bitmap_of, optional_of, asking_with, asking_of, answer_of, query_by, query_of, lone, list_by, list_after, list_of, managed_by, managed_of}
use Rattle.rds_malformed.specs.Malformed.{not, and, or, action, isWrong, entries, noBitmap, pastEntries, reservedStatus, cutShort, octetsLeft, badInformation}

-- two numbers differ where one is the smaller
pub differ : (a b : ℕ) → not (eqb a b) ≡ or (ltb a b) (ltb b a)
differ a b = go (lt_or_le a b) (lt_or_le b a) where
  go : (a < b) ⊎ (b ≤ a) → (b < a) ⊎ (a ≤ b) → not (eqb a b) ≡ or (ltb a b) (ltb b a)
  go (inl p) q = rw (lt-ltb a b p, ne_eqb a b (λ e. omega arith))
  go (inr p) (inl q) = rw (le-ltb a b p, lt-ltb b a q, ne_eqb a b (λ e. omega arith))
  go (inr p) (inr q) = let e : a ≡ b = omega arith in rw (le-ltb a b p, le-ltb b a q, eq-eqb a b e)

pub or_none : (x : Bool) → or x false ≡ x
or_none true = refl
or_none false = refl

pub or_last : (x y : Bool) → or x y ≡ or x (or y false)
or_last true y = refl
or_last false y = sym (or_none y)

-- a body, where a test holds, and none else
pub where_sound : {A : Type 0} (e : Bool) (x : A) → is_none (pick e (Some x) None) ≡ not e
where_sound true x = refl
where_sound false x = refl

-- a body without a list is there where the body is
pub lone_exact : (b : Option Body) → is_none (lone b) ≡ is_none b
lone_exact (Some b) = refl
lone_exact None = refl

-- a response of n octets whose Status is below 4
answers : (k n st : ℕ) (x : Body)
    → is_none (pick (eqb k n) (pick (ltb st 4) (Some x) None) None) ≡ or (and (eqb k n) (not (ltb st 4))) (or (ltb k n) (or (ltb n k) false))
answers k n st x = go (told (eqb k n)) (told (ltb st 4)) where
  go : (eqb k n ≡ true) ⊎ (eqb k n ≡ false) → (ltb st 4 ≡ true) ⊎ (ltb st 4 ≡ false)
      → is_none (pick (eqb k n) (pick (ltb st 4) (Some x) None) None) ≡ or (and (eqb k n) (not (ltb st 4))) (or (ltb k n) (or (ltb n k) false))
  go (inl p) (inl q) =
      let e : k ≡ n = eqb-true k n p in
      rw (p, q, le-ltb k n (omega arith), le-ltb n k (omega arith))
  go (inl p) (inr q) = rw (p, q)
  go (inr p) q = rw (← or_last (ltb k n) (ltb n k), ← differ k n, p)

-- what follows a body: nothing, or two octets of ports
optional_exact : {A : Type 0} (r : List ℕ) (at : ℕ) (f : Option (Option ℕ) → Option A) → ((o : Option ℕ) → is_none (f (Some o)) ≡ false) → is_none (f None) ≡ true
    → is_none (f (optional_of r)) ≡ or (noBitmap r at r) false
unfolding optional_of
optional_exact r at f h w = go (eqb (length r) 0) (eqb (length r) 2) where
  go : (a b : Bool) → is_none (f (pick a (Some None) (pick b (Some (Some (bitmap_of r))) None))) ≡ or (not (or a b)) false
  go true b = rw (h None)
  go false true = rw (h (Some (bitmap_of r)))
  go false false = rw w

module _ (t : List ℕ) (at : ℕ) where
  -- 12 to 14 of a body of this form
  abbrev Bad : Option Form → Bool
  Bad f = or (reservedStatus t at f) (or (cutShort t at f) (or (octetsLeft t at f) false))

  asking_exact : is_none (asking_of t at (action t at)) ≡ Bad (Some F.Asking)
  unfolding asking_of
  asking_exact = go (told (ltb (length t) 2)) (told (eqb (application_length (drop 2 t)) 0)) (told (eqb (action t at) 5)) where
    go : (ltb (length t) 2 ≡ true) ⊎ (ltb (length t) 2 ≡ false) → (eqb (application_length (drop 2 t)) 0 ≡ true) ⊎ (eqb (application_length (drop 2 t)) 0 ≡ false)
        → (eqb (action t at) 5 ≡ true) ⊎ (eqb (action t at) 5 ≡ false)
        → is_none (pick (ltb (length t) 2) None (asking_with t at (action t at) (application_length (drop 2 t)))) ≡ Bad (Some F.Asking)
    go (inl p) q r = rw p
    go (inr p) (inl q) r = rw (p, q)
    go (inr p) (inr q) (inl r) = rw (p, q, r) (where_sound (eqb (length t) (2 + application_length (drop 2 t) + 1)) (B.Asking (action t at) (get_or t 1 0 / 16) (get_or t 1 0 % 16) (at + 2) (application_length (drop 2 t)) (get_or t (2 + application_length (drop 2 t)) 0 % 8)) ∙ differ (length t) (2 + application_length (drop 2 t) + 1) ∙ or_last (ltb (length t) (2 + application_length (drop 2 t) + 1)) (ltb (2 + application_length (drop 2 t) + 1) (length t)))
    go (inr p) (inr q) (inr r) = rw (p, q, r) (where_sound (eqb (length t) (2 + application_length (drop 2 t))) (B.Asking (action t at) (get_or t 1 0 / 16) (get_or t 1 0 % 16) (at + 2) (application_length (drop 2 t)) 0) ∙ differ (length t) (2 + application_length (drop 2 t)) ∙ or_last (ltb (length t) (2 + application_length (drop 2 t))) (ltb (2 + application_length (drop 2 t)) (length t)))

  answer_exact : is_none (answer_of t (action t at)) ≡ Bad (Some F.Answer)
  unfolding answer_of
  answer_exact = go (told (eqb (action t at) 5)) where
    go : (eqb (action t at) 5 ≡ true) ⊎ (eqb (action t at) 5 ≡ false)
        → is_none (pick (eqb (action t at) 5)
        (pick (eqb (length t) 3) (pick (ltb (get_or t 2 0) 4) (Some (B.Answer (action t at) (get_or t 1 0 % 8) (get_or t 2 0))) None) None)
        (pick (eqb (length t) 2) (pick (ltb (get_or t 1 0) 4) (Some (B.Answer (action t at) 0 (get_or t 1 0))) None) None)) ≡ Bad (Some F.Answer)
    go (inl r) = rw r (answers (length t) 3 (get_or t 2 0) _)
    go (inr r) = rw r (answers (length t) 2 (get_or t 1 0) _)

  query_exact : is_none (query_of t (action t at)) ≡ Bad (Some F.Query)
  unfolding query_of
  query_exact = optional_exact (drop 1 t) at (query_by (action t at)) (λ o. refl) refl

  list_by_holds : (e : Option Entries) → is_none (list_after t at (action t at) e) ≡ or (is_none e) (or (pastEntries t at e) false)
  list_by_holds (Some e) = optional_exact (drop (e.end - at) t) at (list_by (action t at) (get_or t 0 0 / 16) e.list) (λ o. refl) refl
  list_by_holds None = refl

  list_exact : is_none (list_of t at (action t at)) ≡ Bad (Some F.List)
  unfolding list_of
  list_exact = list_by_holds (entries t at)

  by_form : (f : Option Form) → is_none (managed_by t at (action t at) f) ≡ or (isWrong t at f) (Bad f)
  by_form (Some F.Asking) = lone_exact (asking_of t at (action t at)) ∙ asking_exact
  by_form (Some F.Answer) = lone_exact (answer_of t (action t at)) ∙ answer_exact
  by_form (Some F.Query) = lone_exact (query_of t (action t at)) ∙ query_exact
  by_form (Some F.List) = list_exact
  by_form None = refl

  pub managed_exact : (response : Bool) → is_none (managed_of t at response) ≡ badInformation t at response
  unfolding managed_of
  managed_exact response = go (told (eqb (length t) 0)) where
    go : (eqb (length t) 0 ≡ true) ⊎ (eqb (length t) 0 ≡ false)
        → is_none (pick (eqb (length t) 0) None (managed_by t at (action t at) (form_of (action t at) response))) ≡ badInformation t at response
    go (inl p) = rw p
    go (inr p) = rw p (by_form (form_of (action t at) response))
