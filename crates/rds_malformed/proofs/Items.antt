-- The walk over the items of SET_PARAMETERS finds exactly what items are. Assumes nothing.
use Prim.Native.Nat.{ℕ, zero, suc, ◌+◌, ◌≤◌}
use native.Mathlib.Omega.{arith}
use mathlib.Core.Path.{◌≡◌, refl, sym, subst, ◌∙◌}
use mathlib.Core.List.{List, [], ◌∷◌, ◌++◌}
use mathlib.Core.Bool.{true, false}
use mathlib.Core.Logic.{◌⊎◌, inl, inr}
use lib.ListN.{length, take, drop, length-append, take-append-drop}
use lib.Seq.{drop_at, drop-drop, length-take-le}
use lib.Dec.{ltb, eqb}
use borrow.Author.Tests.{ltb-false, le-ltb, eq-eqb, ne_eqb, eqb-true, eqb-false}
use Rattle.base_lists.proofs.StoresAndParts.{told, true_false}
use Rattle.rds_parameters.specs.Parameters.{item_length, items_from}
use Rattle.rds_malformed.specs.Items.{Items, none, one}

-- an item that is there has its length
item_there : (type len : ℕ) (value rest : List ℕ) → length value ≡ len → (type ≡ 0 → len ≡ 1) → item_length (type ∷ len ∷ (value ++ rest)) ≡ 2 + len
unfolding item_length
item_there type len value rest l v = go (told (eqb type 0)) where
  long : 2 + len ≤ suc (suc (length (value ++ rest)))
  long = omega (arith, length-append value rest)

  two : 2 ≤ suc (suc (length (value ++ rest)))
  two = omega arith

  go : (eqb type 0 ≡ true) ⊎ (eqb type 0 ≡ false) → item_length (type ∷ len ∷ (value ++ rest)) ≡ 2 + len
  go (inl p) = let e : len ≡ 1 = v (eqb-true type 0 p) in let k : 2 + len ≡ 3 = omega arith in rw (le-ltb _ _ two, le-ltb _ _ long, p, eq-eqb _ _ k) (sym k)
  go (inr p) = rw (le-ltb _ _ two, le-ltb _ _ long, p)

after_item_holds : (type len : ℕ) (r : List ℕ) → drop (2 + len) (type ∷ len ∷ r) ≡ drop len r
after_item_holds type len r = sym (drop-drop len 2 (type ∷ len ∷ r))

-- items are found, if at least as many are still to come as there are octets
pub items_found_holds : (s : List ℕ) → Items s → (n : ℕ) → length s ≤ n → items_from n s ≡ true
unfolding items_from
items_found_holds s none zero h = refl
items_found_holds s none (suc n) h = refl
items_found_holds s (one type len value rest l v i) zero h = absurd (omega arith)
items_found_holds s (one type len value rest l v i) (suc n) h =
    let e = item_there type len value rest l v in
    let z : suc (suc (length (value ++ rest))) ≡ 0 → ⊥ = λ q. omega arith in
    let k : 2 + len ≡ 0 → ⊥ = λ q. omega arith in
    let d : drop (2 + len) (type ∷ len ∷ (value ++ rest)) ≡ rest = after_item_holds type len (value ++ rest) ∙ drop_at value rest len l in
    rw (ne_eqb _ _ z, e, ne_eqb _ _ k, d) (items_found_holds rest i n (omega (arith, length-append value rest)))

-- what the length of an item says: it is none, or all of it is there
pub record There (type len : ℕ) (r : List ℕ) : Type 0 where
  pub size : item_length (type ∷ len ∷ r) ≡ 2 + len
  pub inside : len ≤ length r
  pub version : type ≡ 0 → len ≡ 1

item_or_none : (type len : ℕ) (r : List ℕ) → (item_length (type ∷ len ∷ r) ≡ 0) ⊎ There type len r
unfolding item_length
item_or_none type len r = go (told (ltb (suc (suc (length r))) (2 + len))) (told (eqb type 0)) (told (eqb (2 + len) 3)) where
  two : 2 ≤ suc (suc (length r))
  two = omega arith

  go : (ltb (suc (suc (length r))) (2 + len) ≡ true) ⊎ (ltb (suc (suc (length r))) (2 + len) ≡ false) → (eqb type 0 ≡ true) ⊎ (eqb type 0 ≡ false) → (eqb (2 + len) 3 ≡ true) ⊎ (eqb (2 + len) 3 ≡ false)
      → (item_length (type ∷ len ∷ r) ≡ 0) ⊎ There type len r
  go (inl p) q v = inl (rw (le-ltb _ _ two, p))
  go (inr p) (inl q) (inl v) =
      let k : 2 + len ≡ 3 = eqb-true (2 + len) 3 v in
      inr (record { size = rw (le-ltb _ _ two, p, q, v) (sym k); inside = omega (arith, ltb-false (suc (suc (length r))) (2 + len) p); version = λ h. omega arith })
  go (inr p) (inl q) (inr v) = inl (rw (le-ltb _ _ two, p, q, v))
  go (inr p) (inr q) v = inr (record { size = rw (le-ltb _ _ two, p, q); inside = omega (arith, ltb-false (suc (suc (length r))) (2 + len) p); version = λ h. absurd (eqb-false type 0 q h) })

one_octet : (x : ℕ) → item_length (x ∷ []) ≡ 0
unfolding item_length
one_octet x = refl

-- what is found is items
pub found_items : (n : ℕ) (s : List ℕ) → items_from n s ≡ true → Items s
unfolding items_from
found_items zero [] e = none
found_items zero (x ∷ r) e = true_false (sym e ∙ rw (ne_eqb (suc (length r)) 0 (λ q. omega arith)))
found_items (suc n) [] e = none
found_items (suc n) (x ∷ []) e = true_false (sym e ∙ rw (one_octet x))
found_items (suc n) (type ∷ len ∷ r) e = go (item_or_none type len r) (found_items n) where
  some : eqb (suc (suc (length r))) 0 ≡ false
  some = ne_eqb (suc (suc (length r))) 0 (λ q. omega arith)

  go : (item_length (type ∷ len ∷ r) ≡ 0) ⊎ There type len r → ((t : List ℕ) → items_from n t ≡ true → Items t) → Items (type ∷ len ∷ r)
  go (inl z) f = true_false (sym e ∙ rw (some, z))
  go (inr t) f =
      let k : eqb (2 + len) 0 ≡ false = ne_eqb (2 + len) 0 (λ q. omega arith) in
      let i : Items (drop len r) = f (drop len r) (rw (some, t.size, k, after_item_holds type len r) at e) in
      let whole : take len r ++ drop len r ≡ r = take-append-drop len r in
      subst (λ (l : List ℕ). Items (type ∷ len ∷ l)) whole (one type len (take len r) (drop len r) (length-take-le len r t.inside) t.version i)
