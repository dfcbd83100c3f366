-- `all`, `any` and `fold` over a range, said of the numbers in it and not of a list, and `fold` over a slice, said of its places. Assumes nothing.
use mathlib.Core.Path.{◌≡◌, sym, subst}
use mathlib.Core.Bool.{Bool, true, false}
use mathlib.Core.List.{List, [], ◌∷◌}
use Prim.Native.Nat.{ℕ, zero, suc, ◌+◌, ◌-◌, ◌<◌}
use native.Mathlib.Omega.{arith}
use lib.ListN.{length, get_or}
use denote.Param.Members.{Mut}
use Rattle.std.specs.Prelude.{Option, MatchOption}
use Rattle.std.specs.Iterator.{YieldsThen}
use Rattle.std.specs.List.{fold, FoldsTo, range_with_len, AllWithin, HoldsAt}
use Rattle.std.specs.Fn.{Called}
use Rattle.std.specs.Bool.{MatchBool}
use Rattle.std.proofs.lemmas.Iterator.{YieldsList, cases_from_all, cases_from_any}
use Rattle.std.proofs.lemmas.List.FromFn.{length-range_with_len, get_or-range_with_len}
use Rattle.base_lists.specs.Seq.{every}
use Rattle.base_lists.proofs.StoresAndParts.{every_all, every_fails}

-- the numbers below n, as the range 0..n gives them
abbrev pub up_to : ℕ → List ℕ
up_to n = range_with_len 0 (n - 0)

in_all : (n : ℕ) (P : ℕ → Type 0) → AllWithin P (up_to n) 0 (length (up_to n)) → (k : ℕ) → k < n → P k
in_all n P h k m =
    let e : get_or (up_to n) k 0 ≡ k = omega (arith, get_or-range_with_len 0 (n - 0) k 0 (omega arith)) in
    subst P e (h k 0 (omega arith) (omega (arith, length-range_with_len 0 (n - 0))))

in_some : (n : ℕ) (P : ℕ → Type 0) → (k : ℕ) × (k < length (up_to n)) × HoldsAt P (up_to n) k → (k : ℕ) × (k < n) × P k
in_some n P h =
    let l : h.0 < n - 0 = omega (arith, h.1, length-range_with_len 0 (n - 0)) in
    let e : get_or (up_to n) h.0 0 ≡ h.0 = omega (arith, get_or-range_with_len 0 (n - 0) h.0 0 l) in
    (h.0, omega arith, subst P e (h.2 0))

module _ {S F : Type 0} {steps : S → Option ℕ → S → Type 0} {g : Mut F (ℕ × Unit {0}) Bool} {s : S} (p : ℕ → Bool) (n : ℕ) (u : S) (f : F) (r : Bool) where
  -- what `(0..n).all(..)` gives, where each call of the closure tells p
  pub every_by_all : (xs : List ℕ) × (o : Option ℕ) × (j : F) × YieldsThen steps s xs o u × FoldsTo (λ p x q. Called g p (x, tt) true q) f xs j × MatchOption o (r ≡ true) (λ x. (r ≡ false) × ((h : F) × Called g j (x, tt) false h))
      → YieldsList steps (λ x. x) s (up_to n) → ((x : ℕ) (q : F) → Called g f (x, tt) true q → (q ≡ f) × (p x ≡ true)) → ((x : ℕ) (q : F) → Called g f (x, tt) false q → p x ≡ false) → r ≡ every p n
  every_by_all d y t e = by r (cases_from_all u f r (λ k. p k ≡ true) (λ k. p k ≡ false) d y t e)
    where
      by : (b : Bool) → MatchBool b (AllWithin (λ k. p k ≡ true) (up_to n) 0 (length (up_to n))) ((k : ℕ) × (k < length (up_to n)) × HoldsAt (λ k. p k ≡ false) (up_to n) k) → b ≡ every p n
      by true h = sym (every_all p n (in_all n (λ k. p k ≡ true) h))
      by false h = let w = in_some n (λ k. p k ≡ false) h in sym (every_fails p n w.0 w.1 w.2)

  -- what `(0..n).any(..)` gives
  pub some_by_any : (xs : List ℕ) × (o : Option ℕ) × (j : F) × YieldsThen steps s xs o u × FoldsTo (λ p x q. Called g p (x, tt) false q) f xs j × MatchOption o (r ≡ false) (λ x. (r ≡ true) × ((h : F) × Called g j (x, tt) true h))
      → YieldsList steps (λ x. x) s (up_to n) → ((x : ℕ) (q : F) → Called g f (x, tt) true q → p x ≡ true) → ((x : ℕ) (q : F) → Called g f (x, tt) false q → (q ≡ f) × (p x ≡ false))
      → MatchBool r ((k : ℕ) × (k < n) × (p k ≡ true)) ((k : ℕ) → k < n → p k ≡ false)
  some_by_any d y t e = by r (cases_from_any u f r (λ k. p k ≡ true) (λ k. p k ≡ false) d y t e)
    where
      by : (b : Bool) → MatchBool b ((k : ℕ) × (k < length (up_to n)) × HoldsAt (λ k. p k ≡ true) (up_to n) k) (AllWithin (λ k. p k ≡ false) (up_to n) 0 (length (up_to n))) → MatchBool b ((k : ℕ) × (k < n) × (p k ≡ true)) ((k : ℕ) → k < n → p k ≡ false)
      by true h = in_some n (λ k. p k ≡ true) h
      by false h = in_all n (λ k. p k ≡ false) h

-- what each turn of `(0..n).fold(..)` keeps holds of what it gives
module _ {A : Type 0} (h : A → ℕ → A) (J : ℕ → A → Type 0) (step : (k : ℕ) (a : A) → J k a → J (k + 1) (h a k)) where
  turns : (n k : ℕ) (a : A) → J k a → J (k + n) (fold h a (range_with_len k n))
  turns zero k a j =
      let e : k ≡ k + 0 = omega arith in
      subst (λ m. J m a) e j
  turns (suc n) k a j =
      let e : k + 1 + n ≡ k + suc n = omega arith in
      subst (λ m. J m (fold h (h a k) (range_with_len (k + 1) n))) e (turns n (k + 1) (h a k) (step k a j))

  pub kept_by_fold : (n : ℕ) (a r : A) → r ≡ fold h a (up_to n) → J 0 a → J n r
  kept_by_fold n a r e j =
      let m : 0 + (n - 0) ≡ n = omega arith in
      subst (λ k. J k r) m (subst (J (0 + (n - 0))) (sym e) (turns (n - 0) 0 a j))

-- and what each turn of `xs.iter().fold(..)` keeps
module _ {A X : Type 0} (h : A → X → A) (J : ℕ → A → Type 0) (d : X) where
  items : (xs : List X) (k : ℕ) (a : A) → ((j : ℕ) (a : A) → j < length xs → J (k + j) a → J (k + j + 1) (h a (get_or xs j d))) → J k a → J (k + length xs) (fold h a xs)
  items [] k a step j =
      let e : k ≡ k + 0 = omega arith in
      subst (λ m. J m a) e j
  items (x ∷ xs) k a step j =
      let e : k + 1 + length xs ≡ k + suc (length xs) = omega arith in
      let f : k ≡ k + 0 = omega arith in
      let g : k + 0 + 1 ≡ k + 1 = omega arith in
      subst (λ m. J m (fold h (h a x) xs)) e (items xs (k + 1) (h a x) (λ i b l c. shifted i b l c) (subst (λ m. J m (h a x)) g (step 0 a (omega arith) (subst (λ m. J m a) f j))))
    where
      shifted : (i : ℕ) (b : A) → i < length xs → J (k + 1 + i) b → J (k + 1 + i + 1) (h b (get_or xs i d))
      shifted i b l c =
          let f : k + 1 + i ≡ k + suc i = omega arith in
          let g : k + suc i + 1 ≡ k + 1 + i + 1 = omega arith in
          subst (λ m. J m (h b (get_or xs i d))) g (step (suc i) b (omega arith) (subst (λ m. J m b) f c))

  pub kept_by_items : (xs : List X) (a r : A) → ((j : ℕ) (a : A) → j < length xs → J j a → J (j + 1) (h a (get_or xs j d))) → r ≡ fold h a xs → J 0 a → J (length xs) r
  kept_by_items xs a r step e j =
      let m : 0 + length xs ≡ length xs = omega arith in
      subst (λ k. J k r) m (subst (J (0 + length xs)) (sym e) (items xs 0 a (λ i b l c. at_zero i b l c) j))
    where
      at_zero : (i : ℕ) (b : A) → i < length xs → J (0 + i) b → J (0 + i + 1) (h b (get_or xs i d))
      at_zero i b l c =
          let f : 0 + i ≡ i = omega arith in
          let g : i + 1 ≡ 0 + i + 1 = omega arith in
          subst (λ m. J m (h b (get_or xs i d))) g (step i b l (subst (λ m. J m b) f c))
