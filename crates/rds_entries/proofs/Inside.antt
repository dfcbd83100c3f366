-- An Application ID and an entry that are found lie within their octets. Assumes nothing.
use mathlib.Core.Path.{◌≡◌, refl, sym, ap}
use mathlib.Core.List.{List}
use mathlib.Core.Bool.{Bool, true, false}
use Prim.Native.Nat.{ℕ, ◌+◌, ◌%◌, ◌≤◌}
use native.Mathlib.Omega.{arith}
use borrow.Author.Tests.{ltb-false, leb-false, eqb-false}
use lib.ListN.{length, get_or, drop, length-drop}
use lib.Dec.{ltb, leb, eqb}
use Rattle.base_lists.specs.Seq.{pick}
use Rattle.rds_entries.specs.declared.Entry.{Entry}
use Rattle.std.specs.Prelude.{Option, None}
use Rattle.std.specs.Option.{unwrap_or}
use Rattle.rds_entries.specs.Entries.{one, application_length, entry_of, entry_with, entry_at}

pub cut_one {ℓ} : {A : Type ℓ} (e : Entry) (n : ℕ) → None ≡ one e n → A
cut_one e n p = let z : ◌≡◌ {A = ℕ} 0 1 = cc in absurd (omega arith)

pub same_size : (a b : Entry) (m n : ℕ) → one a m ≡ one b n → n ≡ m
same_size a b m n p = sym (ap (λ (o : Option (Entry × ℕ)). (unwrap_or o (a, m)).1) p)

pub same_entry : (a b : Entry) (m n : ℕ) → one a m ≡ one b n → a ≡ b
same_entry a b m n p = ap (λ (o : Option (Entry × ℕ)). (unwrap_or o (a, m)).0) p

pub application_inside : (s : List ℕ) → application_length s ≤ length s
unfolding application_length
application_inside s = go (ltb (length s) 17) (ltb (length s) (17 + get_or s 16 0)) refl where
  go : (a b : Bool) → ltb (length s) (17 + get_or s 16 0) ≡ b → pick a 0 (pick b 0 (17 + get_or s 16 0)) ≤ length s
  go true b p = omega arith
  go false true p = omega arith
  go false false p = ltb-false (length s) (17 + get_or s 16 0) p

module _ (s : List ℕ) (at : ℕ) where
  with_inside : (f : Bool) (len : ℕ) (e : Entry) (n : ℕ) → (len ≤ length (drop 1 s)) → entry_with s at f len ≡ one e n → n ≤ length s
  with_inside f len e n h q = go (eqb len 0) refl f (leb (length s) (1 + len)) refl q where
    go : (a : Bool) → eqb len 0 ≡ a → (b c : Bool) → leb (length s) (1 + len) ≡ c
        → pick a None (pick b (pick c None (one (entry_of s at len (get_or s (1 + len) 0 % 8)) (1 + len + 1))) (one (entry_of s at len 0) (1 + len))) ≡ one e n → n ≤ length s
    go true p b c r q = cut_one e n q
    go false p true true r q = cut_one e n q
    go false p true false r q = omega (arith, same_size _ _ _ _ q, leb-false (length s) (1 + len) r)
    go false p false c r q = omega (arith, same_size _ _ _ _ q, length-drop 1 s, eqb-false len 0 p)

  pub entry_inside : (f : Bool) (e : Entry) (n : ℕ) → entry_at s at f ≡ one e n → n ≤ length s
  unfolding entry_at
  entry_inside f e n = go (eqb (length s) 0) where
    go : (a : Bool) → pick a None (entry_with s at f (application_length (drop 1 s))) ≡ one e n → n ≤ length s
    go true q = cut_one e n q
    go false q = with_inside f (application_length (drop 1 s)) e n (application_inside (drop 1 s)) q
