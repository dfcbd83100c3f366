-- What it means that words fit: every word is within its bound, Nack list and user data lie within the bytes. Assumes nothing.
use Prim.Native.Nat.{ℕ, ◌+◌, ◌-◌, ◌*◌, ◌/◌, ◌%◌, ◌≤◌, ◌<◌}
use native.Mathlib.Omega.{arith}
use mathlib.Core.Path.{◌≡◌}
use mathlib.Core.List.{List, []}
use mathlib.Core.Bool.{Bool, true, false}
use lib.ListN.{get_or}
use borrow.Author.Tests.{leb-true, le-leb, lt-ltb, le-ltb}
use Rattle.base_lists.proofs.StoresAndParts.{both, both_fst, both_snd, every_at, every_all}
use Rattle.base_lists.specs.Seq.{pick}
use Rattle.codec_said.specs.Said.{word}
use Rattle.codec_verdict.specs.Widths.{widths, widest_item, widest, narrow_at, none_too_wide, inside, fits}

pub record Fitting (w : List ℕ) (n : ℕ) : Type 0 where
  pub narrow : (i : ℕ) → i < 88 → word w i ≤ widest w i
  pub list_inside : word w 14 + word w 13 ≤ n
  pub user_inside : word w 16 + word w 17 ≤ n

module _ (w : List ℕ) (n : ℕ) where
  abbrev parts : Bool
  parts = pick (inside n (word w 14) (word w 13)) (inside n (word w 16) (word w 17)) false

  pub fits_tell : fits w n ≡ true → Fitting w n
  unfolding fits none_too_wide inside
  fits_tell e =
      let a : none_too_wide w ≡ true = both_fst (none_too_wide w) parts e in
      let b : parts ≡ true = both_snd (none_too_wide w) parts e in
      record {
        narrow = λ i l. leb-true (word w i) (widest w i) (every_at (narrow_at w) 88 a i l);
        list_inside = leb-true (word w 14 + word w 13) n (both_fst (inside n (word w 14) (word w 13)) (inside n (word w 16) (word w 17)) b);
        user_inside = leb-true (word w 16 + word w 17) n (both_snd (inside n (word w 14) (word w 13)) (inside n (word w 16) (word w 17)) b);
      }

  pub fits_hold : Fitting w n → fits w n ≡ true
  unfolding fits none_too_wide inside
  fits_hold f =
      both (none_too_wide w) parts (every_all (narrow_at w) 88 (λ i l. le-leb (word w i) (widest w i) (f.narrow i l)))
      (both (inside n (word w 14) (word w 13)) (inside n (word w 16) (word w 17)) (le-leb (word w 14 + word w 13) n f.list_inside) (le-leb (word w 16 + word w 17) n f.user_inside))

module _ (w : List ℕ) where
  -- the bound of a word of the header is that of its type
  pub widest_head : (i : ℕ) → i < 24 → widest w i ≡ get_or (get_or widths i []) (word w 0) 0
  unfolding widest
  widest_head i h = rw (lt-ltb i 24 h)

  -- the bound of word j of item k
  pub widest_of_item : (k j : ℕ) → j < 4 → widest w (24 + 4 * k + j) ≡ widest_item w k j
  unfolding widest
  widest_of_item k j h =
      let a : (24 + 4 * k + j - 24) / 4 ≡ k = omega arith in
      let b : (24 + 4 * k + j - 24) % 4 ≡ j = omega arith in
      rw (le-ltb (24 + 4 * k + j) 24 (omega arith), a, b)

module _ (w : List ℕ) (n : ℕ) (f : Fitting w n) where
  pub at_type : (i t : ℕ) → i < 24 → word w 0 ≡ t → word w i ≤ get_or (get_or widths i []) t 0
  at_type i t h e = rw (widest_head w i h, e) at (f.narrow i (omega arith))

  pub at_item : (k j : ℕ) → k < 16 → j < 4 → word w (24 + 4 * k + j) ≤ widest_item w k j
  at_item k j h g = rw (widest_of_item w k j g) at (f.narrow (24 + 4 * k + j) (omega arith))
