-- What the tests of a call say of sizes and numbers. Assumes nothing.
use mathlib.Core.Path.{◌≡◌, refl, sym}
use mathlib.Core.List.{List}
use mathlib.Core.Bool.{Bool, true, false}
use Prim.Native.Nat.{ℕ, ◌+◌, ◌≤◌}
use lib.ListN.{length, get_or}
use lib.Dec.{ltb, leb, eqb}
use borrow.Author.Tests.{ltb-false, eqb-true}
use Rattle.base_lists.specs.Seq.{pick, every}
use Rattle.base_lists.proofs.StoresAndParts.{true_false}
use Rattle.rds_book.specs.Book.{book_size, app_most, place_of, place_ok, well_formed}
use Rattle.rds_lent.specs.Left.{lent_well, sending_least}
use Rattle.rds_lent.specs.Asked.{is_reserved, out_of_range_is, is_app}
use Rattle.rds_lists.specs.Sizes.{answer_least}

pub range_of : (own peers : ℕ) → out_of_range_is own peers ≡ false → (own ≤ 15) × (peers ≤ 15)
unfolding out_of_range_is
range_of own peers = go (eqb own 0) (ltb 15 own) refl (ltb 15 peers) refl where
  go : (a b : Bool) → ltb 15 own ≡ b → (c : Bool) → ltb 15 peers ≡ c → pick a true (pick b true c) ≡ false → (own ≤ 15) × (peers ≤ 15)
  go true b p c q e = true_false e
  go false true p c q e = true_false e
  go false false p true q e = true_false e
  go false false p false q e = (ltb-false 15 own p, ltb-false 15 peers q)

pub app_short : (app : List ℕ) → is_app app ≡ true → length app ≤ app_most
unfolding is_app
app_short app = go (ltb (length app) 17) (ltb app_most (length app)) refl where
  go : (a b : Bool) → ltb app_most (length app) ≡ b → pick a false (pick b false (eqb (length app) (17 + get_or app 16 0))) ≡ true → length app ≤ app_most
  go true b p e = true_false (sym e)
  go false true p e = true_false (sym e)
  go false false p e = ltb-false app_most (length app) p

pub reserved_port : (b : List ℕ) (own : ℕ) → is_reserved b own ≡ true → own ≤ 15
unfolding is_reserved
reserved_port b own = go (eqb own 0) (ltb 15 own) refl where
  go : (a c : Bool) → ltb 15 own ≡ c → pick a false (pick c false (pick (eqb (place_of b own).tag 0) false true)) ≡ true → own ≤ 15
  go true c p e = true_false (sym e)
  go false true p e = true_false (sym e)
  go false false p e = ltb-false 15 own p

pub formed_size : (b : List ℕ) → well_formed b ≡ true → length b ≡ book_size
unfolding well_formed
formed_size b = go (eqb (length b) book_size) refl where
  go : (a : Bool) → eqb (length b) book_size ≡ a
      → pick a (pick (leb (get_or b 0 0) 1) (pick (leb (get_or b 1 0) 7) (every (place_ok b) 16) false) false) false ≡ true → length b ≡ book_size
  go true p e = eqb-true (length b) book_size p
  go false p e = true_false (sym e)

-- what lent slices have that pass
pub record Sizes (b o a : List ℕ) : Type 0 where
  pub book : length b ≡ book_size
  pub output : sending_least ≤ length o
  pub answer : answer_least ≤ length a

pub lent_sizes : (b o a : List ℕ) → lent_well b o a ≡ true → Sizes b o a
unfolding lent_well
lent_sizes b o a = go (ltb (length a) answer_least) refl (ltb (length o) sending_least) refl where
  go : (x : Bool) → ltb (length a) answer_least ≡ x → (y : Bool) → ltb (length o) sending_least ≡ y → pick x false (pick y false (well_formed b)) ≡ true → Sizes b o a
  go true p y q e = true_false (sym e)
  go false p true q e = true_false (sym e)
  go false p false q e = record { book = formed_size b e; output = ltb-false (length o) sending_least q; answer = ltb-false (length a) answer_least p }
