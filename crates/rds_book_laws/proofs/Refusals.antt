-- Promise 10: a refused call leaves book, output and answer as they were. Assumes nothing.
use mathlib.Core.Path.{refl}
use Rattle.std.specs.Prelude.{Option, Some, None}
use mathlib.Core.List.{List}
use mathlib.Core.Bool.{Bool, true, false}
use mathlib.Core.Logic.{inl, inr}
use Prim.Native.Nat.{ℕ}
use lib.ListN.{length}
use lib.Dec.{ltb, eqb}
use Rattle.base_lists.specs.Seq.{pick}
use Rattle.rds_book.specs.Book.{book_size, well_formed}
use Rattle.rds_reading.specs.Read.{frame_of}
use Rattle.rds_reading.specs.declared.Frame.{Frame}
use Rattle.rds_lent.specs.Left.{Left, lent_well}
use Rattle.rds_lent.specs.Asked.{outstanding, is_reserved, not_now, out_of_range_is, is_app, sending}
use Rattle.rds_ports.specs.Ports.{reserve_in, reserve_of, release_in, release_of, again_in, again_of, abandon_number, abandon_after}
use Rattle.rds_shown.specs.Shown.{fresh_number, fresh_after, port_in, port_of}
use Rattle.rds_receiving.specs.Receiving.{turned, receive_frame, from_peer, receive_of}
use Rattle.rds_book_laws.specs.Refusing.{Refusing, RefusingBook}

module _ (b o a : List ℕ) where
  either : (t : Bool) (x y : Left) → Refusing x b o a → Refusing y b o a → Refusing (pick t x y) b o a
  either true x y p q = p
  either false x y p q = q

  pub reserve_refusing : (own peers : ℕ) (with : Bool) (app : List ℕ) → Refusing (reserve_of b o a own peers with app) b o a
  unfolding reserve_of reserve_in sending
  reserve_refusing own peers with app =
      either (lent_well b o a) _ _
      (either (not_now b own with) _ _ (inr refl) (either (out_of_range_is own peers) _ _ (inr refl) (either (is_app app) _ _ (inl refl) (inr refl))))
      (inr refl)

  pub release_refusing : (own : ℕ) → Refusing (release_of b o a own) b o a
  unfolding release_of release_in sending
  release_refusing own =
      either (lent_well b o a) _ _ (either (is_reserved b own) _ _ (either (outstanding b) _ _ (inr refl) (inl refl)) (inr refl)) (inr refl)

  pub again_refusing : Refusing (again_of b o a) b o a
  unfolding again_of again_in sending
  again_refusing = either (lent_well b o a) _ _ (either (outstanding b) _ _ (inl refl) (inr refl)) (inr refl)

  pub port_refusing : (p : ℕ) → Refusing (port_of b o a p) b o a
  unfolding port_of port_in
  port_refusing p = either (lent_well b o a) _ _ (either (ltb 15 p) _ _ (inr refl) (inl refl)) (inr refl)

  pub receive_refusing : (s : List ℕ) → Refusing (receive_of b o a s) b o a
  unfolding receive_of receive_frame turned
  receive_refusing s =
      either (lent_well b o a) _ _ (go (frame_of s (from_peer b))) (inr refl) where
        go : (f : Option Frame) → Refusing (receive_frame b o a s f) b o a
        go (Some f) = inl refl
        go None = inr refl

pub abandon_refusing : (b : List ℕ) → RefusingBook (abandon_number b) (abandon_after b) b
unfolding abandon_number abandon_after
abandon_refusing b = go (well_formed b) (outstanding b) _ where
  go : (x y : Bool) (f : List ℕ) → RefusingBook (pick x (pick y 0 8) 1) (pick x (pick y f b) b) b
  go true true f = inl refl
  go true false f = inr refl
  go false y f = inr refl

pub fresh_refusing : (b : List ℕ) (network : Bool) (formats : ℕ) → RefusingBook (fresh_number b formats) (fresh_after b network formats) b
unfolding fresh_number fresh_after
fresh_refusing b network formats = go (eqb (length b) book_size) (ltb 7 formats) _ where
  go : (x y : Bool) (f : List ℕ) → RefusingBook (pick x (pick y 10 0) 1) (pick x (pick y b f) b) b
  go true true f = inr refl
  go true false f = inl refl
  go false y f = inr refl
