-- The kind that words say, kind by kind. Assumes nothing.
use Prim.Native.Nat.{ℕ, ◌%◌}
use mathlib.Core.Path.{◌≡◌}
use mathlib.Core.List.{List}
use Rattle.std.specs.Prelude.{Some}
use Rattle.rds_frame.specs.declared.Kind.TheVariants as K
use Rattle.rds_frame.specs.Frame.{u_kind}
use Rattle.rds_said.specs.Said.{word, set?, kind_said}

module _ (w : List ℕ) where
  pub said_i : word w 0 ≡ 1 → kind_said w ≡ Some (K.I (set? w 4) (word w 5 % 8) (word w 6 % 8) (word w 7 % 8))
  unfolding kind_said
  said_i e = rw e

  pub said_s : word w 0 ≡ 2 → kind_said w ≡ Some (K.S (set? w 4) (word w 6 % 8) (word w 7 % 8))
  unfolding kind_said
  said_s e = rw e

  pub said_ui : word w 0 ≡ 3 → kind_said w ≡ Some (K.Ui (word w 8 % 8))
  unfolding kind_said
  said_ui e = rw e

  pub said_u : word w 0 ≡ 4 → kind_said w ≡ u_kind (word w 9 % 16) (set? w 10)
  unfolding kind_said
  said_u e = rw e
