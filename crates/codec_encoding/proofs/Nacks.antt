-- What stands after the TID of a Nack, as it is stored: the count, then the list. Assumes nothing.
use Prim.Native.Nat.{ℕ, suc, ◌+◌, ◌≤◌}
use mathlib.Core.Path.{◌≡◌, refl, ap}
use mathlib.Core.List.{List}
use mathlib.Core.Bool.{Bool}
use lib.ListN.{length, set}
use Rattle.base_lists.specs.Seq.{part, put}
use Rattle.base_lists.proofs.StoresAndParts.{length_part}
use Rattle.codec_pdu.specs.declared.Kind.TheVariants.{Nack}
use Rattle.codec_encoding.specs.Write.{extra_of, FitKind}

module _ (s : List ℕ) (rid : Bool) (n l : ℕ) (fits : FitKind s (Nack rid n l)) where
  pub list_inside : l + n ≤ length s
  unfolding FitKind
  list_inside = fits

  pub nack_length : length (extra_of s (Nack rid n l)) ≡ suc n
  unfolding extra_of
  nack_length = ap suc (length_part s l n list_inside)

  pub nack_stored : (o : List ℕ) → put (set o 3 n) 4 (part s l n) ≡ put o 3 (extra_of s (Nack rid n l))
  unfolding extra_of put
  nack_stored o = refl
