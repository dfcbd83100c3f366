-- What the size of the output and the plan say of the answer. Assumes nothing.
use Prim.Native.Nat.{ℕ, ◌<◌, ◌≤◌}
use borrow.Author.Tests.{lt-ltb, le-ltb}
use mathlib.Core.Path.{◌≡◌, refl}
use mathlib.Core.List.{List}
use mathlib.Core.Bool.{Bool, true, false}
use Rattle.std.specs.Prelude.{Ok, Err}
use lib.ListN.{length}
use Rattle.base_lists.specs.Seq.{pick}
use Rattle.base_numbers.specs.declared.Refusal.TheVariants.{WrongSize, WrongLength}
use Rattle.codec_joining.specs.Join.{joined_octets, joinable, planned_answer, joined_answer}

module _ (bytes lengths : List ℕ) where
  pub too_small : (out : List ℕ) → length out < 1500 → joined_answer bytes lengths out ≡ Err WrongSize
  unfolding joined_answer
  too_small out h = rw (lt-ltb (length out) 1500 h)

  pub large_enough : (out : List ℕ) → 1500 ≤ length out → joined_answer bytes lengths out ≡ planned_answer bytes lengths
  unfolding joined_answer
  large_enough out h = rw (le-ltb (length out) 1500 h)

  pub accepted : (n : ℕ) → planned_answer bytes lengths ≡ Ok n → joinable bytes lengths ≡ true
  unfolding planned_answer
  accepted n e = go (joinable bytes lengths) e
    where
      go : (b : Bool) → pick b (Ok (length (joined_octets bytes lengths))) (Err WrongLength) ≡ Ok n → b ≡ true
      go true e = refl
      go false e = absurd cc
