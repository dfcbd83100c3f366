-- What a planned frame has room for. Assumes nothing.
use mathlib.Core.Path.{◌≡◌, refl, sym, ap, ◌∙◌}
use mathlib.Core.Bool.{Bool, true, false}
use mathlib.Core.List.{List, ◌++◌}
use Prim.Native.Nat.{ℕ, ◌+◌, ◌≤◌}
use native.Mathlib.Omega.{arith}
use borrow.Author.Tests.{ltb-false}
use lib.ListN.{length}
use lib.Dec.{ltb, eqb}
use native.Mathlib.Nat.{zero-add}
use Rattle.std.specs.Prelude.{Ok, Err}
use Rattle.base_lists.specs.Seq.{pick, put}
use Rattle.base_lists.proofs.StoresAndParts.{put_append}
use Rattle.base_numbers.specs.declared.Refusal.{Refusal}
use Rattle.base_numbers.specs.declared.Refusal.TheVariants.{WrongSize, WrongSetting, WrongLength}
use Rattle.rds_datagram.specs.Put.{plan_of, head_octets}

refused_length {ℓ} : {A : Type ℓ} (r : Refusal) (n : ℕ) → Err r ≡ Ok n → A
refused_length r n e = let z : ◌≡◌ {A = ℕ} 0 1 = cc in absurd (omega arith)

-- an accepted datagram has at most 1,500 octets, and the output has room for the longest frame
pub roomy : (len room : ℕ) (ports fits : Bool) (n : ℕ) → plan_of len room ports fits ≡ Ok n → (len ≤ 1500) × (1523 ≤ room)
unfolding plan_of
roomy len room ports fits n = go (ltb room 1523) refl fits (eqb len 0) (ltb 1500 len) refl where
  go : (a : Bool) → ltb room 1523 ≡ a → (b c d : Bool) → ltb 1500 len ≡ d
      → pick a (Err WrongSize) (pick b (pick c (Err WrongLength) (pick d (Err WrongLength) (pick ports (Ok (2 + len)) (Ok (1 + len))))) (Err WrongSetting)) ≡ Ok n
      → (len ≤ 1500) × (1523 ≤ room)
  go true p b c d q e = refused_length _ _ e
  go false p true true d q e = refused_length _ _ e
  go false p true false true q e = refused_length _ _ e
  go false p true false false q e = (ltb-false 1500 len q, ltb-false room 1523 p)
  go false p false c d q e = refused_length _ _ e

-- a header has one octet, or two
pub head_length : (ports : Bool) (s d n : ℕ) → length (head_octets ports s d n) ≤ 2
unfolding head_octets
head_length true s d n = omega arith
head_length false s d n = omega arith

-- a header, and what follows it, are one store
pub two_stores : (o h t : List ℕ) → put (put o 0 h) (length h) t ≡ put o 0 (h ++ t)
two_stores o h t = sym (put_append h t o 0 ∙ ap (λ (i : ℕ). put (put o 0 h) i t) (zero-add (length h)))
