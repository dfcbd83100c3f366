-- What is found at a place lies after it and within the datagram; the parts from a place are what is found there and the parts from the place after it.
-- Assumes nothing.
use Prim.Native.Nat.{ℕ, zero, suc, ◌+◌, ◌<◌, ◌≤◌}
use native.Mathlib.Omega.{arith}
use borrow.Author.Tests.{ltb-true, lt-ltb, le-ltb}
use mathlib.Core.Path.{◌≡◌, refl, ◌∙◌}
use mathlib.Core.List.{List, []}
use mathlib.Core.Bool.{Bool, true, false}
use Rattle.std.specs.Prelude.{Option, Some, None}
use lib.ListN.{length}
use lib.Dec.{ltb}
use Rattle.base_lists.specs.Seq.{pick}
use Rattle.codec_separation.specs.declared.Part.{Part}
use Rattle.codec_separation.specs.Separate.{Split, parts, part_at, and_then, parts_from}
use Rattle.codec_separation.specs.Faults.{Announced}
use Rattle.codec_separation.proofs.Looks.{Look, cut, none, more, there, announced_at, look}

-- a part of at least one octet that the length at `at` announces, after it and within d
pub record Inside (d : List ℕ) (at start len : ℕ) : Type 0 where
  pub said : Announced d at start len
  pub behind : at < start
  pub some : 1 ≤ len
  pub fits : start + len ≤ length d

pub found_inside : (d : List ℕ) (at : ℕ) (p : Part) → at < length d → part_at d at ≡ Some p → Inside d at p.start p.len
found_inside d at p h e = go (part_at d at) (look d at h) e
  where
    go : (g : Option Part) → Look d at g → g ≡ Some p → Inside d at p.start p.len
    go g (cut h b) e = absurd cc
    go g (none a) e = absurd cc
    go g (more a h) e = absurd cc
    go g (there {s = x} {l = y} a h f) e =
        let q : record { start = x; len = y } ≡ p = cc in
        rw (← q) (record { said = a; behind = (announced_at a).0; some = h; fits = f })

-- the parts from `at` to the end
abbrev pub from : List ℕ → ℕ → Split
from d at = parts_from (length d) d at

-- more turns than octets are left change nothing
enough : (d : List ℕ) (m n at : ℕ) → length d ≤ at + m → length d ≤ at + n → parts_from m d at ≡ parts_from n d at
unfolding parts_from
enough d zero zero at p q = refl
enough d zero (suc n) at p q = rw (le-ltb at (length d) (omega arith))
enough d (suc m) zero at p q = rw (le-ltb at (length d) (omega arith))
enough d (suc m) (suc n) at p q = go (enough d m n) (ltb at (length d)) refl (part_at d at) refl
  where
    go : ((at : ℕ) → length d ≤ at + m → length d ≤ at + n → parts_from m d at ≡ parts_from n d at) → (b : Bool) → ltb at (length d) ≡ b → (g : Option Part) → part_at d at ≡ g
        → pick b (and_then (parts_from m d) g) (parts []) ≡ pick b (and_then (parts_from n d) g) (parts [])
    go ih false t g e = refl
    go ih true t None e = refl
    go ih true t (Some found) e =
        let i = found_inside d at found (ltb-true at (length d) t) e in
        rw (ih (found.start + found.len) (omega arith) (omega arith))

module _ (d : List ℕ) (at : ℕ) where
  no_turn : parts_from 0 d at ≡ parts []
  unfolding parts_from
  no_turn = refl

  one_turn : (m : ℕ) → at < length d → parts_from (suc m) d at ≡ and_then (parts_from m d) (part_at d at)
  unfolding parts_from
  one_turn m h = rw (lt-ltb at (length d) h)

  pub from_end : length d ≤ at → from d at ≡ parts []
  from_end h = enough d (length d) 0 at (omega arith) (omega arith) ∙ no_turn

  pub from_step : at < length d → from d at ≡ and_then (from d) (part_at d at)
  from_step h = enough d (length d) (suc (length d)) at (omega arith) (omega arith) ∙ one_turn (length d) h
