-- The parts of a datagram follow their lengths, are in order, apart, and within it. Assumes nothing.
use Prim.Native.Nat.{ℕ, zero, suc, ◌+◌, ◌<◌, ◌≤◌}
use native.Mathlib.Omega.{arith}
use borrow.Author.Tests.{ltb-true, ltb-false}
use mathlib.Core.Path.{◌≡◌, refl}
use mathlib.Core.List.{List, [], ◌∷◌}
use mathlib.Core.Bool.{Bool, true, false}
use Rattle.std.specs.Prelude.{Ok}
use lib.ListN.{length, get_or}
use lib.Dec.{ltb}
use Rattle.codec_separation.specs.Separate.{Split, refused, parts, whole, no_part, parts_of, answer_at}
use Rattle.codec_separation.specs.declared.Part.{Part}
use Rattle.codec_separation.specs.declared.Parts.{Parts}
use Rattle.codec_separation.specs.Order.{Repeated, Follows, InOrder}
use Rattle.codec_separation.proofs.Looks.{announced_at}
use Rattle.codec_separation.proofs.Steps.{found_inside, from}
use Rattle.codec_separation.proofs.Ways.{Way, empty, long, plain, bare, listed, way, refused_parts, from_first, from_some}

from_repeated : (d : List ℕ) (ps : List Part) (at : ℕ) → at ≤ length d → from d at ≡ parts ps → Repeated d at ps
from_repeated d [] at b e = go (ltb at (length d)) refl
  where
    go : (t : Bool) → ltb at (length d) ≡ t → at ≡ length d
    go true q = absurd (from_some d at (ltb-true at (length d) q) e)
    go false q = omega (arith, ltb-false at (length d) q)
from_repeated d (p ∷ ps) at b e =
    let f = from_first d at p ps e in
    let i = found_inside d at p f.more f.found in
    (i.said, i.some, i.fits, from_repeated d ps (p.start + p.len) i.fits f.rest)

repeated_in_order : (d : List ℕ) (ps : List Part) (at : ℕ) → Repeated d at ps → Follows at ps × InOrder d ps
repeated_in_order d [] at r = (tt, tt)
repeated_in_order d (p ∷ ps) at r =
    let o = repeated_in_order d ps (p.start + p.len) r.3 in
    ((announced_at r.0).0, (r.1, r.2, o.0, o.1))

module _ (d : List ℕ) (ps : List Part) where
  -- a datagram that separates is one part, or octet 0 and a list of them
  pub kinds : {A : Type 0} → parts_of d ≡ parts ps → (1 ≤ length d → (get_or d 0 0 ≡ 0 → ⊥) → whole d ∷ [] ≡ ps → A) → (1 < length d → length d ≤ 1500 → Repeated d 1 ps → A) → A
  kinds {A} e one many = go (parts_of d) (way d) e
    where
      go : (s : Split) → Way d s → s ≡ parts ps → A
      go s (empty z) e = refused_parts ps e
      go s (long z) e = refused_parts ps e
      go s (bare z w) e = refused_parts ps e
      go s (plain h b z) e = one h z cc
      go s (listed h b z) e = many h b (from_repeated d ps 1 (omega arith) e)

  -- law: a datagram that begins with octet 0 is nothing else but its parts, each after its length
  pub parts_repeated : get_or d 0 0 ≡ 0 → parts_of d ≡ parts ps → Repeated d 1 ps
  parts_repeated z e = kinds e (λ h n q. absurd (n z)) (λ h b r. r)

  -- law: the parts of a datagram lie within it, have an octet or more, and are in order, each past the one before it and its own length
  pub parts_in_order : parts_of d ≡ parts ps → InOrder d ps
  parts_in_order e = kinds e (λ h n q. rw (← q) (h, omega arith, tt, tt)) (λ h b r. (repeated_in_order d ps 1 r).1)

nth_inside : (d : List ℕ) (ps : List Part) (k : ℕ) → InOrder d ps → (get_or ps k no_part).start + (get_or ps k no_part).len ≤ length d
nth_inside d [] k o = omega arith
nth_inside d (p ∷ ps) zero o = o.1
nth_inside d (p ∷ ps) (suc k) o = nth_inside d ps k o.3

-- the part that is answered lies within the datagram
pub answer_inside : (d : List ℕ) (k : ℕ) (seen : Parts) → answer_at (parts_of d) k ≡ Ok seen → seen.part.start + seen.part.len ≤ length d
answer_inside d k seen e = go (parts_of d) refl e
  where
    go : (x : Split) → parts_of d ≡ x → answer_at x k ≡ Ok seen → seen.part.start + seen.part.len ≤ length d
    go refused q e = absurd cc
    go (parts ps) q e =
        let same : get_or ps k no_part ≡ seen.part = cc in
        rw (← same) (nth_inside d ps k (parts_in_order d ps q))
