-- The ways a datagram is separated, each with what it then holds. Assumes nothing.
use Prim.Native.Nat.{ℕ, ◌+◌, ◌<◌, ◌≤◌}
use native.Mathlib.Omega.{arith}
use borrow.Author.Tests.{ltb-true, ltb-false, eqb-true, eqb-false, le-ltb, eq-eqb, ne_eqb}
use mathlib.Core.Path.{◌≡◌, refl, sym, ap, ◌∙◌}
use mathlib.Core.List.{List, [], ◌∷◌}
use mathlib.Core.Bool.{Bool, true, false}
use Rattle.std.specs.Prelude.{Option, Some, None}
use lib.ListN.{length, get_or}
use lib.Dec.{ltb, eqb}
use Rattle.base_lists.specs.Seq.{pick}
use Rattle.codec_separation.specs.Separate.{Split, refused, parts, part_at, before, and_then, whole, parts_of}
use Rattle.codec_separation.specs.declared.Part.{Part}
use Rattle.codec_separation.proofs.Steps.{from, from_end, from_step}

-- empty, too long, one PDU, octet 0 alone, or octet 0 and a list
pub data Way (d : List ℕ) : Split → Type 0 where
  empty : length d ≡ 0 → Way d refused
  long : 1500 < length d → Way d refused
  plain : 1 ≤ length d → length d ≤ 1500 → (get_or d 0 0 ≡ 0 → ⊥) → Way d (parts (whole d ∷ []))
  bare : length d ≡ 1 → get_or d 0 0 ≡ 0 → Way d refused
  listed : 1 < length d → length d ≤ 1500 → get_or d 0 0 ≡ 0 → Way d (from d 1)

pub way : (d : List ℕ) → Way d (parts_of d)
unfolding parts_of
way d = go (eqb (length d) 0) refl (ltb 1500 (length d)) refl (eqb (get_or d 0 0) 0) refl (eqb (length d) 1) refl
  where
    go : (a : Bool) → eqb (length d) 0 ≡ a → (b : Bool) → ltb 1500 (length d) ≡ b → (c : Bool) → eqb (get_or d 0 0) 0 ≡ c → (f : Bool) → eqb (length d) 1 ≡ f
        → Way d (pick a refused (pick b refused (pick c (pick f refused (from d 1)) (parts (whole d ∷ [])))))
    go true p b q c r f s = empty (eqb-true (length d) 0 p)
    go false p true q c r f s = long (ltb-true 1500 (length d) q)
    go false p false q true r true s = bare (eqb-true (length d) 1 s) (eqb-true (get_or d 0 0) 0 r)
    go false p false q true r false s =
        let x = eqb-false (length d) 0 p in
        let y = eqb-false (length d) 1 s in
        listed (omega arith) (ltb-false 1500 (length d) q) (eqb-true (get_or d 0 0) 0 r)
    go false p false q false r f s =
        let x = eqb-false (length d) 0 p in
        plain (omega arith) (ltb-false 1500 (length d) q) (eqb-false (get_or d 0 0) 0 r)

-- a datagram of octet 0 and something more is listed
pub listed_parts : (d : List ℕ) → 1 < length d → length d ≤ 1500 → get_or d 0 0 ≡ 0 → parts_of d ≡ from d 1
unfolding parts_of
listed_parts d a b z =
    simp (ne_eqb (length d) 0 (λ e. omega arith), le-ltb 1500 (length d) b, eq-eqb (get_or d 0 0) 0 z, ne_eqb (length d) 1 (λ e. omega arith))

pub refused_parts {ℓ} : {A : Type ℓ} (ps : List Part) → refused ≡ parts ps → A
refused_parts ps e = let z : ◌≡◌ {A = ℕ} 0 1 = cc in absurd (omega arith)

none_some {ℓ} : {A : Type ℓ} (p : Part) (ps : List Part) → parts [] ≡ parts (p ∷ ps) → A
none_some p ps e = let z : ◌≡◌ {A = ℕ} 0 1 = cc in absurd (omega arith)

-- the first of the parts from a place
pub record First (d : List ℕ) (at : ℕ) (p : Part) (ps : List Part) : Type 0 where
  pub more : at < length d
  pub found : part_at d at ≡ Some p
  pub rest : from d (p.start + p.len) ≡ parts ps

module _ (d : List ℕ) (at : ℕ) (p : Part) (ps : List Part) where
  pub from_first : from d at ≡ parts (p ∷ ps) → First d at p ps
  from_first e = go (ltb at (length d)) refl
    where
      third : (h : at < length d) (q : Part) → part_at d at ≡ Some q → (x : Split) → from d (q.start + q.len) ≡ x → before q x ≡ parts (p ∷ ps) → First d at p ps
      third h q g refused f e = refused_parts (p ∷ ps) e
      third h q g (parts qs) f e =
          let same : q ≡ p = cc in
          let others : qs ≡ ps = cc in
          rw (← same) (record { more = h; found = g; rest = f ∙ ap parts others })

      second : (h : at < length d) (g : Option Part) → part_at d at ≡ g → and_then (from d) g ≡ parts (p ∷ ps) → First d at p ps
      second h None g e = refused_parts (p ∷ ps) e
      second h (Some q) g e = third h q g (from d (q.start + q.len)) refl e

      go : (b : Bool) → ltb at (length d) ≡ b → First d at p ps
      go true q = let h = ltb-true at (length d) q in second h (part_at d at) refl (sym (from_step d at h) ∙ e)
      go false q = none_some p ps (sym (from_end d at (ltb-false at (length d) q)) ∙ e)

-- there is one, where the datagram goes on
pub from_some : (d : List ℕ) (at : ℕ) → at < length d → from d at ≡ parts [] → ⊥
from_some d at h e = second (part_at d at) (sym (from_step d at h) ∙ e)
  where
    third : (p : Part) (s : Split) → before p s ≡ parts [] → ⊥
    third p refused e = refused_parts [] e
    third p (parts ps) e = none_some p ps (sym e)

    second : (g : Option Part) → and_then (from d) g ≡ parts [] → ⊥
    second None e = refused_parts [] e
    second (Some p) e = third p (from d (p.start + p.len)) e
