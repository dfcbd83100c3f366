-- The ways a length and its part are looked for at a place, each with what the octets there are. Assumes nothing.
use Prim.Native.Nat.{ℕ, ◌+◌, ◌-◌, ◌*◌, ◌%◌, ◌<◌, ◌≤◌}
use native.Mathlib.Omega.{arith}
use borrow.Author.Tests.{ltb-true, ltb-false, leb-true, leb-false, eqb-true, eqb-false, lt-ltb, le-ltb, lt-leb, le-leb, eq-eqb, ne_eqb}
use mathlib.Core.Path.{◌≡◌, refl, ◌∙◌}
use mathlib.Core.List.{List}
use mathlib.Core.Bool.{Bool, true, false}
use Rattle.std.specs.Prelude.{Option, Some, None}
use lib.ListN.{length, get_or}
use lib.Dec.{ltb, leb, eqb}
use Rattle.base_lists.specs.Seq.{pick}
use Rattle.codec_separation.specs.declared.Part.{Part}
use Rattle.codec_separation.specs.Separate.{part_of, part_at}
use Rattle.codec_separation.specs.Faults.{Announced, seven, fifteen}

-- what may be found at a place: a length that is cut, zero or runs over, or a part
pub data Look (d : List ℕ) (at : ℕ) : Option Part → Type 0 where
  cut : at + 1 ≡ length d → 128 ≤ get_or d at 0 → Look d at None
  none : {s : ℕ} → Announced d at s 0 → Look d at None
  more : {s l : ℕ} → Announced d at s l → length d < s + l → Look d at None
  there : {s l : ℕ} → Announced d at s l → 1 ≤ l → s + l ≤ length d → Look d at (Some (record { start = s; len = l }))

-- where a length stands, and what follows it
pub announced_at : {d : List ℕ} {at s l : ℕ} → Announced d at s l → (at < s) × (s ≤ length d)
announced_at (seven a h) = (omega arith, omega arith)
announced_at (fifteen a h) = (omega arith, omega arith)

module _ (d : List ℕ) (at : ℕ) where
  look_of : (s l : ℕ) → Announced d at s l → Look d at (part_of d s l)
  unfolding part_of
  look_of s l a = go (eqb l 0) refl (leb l (length d - s)) refl
    where
      go : (b : Bool) → eqb l 0 ≡ b → (c : Bool) → leb l (length d - s) ≡ c → Look d at (pick b None (pick c (Some (record { start = s; len = l })) None))
      go true p c q = none (rw (eqb-true l 0 p) at a)
      go false p true q =
          let z = eqb-false l 0 p in
          there a (omega arith) (omega (arith, leb-true l (length d - s) q, (announced_at a).1))
      go false p false q = more a (omega (arith, leb-false l (length d - s) q, (announced_at a).1))

  pub look : at < length d → Look d at (part_at d at)
  unfolding part_at
  look h = go (ltb (get_or d at 0) 128) refl (leb (length d) (at + 1)) refl
    where
      go : (b : Bool) → ltb (get_or d at 0) 128 ≡ b → (c : Bool) → leb (length d) (at + 1) ≡ c
          → Look d at (pick b (part_of d (at + 1) (get_or d at 0)) (pick c None (part_of d (at + 1 + 1) (get_or d at 0 % 128 * 256 + get_or d (at + 1) 0))))
      go true q c r = look_of (at + 1) (get_or d at 0) (seven h (ltb-true (get_or d at 0) 128 q))
      go false q true r = cut (omega (arith, leb-true (length d) (at + 1) r)) (ltb-false (get_or d at 0) 128 q)
      go false q false r = look_of (at + 1 + 1) (get_or d at 0 % 128 * 256 + get_or d (at + 1) 0) (fifteen (leb-false (length d) (at + 1) r) (ltb-false (get_or d at 0) 128 q))

-- the length at a place decides what is found there
pub announced_found : {d : List ℕ} {at s l : ℕ} → Announced d at s l → part_at d at ≡ part_of d s l
unfolding part_at
announced_found {d} {at} (seven a h) = simp (lt-ltb (get_or d at 0) 128 h)
announced_found {d} {at} (fifteen a h) = simp (le-ltb (get_or d at 0) 128 h, lt-leb (length d) (at + 1) a)

module _ {d : List ℕ} {at s l : ℕ} (a : Announced d at s l) where
  pub found_there : 1 ≤ l → s + l ≤ length d → part_at d at ≡ Some (record { start = s; len = l })
  unfolding part_of
  found_there h f = announced_found a ∙ simp (ne_eqb l 0 (λ e. omega arith), le-leb l (length d - s) (omega arith))

  pub found_zero : l ≡ 0 → part_at d at ≡ None
  unfolding part_of
  found_zero h = announced_found a ∙ simp (eq-eqb l 0 h)

  pub found_over : length d < s + l → part_at d at ≡ None
  unfolding part_of
  found_over h = announced_found a ∙ simp (lt-leb l (length d - s) (omega (arith, (announced_at a).1)), ne_eqb l 0 (λ e. omega (arith, (announced_at a).1)))

pub found_cut : (d : List ℕ) (at : ℕ) → at + 1 ≡ length d → 128 ≤ get_or d at 0 → part_at d at ≡ None
unfolding part_at
found_cut d at e h = simp (le-ltb (get_or d at 0) 128 h, le-leb (length d) (at + 1) (omega arith))
