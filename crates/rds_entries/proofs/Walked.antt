-- A walk that found every entry ends between its start and the end of its octets. Assumes nothing.
use mathlib.Core.Path.{◌≡◌, refl}
use mathlib.Core.List.{List}
use mathlib.Core.Bool.{Bool}
use Prim.Native.Nat.{ℕ, zero, suc, ◌+◌}
use native.Mathlib.Omega.{arith}
use lib.ListN.{set, drop, length-drop}
use Rattle.std.specs.Prelude.{Option, Some, None}
use Rattle.std.proofs.lemmas.Option.{none-some}
use Rattle.rds_entries.specs.declared.Entry.{Entry}
use Rattle.rds_entries.specs.declared.Entries.{Entries}
use Rattle.rds_entries.specs.Entries.{entry_at, after_entry, walk_from, Within}
use Rattle.rds_entries.proofs.Inside.{entry_inside}

pub same_entries : (a b : Entries) → Some a ≡ Some b → a ≡ b
same_entries a b p = cc

pub walk_inside : (n k : ℕ) (f : Bool) (at : ℕ) (s : List ℕ) (read : List Entry) (r : Entries) → walk_from n k f at s read ≡ Some r → Within at s r.end
unfolding walk_from
walk_inside zero k f at s read r w =
    let e : at ≡ r.end = cc in
    (omega (arith, e), omega (arith, e))
walk_inside (suc n) k f at s read r w = go (entry_at s at f) refl w (λ j e m l v. walk_inside n j f e m l r v) where
  go : (g : Option (Entry × ℕ)) → entry_at s at f ≡ g → after_entry (λ j. walk_from n j f) k at s read g ≡ Some r
      → ((j e : ℕ) (m : List ℕ) (l : List Entry) → walk_from n j f e m l ≡ Some r → Within e m r.end)
      → Within at s r.end
  go None p w h = absurd (none-some r w)
  go (Some (e, z)) p w h =
      let i = entry_inside s at f e z p in
      let v = h (k + 1) (at + z) (drop z s) (set read k e) w in
      (omega (arith, v.0), omega (arith, v.1, length-drop z s))
