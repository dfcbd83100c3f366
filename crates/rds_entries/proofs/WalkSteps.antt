-- The walk's definition, a step at a time. Assumes nothing.
use mathlib.Core.Path.{◌≡◌, refl}
use mathlib.Core.List.{List}
use mathlib.Core.Bool.{Bool}
use Rattle.std.specs.Prelude.{Some}
use Prim.Native.Nat.{ℕ, zero, suc, ◌-◌}
use native.Mathlib.Numerals.{sub-one}
use Rattle.rds_entries.specs.declared.Entry.{Entry}
use Rattle.rds_entries.specs.Entries.{walk_from, after_entry, entry_at}

pub walk_none : (n k : ℕ) (f : Bool) (at : ℕ) (s : List ℕ) (read : List Entry) → n ≡ 0 → walk_from n k f at s read ≡ Some (record { end = at; list = read })
unfolding walk_from
walk_none n k f at s read e = rw e

pub walk_more : (n k : ℕ) (f : Bool) (at : ℕ) (s : List ℕ) (read : List Entry) → (n ≡ 0 → ⊥)
    → walk_from n k f at s read ≡ after_entry (λ j. walk_from (n - 1) j f) k at s read (entry_at s at f)
unfolding walk_from
walk_more zero k f at s read h = absurd (h refl)
walk_more (suc n) k f at s read h = rw sub-one
