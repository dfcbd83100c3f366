-- Octets that agree with others from a place on, when the item there is cleared. Assumes nothing.
use Prim.Native.Nat.{ℕ, suc, ◌+◌, ◌-◌, ◌/◌, ◌%◌, ◌<◌}
use native.Mathlib.Omega.{arith}
use native.Mathlib.Nat.{add-zero}
use native.Mathlib.Numerals.{add-one}
use mathlib.Core.Path.{◌≡◌, refl, sym, ap, ◌∙◌}
use mathlib.Core.List.{List, ◌∷◌, ◌++◌}
use mathlib.Core.Bool.{Bool, true, false}
use lib.ListN.{length, get_or, take, drop, set, length-set}
use lib.Seq.{get_or-drop, drop-drop, set_split, set-set, set-get_or, get_or-set_same, take-append-add, length-take-le, drop-set-lt}
use lib.Dec.{eqb}
use Rattle.base_lists.specs.Seq.{pick}
use Rattle.law_reading_order.specs.Layout.{item_end}
use Rattle.law_writes_back.specs.WritesBack.{without, clear_item}

-- c has the length of b and its octets from `at` on
pub record Agree (at : ℕ) (c b : List ℕ) : Type 0 where
  pub long : length c ≡ length b
  pub from : drop at c ≡ drop at b

-- an item's first octet with the reserved bits of the long form cleared
abbrev pub clear_form : ℕ → ℕ
clear_form h = pick (eqb (h / 4 % 2) 0) h (without 1 (without 2 h))

pub clear_sets : (c : List ℕ) (at : ℕ) → at < length c → clear_item c at ≡ set c at (clear_form (get_or c at 0))
unfolding clear_item
clear_sets c at l = go (eqb (get_or c at 0 / 4 % 2) 0) refl
  where
    go : (t : Bool) → eqb (get_or c at 0 / 4 % 2) 0 ≡ t → clear_item c at ≡ set c at (clear_form (get_or c at 0))
    go true e = rw e (sym (set-get_or c at 0))
    go false e = rw (e, set-set, get_or-set_same c at (without 2 (get_or c at 0)) 0 l)

module _ (at : ℕ) (c b : List ℕ) (agree : Agree at c b) where
  pub agree_after : (i : ℕ) → get_or c (at + i) 0 ≡ get_or b (at + i) 0
  agree_after i = sym (get_or-drop at c i 0) ∙ ap (λ (l : List ℕ). get_or l i 0) agree.from ∙ get_or-drop at b i 0

  pub agree_at : get_or c at 0 ≡ get_or b at 0
  agree_at = rw add-zero at (agree_after 0)

  pub agree_end : item_end c at ≡ item_end b at
  unfolding item_end
  agree_end = rw (agree_at, agree_after 1)

  agree_later : (i : ℕ) → drop (at + i) c ≡ drop (at + i) b
  agree_later i = sym (drop-drop i at c) ∙ ap (drop i) agree.from ∙ drop-drop i at b

  -- one octet changed at `at`, and m after it
  module _ (z m : ℕ) (inside : at < length c) where
    front_long : length (take at c) ≡ at
    front_long = length-take-le at c (omega arith)

    pub changed_front : take (at + suc m) (set c at z) ≡ take at c ++ (z ∷ take m (drop (suc at) b))
    changed_front =
        let e : drop (suc at) c ≡ drop (suc at) b = rw add-one at (agree_later 1) in
        let n : at + suc m ≡ length (take at c) + suc m = omega (arith, front_long) in
        rw (set_split c at z inside, n, take-append-add, e)

    pub changed_rest : Agree (at + suc m) (set c at z) b
    changed_rest = record {
      long = length-set c at z ∙ agree.long;
      from = drop-set-lt (at + suc m) c at z (omega arith) ∙ agree_later (suc m);
    }

  -- past the item at `at`, when it is cleared
  pub item_agree : (next : ℕ) → at < length c → at < next → Agree next (clear_item c at) b
  item_agree next inside after =
      let n : next ≡ at + suc (next - suc at) = omega arith in
      rw (clear_sets c at inside, n) (changed_rest (clear_form (get_or c at 0)) (next - suc at) inside)
