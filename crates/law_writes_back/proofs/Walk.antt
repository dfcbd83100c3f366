-- Items that were read are written as they were, reserved bits cleared. Assumes nothing.
use Prim.Native.Nat.{ℕ, zero, suc, ◌+◌, ◌-◌, ◌/◌, ◌%◌, ◌<◌, ◌≤◌}
use native.Mathlib.Omega.{arith}
use native.Mathlib.Numerals.{add-one}
use borrow.Author.Tests.{ltb-true, ltb-false, ne_eqb}
use mathlib.Core.Path.{◌≡◌, refl, sym, ap, ◌∙◌}
use mathlib.Core.List.{List, [], ◌∷◌, ◌++◌, append_assoc}
use mathlib.Core.Bool.{Bool, true, false}
use mathlib.Core.Logic.{◌⊎◌, inl, inr}
use lib.ListN.{length, get_or, take, drop, set, get_or-eq_default, take-append-drop}
use lib.Seq.{drop-cons, sets}
use lib.Dec.{ltb}
use Rattle.base_lists.specs.Seq.{pick}
use Rattle.base_numbers.specs.declared.Malformed.TheVariants.{D3, D4}
use Rattle.std.specs.Prelude.{Option, Some, None, Ok}
use Rattle.codec_items.specs.declared.Item.{Item}
use Rattle.codec_items.specs.declared.Got.{Got}
use Rattle.codec_items.specs.Items.{Items, item_at, after_item, walk_from}
use Rattle.codec_items.specs.Forms.{Short, Long}
use Rattle.codec_items.proofs.Forms.{met, item_forms}
use Rattle.codec_encoding.specs.Write.{item_octets, items_octets, FitItem, FitItems}
use Rattle.law_reading_order.proofs.Judged.{bad_sound}
use Rattle.law_reading_order.proofs.Places.{Told, item_told_holds}
use Rattle.law_writes_back.specs.WritesBack.{Octets, clear_item, clear_items}
use Rattle.law_writes_back.proofs.Bits.{short_octet, long_octet}
use Rattle.law_writes_back.proofs.Agree.{Agree, clear_form, clear_sets, agree_at, agree_end, changed_front, item_agree}

module _ (b : List ℕ) (octets : Octets b) where
  -- past the end 0 is read
  pub octet : (i : ℕ) → get_or b i 0 < 256
  octet i = go (ltb i (length b)) refl
    where
      go : (t : Bool) → ltb i (length b) ≡ t → get_or b i 0 < 256
      go true e = octets i (ltb-true i (length b) e)
      go false e = omega (arith, get_or-eq_default b 0 (ltb-false i (length b) e))

  -- what an item that was read is written as: its first octet cleared, and `more` after it
  record ItemBack (at : ℕ) (it : Item) (con : Bool) (next : ℕ) : Type 0 where
    more : ℕ
    ends : next ≡ at + suc more
    fit : FitItem b it
    written : item_octets b con it ≡ clear_form (get_or b at 0) ∷ take more (drop (suc at) b)

  item_back : (at : ℕ) (it : Item) (con : Bool) (next : ℕ) → item_at b at ≡ met it con next → ItemBack at it con next
  unfolding item_octets
  item_back at it con next e = go (item_forms b at _ e)
    where
      go : Short b at it con next ⊎ Long b at it con next → ItemBack at it con next
      go (inl f) = record {
        more = get_or b at 0 % 4;
        ends = omega (arith, f.ends);
        fit = rw f.item (record { identity_fits = omega arith; len_fits = omega arith; inside = f.inside });
        written = rw (f.item, f.more, f.form, short_octet (get_or b at 0) (octet at) f.form, add-one);
      }
      go (inr f) =
          let l : suc at < length b = omega (arith, f.inside) in
          record {
            more = suc (get_or b (at + 1) 0);
            ends = omega (arith, f.ends);
            fit = rw f.item (record { identity_fits = omega arith; len_fits = omega (arith, octet (at + 1)); inside = f.inside });
            written = rw (f.item, f.more, ne_eqb (get_or b at 0 / 4 % 2) 0 f.form, long_octet (get_or b at 0) (octet at) f.form, add-one at, add-one (suc at), drop-cons b (suc at) 0 l);
          }

  -- a walk that found items: the items, and what clearing them in octets that agree with b from the first one on gives
  pub record Walked (k at : ℕ) (read : List Item) (w : Items) : Type 0 where
    pub first : Item
    pub others : List Item
    pub counted : w.count ≡ 16 - k + suc (length others)
    pub room : suc (length others) ≤ k
    pub listed : w.list ≡ sets read (16 - k) (first ∷ others)
    pub fit : FitItems b (first ∷ others)
    pub written : (c : List ℕ) → Agree at c b → clear_items k c at ≡ take at c ++ (items_octets b false (first ∷ others) ++ drop w.end b)

  -- the first item of a walk, then the octets `rest`
  step : (k at : ℕ) (it : Item) (con : Bool) (next : ℕ) → item_at b at ≡ met it con next → (c : List ℕ) → Agree at c b → (rest : List ℕ)
      → (Agree next (clear_item c at) b → pick con (clear_items k (clear_item c at) next) (clear_item c at) ≡ take next (clear_item c at) ++ rest)
      → clear_items (suc k) c at ≡ take at c ++ (item_octets b con it ++ rest)
  unfolding clear_items
  step k at it con next e c agree rest h =
      let f : ItemBack at it con next = item_back at it con next e in
      let t : Told b at con next = item_told_holds b at it con next e in
      let l : at < length c = omega (arith, t.inside, f.ends, agree.long) in
      let z : ℕ = clear_form (get_or b at 0) in
      let s : clear_item c at ≡ set c at z = clear_sets c at l ∙ ap (λ (x : ℕ). set c at (clear_form x)) (agree_at at c b agree) in
      let front : take next (clear_item c at) ≡ take at c ++ item_octets b con it = rw (s, f.ends, f.written) (changed_front at c b agree z f.more l) in
      let after : Agree next (clear_item c at) b = item_agree at c b agree next l (omega (arith, f.ends)) in
      rw (agree_at at c b agree, agree_end at c b agree, ← t.more, ← t.ends) (h after ∙ rw (front, append_assoc))

  last_walked : (k at : ℕ) (read : List Item) (it : Item) (next : ℕ) → suc k ≤ 16 → item_at b at ≡ met it false next → Walked (suc k) at read (after_item (suc k) (walk_from k b) read (met it false next))
  unfolding FitItems items_octets
  last_walked k at read it next l q = record {
    first = it;
    others = [];
    counted = omega arith;
    room = omega arith;
    listed = refl;
    fit = ((item_back at it false next q).fit, tt);
    written = λ c agree. step k at it false next q c agree (drop next b) (λ after. sym (take-append-drop next (clear_item c at)) ∙ rw after.from) ∙ rw append_assoc;
  }

  more_walked : (k at : ℕ) (read : List Item) (it : Item) (next : ℕ) (w : Items) → suc k ≤ 16 → item_at b at ≡ met it true next → Walked k next (set read (16 - suc k) it) w → Walked (suc k) at read w
  unfolding FitItems items_octets
  more_walked k at read it next w l q x =
      let n : 16 - k ≡ suc (16 - suc k) = omega arith in
      record {
        first = it;
        others = x.first ∷ x.others;
        counted = omega (arith, x.counted);
        room = omega (arith, x.room);
        listed = x.listed ∙ rw n;
        fit = ((item_back at it true next q).fit, x.fit);
        written = λ c agree. step k at it true next q c agree _ (λ after. x.written (clear_item c at) after)
            ∙ ap (λ (l : List ℕ). take at c ++ l) (sym (append_assoc (item_octets b true it) (items_octets b false (x.first ∷ x.others)) (drop w.end b)));
      }

  pub walk_back : (k at : ℕ) (read : List Item) → k ≤ 16 → (walk_from k b at read).verdict ≡ Ok tt → Walked k at read (walk_from k b at read)
  unfolding walk_from
  walk_back zero at read l e = bad_sound D4 e
  walk_back (suc k) at read l e = go (walk_back k) (item_at b at) refl e
    where
      go : ((at : ℕ) (read : List Item) → k ≤ 16 → (walk_from k b at read).verdict ≡ Ok tt → Walked k at read (walk_from k b at read)) → (g : Option Got) → item_at b at ≡ g
          → (after_item (suc k) (walk_from k b) read g).verdict ≡ Ok tt → Walked (suc k) at read (after_item (suc k) (walk_from k b) read g)
      go ih None q e = bad_sound D3 e
      go ih (Some g) q e = by g.con q e
        where
          by : (con : Bool) → item_at b at ≡ met g.item con g.next → (after_item (suc k) (walk_from k b) read (met g.item con g.next)).verdict ≡ Ok tt
              → Walked (suc k) at read (after_item (suc k) (walk_from k b) read (met g.item con g.next))
          by false q e = last_walked k at read g.item g.next l q
          by true q e = more_walked k at read g.item g.next _ l q (ih g.next _ (omega arith) e)
