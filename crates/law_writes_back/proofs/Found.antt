-- The items that were found are written as they were, reserved bits cleared. Assumes nothing.
use Prim.Native.Nat.{ℕ, zero, suc, ◌-◌, ◌≤◌}
use native.Mathlib.Omega.{arith}
use native.Mathlib.Nat.{suc-sub-suc, zero-sub, sub-zero, zero-add}
use borrow.Author.Tests.{lt-ltb}
use mathlib.Core.Path.{◌≡◌, refl, sym, ap, ◌∙◌}
use mathlib.Core.List.{List, [], ◌∷◌, ◌++◌}
use mathlib.Core.Bool.{Bool, true, false}
use lib.ListN.{length, get_or, take, drop, replicate, take-append-drop}
use lib.Seq.{sets, sets-eq}
use lib.Dec.{leb, ltb}
use Rattle.codec_items.specs.declared.Item.{Item}
use Rattle.codec_items.specs.Items.{Items, no_item, walk_from}
use Rattle.codec_pdu.specs.Pdu.{sound_of}
use Rattle.codec_reading.specs.Read.{type_of, pdu_of}
use Rattle.codec_encoding.specs.Write.{items_octets, FitItems}
use Rattle.law_reading_order.specs.Layout.{fixed_length}
use Rattle.law_reading_order.proofs.Walks.{found}
use Rattle.law_writes_back.specs.WritesBack.{Octets, clear_header, cleared}
use Rattle.law_writes_back.proofs.Walk.{Walked, walk_back}
use Rattle.law_writes_back.proofs.Header.{HeaderBack}
use Rattle.law_writes_back.proofs.View.{View, view, header_view}

drop_replicate : (n m : ℕ) (x : Item) → drop n (replicate m x) ≡ replicate (m - n) x
drop_replicate zero m x = rw sub-zero
drop_replicate (suc n) zero x = rw zero-sub
drop_replicate (suc n) (suc m) x = drop_replicate n m x ∙ rw suc-sub-suc

filled : (l : List Item) → length l ≤ 16 → sets (replicate 16 no_item) 0 l ≡ l ++ replicate (16 - length l) no_item
filled l h = sets-eq l (replicate 16 no_item) 0 (omega arith) ∙ rw (zero-add, drop_replicate (length l) 16 no_item)

-- the items that were found, and the octets of the PDU by them
pub record ItemsBack (b : List ℕ) : Type 0 where
  pub items : List Item
  pub few : length items ≤ 16
  pub follow : ltb 0 (length items) ≡ leb 128 (get_or b 0 0)
  pub counted : (found b).count ≡ length items
  pub listed : (found b).list ≡ items ++ replicate (16 - length items) no_item
  pub fit : FitItems b items
  pub written : cleared b ≡ take (fixed_length b) (clear_header (type_of b) b) ++ (items_octets b false items ++ drop (found b).end b)

module _ (b : List ℕ) (octets : Octets b) (sound : sound_of (pdu_of b).kind ≡ true) where
  abbrev v : View b
  v = view b sound

  abbrev h : HeaderBack (type_of b) b
  h = header_view b sound octets

  some_items : leb 128 (get_or b 0 0) ≡ true → (w : Items) → found b ≡ w → Walked b octets 16 (fixed_length b) (replicate 16 no_item) w → ItemsBack b
  unfolding cleared
  some_items e w f x = record {
    items = x.first ∷ x.others;
    few = x.room;
    follow = lt-ltb 0 (suc (length x.others)) (omega arith) ∙ sym e;
    counted = ap (λ (i : Items). i.count) f ∙ x.counted ∙ omega arith;
    listed = ap (λ (i : Items). i.list) f ∙ x.listed ∙ filled (x.first ∷ x.others) x.room;
    fit = x.fit;
    written = rw (f, e) (x.written (clear_header (type_of b) b) h.agree);
  }

  no_items : leb 128 (get_or b 0 0) ≡ false → ItemsBack b
  unfolding cleared FitItems items_octets
  no_items e = record {
    items = [];
    few = omega arith;
    follow = sym e;
    counted = rw e;
    listed = rw e;
    fit = tt;
    written = rw e (sym (take-append-drop (fixed_length b) (clear_header (type_of b) b)) ∙ ap (λ (l : List ℕ). take (fixed_length b) (clear_header (type_of b) b) ++ l) h.agree.from);
  }

  pub items_back : ItemsBack b
  items_back = go (leb 128 (get_or b 0 0)) refl
    where
      go : (t : Bool) → leb 128 (get_or b 0 0) ≡ t → ItemsBack b
      go true e = some_items e (walk_from 16 b (fixed_length b) (replicate 16 no_item)) (rw e) (walk_back b octets 16 (fixed_length b) (replicate 16 no_item) (omega arith) (rw e at v.items_sound))
      go false e = no_items e
