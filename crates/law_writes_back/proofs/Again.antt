-- Octets with their reserved bits cleared are read as they were. Assumes nothing.
use Prim.Native.Nat.{ℕ, ◌+◌, ◌*◌, ◌/◌, ◌%◌, ◌<◌, ◌≤◌}
use native.Mathlib.Omega.{arith}
use mathlib.Core.Path.{◌≡◌, refl, sym, ap, ◌∙◌}
use mathlib.Core.List.{List}
use mathlib.Core.Bool.{Bool, true, false}
use lib.ListN.{length, get_or, replicate}
use lib.Dec.{leb}
use Rattle.std.specs.Prelude.{Ok, Err}
use Rattle.codec_items.specs.Items.{Verdict, Items, no_item}
use Rattle.codec_pdu.specs.Pdu.{sound_of}
use Rattle.codec_reading.specs.declared.Head.{Head}
use Rattle.codec_reading.specs.Read.{type_of, finish_by, finished, after_head, pdu_of, items_after}
use Rattle.law_reading_order.specs.Layout.{header_length, fixed_length}
use Rattle.law_reading_order.proofs.Heads.{fourth_of, header}
use Rattle.law_reading_order.proofs.Verdicts.{head_whole}
use Rattle.law_reading_order.proofs.Order.{pdu_inside}
use Rattle.law_reading_order.specs.Order.{WrongType, OutsideLength}
use Rattle.law_writes_back.specs.WritesBack.{Octets, clear_header, cleared}
use Rattle.law_writes_back.proofs.Bits.{same_top}
use Rattle.law_writes_back.proofs.Header.{header_least, three_octets}
use Rattle.law_writes_back.proofs.Lengths.{cleared_same_length}
use Rattle.law_writes_back.proofs.View.{View, view, header_view}
use Rattle.law_writes_back.proofs.WalkAgain.{before_items, walk_again}
use Rattle.law_writes_back.proofs.HeaderAgain.{HeaderAgain, again_of_holds, fourth_same}

-- of the octets after the items only the number counts
finish_same : (v : Verdict) (s c : List ℕ) (h : Head) (i : Items) → length s ≡ length c → finish_by v s h i ≡ finish_by v c h i
finish_same (Err d) s c h i e = refl
finish_same (Ok tt) s c h i e = rw e

module _ (b : List ℕ) (octets : Octets b) (sound : sound_of (pdu_of b).kind ≡ true) where
  abbrev v : View b
  v = view b sound

  abbrev c : List ℕ
  c = clear_header (type_of b) b

  again : HeaderAgain (type_of b) c b
  again = again_of_holds (three_octets b v.header_whole) v.type_right

  -- the fixed header lies before the items
  front : (i : ℕ) → i < fixed_length b → get_or (cleared b) i 0 ≡ get_or c i 0
  unfolding cleared
  front i l = go (leb 128 (get_or b 0 0)) refl
    where
      go : (t : Bool) → leb 128 (get_or b 0 0) ≡ t → get_or (cleared b) i 0 ≡ get_or c i 0
      go true e = rw e (before_items _ c (fixed_length b) i l)
      go false e = rw e

  first_same : get_or (cleared b) 0 0 ≡ get_or c 0 0
  first_same = front 0 (omega (arith, header_least (type_of b) (get_or b 3 0)))

  upper_same : get_or (cleared b) 0 0 / 8 ≡ get_or b 0 0 / 8
  upper_same = ap (λ (x : ℕ). x / 8) first_same ∙ again.upper

  type_same : type_of (cleared b) ≡ type_of b
  type_same = ap (λ (x : ℕ). x % 16) upper_same

  kept : (fourth_of (type_of b) (get_or (cleared b) 3 0) ≡ fourth_of (type_of b) (get_or c 3 0)) × (header_length (type_of b) (get_or (cleared b) 3 0) ≡ header_length (type_of b) (get_or c 3 0))
  kept = fourth_same (type_of b) (get_or c 3 0) (get_or (cleared b) 3 0) (λ l. front 3 (rw again.long at l))

  header_same : header (cleared b) ≡ header b
  header_same =
      let l = header_least (type_of b) (get_or b 3 0) in
      let k : (header (cleared b)).kind ≡ (header b).kind = rw (type_same, first_same, kept.0) again.kind in
      let con : leb 128 (get_or (cleared b) 0 0) ≡ leb 128 (get_or b 0 0) = same_top _ _ upper_same in
      let high : get_or (cleared b) 1 0 ≡ get_or b 1 0 = front 1 (omega arith) ∙ again.high in
      let low : get_or (cleared b) 2 0 ≡ get_or b 2 0 = front 2 (omega arith) ∙ again.low in
      let end : fixed_length (cleared b) ≡ fixed_length b = rw type_same kept.1 ∙ again.long in
      λ i. record { kind = k i; con = con i; tid = record { 0 = high i * 256 + low i }; end = end i }

  items_same : items_after (cleared b) (header b) ≡ items_after b (header b)
  unfolding items_after cleared
  items_same = go (leb 128 (get_or b 0 0)) refl
    where
      go : (t : Bool) → leb 128 (get_or b 0 0) ≡ t → items_after (cleared b) (header b) ≡ items_after b (header b)
      go true e = rw e (walk_again 16 c b (fixed_length b) (replicate 16 no_item) (header_view b sound octets).agree)
      go false e = rw e

  after_same : after_head (cleared b) (header b) ≡ after_head b (header b)
  unfolding after_head finished
  after_same =
      let i : Items = items_after b (header b) in
      rw (v.header_sound, items_same) (finish_same i.verdict (cleared b) b (header b) i (cleared_same_length b))

  -- 01: "Reserved bits are ignored on reading"
  pub cleared_again : pdu_of (cleared b) ≡ pdu_of b
  cleared_again =
      let n : length (cleared b) ≡ length b = cleared_same_length b in
      let inside : OutsideLength (cleared b) → ⊥ = rw n v.inside in
      let right : WrongType (cleared b) → ⊥ = rw type_same v.type_right in
      let end : fixed_length (cleared b) ≡ fixed_length b = ap (λ (h : Head). h.end) header_same in
      let whole : fixed_length (cleared b) ≤ length (cleared b) = rw (n, end) v.header_whole in
      pdu_inside (cleared b) inside
      ∙ ap (after_head (cleared b)) (head_whole (cleared b) right whole ∙ header_same)
      ∙ after_same
      ∙ sym (pdu_inside b v.inside ∙ ap (after_head b) (head_whole b v.type_right v.header_whole))
