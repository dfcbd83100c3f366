-- What is accepted can be written: the PDU said fits its source, is sound, and is as long as its words say. Assumes nothing.
use Prim.Native.Nat.{ℕ, ◌+◌, ◌*◌, ◌%◌, ◌≤◌, ◌<◌}
use native.Mathlib.Omega.{arith}
use mathlib.Core.Path.{◌≡◌, sym, ap, subst, ◌∙◌}
use mathlib.Core.List.{List}
use mathlib.Core.Bool.{true, false}
use mathlib.Core.Logic.{◌⊎◌, inl, inr}
use lib.ListN.{length, get_or, take}
use lib.Seq.{take_all}
use lib.Dec.{ltb}
use borrow.Author.Tests.{leb-true}
use Rattle.base_lists.specs.Seq.{total}
use Rattle.base_lists.proofs.StoresAndParts.{lt_or_le, every_at, total_same}
use Rattle.codec_items.specs.Items.{no_item}
use Rattle.codec_items.specs.declared.Item.{Item}
use Rattle.codec_pdu.specs.Pdu.{sound_of}
use Rattle.codec_pdu.specs.declared.Pdu.{Pdu}
use Rattle.codec_said.specs.Said.{word, kind_said, item_said, items_said, pdu_said}
use Rattle.codec_encoding.specs.Write.{header_of_is, items_octets, octets_of, FitItems, Fit, fault_of}
use Rattle.codec_encoding.proofs.Headers.{header_length_holds}
use Rattle.codec_encoding.proofs.WholeOctets.{octets_length}
use Rattle.codec_verdict.specs.Length.{placed, header_said, item_length, length_said}
use Rattle.codec_verdict.specs.Widths.{inside}
use Rattle.codec_verdict.specs.Judge.{item_inside, items_inside, judged_of, Writable}
use Rattle.codec_verdict.proofs.Bounds.{Fitting}
use Rattle.codec_verdict.proofs.Types.{Typed, kind_fits}
use Rattle.codec_verdict.proofs.ItemLists.{octets_in, fit_all, items_length}
use Rattle.codec_verdict.proofs.SaidItems.{said_full, said_at, item_fits, item_long}
use Rattle.codec_verdict.proofs.Passed.{few_items, Passed, passed, given}

-- of 16 places, those that there are items for
take_placed : (c : ℕ) (l : List Item) → length l ≡ 16 → take c l ≡ take (placed c) l
take_placed c l full = go (lt_or_le c 16)
  where
    go : (c < 16) ⊎ (16 ≤ c) → take c l ≡ take (placed c) l
    go (inl h) = let e : placed c ≡ c = omega arith in rw e
    go (inr h) = take_all c l (omega arith) ∙ sym (take_all (placed c) l (omega arith))

module _ (s w : List ℕ) (f : Fitting w (length s)) (lie : items_inside (length s) (items_said w) (word w 15) ≡ true) where
  item_lies : (k : ℕ) → k < placed (word w 15) → word w (24 + 4 * k + 2) + word w (24 + 4 * k + 3) ≤ length s
  unfolding items_inside inside item_said
  item_lies k h =
      leb-true (word w (24 + 4 * k + 2) + word w (24 + 4 * k + 3)) (length s)
      (subst (λ (it : Item). inside (length s) it.start it.len ≡ true) (said_at w k (omega arith)) (every_at (item_inside (length s) (items_said w)) (placed (word w 15)) lie k h))

  said_items_fit : FitItems s (take (word w 15) (items_said w))
  said_items_fit =
      rw (take_placed (word w 15) (items_said w) (said_full w))
      (fit_all s (items_said w) (placed (word w 15)) (omega (arith, said_full w))
      (λ (k : ℕ) (h : k < placed (word w 15)). rw (said_at w k (omega arith)) (item_fits w (length s) k f (omega arith) (omega arith) s (item_lies k h))))

  module _ (t : Typed (word w 0)) where
    -- the PDU said fits, however many items it says
    pub said_fits : Fit s (pdu_said w)
    unfolding pdu_said
    said_fits = record {
      kind_fits = (kind_fits s w f t).fits;
      tid_fits = omega arith;
      list_full = said_full w;
      items_fit = said_items_fit;
      user_fits = f.user_inside;
    }

    module _ (few : word w 15 ≤ 16) where
      said_items_long : length (items_octets s false (take (word w 15) (items_said w))) ≡ total (item_length w) (word w 15)
      said_items_long =
          items_length s false (items_said w) (word w 15) (omega (arith, said_full w)) said_items_fit
          ∙ total_same (λ k. octets_in (get_or (items_said w) k no_item)) (item_length w) (word w 15)
          (λ k h. ap octets_in (said_at w k (omega arith)) ∙ item_long w (length s) k f (omega arith) h)

      -- its octets are as many as its words say
      pub said_long : length (octets_of s (pdu_said w)) ≡ length_said w
      unfolding pdu_said length_said
      said_long =
          let c : placed (word w 15) ≡ word w 15 = omega arith in
          let a = octets_length s (pdu_said w) few said_fits in
          let b : length (header_of_is s (ltb 0 (word w 15)) (kind_said w) (word w 4 % 65536)) ≡ header_said w = header_length_holds s _ (kind_said w) _ ∙ (kind_fits s w f t).long in
          rw c (omega (arith, a, b, said_items_long))

-- WHAT IS ACCEPTED CAN BE WRITTEN
pub accepted : (w s : List ℕ) (p : Pdu) → judged_of w (length s) ≡ p → sound_of p.kind ≡ true → Writable s p
unfolding fault_of pdu_said
accepted w s p e t =
    subst (Writable s) (sym (given w (length s) h) ∙ e)
    (record {
      fit = said_fits s w h.fitting lie h.type_said;
      few = few;
      sound = rw (h.clean.kind_sound, h.clean.rest_sound);
      short = rw (said_long s w h.fitting lie h.type_said few) h.not_long;
    })
  where
    h : Passed w (length s)
    h = passed w (length s) (ap (λ (q : Pdu). sound_of q.kind) e ∙ t)

    few : word w 15 ≤ 16
    few = few_items (pdu_said w) h.clean.rest_sound

    lie : items_inside (length s) (items_said w) (word w 15) ≡ true
    lie = h.clean.items_lie
