-- The items of a sound PDU: how the walk found them. Assumes nothing.
use Prim.Native.Nat.{ℕ, ◌-◌, ◌≤◌}
use native.Mathlib.Omega.{arith}
use mathlib.Core.Path.{◌≡◌, refl, sym, ◌∙◌}
use mathlib.Core.List.{List}
use mathlib.Core.Bool.{Bool, true, false}
use mathlib.Core.Logic.{inl, inr}
use lib.ListN.{length, replicate}
use lib.Dec.{ltb, eqb}
use Rattle.base_lists.specs.Seq.{pick}
use Rattle.base_lists.proofs.StoresAndParts.{true_false}
use Rattle.base_numbers.specs.declared.Malformed.TheVariants.{D7}
use Rattle.base_numbers.specs.declared.Malformed.{Malformed}
use Rattle.base_numbers.specs.declared.Refusal.TheVariants.{WrongLength}
use Rattle.std.specs.Prelude.{Option, Some, None, Result, Ok, Err}
use Rattle.codec_items.specs.Items.{Verdict, Items, no_item, no_items_is}
use Rattle.codec_items.specs.Found.{end_from, items_from}
use Rattle.codec_items.proofs.Finds.{Whole, Finds, finds}
use Rattle.codec_pdu.specs.Pdu.{sound_of, bare_of, blank_pdu}
use Rattle.codec_pdu.specs.declared.Kind.TheVariants.{Wrong, Refused}
use Rattle.codec_pdu.specs.declared.Pdu.{Pdu}
use Rattle.codec_reading.specs.declared.Head.{Head}
use Rattle.codec_reading.specs.Read.{head_of, whole, finish_by, finished, items_after, after_head, pdu_of}
use Rattle.codec_reading.specs.Brief.{items_at}
use Rattle.codec_reading.proofs.Briefs.{head_far}

-- a PDU with the items i, that ended well
pub record With (i : Items) (p : Pdu) : Type 0 where
  pub well : i.verdict ≡ Ok tt
  pub counted : p.count ≡ i.count
  pub listed : p.list ≡ i.list

-- a sound PDU has them
abbrev Has : Items → Pdu → Type 0
Has i p = sound_of p.kind ≡ true → With i p

-- the items of a sound PDU: none, or those that the walk finds from the place of the first on
abbrev pub ItemsOf : List ℕ → Option ℕ → Pdu → Type 0
ItemsOf s None p = (p.count ≡ 0) × (p.list ≡ replicate 16 no_item)
ItemsOf s (Some first) p =
    (1 ≤ first) × ((i : Items) × (n : ℕ) × (end_from 16 s first ≡ Ok n) × Whole 16 (replicate 16 no_item) (items_from 16 s first) n i × (p.count ≡ i.count) × (p.list ≡ i.list))

bad_sound : {A : Type 0} (d : Malformed) → ◌≡◌ {A = Verdict} (Err d) (Ok tt) → A
bad_sound d e = absurd cc

module _ (s : List ℕ) where
  finish_has : (h : Head) (i : Items) → Has i (finished s h i)
  unfolding finished blank_pdu sound_of
  finish_has h i = by_verdict i.verdict refl
    where
      by_kind : i.verdict ≡ Ok tt → (a b : Bool) → Has i (pick a (pick b (whole h i 0 0) (blank_pdu (Wrong D7))) (whole h i i.end (length s - i.end)))
      by_kind v true true e = record { well = v; counted = refl; listed = refl }
      by_kind v true false e = true_false (sym e)
      by_kind v false b e = record { well = v; counted = refl; listed = refl }

      by_verdict : (v : Verdict) → i.verdict ≡ v → Has i (finish_by v s h i)
      by_verdict (Err d) q e = true_false (sym e)
      by_verdict (Ok tt) q e = by_kind q (bare_of h.kind) (eqb (length s - i.end) 0) e

  after_items : (h : Head) → 3 ≤ h.end → (p : Pdu) → With (items_after s h) p → ItemsOf s (pick h.con (Some h.end) None) p
  unfolding items_after
  after_items h far p w = go h.con refl
    where
      walked : (end : Result ℕ Malformed) → end_from 16 s h.end ≡ end → (i : Items) → Finds 16 (replicate 16 no_item) (items_from 16 s h.end) end i → With i p → ItemsOf s (Some h.end) p
      walked end q i (inl (d, e, x)) g = bad_sound d (rw x at g.well)
      walked end q i (inr (n, e, f)) g = (omega (arith, far), (i, n, q ∙ e, f, g.counted, g.listed))

      go : (b : Bool) → h.con ≡ b → ItemsOf s (pick b (Some h.end) None) p
      go true c = walked _ refl _ (finds s 16 h.end (replicate 16 no_item) (omega arith) (omega (arith, far))) (rw c at w)
      go false c = let g : With (no_items_is (Ok tt) h.end) p = rw c at w in (g.counted, g.listed)

  pub read_items : sound_of (pdu_of s).kind ≡ true → ItemsOf s (items_at s) (pdu_of s)
  unfolding pdu_of after_head items_at blank_pdu sound_of
  read_items = go (eqb (length s) 0) (ltb 1500 (length s)) (sound_of (head_of s).kind) refl
    where
      go : (a b c : Bool) → sound_of (head_of s).kind ≡ c
          → sound_of (pick a (blank_pdu (Refused WrongLength)) (pick b (blank_pdu (Refused WrongLength)) (pick c (finished s (head_of s) (items_after s (head_of s))) (blank_pdu (head_of s).kind)))).kind ≡ true
          → ItemsOf s (pick a None (pick (head_of s).con (Some (head_of s).end) None)) (pick a (blank_pdu (Refused WrongLength)) (pick b (blank_pdu (Refused WrongLength)) (pick c (finished s (head_of s) (items_after s (head_of s))) (blank_pdu (head_of s).kind))))
      go true b c k e = true_false (sym e)
      go false true c k e = true_false (sym e)
      go false false false k e = true_false (sym e ∙ k)
      go false false true k e = after_items (head_of s) (head_far s k) _ (finish_has (head_of s) _ e)
