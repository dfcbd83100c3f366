-- The TID of a well-formed PDU, as it was read, is the one that its octets are named by. Assumes nothing.
use mathlib.Core.Path.{◌≡◌, refl, sym, ◌∙◌}
use mathlib.Core.List.{List}
use mathlib.Core.Bool.{Bool, true, false}
use Prim.Native.Nat.{ℕ, ◌+◌, ◌-◌}
use lib.ListN.{length, get_or}
use lib.Dec.{ltb, eqb}
use Rattle.base_lists.specs.Seq.{pick}
use Rattle.base_lists.proofs.StoresAndParts.{true_false}
use Rattle.base_numbers.specs.declared.Malformed.TheVariants.{D1, D2, D7}
use Rattle.base_numbers.specs.declared.Refusal.TheVariants.{WrongLength}
use Rattle.std.specs.Prelude.{Ok, Err}
use Rattle.codec_items.specs.Items.{Verdict, Items}
use Rattle.codec_pdu.specs.Pdu.{sound_of, bare_of, blank_pdu}
use Rattle.codec_pdu.specs.declared.Kind.TheVariants.{Wrong, Refused}
use Rattle.codec_pdu.specs.declared.Pdu.{Pdu}
use Rattle.codec_reading.specs.declared.Head.{Head}
use Rattle.codec_reading.specs.Read.{type_of, bad_head, good_head, long_head, head_of, whole, finish_by, finished, items_after, after_head, pdu_of}
use Rattle.step_arrivals.specs.Arrivals.{tid_of}

-- a sound PDU has the TID t
abbrev HasTid : ℕ → Pdu → Type 0
HasTid t p = sound_of p.kind ≡ true → p.tid ≡ t

-- a sound header has the TID of the octets
abbrev HeadTid : List ℕ → Head → Type 0
HeadTid s h = sound_of h.kind ≡ true → h.tid.0 ≡ tid_of s

module _ (s : List ℕ) where
  long_tid : HeadTid s (long_head s)
  unfolding tid_of sound_of
  long_tid = go (ltb (length s) 4) (eqb (type_of s) 7) (ltb (length s) (get_or s 3 0 + 4))
    where
      go : (a b c : Bool) → HeadTid s (pick a (bad_head D1) (pick b (pick c (bad_head D1) (good_head s 7 (get_or s 3 0) (get_or s 3 0 + 4))) (good_head s (type_of s) (get_or s 3 0) 4)))
      go true b c e = true_false (sym e)
      go false true true e = true_false (sym e)
      go false true false e = refl
      go false false c e = refl

  head_tid : HeadTid s (head_of s)
  unfolding head_of tid_of sound_of
  head_tid = go (eqb (type_of s) 0) (ltb 7 (type_of s)) (ltb (length s) 3) (eqb (type_of s) 2) (eqb (type_of s) 3)
    where
      go : (a b c d f : Bool) → HeadTid s (pick a (bad_head D2) (pick b (bad_head D2) (pick c (bad_head D1) (pick d (good_head s 2 0 3) (pick f (good_head s 3 0 3) (long_head s))))))
      go true b c d f e = true_false (sym e)
      go false true c d f e = true_false (sym e)
      go false false true d f e = true_false (sym e)
      go false false false true f e = refl
      go false false false false true e = refl
      go false false false false false e = long_tid e

  finish_tid : (h : Head) (i : Items) → HasTid h.tid.0 (finished s h i)
  unfolding finished blank_pdu sound_of
  finish_tid h i = by_verdict i.verdict
    where
      by_kind : (a b : Bool) → HasTid h.tid.0 (pick a (pick b (whole h i 0 0) (blank_pdu (Wrong D7))) (whole h i i.end (length s - i.end)))
      by_kind true true e = refl
      by_kind true false e = true_false (sym e)
      by_kind false b e = refl

      by_verdict : (v : Verdict) → HasTid h.tid.0 (finish_by v s h i)
      by_verdict (Err d) e = true_false (sym e)
      by_verdict (Ok tt) e = by_kind (bare_of h.kind) (eqb (length s - i.end) 0) e

  after_tid : (h : Head) → HeadTid s h → HasTid (tid_of s) (after_head s h)
  unfolding after_head blank_pdu
  after_tid h t = go (sound_of h.kind) refl
    where
      go : (b : Bool) → sound_of h.kind ≡ b → HasTid (tid_of s) (pick b (finished s h (items_after s h)) (blank_pdu h.kind))
      go true p e = finish_tid h (items_after s h) e ∙ t p
      go false p e = true_false (sym e ∙ p)

  pub read_tid : HasTid (tid_of s) (pdu_of s)
  unfolding pdu_of blank_pdu sound_of
  read_tid = go (eqb (length s) 0) (ltb 1500 (length s))
    where
      go : (a b : Bool) → HasTid (tid_of s) (pick a (blank_pdu (Refused WrongLength)) (pick b (blank_pdu (Refused WrongLength)) (after_head s (head_of s))))
      go true b e = true_false (sym e)
      go false true e = true_false (sym e)
      go false false e = after_tid (head_of s) head_tid e
