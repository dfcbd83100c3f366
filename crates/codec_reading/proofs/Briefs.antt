-- What is read without a list of the items is what the engine takes of the PDU. Assumes nothing.
use Prim.Native.Nat.{ℕ, zero, suc, ◌+◌, ◌-◌, ◌≤◌}
use native.Mathlib.Omega.{arith}
use borrow.Author.Tests.{ne_eqb, lt-ltb, le-ltb}
use mathlib.Core.Path.{◌≡◌, refl, sym}
use mathlib.Core.List.{List}
use mathlib.Core.Bool.{Bool, true, false}
use mathlib.Core.Logic.{inl, inr}
use lib.ListN.{length, get_or, replicate}
use lib.Dec.{ltb, leb, eqb}
use Rattle.base_lists.specs.Seq.{pick}
use Rattle.base_lists.proofs.StoresAndParts.{true_false}
use Rattle.base_numbers.specs.declared.Malformed.{Malformed}
use Rattle.base_numbers.specs.declared.Malformed.TheVariants.{D1, D2, D7}
use Rattle.std.specs.Prelude.{Result, Ok, Err, IfOk}
use Rattle.codec_items.specs.Items.{Items, no_item, no_items_is, walk_from}
use Rattle.codec_items.specs.Info.{first_from, info_from}
use Rattle.codec_items.specs.Unknown.{unknown_from}
use Rattle.codec_items.specs.Found.{end_from, items_from, info_in, unknown_in}
use Rattle.codec_items.specs.declared.Sought.TheVariants.{InfoItem, UnknownItem}
use Rattle.codec_items.proofs.Finds.{Finds, finds, end_inside, info_found, unknown_found}
use Rattle.codec_pdu.specs.Pdu.{sound_of, bare_of, blank_pdu, info_of, unknown_of}
use Rattle.codec_pdu.specs.Brief.{brief_of}
use Rattle.codec_pdu.specs.declared.Brief.{Brief}
use Rattle.codec_pdu.specs.declared.Kind.TheVariants.{Wrong}
use Rattle.codec_reading.specs.declared.Head.{Head}
use Rattle.codec_reading.specs.Read.{type_of, bad_head, good_head, long_head, head_of, whole, finished, items_after, after_head, pdu_of}
use Rattle.codec_reading.proofs.Inside.{head_inside}
use Rattle.codec_reading.specs.Brief.{end_after_is, place_after, places_after, whole_brief, wrong_brief, ended_brief}

-- a sound header has three octets or more
abbrev Far : Head → Type 0
Far h = sound_of h.kind ≡ true → 3 ≤ h.end

module _ (s : List ℕ) where
  long_far : Far (long_head s)
  unfolding sound_of
  long_far = go (ltb (length s) 4) (eqb (type_of s) 7) (ltb (length s) (get_or s 3 0 + 4))
    where
      go : (a b c : Bool) → Far (pick a (bad_head D1) (pick b (pick c (bad_head D1) (good_head s 7 (get_or s 3 0) (get_or s 3 0 + 4))) (good_head s (type_of s) (get_or s 3 0) 4)))
      go true b c e = true_false (sym e)
      go false true true e = true_false (sym e)
      go false true false e = omega arith
      go false false c e = omega arith

  pub head_far : Far (head_of s)
  unfolding head_of sound_of
  head_far = go (eqb (type_of s) 0) (ltb 7 (type_of s)) (ltb (length s) 3) (eqb (type_of s) 2) (eqb (type_of s) 3)
    where
      go : (a b c d f : Bool) → Far (pick a (bad_head D2) (pick b (bad_head D2) (pick c (bad_head D1) (pick d (good_head s 2 0 3) (pick f (good_head s 3 0 3) (long_head s))))))
      go true b c d f e = true_false (sym e)
      go false true c d f e = true_false (sym e)
      go false false true d f e = true_false (sym e)
      go false false false true f e = omega arith
      go false false false false true e = omega arith
      go false false false false false e = long_far e

  pub after_inside : (h : Head) → h ≡ head_of s → (r : Result ℕ Malformed) → r ≡ end_after_is s h → IfOk r (λ (n : ℕ). n ≤ length s)
  unfolding end_after_is
  after_inside h e r q = by r q h.con
    where
      by : (r : Result ℕ Malformed) → r ≡ pick h.con (end_from 16 s h.end) (Ok h.end) → Bool → IfOk r (λ (n : ℕ). n ≤ length s)
      by (Err d) q b = tt
      by (Ok n) q b = go h.con q
        where
          go : (b : Bool) → Ok n ≡ pick b (end_from 16 s h.end) (Ok h.end) → n ≤ length s
          go true q = end_inside s 16 h.end n (sym q)
          go false q = let z : n ≡ h.end = cc in let w : h.end ≤ length s = rw e (head_inside s) in omega (arith, z, w)

  module _ (h : Head) where
    -- the brief of a PDU whose user data of len octets starts at `start`
    abbrev whole_at : ℕ → ℕ → Brief
    whole_at start len = record { kind = h.kind; tid = h.tid; info = info_in s (place_after s h InfoItem); start = start; len = len; unknown = unknown_in s (place_after s h UnknownItem) }

    -- items that end well
    ends_well : (i : Items) (end : ℕ) → 2 ≤ end → i.verdict ≡ Ok tt → i.end ≡ end → info_from (pick (leb i.count 16) i.count 16) i.list 0 ≡ info_in s (place_after s h InfoItem)
        → unknown_from (pick (leb i.count 16) i.count 16) i.list 0 ≡ unknown_in s (place_after s h UnknownItem)
        → ended_brief s h (places_after s h) (Ok end) ≡ brief_of (finished s h i)
    unfolding ended_brief finished places_after whole_brief brief_of info_of unknown_of
    ends_well i end l v e q u = rw (v, e) (go (bare_of h.kind) (length s - end))
      where
        go : (a : Bool) (left : ℕ) → pick (pick a (ltb 0 left) false) (wrong_brief (Wrong D7)) (whole_at (pick a 0 end) left) ≡ brief_of (pick a (pick (eqb left 0) (whole h i 0 0) (blank_pdu (Wrong D7))) (whole h i end left))
        go true zero = rw (q, u)
        go true (suc left) = rw (lt-ltb 0 (suc left) (omega arith), ne_eqb (suc left) 0 (λ (z : suc left ≡ 0). absurd (omega arith)))
        go false left = rw (q, u)

    pub ended_brief_holds : 3 ≤ h.end → ended_brief s h (places_after s h) (end_after_is s h) ≡ brief_of (finished s h (items_after s h))
    unfolding end_after_is items_after place_after ended_brief finished info_from unknown_from first_from
    ended_brief_holds l = go h.con refl
      where
        by : h.con ≡ true → (end : Result ℕ Malformed) (i : Items) → Finds 16 (replicate 16 no_item) (items_from 16 s h.end) end i → ended_brief s h (places_after s h) end ≡ brief_of (finished s h i)
        by p end i (inl (d, e, w)) = rw (e, w)
        by p end i (inr (n, e, w)) = rw e (ends_well i n w.far w.sound w.ends (rw p (info_found s h.end n i w)) (rw p (unknown_found s h.end n i w)))

        go : (b : Bool) → h.con ≡ b → ended_brief s h (places_after s h) (pick b (end_from 16 s h.end) (Ok h.end)) ≡ brief_of (finished s h (pick b (walk_from 16 s h.end (replicate 16 no_item)) (no_items_is (Ok tt) h.end)))
        go true p = by p _ _ (finds s 16 h.end (replicate 16 no_item) (omega arith) (omega arith))
        go false p = ends_well (no_items_is (Ok tt) h.end) h.end (omega arith) refl refl (rw p) (rw p)

  module _ (h : Head) (e : h ≡ head_of s) (some : 1 ≤ length s) (few : length s ≤ 1500) where
    pub brief_sound : sound_of h.kind ≡ true → ended_brief s h (places_after s h) (end_after_is s h) ≡ brief_of (pdu_of s)
    unfolding pdu_of after_head
    brief_sound k = rw (ne_eqb (length s) 0 (λ (z : length s ≡ 0). absurd (omega arith)), le-ltb 1500 (length s) few, ← e, k) (ended_brief_holds h (far head_far))
      where
        far : Far (head_of s) → 3 ≤ h.end
        far f = let g : Far h = rw e f in g k

    pub brief_unsound : sound_of h.kind ≡ false → brief_of (blank_pdu h.kind) ≡ brief_of (pdu_of s)
    unfolding pdu_of after_head
    brief_unsound k = rw (ne_eqb (length s) 0 (λ (z : length s ≡ 0). absurd (omega arith)), le-ltb 1500 (length s) few, ← e, k)
