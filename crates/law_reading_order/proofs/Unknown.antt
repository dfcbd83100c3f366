-- What is told of a sound PDU's items is the first whose identity 8.4 doesn't have, by its octets. Assumes nothing.
use Prim.Native.Nat.{ℕ, zero, suc, ◌+◌, ◌<◌, ◌≤◌}
use native.Mathlib.Omega.{arith}
use borrow.Author.Tests.{le-ltb, le-leb, ne_eqb, leb-true, leb-false}
use mathlib.Core.Path.{◌≡◌, refl, sym, ap, ◌∙◌}
use mathlib.Core.List.{List}
use mathlib.Core.Bool.{Bool, true, false}
use mathlib.Core.Logic.{◌⊎◌, inl, inr}
use lib.ListN.{length, get_or}
use Rattle.std.specs.Prelude.{Option, Some, None, Ok}
use lib.Dec.{leb, eqb}
use Rattle.base_lists.specs.Seq.{pick}
use Rattle.base_lists.proofs.StoresAndParts.{below_or_last, lt_or_le}
use Rattle.codec_items.specs.declared.Item.{Item}
use Rattle.codec_items.specs.declared.Got.{Got}
use Rattle.codec_items.specs.declared.Sought.TheVariants.{UnknownItem}
use Rattle.codec_items.specs.declared.Unknown.{Unknown}
use Rattle.codec_items.specs.Items.{item_at}
use Rattle.codec_items.specs.Forms.{Short, Long}
use Rattle.codec_items.specs.Info.{first_from}
use Rattle.codec_items.specs.Unknown.{no_unknown, unknown_from}
use Rattle.codec_items.specs.FirstUnknown.{Known}
use Rattle.codec_items.specs.Found.{end_from, end_after_is, place_from, place_after, unknown_in}
use Rattle.codec_items.proofs.Forms.{met, item_forms}
use Rattle.codec_items.proofs.Finds.{unknown_found}
use Rattle.codec_items.proofs.FirstUnknown.{known, below_six}
use Rattle.codec_pdu.specs.Pdu.{sound_of, unknown_of}
use Rattle.codec_reading.specs.Read.{type_of, head_of, pdu_of}
use Rattle.codec_reading.specs.Brief.{items_at}
use Rattle.codec_reading.proofs.ReadItems.{ItemsOf, read_items}
use Rattle.law_reading_order.specs.Layout.{fixed_length, header_length, item_end}
use Rattle.law_reading_order.specs.Order.{Reached, items_follow, another}
use Rattle.law_reading_order.specs.Unknown.{identity_at, FirstUnknown, AllKnown, TellsUnknown}
use Rattle.law_reading_order.proofs.Places.{Told, item_told_holds}
use Rattle.law_reading_order.proofs.Heads.{header, head_right}
use Rattle.law_reading_order.proofs.Walks.{reached_con}
use Rattle.law_reading_order.proofs.Order.{first_that_holds}

module _ (s : List ℕ) where
  -- after as many items one place is reached
  reached_one : {k j a b : ℕ} → Reached s k a → Reached s j b → k ≡ j → a ≡ b
  reached_one (items_follow c) (items_follow d) e = refl
  reached_one (items_follow c) (another r w d) e = absurd (omega arith)
  reached_one (another r w c) (items_follow d) e = absurd (omega arith)
  reached_one (another r w c) (another q v d) e = ap (item_end s) (reached_one r q (omega arith))

  -- an item after which another stands has CON set
  con_set : {k at j x : ℕ} → Reached s k at → Reached s j x → k < j → 128 ≤ get_or s at 0
  con_set r (items_follow c) l = absurd (omega arith)
  con_set {k = k} {at = at} r (another {k = i} {at = y} q w c) l = go (λ (h : k < i). con_set r q h) (below_or_last k i l)
    where
      go : (k < i → 128 ≤ get_or s at 0) → (k < i) ⊎ (k ≡ i) → 128 ≤ get_or s at 0
      go ih (inl h) = ih h
      go ih (inr e) = rw (reached_one r q e) c

  -- the first k items are known
  abbrev KnownTo : ℕ → Type 0
  KnownTo k = (j x : ℕ) → j < k → Reached s j x → Known (identity_at s x)

  one_more : (k at : ℕ) → Reached s k at → Known (identity_at s at) → KnownTo k → KnownTo (suc k)
  one_more k at r h before j x l q = go (below_or_last j k l)
    where
      go : (j < k) ⊎ (j ≡ k) → Known (identity_at s x)
      go (inl b) = before j x b q
      go (inr e) = rw (reached_one q r e) h

  -- what is told of all items
  abbrev Sees : Unknown → Type 0
  Sees u = ((u ≡ no_unknown) × AllKnown s) ⊎ FirstUnknown s u

  -- the identity of an item is in its first octet
  identity_there : (at : ℕ) (it : Item) (con : Bool) (next : ℕ) → item_at s at ≡ met it con next → it.identity ≡ identity_at s at
  identity_there at it con next e = go (item_forms s at _ e)
    where
      go : Short s at it con next ⊎ Long s at it con next → it.identity ≡ identity_at s at
      go (inl f) = ap (λ (x : Item). x.identity) f.item
      go (inr f) = ap (λ (x : Item). x.identity) f.item

  walk_sees : (m k at end : ℕ) → k + m ≡ 16 → end_from m s at ≡ Ok end → Reached s k at → KnownTo k → Sees (unknown_in s (place_from UnknownItem m s at))
  unfolding end_from place_from
  walk_sees zero k at end n ends r before = absurd cc
  walk_sees (suc m) k at end n ends r before = go (λ (next : ℕ). walk_sees m (suc k) next end) (item_at s at) refl ends
    where
      go : ((next : ℕ) → suc k + m ≡ 16 → end_from m s next ≡ Ok end → Reached s (suc k) next → KnownTo (suc k) → Sees (unknown_in s (place_from UnknownItem m s next)))
          → (g : Option Got) → item_at s at ≡ g → end_after_is (end_from m s) g ≡ Ok end → Sees (unknown_in s (place_after UnknownItem at (place_from UnknownItem m s) g))
      go ih None e ends = absurd cc
      go ih (Some g) e ends = by (leb 6 g.item.identity) refl g.con refl
        where
          same : g.item.identity ≡ identity_at s at
          same = identity_there at g.item g.con g.next e

          here : Known (identity_at s at) → g.item.identity < 6
          here x = rw same (below_six (identity_at s at) x)

          told : Told s at g.con g.next
          told = item_told_holds s at g.item g.con g.next e

          by : (b : Bool) → leb 6 g.item.identity ≡ b → (c : Bool) → g.con ≡ c → Sees (unknown_in s (pick b (Some at) (pick c (place_from UnknownItem m s g.next) None)))
          by true h c q =
              rw e
              (inr (record { before = k; permitted = omega arith; reached = r; same_identity = same; not_known = λ x. absurd (omega (arith, leb-true 6 g.item.identity h, here x)); known_before = before }))
          by false h true q =
              let more : 128 ≤ get_or s at 0 = leb-true 128 (get_or s at 0) (sym told.more ∙ q) in
              let on : Reached s (suc k) g.next = rw told.ends (another r (omega (arith, told.ends, told.inside)) more) in
              ih g.next (omega arith) (rw q at ends) on (one_more k at r (rw (← same) (known g.item.identity (leb-false 6 g.item.identity h))) before)
          by false h false q = inl (refl, all)
            where
              last : get_or s at 0 < 128
              last = leb-false 128 (get_or s at 0) (sym told.more ∙ q)

              all : AllKnown s
              all j x l p = at_last (below_or_after j)
                where
                  below_or_after : (j : ℕ) → (j < suc k) ⊎ (suc k ≤ j)
                  below_or_after j = lt_or_le j (suc k)

                  at_last : (j < suc k) ⊎ (suc k ≤ j) → Known (identity_at s x)
                  at_last (inl b) = one_more k at r (rw (← same) (known g.item.identity (leb-false 6 g.item.identity h))) before j x b p
                  at_last (inr b) = absurd (omega (arith, con_set r p (omega arith), last))

  tells : (u : Unknown) → Sees u → TellsUnknown s u
  tells u sees = record { none = ((λ e. all e sees), (λ k. none k sees)); first = λ n. first n sees }
    where
      all : u ≡ no_unknown → Sees u → AllKnown s
      all e (inl (q, k)) = k
      all e (inr f) =
          let zero_there : identity_at s u.place ≡ 0 = sym f.same_identity ∙ ap (λ (x : Unknown). x.identity) e in
          absurd (f.not_known (Known.error zero_there))

      none : AllKnown s → Sees u → u ≡ no_unknown
      none k (inl (q, h)) = q
      none k (inr f) = absurd (f.not_known (k f.before u.place f.permitted f.reached))

      first : (AllKnown s → ⊥) → Sees u → FirstUnknown s u
      first n (inl (q, k)) = absurd (n k)
      first n (inr f) = f

  module _ (sound : sound_of (pdu_of s).kind ≡ true) where
    head_is : head_of s ≡ header s
    head_is =
        let q = (first_that_holds s).sound.0 sound in
        let whole : length s < fixed_length s → ⊥ = q.1.1.0 in
        head_right s q.1.0 ∙ rw (le-ltb (length s) (fixed_length s) (omega arith))

    some : 1 ≤ length s
    some =
        let q = (first_that_holds s).sound.0 sound in
        let inside : length s < 1 → ⊥ = λ (h : length s < 1). q.0 (inl h) in
        omega arith

    far : 3 ≤ fixed_length s
    unfolding header_length
    far = go (eqb (type_of s) 2) (eqb (type_of s) 3) (eqb (type_of s) 7)
      where
        go : (a b c : Bool) → 3 ≤ pick a 3 (pick b 3 (pick c (get_or s 3 0 + 4) 4))
        go true b c = omega arith
        go false true c = omega arith
        go false false true = omega arith
        go false false false = omega arith

    starts : items_at s ≡ pick (leb 128 (get_or s 0 0)) (Some (fixed_length s)) None
    unfolding items_at
    starts = rw (ne_eqb (length s) 0 (λ (z : length s ≡ 0). absurd (omega (arith, some))), head_is)

    sees : (first : Option ℕ) → items_at s ≡ first → ItemsOf s first (pdu_of s) → Sees (unknown_of (pdu_of s))
    unfolding unknown_of unknown_from first_from
    sees None f (n, l) = inl (rw n, λ k at h r. absurd (go (reached_con s r)))
      where
        go : 128 ≤ get_or s 0 0 → ⊥
        go c = let is : None ≡ Some (fixed_length s) = sym f ∙ starts ∙ rw (le-leb 128 (get_or s 0 0) c) in absurd cc
    sees (Some first) f (a, (i, end, e, w, n, l)) = go (leb 128 (get_or s 0 0)) refl
      where
        go : (b : Bool) → leb 128 (get_or s 0 0) ≡ b → Sees (unknown_of (pdu_of s))
        go true c =
            let is : Some first ≡ Some (fixed_length s) = sym f ∙ starts ∙ rw c in
            let at : first ≡ fixed_length s = cc in
            let there : Reached s 0 first = rw at (items_follow (leb-true 128 (get_or s 0 0) c)) in
            rw (n, l, unknown_found s first end i w) (walk_sees 16 0 first end refl e there (λ j x h q. absurd (omega arith)))
        go false c =
            let is : Some first ≡ None = sym f ∙ starts ∙ rw c in absurd cc

    -- 02, L4: the first item that isn't known
    pub tells_unknown : TellsUnknown s (unknown_of (pdu_of s))
    tells_unknown = tells (unknown_of (pdu_of s)) (sees (items_at s) refl (read_items s sound))
