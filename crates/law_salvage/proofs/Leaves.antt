-- What an accepted salvage leaves is what document 02 says, and a well-formed table is left as it was. Assumes nothing.
use Prim.Native.Nat.{ℕ, zero, suc, ◌*◌, ◌≤◌, ◌<◌}
use native.Mathlib.Omega.{arith}
use mathlib.Core.Path.{◌≡◌, refl, sym, ap, ◌∙◌}
use mathlib.Core.Bool.{true, false}
use mathlib.Core.List.{List, []}
use mathlib.Core.Logic.{◌⊎◌, inl, inr}
use lib.ListN.{length, get_or, replicate}
use lib.Dec.{eqb}
use Rattle.base_lists.specs.Seq.{put}
use Rattle.base_lists.proofs.StoresAndParts.{told}
use Rattle.table_layout.specs.Table.{count, settings_of}
use Rattle.table_well_formed.specs.WellFormed.{Sized, WellFormed}
use Rattle.table_record_ok.specs.OneRecord.{RecordOk}
use Rattle.table_salvage.specs.Salvage.{pairs_size, salvaged_to, pairs_to, list_of}
use Rattle.table_salvage.proofs.Turns.{pairs_few}
use Rattle.law_salvage.specs.Reasons.{Reason}
use Rattle.law_salvage.specs.Listed.{Listed, how_many, place_in}
use Rattle.law_salvage.specs.Sentences.{SameRecord, Changed, Salvaged, Accepts}
use Rattle.law_salvage.proofs.Octets.{reasonFor, salvaged_length, not_reached, all_stay}
use Rattle.law_salvage.proofs.Outcome.{free_octet, live_octet, stays, zeroed, outcome_formed, reason_so, reason_found, reason_changes, could_not_stay}
use Rattle.law_salvage.proofs.Pairs.{Pairs, pairs}
use Rattle.law_salvage.proofs.Lists.{how_many_holds, place_in_holds, reason_in_holds, words_written}

module _ (t list : List ℕ) (ok : Accepts t list) where
  abbrev sized : Sized t
  sized = ok.sizes.sized

  abbrev N : ℕ
  N = count t

  abbrev u : List ℕ
  u = salvaged_to t N

  abbrev ps : List ℕ
  ps = pairs_to t N

  abbrev words : List ℕ
  words = put list 0 (list_of ps)

  abbrev p : Pairs (reasonFor t) N ps
  p = pairs t N

  few : length ps ≤ pairs_size
  few = omega (arith, pairs_few t N, sized.most)

  -- a place that has a reason is listed with it, and what is listed has one
  is_listed : (i : ℕ) → i < N → eqb (reasonFor t i) 0 ≡ false → Listed words i (reasonFor t i)
  is_listed i h e =
      let w = p.found i h e in
      record {
        k = w.0;
        among = rw (how_many_holds list ok.sizes.room (reasonFor t) N ps p few) w.1;
        place_is = place_in_holds list ok.sizes.room (reasonFor t) N ps p few w.0 w.1 ∙ w.2;
        reason_is = reason_in_holds list ok.sizes.room (reasonFor t) N ps p few w.0 w.1 ∙ (p.each w.0 w.1).reason ∙ ap (reasonFor t) w.2;
      }

  record Lists (i r : ℕ) : Type 0 where
    below : i < N
    some : eqb (reasonFor t i) 0 ≡ false
    is : r ≡ reasonFor t i

  what_is_listed : (i r : ℕ) → Listed words i r → Lists i r
  what_is_listed i r l =
      let h : l.k < p.half = rw (how_many_holds list ok.sizes.room (reasonFor t) N ps p few) at l.among in
      let q = p.each l.k h in
      let place : get_or ps (l.k * 2) 0 ≡ i = sym (place_in_holds list ok.sizes.room (reasonFor t) N ps p few l.k h) ∙ l.place_is in
      record {
        below = rw place at q.below;
        some = rw place at q.some;
        is = sym l.reason_is ∙ (reason_in_holds list ok.sizes.room (reasonFor t) N ps p few l.k h ∙ (rw place at q.reason));
      }

  at_most : N ≤ N
  at_most = omega arith

  has_reason : (i r : ℕ) → Lists i r → Reason t i r
  has_reason i r x = rw x.is (reason_so t sized i x.below x.some)

  -- a reason is over 0
  over_0 : (i r : ℕ) → Reason t i r → eqb r 0 ≡ false
  over_0 i r (Reason.out_of_range x) = refl
  over_0 i r (Reason.not_zero x) = refl
  over_0 i r (Reason.shares_lower x) = refl

  listed_or_same : (i : ℕ) → i < N → ((r : ℕ) × Listed words i r) ⊎ SameRecord t u i
  listed_or_same i h = go (told (eqb (reasonFor t i) 0))
    where
      go : (eqb (reasonFor t i) 0 ≡ true) ⊎ (eqb (reasonFor t i) 0 ≡ false) → ((r : ℕ) × Listed words i r) ⊎ SameRecord t u i
      go (inl e) = inr (stays t sized N at_most i h e)
      go (inr e) = inl (reasonFor t i, is_listed i h e)

  -- what salvage leaves
  pub salvaged : Salvaged t list u words
  salvaged = record {
    formed = outcome_formed t sized ok.header;
    same_length = salvaged_length t N;
    header = λ k l. not_reached t N k (inl l);
    zeroed = λ i r l. let x = what_is_listed i r l in (x.below, zeroed t sized N at_most i x.below x.some);
    changed = λ i r l. let x = what_is_listed i r l in reason_changes t sized i x.below r (has_reason i r x) x.some;
    reason = λ i r l. has_reason i r (what_is_listed i r l);
    all_listed = λ i r h x. listed_as i r h x;
    all_changed = λ i h c. changed_listed i c (listed_or_same i h);
    rising = rises;
    written = words_written list ok.sizes.room (reasonFor t) N ps p few;
    others = λ i h none. not_listed i none (listed_or_same i h);
    needed = λ i r l. let x = what_is_listed i r l in could_not_stay t sized i x.below r (has_reason i r x) x.some;
  }
    where
      listed_as : (i r : ℕ) → i < N → Reason t i r → Listed words i r
      listed_as i r h x =
          let e : reasonFor t i ≡ r = reason_found t sized i h r x in
          rw e at (is_listed i h (rw e (over_0 i r x)))

      changed_listed : (i : ℕ) → Changed t u i → ((r : ℕ) × Listed words i r) ⊎ SameRecord t u i → (r : ℕ) × Listed words i r
      changed_listed i c (inl l) = l
      changed_listed i c (inr s) = absurd (c.changed (s c.octet c.inside))

      not_listed : (i : ℕ) → ((r : ℕ) → Listed words i r → ⊥) → ((r : ℕ) × Listed words i r) ⊎ SameRecord t u i → SameRecord t u i
      not_listed i none (inl l) = absurd (none l.0 l.1)
      not_listed i none (inr s) = s

      rises : (k m : ℕ) → k < m → m < how_many words → place_in words k < place_in words m
      rises k m l h =
          let b : m < p.half = rw (how_many_holds list ok.sizes.room (reasonFor t) N ps p few) at h in
          omega (arith, p.rising k m l b, place_in_holds list ok.sizes.room (reasonFor t) N ps p few k (omega arith), place_in_holds list ok.sizes.room (reasonFor t) N ps p few m b)

-- a record in order, under a name that no lower one has, has no reason
in_order_none : (t : List ℕ) → WellFormed t → (i : ℕ) → i < count t → RecordOk t (settings_of t) i → (r : ℕ) → Reason t i r → ⊥
in_order_none t w i h (inl f) r (Reason.out_of_range x) = x.not_free (free_octet t i f)
in_order_none t w i h (inr l) r (Reason.out_of_range x) = x.not_in_range l
in_order_none t w i h (inl f) r (Reason.not_zero x) = x.not_zero f
in_order_none t w i h (inr l) r (Reason.not_zero x) = live_octet t i l x.free
in_order_none t w i h ok r (Reason.shares_lower x) =
    w.unique x.lower i (omega (arith, x.below, h)) h (λ (e : x.lower ≡ i). omega (arith, x.below, e)) x.lower_in_range.range.live x.in_range_holds.range.live x.same_name

-- a well-formed table has no reason at any place
no_reason : (t : List ℕ) → WellFormed t → (i : ℕ) → i < count t → eqb (reasonFor t i) 0 ≡ true
no_reason t w i h = go (told (eqb (reasonFor t i) 0))
  where
    ordered : RecordOk t (settings_of t) i → Reason t i (reasonFor t i) → ⊥
    ordered ok x = in_order_none t w i h ok (reasonFor t i) x

    go : (eqb (reasonFor t i) 0 ≡ true) ⊎ (eqb (reasonFor t i) 0 ≡ false) → eqb (reasonFor t i) 0 ≡ true
    go (inl e) = e
    go (inr e) = absurd (ordered (w.records i h) (reason_so t w.sized i h e))

none_paired : (t : List ℕ) (n : ℕ) → ((i : ℕ) → i < n → eqb (reasonFor t i) 0 ≡ true) → pairs_to t n ≡ []
unfolding pairs_to
none_paired t zero h = refl
none_paired t (suc n) h = rw (h n (omega arith), none_paired t n (λ i l. h i (omega arith))) refl

-- "a well-formed table comes back as it was", and nothing is listed: 97 zeros
pub unchanged : (t list : List ℕ) → WellFormed t → (salvaged_to t (count t) ≡ t) × (put list 0 (list_of (pairs_to t (count t))) ≡ put list 0 (replicate 97 0))
unchanged t list w = (all_stay t (count t) (no_reason t w), ap (λ (ps : List ℕ). put list 0 (list_of ps)) (none_paired t (count t) (no_reason t w)))
