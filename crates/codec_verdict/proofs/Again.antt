-- The words of a PDU as it was read are accepted, and say that PDU again. Assumes nothing.
use Prim.Native.Nat.{ℕ, zero, suc, ◌+◌, ◌-◌, ◌*◌, ◌/◌, ◌%◌, ◌≤◌, ◌<◌}
use native.Mathlib.Omega.{arith}
use mathlib.Core.Path.{◌≡◌, refl, sym, ap, subst, ◌∙◌}
use mathlib.Core.List.{List, [], ◌∷◌, ◌++◌}
use mathlib.Core.Bool.{Bool, true, false}
use mathlib.Core.Logic.{◌⊎◌, inl, inr}
use lib.ListN.{length, get_or, replicate}
use borrow.Author.Tests.{le-leb}
use Rattle.base_lists.specs.Seq.{pick, bit}
use Rattle.base_lists.proofs.StoresAndParts.{bit_le, lt_or_le, every_all}
use Rattle.codec_items.specs.Items.{no_item}
use Rattle.codec_items.specs.Unknown.{first_octet, unknown_from}
use Rattle.codec_items.specs.FirstUnknown.{Says}
use Rattle.codec_items.proofs.FirstUnknown.{unknown_says}
use Rattle.codec_items.specs.declared.Item.{Item}
use Rattle.codec_items.specs.declared.Unknown.{Unknown}
use Rattle.codec_pdu.specs.Pdu.{unknown_of}
use Rattle.codec_pdu.specs.declared.Pdu.{Pdu}
use Rattle.codec_words.specs.Words.{item_words, items_words, head_words, words_of}
use Rattle.codec_said.specs.Said.{word, pdu_said, Narrow}
use Rattle.codec_said.proofs.Stored.{stored, head_first, word_of_item, said_stored}
use Rattle.codec_encoding.specs.Write.{longest, octets_of, FitItem, Fit}
use Rattle.codec_verdict.specs.Length.{placed, length_said}
use Rattle.codec_verdict.specs.Widths.{any, widths, longest_said, widest_item, widest, inside}
use Rattle.codec_verdict.specs.Judge.{item_inside, items_inside, judged_of, AsRead}
use Rattle.codec_verdict.proofs.Bounds.{Fitting, widest_head, widest_of_item}
use Rattle.codec_verdict.proofs.Types.{Typed}
use Rattle.codec_verdict.proofs.ItemLists.{fit_at}
use Rattle.codec_verdict.proofs.SaidItems.{widest_there}
use Rattle.codec_verdict.proofs.Passed.{Faultless, sound_parts, Passed, given}
use Rattle.codec_verdict.proofs.Accepted.{said_long}
use Rattle.codec_verdict.proofs.HeadFits.{upto_at, Below, HeadFits, head_fits}

-- four words within four bounds, place by place
four_below : (a b c d A B C D j : ℕ) → a ≤ A → b ≤ B → c ≤ C → d ≤ D → j < 4 → get_or (a ∷ b ∷ c ∷ d ∷ []) j 0 ≤ get_or (A ∷ B ∷ C ∷ D ∷ []) j 0
four_below a b c d A B C D zero p q r s h = p
four_below a b c d A B C D (suc zero) p q r s h = q
four_below a b c d A B C D (suc (suc zero)) p q r s h = r
four_below a b c d A B C D (suc (suc (suc zero))) p q r s h = s
four_below a b c d A B C D (suc (suc (suc (suc j)))) p q r s h = absurd (omega arith)

zeros : (n j : ℕ) → get_or {A = ℕ} (replicate n 0) j 0 ≡ 0
zeros zero j = refl
zeros (suc n) zero = refl
zeros (suc n) (suc j) = zeros n j

bit_longest : (b : Bool) → longest_said (bit b) ≡ longest b
bit_longest true = refl
bit_longest false = refl

module _ (s : List ℕ) (p : Pdu) (rest : List ℕ) (r : AsRead s p) where
  fit : Fit s p
  fit = r.writable.fit

  item_fit : (k : ℕ) → k < p.count → FitItem s (get_or p.list k no_item)
  item_fit = fit_at s p.list p.count (omega (arith, fit.list_full, r.writable.few)) fit.items_fit

  narrow : Narrow p
  narrow = record {
    kind_narrow = r.octets;
    tid_narrow = fit.tid_fits;
    list_full = fit.list_full;
    identity_narrow = λ k h. identity k h (lt_or_le k p.count);
  }
    where
      identity : (k : ℕ) → k < 16 → (k < p.count) ⊎ (p.count ≤ k) → (get_or p.list k no_item).identity < 256
      identity k h (inl u) = omega (arith, (item_fit k u).identity_fits)
      identity k h (inr u) = rw (r.unused k u h) (omega arith)

  same : pdu_said (stored p rest) ≡ p
  same = said_stored p rest narrow

  count_said : word (stored p rest) 15 ≡ p.count
  unfolding pdu_said
  count_said = ap (λ (q : Pdu). q.count) same

  item_word : (k j : ℕ) → k < 16 → j < 4 → word (stored p rest) (24 + 4 * k + j) ≡ get_or (item_words (get_or p.list k no_item)) j 0
  item_word k j h g = word_of_item p rest k j fit.list_full h g

  item_narrow_holds : (k j : ℕ) → k < 16 → j < 4 → word (stored p rest) (24 + 4 * k + j) ≤ widest_item (stored p rest) k j
  unfolding item_words
  item_narrow_holds k j h g = go (lt_or_le k p.count)
    where
      go : (k < p.count) ⊎ (p.count ≤ k) → word (stored p rest) (24 + 4 * k + j) ≤ widest_item (stored p rest) k j
      go (inl u) =
          let it : Item = get_or p.list k no_item in
          let f = item_fit k u in
          let long : longest_said (word (stored p rest) (24 + 4 * k + 1)) ≡ longest it.long = ap longest_said (item_word k 1 h (omega arith)) ∙ bit_longest it.long in
          rw (item_word k j h g, widest_there (stored p rest) k j (rw count_said u), long)
          (four_below it.identity (bit it.long) it.start it.len 15 1 any (longest it.long) j (omega (arith, f.identity_fits)) (bit_le it.long) (omega (arith, f.inside, r.addressable)) f.len_fits g)
      go (inr u) =
          let none : get_or (item_words (get_or p.list k no_item)) j 0 ≡ 0 = ap (λ (it : Item). get_or (item_words it) j 0) (r.unused k u h) ∙ zeros 4 j in
          omega (arith, item_word k j h g, none)

  -- the words of the header, as they stand in the whole
  abbrev tail : List ℕ
  tail = items_words p.list ++ rest

  -- the first unknown item is one of the items, or none
  unknown_fits : ((unknown_of p).identity ≤ any) × ((unknown_of p).place ≤ any)
  unfolding unknown_of
  unknown_fits = rw (le-leb p.count 16 r.writable.few) (go (unknown_from p.count p.list 0) (unknown_says p.count p.list 0))
    where
      first_octet_holds : (it : Item) → first_octet it ≤ it.start
      first_octet_holds it = by it.long
        where
          by : (b : Bool) → pick b (it.start - 2) (it.start - 1) ≤ it.start
          by true = omega arith
          by false = omega arith

      go : (u : Unknown) → Says p.list 0 p.count u → (u.identity ≤ any) × (u.place ≤ any)
      go u (inl (i, f, e)) =
          let g = item_fit i (omega (arith, f.below)) in
          rw e (omega (arith, g.identity_fits), omega (arith, first_octet_holds (get_or p.list i no_item), g.inside, r.addressable))
      go u (inr (f, e)) = rw e (omega arith, omega arith)

  head : HeadFits s p.tid p.count p.start p.len (unknown_of p) tail p.kind
  head = head_fits s p.tid p.count p.start p.len (unknown_of p) tail fit.tid_fits (omega (arith, r.writable.few)) (omega (arith, fit.user_fits, r.addressable)) (omega (arith, fit.user_fits, r.addressable)) unknown_fits r.addressable
      p.kind fit.kind_fits r.octets r.no_data

  word_narrow : (i : ℕ) → (i < 24) ⊎ (24 ≤ i) → i < 88 → word (stored p rest) i ≤ widest (stored p rest) i
  unfolding head_words
  word_narrow i (inl u) h =
      rw (widest_head (stored p rest) i u)
      (subst (λ (x : List ℕ). word x i ≤ get_or (get_or widths i []) (word x 0) 0) (sym (head_first p rest))
      (upto_at (Below s p.tid p.count p.start p.len (unknown_of p) tail p.kind) 24 head.narrow i u))
  word_narrow i (inr u) h =
      let k : ℕ = (i - 24) / 4 in
      let j : ℕ = (i - 24) % 4 in
      let e : 24 + 4 * k + j ≡ i = omega arith in
      subst (λ (x : ℕ). word (stored p rest) x ≤ widest (stored p rest) x) e
      (rw (widest_of_item (stored p rest) k j (omega arith)) (item_narrow_holds k j (omega arith) (omega arith)))

  fitting : Fitting (stored p rest) (length s)
  unfolding head_words pdu_said
  fitting = record {
    narrow = λ i h. word_narrow i (lt_or_le i 24) h;
    list_inside = subst (λ (x : List ℕ). word x 14 + word x 13 ≤ length s) (sym (head_first p rest)) head.list_inside;
    user_inside = subst (λ (q : Pdu). q.start + q.len ≤ length s) (sym same) fit.user_fits;
  }

  clean : Faultless (length s) p
  unfolding items_inside inside
  clean =
      let parts = sound_parts p r.writable.sound in
      record {
        kind_sound = parts.0;
        items_lie = every_all (item_inside (length s) p.list) (placed p.count) (λ (k : ℕ) (h : k < placed p.count). le-leb ((get_or p.list k no_item).start + (get_or p.list k no_item).len) (length s) (item_fit k (omega arith)).inside);
        rest_sound = parts.1;
      }

  all_passed : Passed (stored p rest) (length s)
  unfolding head_words pdu_said
  all_passed =
      let t : Typed (word (stored p rest) 0) = subst (λ (x : List ℕ). Typed (word x 0)) (sym (head_first p rest)) head.type_said in
      let c : Faultless (length s) (pdu_said (stored p rest)) = subst (Faultless (length s)) (sym same) clean in
      let few : word (stored p rest) 15 ≤ 16 = rw count_said r.writable.few in
      let long : length_said (stored p rest) ≡ length (octets_of s p) = sym (said_long s (stored p rest) fitting c.items_lie t few) ∙ ap (λ (q : Pdu). length (octets_of s q)) same in
      record { type_said = t; not_long = rw long r.writable.short; fitting = fitting; clean = c }

  -- WHAT WAS READ IS ACCEPTED, AND IS THE SAME
  pub again : judged_of (words_of p ++ rest) (length s) ≡ p
  again = given (stored p rest) (length s) all_passed ∙ same
