-- What the planning loop keeps, and what it then answers. Assumes nothing.
use Prim.Native.Nat.{ℕ, suc, ◌+◌, ◌-◌, ◌<◌, ◌≤◌}
use native.Mathlib.Omega.{arith}
use borrow.Author.Tests.{ltb-false, leb-true, le-leb, le-ltb, eqb-false, ne_eqb}
use mathlib.Core.Path.{◌≡◌, refl, sym, ap, ◌∙◌}
use mathlib.Core.List.{List}
use mathlib.Core.Bool.{Bool, true, false}
use Rattle.std.specs.Prelude.{Ok, Err}
use lib.ListN.{length, get_or, drop_of_length-le}
use lib.Dec.{ltb, leb, eqb}
use Rattle.base_lists.specs.Seq.{pick}
use Rattle.base_lists.proofs.StoresAndParts.{true_false, not_so}
use Rattle.base_numbers.specs.declared.Refusal.TheVariants.{WrongLength}
use Rattle.codec_joining.specs.Join.{length_octets, each_in_range, sum, joinable, planned_answer}
use Rattle.codec_joining.specs.Fitting.{fits_in}
use Rattle.codec_joining.specs.Joinable.{size}
use Rattle.codec_joining.proofs.Sizes.{length_listed, joinable_facts, facts_joinable}
use Rattle.codec_joining.proofs.Remaining.{Left, left_none, left_next, left_more}

module _ (n left room : ℕ) where
  abbrev Fits : Type 0
  Fits = (1 ≤ n) × (n ≤ left) × (length (length_octets n) + n ≤ room)

  pub fits_facts : fits_in n left room ≡ true → Fits
  unfolding fits_in
  fits_facts e = go (eqb n 0) refl (ltb left n) refl (ltb room n) refl e
    where
      go : (a : Bool) → eqb n 0 ≡ a → (b : Bool) → ltb left n ≡ b → (c : Bool) → ltb room n ≡ c
          → pick a false (pick b false (pick c false (leb (length (length_octets n)) (room - n)))) ≡ true → Fits
      go true p b q c r e = true_false (sym e)
      go false p true q c r e = true_false (sym e)
      go false p false q true r e = true_false (sym e)
      go false p false q false r e =
          let z = eqb-false n 0 p in
          (omega arith, ltb-false left n q, omega (arith, leb-true (length (length_octets n)) (room - n) e, ltb-false room n r))

  facts_fits : Fits → fits_in n left room ≡ true
  unfolding fits_in
  facts_fits f =
      let z = ne_eqb n 0 (λ e. omega arith) in
      simp (z, le-ltb left n f.1, le-ltb room n (omega arith), le-leb (length (length_octets n)) (room - n) (omega arith))

-- after i PDUs, `left` octets are still to be joined and the datagram has `room` left
pub record Planned (bytes lengths : List ℕ) (left room i : ℕ) : Type 0 where
  pub used : ℕ
  pub taken : ℕ
  pub lent : used + left ≡ length bytes
  pub free : taken + room ≡ 1499
  pub upto : i ≤ length lengths
  pub rest : Left lengths i used taken

pub planned_none : (bytes lengths : List ℕ) → Planned bytes lengths (length bytes) 1499 0
planned_none bytes lengths = record { used = 0; taken = 0; lent = omega arith; free = refl; upto = omega arith; rest = left_none lengths }

refused_answer : (bytes lengths : List ℕ) → (joinable bytes lengths ≡ true → ⊥) → Err WrongLength ≡ planned_answer bytes lengths
unfolding planned_answer
refused_answer bytes lengths f = rw (not_so (joinable bytes lengths) f)

pub no_pdu_holds : (bytes lengths : List ℕ) → length lengths ≡ 0 → Err WrongLength ≡ planned_answer bytes lengths
no_pdu_holds bytes lengths e = refused_answer bytes lengths (λ t. omega (arith, (joinable_facts bytes lengths t).some))

module _ {bytes lengths : List ℕ} {left room i : ℕ} (v : Planned bytes lengths left room i) where
  abbrev n : ℕ
  n = get_or lengths i 0

  pub planned_more : i < length lengths → fits_in n left room ≡ true → Planned bytes lengths (left - n) (room - n - length (length_octets n)) (i + 1)
  planned_more h e =
      let f = fits_facts n left room e in
      record {
        used = v.used + n;
        taken = v.taken + (length (length_octets n) + n);
        lent = omega (arith, v.lent, f);
        free = omega (arith, v.free, f);
        upto = omega arith;
        rest = left_more lengths i h v.used v.taken v.rest f.0 (omega (arith, v.free, f));
      }

  -- the first PDU that doesn't fit shows that they can't be joined
  pub planned_stop : i < length lengths → fits_in n left room ≡ false → Err WrongLength ≡ planned_answer bytes lengths
  planned_stop h e = refused_answer bytes lengths λ t.
      let j = joinable_facts bytes lengths t in
      let w = left_next lengths i h v.used v.taken v.rest in
      let r = w.range j.each in
      true_false (sym (facts_fits n left room (r.0, omega (arith, v.lent, w.sums, j.adds), omega (arith, v.free, w.sizes, j.short))) ∙ e)

  module _ (h : length lengths ≤ i) where
    all_used : sum lengths ≡ v.used
    unfolding sum
    all_used = omega (arith, v.rest.sums, ap sum (drop_of_length-le lengths h))

    all_taken : size lengths ≡ v.taken
    all_taken = omega (arith, v.rest.sizes, ap size (drop_of_length-le lengths h))

    all_in_range : each_in_range lengths ≡ true
    unfolding each_in_range
    all_in_range = v.rest.each ∙ ap each_in_range (drop_of_length-le lengths h)

    planned_all : (length lengths ≡ 0 → ⊥) → left ≡ 0 → Ok (1500 - room) ≡ planned_answer bytes lengths
    unfolding planned_answer
    planned_all s e =
        let j = facts_joinable bytes lengths (record { some = omega arith; each = all_in_range; adds = omega (arith, all_used, v.lent); short = omega (arith, all_taken, v.free) }) in
        let l = length_listed lengths bytes (omega (arith, all_used, v.lent)) in
        let same : 1500 - room ≡ suc (size lengths) = omega (arith, all_taken, v.free) in
        rw (j, l, same)

    planned_left : (left ≡ 0 → ⊥) → Err WrongLength ≡ planned_answer bytes lengths
    planned_left s = refused_answer bytes lengths λ t. omega (arith, (joinable_facts bytes lengths t).adds, all_used, v.lent)

-- `Planned`, and what is answered once every PDU was met: facts of the loop, so that no proof names the test that ends it
pub record Planning (bytes lengths : List ℕ) (left room i : ℕ) : Type 0 where
  pub planned : Planned bytes lengths left room i
  pub whole : length lengths ≤ i → (length lengths ≡ 0 → ⊥) → left ≡ 0 → Ok (1500 - room) ≡ planned_answer bytes lengths
  pub part : length lengths ≤ i → (left ≡ 0 → ⊥) → Err WrongLength ≡ planned_answer bytes lengths

pub planning : {bytes lengths : List ℕ} → {left room i : ℕ} → Planned bytes lengths left room i → Planning bytes lengths left room i
planning v = record { planned = v; whole = planned_all v; part = planned_left v }
