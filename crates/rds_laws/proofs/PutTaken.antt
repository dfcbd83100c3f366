-- Promise 5: a datagram of 1 to 1,500 octets that was put into a UI frame is taken out of it, the same octets, with and without ports. Assumes nothing.
use Prim.Native.Nat.{ℕ, suc, ◌+◌, ◌-◌, ◌*◌, ◌/◌, ◌%◌, ◌≤◌, ◌<◌}
use native.Mathlib.Omega.{arith}
use mathlib.Core.Path.{◌≡◌, refl, sym, ap, ◌∙◌}
use mathlib.Core.List.{List, ◌∷◌}
use Rattle.std.specs.Prelude.{Some}
use mathlib.Core.Bool.{Bool, true, false}
use lib.ListN.{length, drop, replicate}
use lib.Seq.{take-length}
use lib.Dec.{ltb, leb, eqb}
use borrow.Author.Tests.{ltb-false, leb-true, eqb-true, lt-leb, le-leb, eq-eqb, ne_eqb}
use Rattle.base_lists.specs.Seq.{pick}
use Rattle.base_lists.proofs.StoresAndParts.{true_false}
use Rattle.rds_frame.specs.declared.Kind.TheVariants as K
use Rattle.rds_frame.specs.declared.Head.{Head}
use Rattle.rds_frame.specs.Frame.{head_of, ports_after}
use Rattle.rds_body.specs.declared.Body.TheVariants as B
use Rattle.rds_entries.specs.Entries.{no_entry}
use Rattle.rds_body.specs.Body.{no_list}
use Rattle.rds_reading.specs.Read.{frame_of, body_after, body_by}
use Rattle.rds_words.specs.Words.{part_words, part_by}
use Rattle.rds_datagram.specs.Put.{fit_of, head_octets, frame_octets}
use Rattle.rds_laws.specs.Trips.{Taken}

-- what fits: number and ports, and without a ports octet both ports 0
fits_ports : (s d n : ℕ) → fit_of true s d n ≡ true → (s ≤ 15) × (d ≤ 15) × (n ≤ 7)
unfolding fit_of
fits_ports s d n = go (ltb 7 n) refl (ltb 15 s) refl where
  go : (a : Bool) → ltb 7 n ≡ a → (b : Bool) → ltb 15 s ≡ b → pick a false (pick b false (leb d 15)) ≡ true → (s ≤ 15) × (d ≤ 15) × (n ≤ 7)
  go true p b q e = true_false (sym e)
  go false p true q e = true_false (sym e)
  go false p false q e = (ltb-false 15 s q, leb-true d 15 e, ltb-false 7 n p)

fits_none : (s d n : ℕ) → fit_of false s d n ≡ true → (s ≡ 0) × (d ≡ 0) × (n ≤ 7)
unfolding fit_of
fits_none s d n = go (ltb 7 n) refl (eqb s 0) refl where
  go : (a : Bool) → ltb 7 n ≡ a → (b : Bool) → eqb s 0 ≡ b → pick a false (pick b (eqb d 0) false) ≡ true → (s ≡ 0) × (d ≡ 0) × (n ≤ 7)
  go true p b q e = true_false (sym e)
  go false p true q e = (eqb-true s 0 q, eqb-true d 0 e, ltb-false 7 n p)
  go false p false q e = true_false (sym e)

-- the header of a UI frame with number n, and ports where ADS is 1
abbrev ui_head : Bool → ℕ → ℕ → ℕ → ℕ → Head
ui_head ads s d n end = record { kind = K.Ui n; ads = ads; source = s; destination = d; end = end }

module _ (t : List ℕ) (network : Bool) (n : ℕ) (nf : n ≤ 7) where
  head_plain : head_of ((64 + n % 8) ∷ t) network ≡ Some (ui_head false 0 0 n 1)
  unfolding head_of ports_after
  head_plain =
      let some : suc (length t) ≡ 0 → ⊥ = λ h. omega arith in
      let low : 64 + n % 8 < 128 = omega arith in
      let ui : (64 + n % 8) / 32 ≡ 2 = omega arith in
      let no_ads : (64 + n % 8) / 8 % 2 ≡ 1 → ⊥ = λ h. omega arith in
      let nu : (64 + n % 8) % 8 ≡ n = omega arith in
      simp (ne_eqb _ _ some, lt-leb _ _ low, eq-eqb _ _ ui, ne_eqb _ _ no_ads) (ap (λ (x : ℕ). Some (ui_head false 0 0 x 1)) nu)

  module _ (s d : ℕ) (sf : s ≤ 15) (df : d ≤ 15) where
    head_ports : head_of ((72 + n % 8) ∷ (s % 16 * 16 + d % 16) ∷ t) network ≡ Some (ui_head true s d n 2)
    unfolding head_of ports_after
    head_ports =
        let some : suc (suc (length t)) ≡ 0 → ⊥ = λ h. omega arith in
        let low : 72 + n % 8 < 128 = omega arith in
        let ui : (72 + n % 8) / 32 ≡ 2 = omega arith in
        let ads : (72 + n % 8) / 8 % 2 ≡ 1 = omega arith in
        let nu : (72 + n % 8) % 8 ≡ n = omega arith in
        let from : (s % 16 * 16 + d % 16) / 16 ≡ s = omega arith in
        let to : (s % 16 * 16 + d % 16) % 16 ≡ d = omega arith in
        let long : 1 < suc (suc (length t)) = omega arith in
        simp (ne_eqb _ _ some, lt-leb _ _ low, eq-eqb _ _ ui, eq-eqb _ _ ads, lt-leb _ _ long) (λ i. Some (record { kind = K.Ui (nu i); ads = true; source = from i; destination = to i; end = 2 }))

-- a frame whose header is that of a UI frame, and which is not too long, is sound, and this is taken of it
taken : (f t : List ℕ) (network ads : Bool) (s d n end : ℕ) → head_of f network ≡ Some (ui_head ads s d n end) → length f - end ≡ length t → length t ≤ 1500 → drop end f ≡ t
    → Taken f t network ads s d n end
unfolding frame_of body_after body_by no_list part_words part_by
taken f t network ads s d n end h l m e = record {
  frame = record { head = ui_head ads s d n end; body = B.Information end (length t); list = replicate 15 no_entry };
  sound = rw (h, l, le-leb (length t) 1520 (omega arith)) refl;
  words = rw l refl;
  same = rw e (take-length t);
}

-- promise 5
pub put_taken : (t : List ℕ) (network ports : Bool) (s d n : ℕ) → fit_of ports s d n ≡ true → length t ≤ 1500
    → Taken (frame_octets t ports s d n) t network ports s d n (length (head_octets ports s d n))
unfolding head_octets
put_taken t network true s d n fits m =
    let k = fits_ports s d n fits in
    taken _ t network true s d n 2 (head_ports t network n k.2 s d k.0 k.1) (omega arith) m refl
put_taken t network false s d n fits m =
    let k = fits_none s d n fits in
    taken _ t network false s d n 1 (head_plain t network n k.2 ∙ rw (k.0, k.1) refl) (omega arith) m refl
