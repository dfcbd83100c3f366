-- Words that pass every test, and the parts of a verdict that finds no fault. Assumes nothing.
use Prim.Native.Nat.{ℕ, ◌≤◌}
use native.Mathlib.Omega.{arith}
use mathlib.Core.Path.{◌≡◌, refl, sym}
use mathlib.Core.List.{List}
use mathlib.Core.Bool.{Bool, true, false}
use lib.Dec.{ltb, eqb}
use borrow.Author.Tests.{ltb-false, eqb-false, le-ltb, ne_eqb}
use Rattle.base_lists.specs.Seq.{pick}
use Rattle.base_lists.proofs.StoresAndParts.{true_false}
use Rattle.base_numbers.specs.declared.Malformed.TheVariants.{D1, D2, D3, D4, D7}
use Rattle.base_numbers.specs.declared.Malformed.{Malformed}
use Rattle.base_numbers.specs.declared.Refusal.TheVariants.{WrongLength}
use Rattle.std.specs.Prelude.{Ok, Err}
use Rattle.codec_pdu.specs.Pdu.{sound_of, bare_of, blank_pdu}
use Rattle.codec_pdu.specs.declared.Kind.TheVariants.{Wrong, Refused}
use Rattle.codec_pdu.specs.declared.Pdu.{Pdu}
use Rattle.codec_said.specs.Said.{word, pdu_said}
use Rattle.codec_encoding.specs.Write.{or_else, kind_fault, rest_fault, fault_of}
use Rattle.codec_items.specs.Items.{Verdict}
use Rattle.codec_verdict.specs.Length.{length_said}
use Rattle.codec_verdict.specs.Widths.{fits}
use Rattle.codec_verdict.specs.Judge.{items_inside, fault_in, ruled, judged_of}
use Rattle.codec_verdict.proofs.Bounds.{Fitting, fits_tell, fits_hold}
use Rattle.codec_verdict.proofs.Types.{Typed, typed}

pub bad_sound : {A : Type 0} (d : Malformed) → ◌≡◌ {A = Verdict} (Err d) (Ok tt) → A
bad_sound d e = absurd cc

-- neither the kind nor an item nor what follows is at fault
pub record Faultless (n : ℕ) (p : Pdu) : Type 0 where
  pub kind_sound : kind_fault p.kind ≡ Ok tt
  pub items_lie : items_inside n p.list p.count ≡ true
  pub rest_sound : rest_fault p ≡ Ok tt

pub faultless : (n : ℕ) (p : Pdu) → fault_in n p ≡ Ok tt → Faultless n p
unfolding fault_in
faultless n p e = go (kind_fault p.kind) refl (items_inside n p.list p.count) refl e
  where
    go : (v : Verdict) → kind_fault p.kind ≡ v → (b : Bool) → items_inside n p.list p.count ≡ b → or_else v (pick b (rest_fault p) (Err D3)) ≡ Ok tt → Faultless n p
    go (Err d) k b i q = bad_sound d q
    go (Ok tt) k false i q = bad_sound D3 q
    go (Ok tt) k true i q = record { kind_sound = k; items_lie = i; rest_sound = q }

pub no_fault : (n : ℕ) (p : Pdu) → Faultless n p → fault_in n p ≡ Ok tt
unfolding fault_in
no_fault n p f = rw (f.kind_sound, f.items_lie, f.rest_sound)

-- what D4 and D7 leave
pub few_items : (p : Pdu) → rest_fault p ≡ Ok tt → p.count ≤ 16
unfolding rest_fault
few_items p e = go (ltb 16 p.count) refl e
  where
    go : (b : Bool) → ltb 16 p.count ≡ b → ◌≡◌ {A = Verdict} (pick b (Err D4) (pick (bare_of p.kind) (pick (eqb p.len 0) (Ok tt) (Err D7)) (Ok tt))) (Ok tt) → p.count ≤ 16
    go true t q = bad_sound D4 q
    go false t q = ltb-false 16 p.count t

pub sound_parts : (p : Pdu) → fault_of p ≡ Ok tt → (kind_fault p.kind ≡ Ok tt) × (rest_fault p ≡ Ok tt)
unfolding fault_of
sound_parts p e = go (kind_fault p.kind) refl e
  where
    go : (v : Verdict) → kind_fault p.kind ≡ v → or_else v (rest_fault p) ≡ Ok tt → (kind_fault p.kind ≡ Ok tt) × (rest_fault p ≡ Ok tt)
    go (Err d) k q = bad_sound d q
    go (Ok tt) k q = (k, q)

pub record Passed (w : List ℕ) (n : ℕ) : Type 0 where
  pub type_said : Typed (word w 0)
  pub not_long : length_said w ≤ 1500
  pub fitting : Fitting w n
  pub clean : Faultless n (pdu_said w)

module _ (w : List ℕ) (n : ℕ) where
  -- what is given back has a type only where every test is passed
  pub passed : sound_of (judged_of w n).kind ≡ true → Passed w n
  unfolding judged_of sound_of blank_pdu
  passed e = go (eqb (word w 0) 0) refl (ltb 7 (word w 0)) refl (ltb 1500 (length_said w)) refl (fits w n) refl (fault_in n (pdu_said w)) refl e
    where
      go : (a : Bool) → eqb (word w 0) 0 ≡ a → (b : Bool) → ltb 7 (word w 0) ≡ b → (c : Bool) → ltb 1500 (length_said w) ≡ c → (d : Bool) → fits w n ≡ d → (v : Verdict) → fault_in n (pdu_said w) ≡ v
          → sound_of (pick a (blank_pdu (Wrong D2)) (pick b (blank_pdu (Wrong D2)) (pick c (blank_pdu (Refused WrongLength)) (pick d (ruled v (pdu_said w)) (blank_pdu (Wrong D1)))))).kind ≡ true
          → Passed w n
      go true p b q c r d s v t e = true_false (sym e)
      go false p true q c r d s v t e = true_false (sym e)
      go false p false q true r d s v t e = true_false (sym e)
      go false p false q false r false s v t e = true_false (sym e)
      go false p false q false r true s (Err m) t e = true_false (sym e)
      go false p false q false r true s (Ok tt) t e = record {
        type_said = typed (word w 0) (eqb-false (word w 0) 0 p) (ltb-false 7 (word w 0) q);
        not_long = ltb-false 1500 (length_said w) r;
        fitting = fits_tell w n s;
        clean = faultless n (pdu_said w) t;
      }

  typed_small : Typed (word w 0) → (1 ≤ word w 0) × (word w 0 ≤ 7)
  typed_small (Typed.invoke e) = omega arith
  typed_small (Typed.result e) = omega arith
  typed_small (Typed.ack e) = omega arith
  typed_small (Typed.abort e) = omega arith
  typed_small (Typed.seg_invoke e) = omega arith
  typed_small (Typed.seg_result e) = omega arith
  typed_small (Typed.nack e) = omega arith

  -- where every test is passed, the PDU said is given back
  pub given : Passed w n → judged_of w n ≡ pdu_said w
  unfolding judged_of
  given p =
      let t = typed_small p.type_said in
      rw (ne_eqb (word w 0) 0 (λ e. omega (arith, t)), le-ltb 7 (word w 0) t.1, le-ltb 1500 (length_said w) p.not_long, fits_hold w n p.fitting, no_fault n (pdu_said w) p.clean)
