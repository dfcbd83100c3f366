-- A sound PDU, by its header, its items and its user data. Assumes nothing.
use Prim.Native.Nat.{ℕ, ◌+◌, ◌-◌, ◌<◌, ◌≤◌}
use native.Mathlib.Omega.{arith}
use borrow.Author.Tests.{eqb-true}
use mathlib.Core.Path.{◌≡◌, refl, sym, ap, ◌∙◌}
use mathlib.Core.List.{List}
use mathlib.Core.Bool.{Bool, true, false}
use mathlib.Core.Logic.{inl, inr}
use lib.ListN.{length, drop, length-drop, drop_of_length-le}
use lib.Seq.{take_all}
use lib.Dec.{eqb}
use Rattle.base_lists.specs.Seq.{part}
use Rattle.base_lists.proofs.StoresAndParts.{true_false}
use Rattle.base_numbers.specs.declared.Malformed.TheVariants.{D7}
use Rattle.std.specs.Prelude.{Ok}
use Rattle.codec_pdu.specs.declared.Kind.TheVariants.{Wrong}
use Rattle.codec_pdu.specs.declared.Pdu.{Pdu}
use Rattle.codec_pdu.specs.Pdu.{sound_of, bare_of, blank_pdu}
use Rattle.codec_reading.specs.Read.{type_of, whole, items_after, finished, after_head, pdu_of}
use Rattle.codec_reading.proofs.Inside.{items_inside_holds}
use Rattle.law_reading_order.specs.Layout.{fixed_length}
use Rattle.law_reading_order.specs.Order.{WrongType, ClassThree, AbortTypeOver, conditions, NoneHolds, OutsideLength}
use Rattle.law_reading_order.proofs.Heads.{Good, header, header_good}
use Rattle.law_reading_order.proofs.Walks.{found, Outcome, found_outcome}
use Rattle.law_reading_order.proofs.Verdicts.{head_whole, after_sound}
use Rattle.law_reading_order.proofs.Order.{first_that_holds, pdu_inside}
use Rattle.law_writes_back.specs.WritesBack.{Octets}
use Rattle.law_writes_back.proofs.Walk.{octet}
use Rattle.law_writes_back.proofs.Header.{HeaderBack, three_octets, header_of}

pub record View (b : List ℕ) : Type 0 where
  pub inside : OutsideLength b → ⊥
  pub type_right : WrongType b → ⊥
  pub header_whole : fixed_length b ≤ length b
  pub header_sound : sound_of (header b).kind ≡ true
  pub items_sound : (found b).verdict ≡ Ok tt
  pub start : ℕ
  pub len : ℕ
  pub read : pdu_of b ≡ whole (header b) (found b) start len
  pub user : part b start len ≡ drop (found b).end b
  pub user_fits : start + len ≤ length b
  pub bare : bare_of (header b).kind ≡ true → (start ≡ 0) × (len ≡ 0)

module _ (b : List ℕ) (sound : sound_of (pdu_of b).kind ≡ true) where
  -- of the conditions D1 to D7 none holds
  abbrev none : (OutsideLength b → ⊥) × NoneHolds (conditions b)
  none = (first_that_holds b).sound.0 sound

  right : WrongType b → ⊥
  right = none.1.0

  uncut : fixed_length b ≤ length b
  uncut = let n : length b < fixed_length b → ⊥ = none.1.1.0 in omega arith

  class : ClassThree b → ⊥
  class = none.1.1.1.0

  abort : AbortTypeOver b → ⊥
  abort = none.1.1.1.1.0

  found_sound : Outcome b (found b) → (found b).verdict ≡ Ok tt
  unfolding Outcome
  found_sound (inl o) = absurd (none.1.1.1.1.1.0 o.1)
  found_sound (inr (inl o)) = absurd (none.1.1.1.1.1.1.0 o.1)
  found_sound (inr (inr o)) = o.0

  good : Good (type_of b) (header b).kind
  good = header_good b right class abort

  verdict : (found b).verdict ≡ Ok tt
  verdict = found_sound (found_outcome b)

  read_as : pdu_of b ≡ finished b (header b) (found b)
  read_as = pdu_inside b none.0 ∙ ap (after_head b) (head_whole b right uncut) ∙ after_sound b good.sound

  end_inside : (found b).end ≤ length b
  unfolding items_after
  end_inside = items_inside_holds b (header b) uncut

  -- with the user data from `start` on
  made : (start len : ℕ) → finished b (header b) (found b) ≡ whole (header b) (found b) start len → part b start len ≡ drop (found b).end b → start + len ≤ length b
      → (bare_of (header b).kind ≡ true → (start ≡ 0) × (len ≡ 0)) → View b
  made start len r u f e = record {
    inside = none.0;
    type_right = right;
    header_whole = uncut;
    header_sound = good.sound;
    items_sound = verdict;
    start = start;
    len = len;
    read = read_as ∙ r;
    user = u;
    user_fits = f;
    bare = e;
  }

  pub view : View b
  unfolding finished sound_of blank_pdu
  view = go (bare_of (header b).kind) refl (eqb (length b - (found b).end) 0) refl
    where
      go : (t : Bool) → bare_of (header b).kind ≡ t → (u : Bool) → eqb (length b - (found b).end) 0 ≡ u → View b
      go true p true q =
          let l : length b ≤ (found b).end = omega (arith, eqb-true (length b - (found b).end) 0 q) in
          made 0 0 (rw (verdict, p, q)) (sym (drop_of_length-le b l)) (omega arith) (λ k. (refl, refl))
      go true p false q =
          let e : finished b (header b) (found b) ≡ blank_pdu (Wrong D7) = rw (verdict, p, q) in
          true_false (sym sound ∙ ap (λ (p : Pdu). sound_of p.kind) (read_as ∙ e))
      go false p u q = made (found b).end (length b - (found b).end) (rw (verdict, p)) (take_all (length b - (found b).end) (drop (found b).end b) (rw length-drop (omega arith))) (omega (arith, end_inside)) (λ k. true_false (sym k ∙ p))

  pub header_view : Octets b → HeaderBack (type_of b) b
  header_view octets = header_of (three_octets b uncut) (octet b octets) right uncut class abort
