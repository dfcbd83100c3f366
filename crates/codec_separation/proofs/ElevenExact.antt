-- Number 11 is given exactly where the octets are at fault. Assumes nothing.
use Prim.Native.Nat.{ℕ, zero, suc, ◌+◌, ◌<◌, ◌≤◌}
use native.Mathlib.Omega.{arith}
use borrow.Author.Tests.{ltb-true, ltb-false}
use mathlib.Core.Path.{◌≡◌, refl, sym, ◌∙◌}
use mathlib.Core.List.{List, [], ◌∷◌}
use mathlib.Core.Bool.{Bool, true, false}
use mathlib.Core.Logic.{◌↔◌}
use Rattle.std.specs.Prelude.{Option, None}
use lib.ListN.{length, get_or}
use lib.Dec.{ltb}
use Rattle.codec_separation.specs.Separate.{Split, refused, parts, part_at, before, and_then, whole, parts_of}
use Rattle.codec_separation.specs.declared.Part.{Part}
use Rattle.codec_separation.specs.Faults.{Reached, first, next, Faulty, empty, over, no_pdu_holds, zero_length, overrun, cut_length}
use Rattle.codec_separation.proofs.Looks.{Look, cut, none, more, there, announced_at, look, found_there, found_zero, found_over, found_cut}
use Rattle.codec_separation.proofs.Steps.{from, from_end, from_step}
use Rattle.codec_separation.proofs.Ways.{Way, way, refused_parts}

parts_refused {ℓ} : {A : Type ℓ} (ps : List Part) → parts ps ≡ refused → A
parts_refused ps e = refused_parts ps (sym e)

module _ (d : List ℕ) where
  rest_refused : (p : Part) (s : Split) → before p s ≡ refused → s ≡ refused
  rest_refused p refused e = refl
  rest_refused p (parts ps) e = parts_refused (p ∷ ps) e

  fault_from : get_or d 0 0 ≡ 0 → (m at : ℕ) → length d ≤ at + m → Reached d at → from d at ≡ refused → Faulty d
  fault_from z zero at h r e = parts_refused [] (sym (from_end d at (omega arith)) ∙ e)
  fault_from z (suc m) at h r e = go (fault_from z m) (ltb at (length d)) refl
    where
      look_on : ((at : ℕ) → length d ≤ at + m → Reached d at → from d at ≡ refused → Faulty d) → (g : Option Part) → Look d at g → and_then (from d) g ≡ refused → Faulty d
      look_on ih g (cut a b) e = cut_length z r a b
      look_on ih g (none a) e = zero_length z r a
      look_on ih g (more a b) e = overrun z r a b
      look_on ih g (there {s = s} {l = l} a b f) e =
          ih (s + l) (omega (arith, (announced_at a).0)) (next r a b f) (rest_refused (record { start = s; len = l }) (from d (s + l)) e)

      go : ((at : ℕ) → length d ≤ at + m → Reached d at → from d at ≡ refused → Faulty d) → (b : Bool) → ltb at (length d) ≡ b → Faulty d
      go ih true q =
          let lt = ltb-true at (length d) q in
          look_on ih (part_at d at) (look d at lt) (sym (from_step d at lt) ∙ e)
      go ih false q = parts_refused [] (sym (from_end d at (ltb-false at (length d) q)) ∙ e)

  reached_back : {at : ℕ} → Reached d at → from d at ≡ refused → from d 1 ≡ refused
  reached_back first e = e
  reached_back (next {at = at} {start = s} {len = l} r a h f) e =
      reached_back r (from_step d at (omega (arith, announced_at a)) ∙ rw (found_there a h f, e))

  stopped : {at : ℕ} → Reached d at → at < length d → part_at d at ≡ None → from d 1 ≡ refused
  stopped {at} r h e = reached_back r (from_step d at h ∙ rw e)

  -- law: a datagram gets 11 exactly when its length is outside 1 to 1,500, or it has no PDU, or a zero length, an overrun or a cut length is reached
  pub refused_exactly : (parts_of d ≡ refused) ↔ Faulty d
  refused_exactly = (λ e. there_is (parts_of d) (way d) e, λ f. so (parts_of d) (way d) f)
    where
      there_is : (s : Split) → Way d s → s ≡ refused → Faulty d
      there_is s (Way.empty z) e = empty z
      there_is s (Way.long z) e = over z
      there_is s (Way.bare h z) e = no_pdu_holds z h
      there_is s (Way.plain h b z) e = parts_refused (whole d ∷ []) e
      there_is s (Way.listed h b z) e = fault_from z (length d) 1 (omega arith) first e

      plain_sound : 1 ≤ length d → length d ≤ 1500 → (get_or d 0 0 ≡ 0 → ⊥) → Faulty d → ⊥
      plain_sound h b n (empty z) = omega arith
      plain_sound h b n (over z) = omega arith
      plain_sound h b n (no_pdu_holds z e) = n z
      plain_sound h b n (zero_length z r a) = n z
      plain_sound h b n (overrun z r a c) = n z
      plain_sound h b n (cut_length z r a c) = n z

      listed_refused : 1 < length d → length d ≤ 1500 → Faulty d → from d 1 ≡ refused
      listed_refused h b (empty z) = absurd (omega arith)
      listed_refused h b (over z) = absurd (omega arith)
      listed_refused h b (no_pdu_holds z e) = absurd (omega arith)
      listed_refused h b (zero_length z r a) = stopped r (omega (arith, announced_at a)) (found_zero a refl)
      listed_refused h b (overrun z r a c) = stopped r (omega (arith, announced_at a)) (found_over a c)
      listed_refused h b (cut_length {at = at} z r a c) = stopped r (omega arith) (found_cut d at a c)

      so : (s : Split) → Way d s → Faulty d → s ≡ refused
      so s (Way.empty z) f = refl
      so s (Way.long z) f = refl
      so s (Way.bare h z) f = refl
      so s (Way.plain h b z) f = absurd (plain_sound h b z f)
      so s (Way.listed h b z) f = listed_refused h b f
