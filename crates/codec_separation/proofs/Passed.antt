-- What the separating loop keeps: the parts passed, and the parts from where it stands, are those of the datagram. Assumes nothing.
use Prim.Native.Nat.{ℕ, zero, suc, ◌+◌, ◌<◌, ◌≤◌}
use native.Mathlib.Omega.{arith}
use borrow.Author.Tests.{eqb-true, eqb-false}
use mathlib.Core.Path.{◌≡◌, refl, sym, ap, ◌∙◌}
use mathlib.Core.List.{List, [], ◌∷◌, ◌++◌}
use mathlib.Core.Bool.{Bool, true, false}
use Rattle.std.specs.Prelude.{Some, None, Result, Ok}
use lib.ListN.{length, get_or, length-append}
use lib.Seq.{get_or-append_seam}
use lib.Dec.{eqb}
use Rattle.base_lists.specs.Seq.{pick}
use Rattle.base_numbers.specs.declared.Refusal.{Refusal}
use Rattle.codec_separation.specs.declared.Parts.{Parts}
use Rattle.codec_separation.specs.Separate.{Split, refused, parts, part_at, before, no_part, answer_at}
use Rattle.codec_separation.specs.declared.Part.{Part}
use Rattle.codec_separation.specs.Counting.{counted}
use Rattle.codec_separation.proofs.Steps.{found_inside, from, from_end, from_step}

-- parts before the others
abbrev after : List Part → Split → Split
after [] s = s
after (p ∷ ps) s = before p (after ps s)

after_refused : (ps : List Part) → after ps refused ≡ refused
after_refused [] = refl
after_refused (p ∷ ps) = rw (after_refused ps)

after_none : (ps : List Part) → after ps (parts []) ≡ parts ps
after_none [] = refl
after_none (p ∷ ps) = rw (after_none ps)

after_snoc : (ps : List Part) (p : Part) (s : Split) → after (ps ++ p ∷ []) s ≡ after ps (before p s)
after_snoc [] p s = refl
after_snoc (q ∷ ps) p s = ap (before q) (after_snoc ps p s)

-- how many parts there are, and the k-th of them
abbrev seen_of : List Part → ℕ → Parts
seen_of ps k = record { count = length ps; part = get_or ps k no_part }

other : (ps : List Part) (p : Part) (k : ℕ) → (length ps ≡ k → ⊥) → get_or (ps ++ p ∷ []) k no_part ≡ get_or ps k no_part
other [] p zero h = absurd (h refl)
other [] p (suc k) h = refl
other (q ∷ ps) p zero h = refl
other (q ∷ ps) p (suc k) h = other ps p k (λ e. h (ap suc e))

seen_more : (ps : List Part) (k : ℕ) (p : Part) → counted (seen_of ps k) k p ≡ seen_of (ps ++ p ∷ []) k
unfolding counted
seen_more ps k p = go (eqb (length ps) k) refl
  where
    more : length ps + 1 ≡ length (ps ++ p ∷ [])
    more = sym (length-append ps (p ∷ []))

    go : (b : Bool) → eqb (length ps) k ≡ b → record { count = length ps + 1; part = pick b p (get_or ps k no_part) } ≡ seen_of (ps ++ p ∷ []) k
    go true e = rw (← more, ← eqb-true (length ps) k e, get_or-append_seam ps p [] no_part)
    go false e = rw (← more, other ps p k (eqb-false (length ps) k e))

-- the parts passed before `at`, of which the loop keeps the k-th
pub record Passed (d : List ℕ) (k : ℕ) (seen : Parts) (at : ℕ) : Type 0 where
  pub passed : List Part
  pub rest : from d 1 ≡ after passed (from d at)
  pub kept : seen ≡ seen_of passed k
  pub few : length passed < at
  pub within : at ≤ length d

pub passed_none : (d : List ℕ) (k : ℕ) → 1 ≤ length d → Passed d k (record { count = 0; part = no_part }) 1
passed_none d k h = record { passed = []; rest = refl; kept = refl; few = omega arith; within = h }

module _ {d : List ℕ} {k : ℕ} {seen : Parts} {at : ℕ} (h : at < length d) (v : Passed d k seen at) where
  pub passed_more : (p : Part) → part_at d at ≡ Some p → Passed d k (counted seen k p) (p.start + p.len)
  passed_more p e =
      let i = found_inside d at p h e in
      record {
        passed = v.passed ++ p ∷ [];
        rest = v.rest ∙ ap (after v.passed) (from_step d at h ∙ rw e) ∙ sym (after_snoc v.passed p (from d (p.start + p.len)));
        kept = rw v.kept (seen_more v.passed k p);
        few = rw (length-append v.passed (p ∷ [])) (omega arith);
        within = i.fits;
      }

  pub passed_cut : part_at d at ≡ None → from d 1 ≡ refused
  passed_cut e = v.rest ∙ ap (after v.passed) (from_step d at h ∙ rw e) ∙ after_refused v.passed

pub passed_all : {d : List ℕ} {k : ℕ} {seen : Parts} {at : ℕ} → length d ≤ at → (v : Passed d k seen at) → from d 1 ≡ parts v.passed
passed_all {d} {k} {seen} {at} h v = v.rest ∙ ap (after v.passed) (from_end d at h) ∙ after_none v.passed

pub passed_few : {d : List ℕ} {k : ℕ} {seen : Parts} {at : ℕ} → Passed d k seen at → seen.count < at
passed_few v = rw v.kept v.few

-- at the end of the datagram the parts passed are all of them
pub passed_answer : {d : List ℕ} {k : ℕ} {seen : Parts} {at : ℕ} → length d ≤ at → Passed d k seen at → ◌≡◌ {A = Result Parts Refusal} (Ok seen) (answer_at (from d 1) k)
passed_answer h v = rw (v.kept, passed_all h v)
