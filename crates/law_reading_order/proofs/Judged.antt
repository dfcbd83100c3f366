-- Conditions in order, over any list of them: a verdict by the first that holds is exact. Assumes nothing.
use mathlib.Core.Path.{◌≡◌, refl, sym, ap, ◌∙◌}
use mathlib.Core.List.{List, [], ◌∷◌}
use mathlib.Core.Bool.{true}
use mathlib.Core.Logic.{◌⊎◌, inl, inr}
use Rattle.base_numbers.specs.declared.Malformed.{Malformed}
use Rattle.codec_items.specs.Items.{Verdict}
use Rattle.std.specs.Prelude.{Ok, Err}
use Rattle.codec_pdu.specs.declared.Kind.TheVariants.{Wrong}
use Rattle.codec_pdu.specs.declared.Pdu.{Pdu}
use Rattle.codec_pdu.specs.Pdu.{sound_of, blank_pdu}
use Rattle.law_reading_order.specs.Order.{First, NoneHolds}

-- v says the first of the conditions that holds, or that none does
abbrev pub Judged : List (Type 0 × Malformed) → Verdict → Type 0
Judged [] v = v ≡ (Ok tt)
Judged (c ∷ cs) v = (c.0 × (v ≡ Err c.1)) ⊎ ((c.0 → ⊥) × Judged cs v)

-- what a verdict makes of a PDU
abbrev pub Answers : Verdict → Pdu → Type 0
Answers (Err d) p = p ≡ blank_pdu (Wrong d)
Answers (Ok tt) p = sound_of p.kind ≡ true

-- p is answered by the first of the conditions that holds
pub record Answered (cs : List (Type 0 × Malformed)) (p : Pdu) : Type 0 where
  pub verdict : Verdict
  pub judged : Judged cs verdict
  pub answers : Answers verdict p

pub holds : {C : Type 0} {d : Malformed} {cs : List (Type 0 × Malformed)} {p : Pdu} → C → p ≡ blank_pdu (Wrong d) → Answered ((C, d) ∷ cs) p
holds {d = d} c e = record { verdict = Err d; judged = inl (c, refl); answers = e }

pub passed : {C : Type 0} {d : Malformed} {cs : List (Type 0 × Malformed)} {p : Pdu} → (C → ⊥) → Answered cs p → Answered ((C, d) ∷ cs) p
passed n a = record { verdict = a.verdict; judged = inr (n, a.judged); answers = a.answers }

pub none_held : {p : Pdu} → sound_of p.kind ≡ true → Answered [] p
none_held e = record { verdict = Ok tt; judged = refl; answers = e }

pub bad_sound : {A : Type 0} (d : Malformed) → ◌≡◌ {A = Verdict} (Err d) (Ok tt) → A
bad_sound d e = absurd cc

same_bad : (d e : Malformed) → ◌≡◌ {A = Verdict} (Err d) (Err e) → e ≡ d
same_bad d e p = cc

module _ (v : Verdict) where
  pub first_of : (cs : List (Type 0 × Malformed)) (d : Malformed) → Judged cs v → v ≡ Err d → First cs d
  first_of [] d j e = bad_sound d (sym e ∙ j)
  first_of (c ∷ cs) d (inl j) e = inl (j.0, same_bad c.1 d (sym j.1 ∙ e))
  first_of (c ∷ cs) d (inr j) e = inr (j.0, first_of cs d j.1 e)

  pub of_first : (cs : List (Type 0 × Malformed)) (d : Malformed) → Judged cs v → First cs d → v ≡ Err d
  of_first [] d j f = absurd f
  of_first (c ∷ cs) d (inl j) (inl f) = j.1 ∙ ap Err (sym f.1)
  of_first (c ∷ cs) d (inl j) (inr f) = absurd (f.0 j.0)
  of_first (c ∷ cs) d (inr j) (inl f) = absurd (j.0 f.0)
  of_first (c ∷ cs) d (inr j) (inr f) = of_first cs d j.1 f.1

  pub none_of : (cs : List (Type 0 × Malformed)) → Judged cs v → v ≡ Ok tt → NoneHolds cs
  none_of [] j e = tt
  none_of (c ∷ cs) (inl j) e = bad_sound c.1 (sym j.1 ∙ e)
  none_of (c ∷ cs) (inr j) e = (j.0, none_of cs j.1 e)

  pub of_none : (cs : List (Type 0 × Malformed)) → Judged cs v → NoneHolds cs → v ≡ Ok tt
  of_none [] j n = j
  of_none (c ∷ cs) (inl j) n = absurd (n.0 j.0)
  of_none (c ∷ cs) (inr j) n = of_none cs j.1 n.1
