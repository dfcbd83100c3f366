-- Tests in two stages: the second counts only where the first accepts. Assumes nothing.
use mathlib.Core.Path.{◌≡◌, refl, sym, ap, ◌∙◌}
use mathlib.Core.List.{List, [], ◌∷◌, ◌++◌}
use mathlib.Core.Bool.{Bool, true, false}
use Rattle.std.specs.Prelude.{Result, Ok, Err}
use Rattle.base_lists.specs.Seq.{pick}
use Rattle.base_lists.proofs.StoresAndParts.{true_false}
use Rattle.base_numbers.specs.declared.Refusal.{Refusal}
use Rattle.call_refusal.specs.Judging.{Test, test, lowest}
use Rattle.call_refusal.proofs.Fits.{is_accept}

-- a second judgement after a first
abbrev pub next : Result Unit Refusal → Result Unit Refusal → Result Unit Refusal
next (Ok a) j = j
next (Err r) j = Err r

next_pick : (b : Bool) (r : Refusal) (i j : Result Unit Refusal) → pick b (Err r) (next i j) ≡ next (pick b (Err r) i) j
next_pick true r i j = refl
next_pick false r i j = refl

pub in_stages : (ts us : List Test) → lowest (ts ++ us) ≡ next (lowest ts) (lowest us)
unfolding lowest
in_stages [] us = refl
in_stages (t ∷ ts) us = rw (in_stages ts us) (next_pick t.holds t.number (lowest ts) (lowest us))

pub second_stage : (ts us : List Test) → Ok tt ≡ lowest ts → lowest (ts ++ us) ≡ lowest us
second_stage ts us e = in_stages ts us ∙ rw (sym e) refl

pub first_stage : (ts us : List Test) (r : Refusal) → Err r ≡ lowest ts → lowest (ts ++ us) ≡ Err r
first_stage ts us r e = in_stages ts us ∙ rw (sym e) refl

-- tests that accept in two stages accept in each
pub both_stages : (ts us : List Test) → lowest (ts ++ us) ≡ Ok tt → (lowest ts ≡ Ok tt) × (lowest us ≡ Ok tt)
both_stages ts us e = go (lowest ts) (sym (in_stages ts us) ∙ e)
  where
    go : (j : Result Unit Refusal) → next j (lowest us) ≡ Ok tt → (j ≡ Ok tt) × (lowest us ≡ Ok tt)
    go (Ok a) h = (refl, h)
    go (Err r) h = true_false (sym (ap is_accept h))

-- what a function gives that judges by the first stage and then, where that accepts, by the second
pub refused_first : (ts us : List Test) (r : Refusal) → Err r ≡ lowest ts → Err r ≡ lowest (ts ++ us)
refused_first ts us r e = sym (first_stage ts us r e)

pub then_judged : (ts us : List Test) (j : Result Unit Refusal) → Ok tt ≡ lowest ts → j ≡ lowest us → j ≡ lowest (ts ++ us)
then_judged ts us j e h = h ∙ sym (second_stage ts us e)

-- the same where the second stage is one test
pub then_refused : (ts : List Test) (r : Refusal) (b : Bool) → Ok tt ≡ lowest ts → b ≡ true → Err r ≡ lowest (ts ++ (test r b ∷ []))
unfolding lowest
then_refused ts r b e h = then_judged ts (test r b ∷ []) (Err r) e (rw h refl)

pub then_accepted : (ts : List Test) (r : Refusal) (b : Bool) → Ok tt ≡ lowest ts → b ≡ false → Ok tt ≡ lowest (ts ++ (test r b ∷ []))
unfolding lowest
then_accepted ts r b e h = then_judged ts (test r b ∷ []) (Ok tt) e (rw h refl)
