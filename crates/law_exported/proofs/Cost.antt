-- What one upload may cost, of the exported functions: over any session, and in the words that C sees. Assumes nothing.
use Prim.Native.Nat.{ℕ, ◌+◌, ◌≤◌, ◌<◌}
use native.Mathlib.Omega.{arith}
use mathlib.Core.Path.{◌≡◌, refl, sym, ap, subst, ◌∙◌}
use mathlib.Core.Bool.{false}
use mathlib.Core.List.{List}
use lib.ListN.{length, get_or}
use lib.Dec.{ltb}
use borrow.Author.Tests.{ltb-false}
use Rattle.std.specs.Prelude.{Ok}
use Rattle.base_layout.specs.Layout.{answer_size}
use Rattle.base_lists.specs.Seq.{put}
use Rattle.base_octets.proofs.StoredAndRead.{get_before, get_d_after, get_same}
use Rattle.table_layout.specs.Table.{settings_of}
use Rattle.table_layout.specs.declared.Settings.{Settings}
use Rattle.table_salvage.specs.Salvage.{list_salvaged}
use Rattle.law_salvage.specs.Sentences.{Salvaged}
use Rattle.law_salvage.proofs.Salvage.{salvage_says, salvage_settings}
use Rattle.step_shown.specs.declared.Shown.{Shown}
use Rattle.step_plan.specs.declared.Told.{Told}
use Rattle.step_plan.specs.declared.Step.{Step}
use Rattle.step_outcome.specs.Carry.{sent_then, carried_out, outcome}
use Rattle.c_answers.specs.Answers.{answer_number, answer_after, answer_words, cost_words, more_words, told_after}
use Rattle.c_answers.specs.declared.Cost.{Cost}
use Rattle.c_answers.specs.Handed.{plan_cost}
use Rattle.c_answers.proofs.Words.{thirty_two_words}
use Rattle.call_plans.specs.Calls.{plan_for, promised}
use Rattle.law_history.specs.Trace.{Entry}
use Rattle.law_history.specs.Start.{fresh, start_of}
use Rattle.law_history.specs.Cost.{cost_told}
use Rattle.law_invariant.proofs.Formed.{formed_inv}
use Rattle.law_cost.specs.Cost.{Costs}
use Rattle.law_cost.proofs.Through.{costs_through}
use Rattle.wtp.specs.Engine.{Called, costed, item_told}
use Rattle.law_exported.specs.Session.{Exported, Keeps, entry_for, Session, SalvagedSession}
use Rattle.law_exported.specs.Cost.{SeenCost}
use Rattle.law_exported.proofs.Exported.{seen_words, calls_run, follows}
use Rattle.law_exported.proofs.InTwo.{gives_0}

-- WHAT ONE UPLOAD MAY COST, from wtp_fresh on
pub exported_cost : {max : ℕ} {t s : List ℕ} {h : List Entry} → Session max t s h → Costs fresh.counts max t h
exported_cost {max} session = let f = follows session in costs_through fresh max f.inv f.run

-- and from wtp_salvage on, of the requests accepted after it
pub exported_cost_salvaged : {t₀ s₀ : List ℕ} {max : ℕ} {t s : List ℕ} {h : List Entry} → SalvagedSession t₀ s₀ max t s h → Costs (start_of t₀ s₀).counts max t h
exported_cost_salvaged {t₀} {s₀} {max} {t} {s} {h} (SalvagedSession.salvaged old list accepted is calls) =
    let says : Salvaged old list t₀ (list_salvaged old list) = rw is at (salvage_says old list accepted) in
    let same : settings_of t₀ ≡ settings_of old = rw is at (salvage_settings old list accepted) in
    let c : Costs (start_of t₀ s₀).counts (settings_of t₀).rcr_max t h = costs_through (start_of t₀ s₀) (settings_of t₀).rcr_max (formed_inv t₀ s₀ says.formed) (calls_run says.formed calls) in
    subst (λ (x : Settings). Costs (start_of t₀ s₀).counts x.rcr_max t h) same c

-- the two words of a cost lie between those of the turn and those that are told last
module _ (words : List ℕ) (room : answer_size ≤ length words) (cost : Cost) (sent : ℕ) (told : Told) (first second : Shown) (more : List ℕ) where
  abbrev whole : List ℕ
  whole = put (put (put words 32 (cost_words cost)) 0 (answer_words sent told first second)) 34 more

  at_word : (k : ℕ) → k < 2 → get_or whole (32 + k) 0 ≡ get_or (cost_words cost) k 0
  unfolding cost_words
  at_word k h =
      get_before more _ 34 (32 + k) (omega arith)
      ∙ get_d_after (answer_words sent told first second) _ 0 (32 + k) (rw (thirty_two_words sent told first second) (omega arith))
      ∙ get_same (cost_words cost) words 32 k (omega (arith, room)) h

module _ (x : Exported) (k : Keeps x) (accepted : x.seen.result ≡ 0) where
  pub gone : (ltb (length x.words) answer_size ≡ false) × ((step : Step) × (plan_for x.call x.lent ≡ Ok step))
  gone = gives_0 x.call x.lent x.words (sym (ap (λ (c : Called). c.result) k.keeps) ∙ accepted)

  abbrev cost : Cost
  cost = plan_cost x.lent.table (Ok gone.1.0)

  -- all words that C sees of an accepted call
  pub seen_is : x.seen.answer ≡ whole x.words (ltb-false _ _ gone.0) cost (length (sent_then x.lent gone.1.0)) gone.1.0.told gone.1.0.first gone.1.0.second (more_words (item_told x.call x.lent))
  unfolding promised outcome carried_out answer_number answer_after costed told_after
  seen_is = (seen_words x k gone.0).1 ∙ rw gone.1.1 refl

  told_is : cost_told (entry_for x) ≡ cost
  unfolding cost_told
  told_is = rw gone.1.1 refl

  seen_at : (j : ℕ) → j < 2 → get_or x.seen.answer (32 + j) 0 ≡ get_or (cost_words (cost_told (entry_for x))) j 0
  seen_at j h =
      ap (λ (w : List ℕ). get_or w (32 + j) 0) seen_is
      ∙ at_word x.words (ltb-false _ _ gone.0) cost (length (sent_then x.lent gone.1.0)) gone.1.0.told gone.1.0.first gone.1.0.second (more_words (item_told x.call x.lent)) j h
      ∙ ap (λ (c : Cost). get_or (cost_words c) j 0) (sym told_is)

  -- WORDS 32 AND 33
  pub seen_cost : SeenCost x
  unfolding cost_words
  seen_cost = record { word_32 = seen_at 0 (omega arith); word_33 = seen_at 1 (omega arith) }
