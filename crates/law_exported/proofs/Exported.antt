-- Demand 3 holds of any calls of the exported functions, and TIDnew is sent as 02, L2, says. Assumes nothing.
use Prim.Native.Nat.{ℕ}
use mathlib.Core.Path.{◌≡◌, refl, ap, subst, ◌∙◌}
use mathlib.Core.Bool.{Bool, true, false}
use mathlib.Core.List.{List, [], ◌∷◌}
use mathlib.Core.Logic.{◌⊎◌, inl, inr}
use lib.ListN.{length}
use lib.Dec.{ltb}
use Rattle.base_layout.specs.Layout.{answer_size}
use Rattle.base_lists.specs.Seq.{pick}
use Rattle.table_record.specs.declared.State.TheVariants.{Free}
use Rattle.table_layout.specs.Table.{record_at, settings_of, tidnew_due_of}
use Rattle.table_layout.specs.declared.Settings.{Settings}
use Rattle.table_well_formed.specs.WellFormed.{WellFormed}
use Rattle.table_salvage.specs.Salvage.{salvage_number, table_salvaged, list_salvaged}
use Rattle.law_salvage.specs.Sentences.{Salvaged}
use Rattle.law_salvage.proofs.Salvage.{number_0, refused_same, salvage_says, salvage_settings, formed_unchanged}
use Rattle.table_fresh.specs.Fresh.{table_after_fresh}
use Rattle.std.specs.Prelude.{Result, Ok, Err}
use Rattle.base_numbers.specs.declared.Refusal.{Refusal}
use Rattle.law_fresh_formed.proofs.Formed.{fresh_ok}
use Rattle.call_plans.specs.Calls.{plan_for, promised}
use Rattle.law_history.specs.Trace.{Entry, Run, Throughout}
use Rattle.law_history.specs.Start.{fresh, start_of}
use Rattle.law_history.specs.Demand.{Demand3}
use Rattle.law_invariant.specs.Invariant.{Inv}
use Rattle.law_invariant.proofs.Fresh.{made_inv}
use Rattle.law_invariant.proofs.Names.{same_number}
use Rattle.law_invariant.proofs.Through.{formed_through}
use Rattle.law_data_shown.proofs.Throughout.{cells_of_none}
use Rattle.law_demand_3.proofs.Demand.{demand_3_from, demand_3_salvaged}
use Rattle.law_tidnew.specs.TidNew.{first_due, Carries}
use Rattle.law_tidnew.proofs.First.{tidnew_first}
use Rattle.c_answers.specs.Answers.{answer_number, answer_after, more_words, told_after}
use Rattle.wtp.specs.Engine.{Called, handed, costed, handed_by, told, or_small, item_told}
use Rattle.law_exported.specs.Session.{Exported, Keeps, entry_for, history_with, Calls, Session, SalvagedSession}

-- a refused fresh-table call leaves the table
pub fresh_refused : (a : Result Unit Refusal) (t settings : List ℕ) (first : ℕ) → (a ≡ Ok tt → ⊥) → table_after_fresh a t settings first ≡ t
unfolding table_after_fresh
fresh_refused (Ok x) t settings first unmade = absurd (unmade refl)
fresh_refused (Err r) t settings first unmade = refl

module _ (x : Exported) (k : Keeps x) where
  -- too few words: nothing changed; else what the engine promises
  pub few : ltb (length x.words) answer_size ≡ true → (x.seen.table ≡ x.lent.table) × (x.seen.store ≡ x.lent.store)
  unfolding or_small
  few e = (ap (λ (c : Called). c.table) k.keeps ∙ rw e refl, ap (λ (c : Called). c.store) k.keeps ∙ rw e refl)

  pub enough : ltb (length x.words) answer_size ≡ false → (x.seen.table ≡ (promised x.call x.lent).table) × (x.seen.store ≡ (promised x.call x.lent).store)
  unfolding or_small handed_by handed told promised
  enough e = (ap (λ (c : Called). c.table) k.keeps ∙ rw e refl, ap (λ (c : Called). c.store) k.keeps ∙ rw e refl)

  -- C sees exactly the history's answer, its number and its words, the cost that its plan tells, and the first unknown item of the PDU that was received
  pub seen_words : ltb (length x.words) answer_size ≡ false → (x.seen.result ≡ answer_number (entry_for x).done.answer) × (x.seen.answer ≡ told_after (answer_number (entry_for x).done.answer) (answer_after (entry_for x).done.answer (costed x.lent.table (plan_for x.call x.lent) x.words)) (more_words (item_told x.call x.lent)))
  unfolding or_small handed_by handed told promised
  seen_words e = (ap (λ (c : Called). c.result) k.keeps ∙ rw e refl, ap (λ (c : Called). c.answer) k.keeps ∙ rw e refl)

  call_run : {t₀ s₀ t s : List ℕ} {h : List Entry} → Run t₀ s₀ t s h → x.lent.table ≡ t → x.lent.store ≡ s → Run t₀ s₀ x.seen.table x.seen.store (history_with x h)
  call_run {t₀} {s₀} {t} {s} {h} run table store = go (ltb (length x.words) answer_size) refl
    where
      go : (b : Bool) → ltb (length x.words) answer_size ≡ b → Run t₀ s₀ x.seen.table x.seen.store (pick b h (entry_for x ∷ h))
      go true e =
          let c = few e in
          rw (c.0 ∙ table, c.1 ∙ store) run
      go false e =
          let c = enough e in
          rw (c.0, c.1) (Run.called run (entry_for x) (record { lends = k.lends; keeps = refl }) table store)

-- a well-formed table is salvaged by changing nothing, and where salvage is refused nothing changes either
salvage_same : (t list : List ℕ) → WellFormed t → table_salvaged t list ≡ t
salvage_same t list w = go (same_number (salvage_number t list) 0)
  where
    go : (salvage_number t list ≡ 0) ⊎ (salvage_number t list ≡ 0 → ⊥) → table_salvaged t list ≡ t
    go (inl e) = (formed_unchanged t list w ((number_0 t list).0 e).sizes.room).1.0
    go (inr d) = (refused_same t list d).0

-- calls from a well-formed table on are a run of the engine
pub calls_run : {t₀ s₀ t s : List ℕ} {h : List Entry} → WellFormed t₀ → Calls t₀ s₀ t s h → Run t₀ s₀ t s h
calls_run w Calls.begun = Run.start
calls_run w (Calls.refused {t = t} calls settings first unmade) = rw (fresh_refused _ t settings first unmade) (calls_run w calls)
calls_run w (Calls.salvaged {t = t} calls list) =
    let run = calls_run w calls in
    rw (salvage_same t list (formed_through w run)) run
calls_run w (Calls.called calls x k table store) = call_run x k (calls_run w calls) table store

-- wtp_salvage within such calls leaves the table
pub salvage_leaves : {t₀ s₀ t s : List ℕ} {h : List Entry} → WellFormed t₀ → Calls t₀ s₀ t s h → (list : List ℕ) → table_salvaged t list ≡ t
salvage_leaves {t = t} w calls list = salvage_same t list (formed_through w (calls_run w calls))

-- the history of a session is a run of the engine from a fresh table
pub record Follows (max : ℕ) (t s : List ℕ) (h : List Entry) : Type 0 where
  pub table₀ : List ℕ
  pub store₀ : List ℕ
  pub inv : Inv fresh max table₀ []
  pub no_record : (i : ℕ) → (record_at table₀ i).state ≡ Free
  pub due : tidnew_due_of table₀ ≡ true
  pub run : Run table₀ store₀ t s h

pub follows : {max : ℕ} {t s : List ℕ} {h : List Entry} → Session max t s h → Follows max t s h
follows (Session.made old store settings first made calls) =
    let f = fresh_ok old settings first made in
    record {
      table₀ = table_after_fresh (Ok tt) old settings first;
      store₀ = store;
      inv = made_inv old settings first made;
      no_record = f.no_record;
      due = f.tidnew_due;
      run = calls_run f.formed calls;
    }

-- DEMAND 3: whatever exported functions are called, in any order
pub exported_demand_3 : {max : ℕ} {t s : List ℕ} {h : List Entry} → Session max t s h → Demand3 fresh max t h
exported_demand_3 {max} session = let f = follows session in demand_3_from fresh max f.inv (cells_of_none fresh f.table₀ f.store₀ f.no_record) f.run

-- DEMAND 3 AFTER SALVAGE: counted afresh, with the live records that wtp_salvage left, and what the store holds for them, as the start
pub exported_demand_3_salvaged : {t₀ s₀ : List ℕ} {max : ℕ} {t s : List ℕ} {h : List Entry} → SalvagedSession t₀ s₀ max t s h → Demand3 (start_of t₀ s₀) max t h
exported_demand_3_salvaged {t₀} {s₀} {max} {t} {s} {h} (SalvagedSession.salvaged old list accepted is calls) =
    let says : Salvaged old list t₀ (list_salvaged old list) = rw is at (salvage_says old list accepted) in
    let same : settings_of t₀ ≡ settings_of old = rw is at (salvage_settings old list accepted) in
    let d : Demand3 (start_of t₀ s₀) (settings_of t₀).rcr_max t h = demand_3_salvaged t₀ s₀ says.formed (calls_run says.formed calls) in
    subst (λ (x : Settings). Demand3 (start_of t₀ s₀) x.rcr_max t h) same d

-- TIDNEW: due, and on the wire, exactly for the first request of class 1 or 2 since wtp_fresh, and for the first after GenTID has come back to 0
pub exported_tidnew_first : {max : ℕ} {t s : List ℕ} {h : List Entry} → Session max t s h → (tidnew_due_of t ≡ first_due h) × Throughout Carries h
exported_tidnew_first session = let f = follows session in tidnew_first f.due f.run
