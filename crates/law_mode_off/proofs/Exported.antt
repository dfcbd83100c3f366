-- With the mode off every exported function of the engine gives what the base's gives, in any session. Assumes nothing.
use Prim.Native.Nat.{ℕ}
use mathlib.Core.Path.{◌≡◌, refl, sym, ap, subst, ◌∙◌}
use mathlib.Core.Bool.{Bool, true, false}
use mathlib.Core.List.{List, ◌∷◌}
use lib.ListN.{length}
use lib.Dec.{ltb}
use Rattle.step_outcome.specs.Carry.{Done}
use Rattle.c_answers.specs.Answers.{more_words}
use Rattle.base_layout.specs.Layout.{answer_size}
use Rattle.base_lists.specs.Seq.{pick}
use Rattle.table_layout.specs.Table.{settings_of}
use Rattle.table_layout.specs.declared.Settings.{Settings}
use Rattle.table_fresh.specs.Fresh.{fresh_answer, table_after_fresh}
use Rattle.std.specs.Prelude.{Ok}
use Rattle.table_well_formed.specs.WellFormed.{WellFormed}
use Rattle.table_salvage.specs.Salvage.{table_salvaged}
use Rattle.law_fresh_formed.proofs.Formed.{fresh_ok}
use Rattle.step_plan.specs.Steps.{Plan}
use Rattle.call_plans.specs.Calls.{plan_for, promised}
use Rattle.law_history.specs.Trace.{Entry, Throughout}
use Rattle.wtp.specs.Engine.{handed, costed, handed_by, or_small, item_told}
use Rattle.law_exported.specs.Session.{Exported, Keeps, entry_for, history_with, Calls, Session}
use Rattle.law_exported.proofs.Exported.{fresh_refused, few, enough, salvage_leaves}
use Rattle.law_mode_off.specs.BaseCalls.{base_promised, base_called_by}
use Rattle.law_mode_off.specs.ModeOff.{ModeOff, StaysOff}
use Rattle.law_mode_off.proofs.Calls.{mode_off_plan}
use Rattle.law_mode_off.proofs.Carried.{mode_off_call}
use Rattle.law_mode_off.proofs.Kept.{call_settings, call_stays_off, fresh_off}

module _ (x : Exported) (k : Keeps x) where
  -- MODE OFF, to C: the number, the words of the answer, and every lent octet
  pub exported_as_before : ModeOff x.lent.table → x.seen ≡ base_called_by x.call x.lent x.words
  unfolding handed_by promised
  exported_as_before m =
      k.keeps
      ∙ ap (λ (d : Done). or_small x.lent x.words (handed d (costed x.lent.table (plan_for x.call x.lent) x.words)) more) (mode_off_call x.call x.lent m)
      ∙ ap (λ (p : Plan). or_small x.lent x.words (handed (base_promised x.call x.lent) (costed x.lent.table p x.words)) more) (mode_off_plan x.call x.lent m)
    where
      more : List ℕ
      more = more_words (item_told x.call x.lent)

  -- a call of a session whose table has it off afterwards had it off before
  off_call : {t : List ℕ} {h : List Entry} → ((settings_of t).limit ≡ 0 → StaysOff t h) → x.lent.table ≡ t → (settings_of x.seen.table).limit ≡ 0 → StaysOff x.seen.table (history_with x h)
  unfolding Throughout
  off_call {t} {h} so table off = go (ltb (length x.words) answer_size) refl
    where
      go : (b : Bool) → ltb (length x.words) answer_size ≡ b → StaysOff x.seen.table (pick b h (entry_for x ∷ h))
      go true e =
          let same : x.seen.table ≡ t = (few x k e).0 ∙ table in
          subst (λ (z : List ℕ). StaysOff z h) (sym same) (so (subst (λ (z : List ℕ). (settings_of z).limit ≡ 0) same off))
      go false e =
          let was : (settings_of x.lent.table).limit ≡ 0 = sym (ap (λ (s : Settings). s.limit) (call_settings x.call x.lent k.lends).settings) ∙ subst (λ (z : List ℕ). (settings_of z).limit ≡ 0) (enough x k e).0 off in
          let s : StaysOff t h = so (subst (λ (z : List ℕ). (settings_of z).limit ≡ 0) table was) in
          let m : ModeOff x.lent.table = subst ModeOff (sym table) s.off in
          record {
            off = subst ModeOff (sym (enough x k e).0) (call_stays_off (entry_for x) (record { lends = k.lends; keeps = refl }) m);
            as_before = (mode_off_call x.call x.lent m, s.as_before);
          }

-- of any calls from a table on
calls_off : {t₀ s₀ t s : List ℕ} {h : List Entry} → WellFormed t₀ → ((settings_of t₀).limit ≡ 0 → ModeOff t₀) → Calls t₀ s₀ t s h → (settings_of t).limit ≡ 0 → StaysOff t h
unfolding Throughout
calls_off w first_off Calls.begun e = record { off = first_off e; as_before = tt }
calls_off w first_off (Calls.refused {t = t} {h = h} calls settings first unmade) e =
    let same : table_after_fresh (fresh_answer (length t) settings first) t settings first ≡ t = fresh_refused _ t settings first unmade in
    subst (λ (z : List ℕ). StaysOff z h) (sym same) (calls_off w first_off calls (subst (λ (z : List ℕ). (settings_of z).limit ≡ 0) same e))
calls_off w first_off (Calls.salvaged {t = t} {h = h} calls list) e =
    let same : table_salvaged t list ≡ t = salvage_leaves w calls list in
    subst (λ (z : List ℕ). StaysOff z h) (sym same) (calls_off w first_off calls (subst (λ (z : List ℕ). (settings_of z).limit ≡ 0) same e))
calls_off w first_off (Calls.called calls x k table store) e = off_call x k (λ q. calls_off w first_off calls q) table e

-- MODE OFF: in any session of the exported functions whose table has no waiting limit in its settings, which only wtp_fresh writes, every call gave and left what the base's engine gives and leaves
pub exported_mode_off : {max : ℕ} {t s : List ℕ} {h : List Entry} → Session max t s h → (settings_of t).limit ≡ 0 → StaysOff t h
exported_mode_off (Session.made old store settings first made calls) e = calls_off (fresh_ok old settings first made).formed (λ q. fresh_off old settings first made q) calls e
