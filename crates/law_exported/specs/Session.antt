-- Any calls of the exported functions one after another on one table and its store (demand 3: "only these calls change it and the message store, in any order, refused ones among them, until it is made fresh again").
use Rattle.std.specs.Prelude.{ℕ, ◌≡◌, List, [], ◌∷◌, length, get_or, ltb}
use Rattle.base_layout.specs.Layout.{answer_size}
use Rattle.base_lists.specs.Seq.{pick}
use Rattle.table_fresh.specs.Fresh.{fresh_answer, table_after_fresh}
use Rattle.std.specs.Prelude.{Ok}
use Rattle.table_layout.specs.Table.{settings_of}
use Rattle.table_salvage.specs.Salvage.{salvage_number, table_salvaged}
use Rattle.step_outcome.specs.Carry.{Lent}
use Rattle.call_plans.specs.Calls.{Call, promised, Lends}
use Rattle.law_history.specs.Trace.{Entry}
use Rattle.wtp.specs.Engine.{Called, called_by}

-- a call of wtp_request, wtp_answer, wtp_result, wtp_abort, wtp_receive, wtp_timer or wtp_fire: what it was asked and lent, the answer's words among it, and all that the caller sees of it afterwards
pub record Exported : Type 0 where
  pub call : Call
  pub lent : Lent
  pub words : List ℕ
  pub seen : Called

-- it keeps its contract
pub record Keeps (x : Exported) : Type 0 where
  pub lends : Lends x.call x.lent
  pub keeps : x.seen ≡ called_by x.call x.lent x.words

-- as an entry of the history; C sees this answer in its words
abbrev pub entry_for : Exported → Entry
entry_for x = record { call = x.call; lent = x.lent; done = promised x.call x.lent }

-- where the answer has too few words nothing is done, and nothing is added to the history
abbrev pub history_with : Exported → List Entry → List Entry
history_with x h = pick (ltb (length x.words) answer_size) h (entry_for x ∷ h)

-- calls one after another from a table and a store on, with the table, the store and the history that they leave; outputs, answers, lists and data of any size
pub data Calls (t₀ s₀ : List ℕ) : List ℕ → List ℕ → List Entry → Type 0 where
  begun : Calls t₀ s₀ t₀ s₀ []
  -- wtp_fresh was refused
  refused : {t s : List ℕ} {h : List Entry} → Calls t₀ s₀ t s h → (settings : List ℕ) (first : ℕ) → (fresh_answer (length t) settings first ≡ Ok tt → ⊥)
      → Calls t₀ s₀ (table_after_fresh (fresh_answer (length t) settings first) t settings first) s h
  -- wtp_salvage, accepted or not: of a table that nothing has damaged
  salvaged : {t s : List ℕ} {h : List Entry} → Calls t₀ s₀ t s h → (list : List ℕ) → Calls t₀ s₀ (table_salvaged t list) s h
  -- an engine call
  called : {t s : List ℕ} {h : List Entry} → Calls t₀ s₀ t s h → (x : Exported) → Keeps x → x.lent.table ≡ t → x.lent.store ≡ s
      → Calls t₀ s₀ x.seen.table x.seen.store (history_with x h)

-- calls from wtp_fresh on, with RCR_MAX
pub data Session : ℕ → List ℕ → List ℕ → List Entry → Type 0 where
  -- wtp_fresh made the table, whatever it and the store held before: a new history begins
  made : (old store settings : List ℕ) (first : ℕ) → fresh_answer (length old) settings first ≡ Ok tt → {t s : List ℕ} {h : List Entry} → Calls (table_after_fresh (Ok tt) old settings first) store t s h → Session (get_or settings 0 0) t s h

-- calls from an accepted wtp_salvage on (02, L12), whatever octets and words it was lent: what it left of the table, and the store, are the start of a new history
pub data SalvagedSession (t₀ s₀ : List ℕ) : ℕ → List ℕ → List ℕ → List Entry → Type 0 where
  salvaged : (old list : List ℕ) → salvage_number old list ≡ 0 → table_salvaged old list ≡ t₀ → {t s : List ℕ} {h : List Entry} → Calls t₀ s₀ t s h → SalvagedSession t₀ s₀ (settings_of old).rcr_max t s h
