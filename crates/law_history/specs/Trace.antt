-- The history of a table (demand 3): "only these calls change it and the message store, in any order, refused ones among them, until it is made fresh again".
use Rattle.std.specs.Prelude.{ℕ, ◌≡◌, List, [], ◌∷◌}
use Rattle.step_outcome.specs.Carry.{Lent, Done}
use Rattle.call_plans.specs.Calls.{Call, promised, Lends}

-- what the history keeps of a call: what was asked, what was lent, what it gave and left
pub record Entry : Type 0 where
  pub call : Call
  pub lent : Lent
  pub done : Done

-- an entry keeps its call's own contract
pub record Promise (e : Entry) : Type 0 where
  pub lends : Lends e.call e.lent
  pub keeps : e.done ≡ promised e.call e.lent

-- calls one after another from a table and a store on, the newest first: any call, any numbers, any output, any data
pub data Run (table store : List ℕ) : List ℕ → List ℕ → List Entry → Type 0 where
  start : Run table store table store []
  called : {t s : List ℕ} {h : List Entry} → Run table store t s h → (e : Entry) → Promise e → e.lent.table ≡ t → e.lent.store ≡ s → Run table store e.done.table e.done.store (e ∷ h)

-- what holds of each entry and of the history before it
unfoldable pub Throughout : (Entry → List Entry → Type 0) → List Entry → Type 0
Throughout P [] = Unit
Throughout P (e ∷ h) = P e h × Throughout P h
