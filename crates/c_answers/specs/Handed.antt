-- All that a caller of the C interface sees of a call (01, "How the answers are held").
use Rattle.std.specs.Prelude.{ℕ, List, Ok, Err}
use Rattle.base_lists.specs.Seq.{put}
use Rattle.step_plan.specs.Steps.{Plan}
use Rattle.step_outcome.specs.Carry.{Lent, Done, outcome}
use Rattle.c_answers.specs.Answers.{answer_number, answer_after, no_cost, cost_by, cost_words, told_after}
use Rattle.c_answers.specs.declared.Cost.{Cost}

-- all that a caller sees of a call
pub record Called : Type 0 where
  pub result : ℕ
  pub table : List ℕ
  pub store : List ℕ
  pub output : List ℕ
  pub answer : List ℕ

abbrev pub called : ℕ → List ℕ → List ℕ → List ℕ → List ℕ → Called
called r t s o a = record { result = r; table = t; store = s; output = o; answer = a }

-- what the engine gave and left, its answer as a result and words 0 to 31
unfoldable pub handed : Done → List ℕ → Called
handed d words = called (answer_number d.answer) d.table d.store d.output (answer_after d.answer words)

-- 02, L11: the cost that a plan tells; a refusal tells none
unfoldable pub plan_cost : List ℕ → Plan → Cost
plan_cost t (Err r) = no_cost
plan_cost t (Ok step) = cost_by t step.changes

-- 01: "A refusal gives only its number"; the C interface: an accepted call writes words 32 and 33
unfoldable pub costed : List ℕ → Plan → List ℕ → List ℕ
costed t (Err r) words = words
costed t (Ok step) words = put words 32 (cost_words (plan_cost t (Ok step)))

-- a plan carried out and handed over, with what its record has sent
unfoldable pub handed_by : Lent → Plan → List ℕ → Called
handed_by l plan words = handed (outcome l plan) (costed l.table plan words)

-- the same with words 34 to 39 told
unfoldable pub told : Called → (more : List ℕ) → Called
told c more = called c.result c.table c.store c.output (told_after c.result c.answer more)
