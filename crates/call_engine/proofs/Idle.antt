-- A call that only stores its time is its idle step carried out and handed over. Assumes nothing.
use Prim.Native.Nat.{ℕ}
use mathlib.Core.Path.{◌≡◌, refl}
use mathlib.Core.List.{List}
use Rattle.std.specs.Prelude.{Ok}
use Rattle.base_lists.specs.Seq.{put}
use Rattle.base_lists.proofs.StoresAndParts.{put_nil}
use Rattle.table_layout.specs.Table.{put_clock}
use Rattle.step_commit.specs.Commit.{record_changed, exit_stored, gen_tid_changed, cache_changed, table_changed}
use Rattle.step_sending.specs.Octets.{octets_sent}
use Rattle.step_plan.specs.Steps.{idle_changes, idle_step}
use Rattle.step_outcome.specs.Carry.{Lent, octets_out, table_then, store_then, sent_then, carried_out, outcome}
use Rattle.c_answers.specs.Answers.{answer_number, answer_after, idle_words, no_cost, change_cost, cost_by, cost_words}
use Rattle.c_answers.specs.Handed.{called, handed, plan_cost, costed, handed_by}

pub idle_so : (l : Lent) (time n : ℕ) (t words w : List ℕ) → (n ≡ 0) × (t ≡ put_clock l.table time) × (w ≡ put (put words 32 (cost_words no_cost)) 0 idle_words)
    → called n t l.store l.output w ≡ handed_by l (Ok (idle_step time)) words
unfolding handed_by costed plan_cost cost_by change_cost outcome handed answer_number answer_after carried_out table_then store_then sent_then octets_out octets_sent idle_step idle_changes table_changed record_changed exit_stored gen_tid_changed cache_changed idle_words
idle_so l time n t words w k = rw (k.0, k.1, k.2, put_nil l.output 0) refl
