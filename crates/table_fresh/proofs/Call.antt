-- What the fresh-table call leaves: a fresh table of the same size, or the table as it was. Assumes nothing.
use mathlib.Core.Path.{◌≡◌, refl, sym, ◌∙◌}
use mathlib.Core.List.{List}
use Prim.Native.Nat.{ℕ}
use lib.ListN.{length}
use Rattle.base_numbers.specs.declared.Refusal.{Refusal}
use Rattle.table_layout.specs.Table.{count}
use Rattle.table_fresh.specs.Fresh.{fresh_answer, fresh_table, table_after_fresh, left_by_is}
use Rattle.std.specs.Prelude.{Ok, Err}
use Rattle.table_fresh.proofs.Sizes.{size_told}
use Rattle.table_fresh.proofs.Ranges.{in_range_holds}
use Rattle.table_fresh.proofs.Answers.{accepted}
use Rattle.table_fresh.proofs.Facts.{FreshFacts, fresh_length, fresh_facts}

module _ (t ws : List ℕ) (first : ℕ) where
  pub refused_keeps : (r : Refusal) → fresh_answer (length t) ws first ≡ Err r → (left_by_is t ws first).table ≡ t
  unfolding left_by_is table_after_fresh
  refused_keeps r e = rw e refl

  module _ (e : fresh_answer (length t) ws first ≡ Ok tt) where
    made_table : (left_by_is t ws first).table ≡ fresh_table (count t) ws first
    unfolding left_by_is table_after_fresh
    made_table = rw e refl

    pub made_facts : FreshFacts (left_by_is t ws first).table ws first
    made_facts = rw made_table (fresh_facts (count t) ws first (in_range_holds ws first (accepted (length t) ws first e).1))

    pub made_length : length (left_by_is t ws first).table ≡ length t
    made_length = rw made_table (fresh_length (count t) ws first ∙ sym (size_told (length t) (accepted (length t) ws first e).0).exact)
