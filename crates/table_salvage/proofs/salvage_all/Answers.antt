-- The places are done one after the other, and the rest of the list is zeroed.
use Rattle.std.proofs.Common.{ℕ, List, ◌≡◌, ◌≤◌, ◌∙◌, length, true, ap, arith}
use Rattle.base_lists.proofs.StoresAndParts.{length_put}
use Rattle.table_layout.specs.Table.{count}
use Rattle.table_well_formed.specs.WellFormed.{length_ok}
use Rattle.table_well_formed.proofs.Lengths.{length_to}
use Rattle.table_salvage.specs.Salvage.{pairs_size, pairs_to}
use Rattle.table_salvage.proofs.Turns.{pairs_few}
use Rattle.table_salvage.proofs.Words.{list_filled}
use Rattle.table_salvage.proofs.salvage_all.Goals as goal

-- the pairs of a table have room in the list
pairs_fit : (t : List ℕ) (n k : ℕ) → length_ok (length t) ≡ true → n ≡ count t → k ≡ length (pairs_to t n) → k ≤ pairs_size
pairs_fit t n k ok counted is = omega (arith, (length_to (length t) ok).most, pairs_few t n, is, counted)

pub records-n-requires : goal.records-n-requires
records-n-requires c = omega (arith, length_to _ c.requires.0)

pub salvage_places-k-requires : goal.salvage_places-k-requires
salvage_places-k-requires c =
    let w = length_to _ c.requires.0 in
    (omega (arith, w.whole, c.records-n.ensures), omega (arith, w.most, c.records-n.ensures, c.requires.1))

pub overflow_add-k : goal.overflow_add-k
overflow_add-k c = omega (arith, pairs_fit c.args.t.now _ _ c.requires.0 c.records-n.ensures c.salvage_places-k.ensures.0)

pub overflow_sub-k : goal.overflow_sub-k
overflow_sub-k c = pairs_fit c.args.t.now _ _ c.requires.0 c.records-n.ensures c.salvage_places-k.ensures.0

pub clear_words-requires : goal.clear_words-requires
clear_words-requires c =
    let fit = pairs_fit c.args.t.now _ _ c.requires.0 c.records-n.ensures c.salvage_places-k.ensures.0 in
    let long = ap length c.salvage_places-k.ensures.2 ∙ length_put _ _ _ in
    omega (arith, fit, long, c.requires.1)

pub returns : goal.returns
returns c =
    let s = c.salvage_places-k.ensures in
    rw (← c.records-n.ensures) (s.1, list_filled c.args.list.now _ _ _ _ _ s.0 s.2 c.clear_words.ensures c.store.ensures)
