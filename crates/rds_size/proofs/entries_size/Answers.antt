-- One turn adds the size of one entry more.
use Rattle.std.proofs.Common.{ℕ, refl, sym, arith, get_or}
use Rattle.base_lists.specs.Seq.{total}
use Rattle.base_lists.proofs.StoresAndParts.{total_more}
use Rattle.rds_entries.specs.Entries.{no_entry}
use Rattle.rds_size.specs.Size.{entry_size, entries_size}
use Rattle.rds_size.proofs.entries_size.Goals as goal

pub loop-k-init : goal.loop-k-init
unfolding entries_size total
loop-k-init c = (omega arith, refl, omega arith)

pub loop-k-preserved : goal.loop-k-preserved
unfolding entries_size
loop-k-preserved c =
    let f : ℕ → ℕ = λ k. entry_size c.args.bytes.now c.args.formats (get_or c.args.list k no_entry) in
    (omega arith, rw (c.entry_size-sum.ensures.0, c.loop-k.invariant.1) (sym (total_more f c.loop-k.k)), omega arith)
