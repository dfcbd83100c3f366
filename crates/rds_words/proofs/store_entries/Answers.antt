-- One turn stores the words of one entry more.
use Rattle.std.proofs.Common.{sym, ◌∙◌, arith}
use Rattle.base_lists.proofs.StoresAndParts.{put_nil}
use Rattle.rds_entries.specs.Entries.{no_entry}
use Rattle.rds_words.proofs.EntryWords.{one_more}
use Rattle.rds_words.specs.Words.{entries_words}
use Rattle.rds_words.proofs.store_entries.Goals as goal

pub loop-k-init : goal.loop-k-init
unfolding entries_words
loop-k-init c = (omega arith, sym (put_nil c.args.fields.now 24))

pub loop-k-preserved : goal.loop-k-preserved
loop-k-preserved c = (
  omega arith,
  c.store.ensures ∙ rw (c.entry_words.ensures, c.loop-k.invariant.1) (one_more c.args.fields.now c.args.list c.loop-k.k no_entry (omega arith)),
)
