-- The last word follows those of fifteen entries.
use Rattle.std.proofs.Common.{◌∙◌, arith}
use Rattle.rds_words.proofs.EntryWords.{last_word}
use Rattle.rds_words.proofs.store_list.Goals as goal

pub returns : goal.returns
returns c = c.store.ensures ∙ rw c.store_entries.ensures (last_word c.args.fields.now c.args.list (omega arith))
