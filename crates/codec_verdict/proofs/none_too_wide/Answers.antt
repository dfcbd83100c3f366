-- Row by row are all words.
use Rattle.codec_verdict.proofs.Narrow.{by_rows}
use Rattle.codec_verdict.proofs.none_too_wide.Goals as goal

pub returns-then-head_narrow : goal.returns-then-head_narrow
returns-then-head_narrow c = rw (← by_rows c.args.words.now, ← c.head_narrow.ensures, c.if-head_narrow.true) c.items_narrow.ensures

pub returns-else-head_narrow : goal.returns-else-head_narrow
returns-else-head_narrow c = rw (← by_rows c.args.words.now, ← c.head_narrow.ensures, c.if-head_narrow.false)
