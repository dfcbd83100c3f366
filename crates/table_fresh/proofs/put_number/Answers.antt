-- The lowest octets of a number are its octets over a smaller width. Assumes nothing.
use Rattle.std.proofs.Common.{◌≡◌, ◌-◌, ◌∙◌, ap, take, arith}
use Rattle.base_lists.specs.Seq.{put}
use Rattle.base_octets.proofs.Widths.{eight_octets}
use Rattle.table_fresh.proofs.Written.{take_enc}
use Rattle.table_fresh.proofs.put_number.Goals as goal

pub returns : goal.returns
returns c =
    let e : c.args.width - 0 ≡ c.args.width = omega arith in
    c.store.ensures ∙ ap (put c.args.t.now c.args.at) (rw e (ap (take c.args.width) (c.to_le_bytes-w.ensures ∙ eight_octets c.args.v) ∙ take_enc c.args.width 8 c.args.v c.requires.1))
