-- The octets of the item, by its form, lie in the output.
use Rattle.std.proofs.Common.{arith}
use Rattle.std.proofs.Math.ListN.{length-set}
use Rattle.codec_encoding.proofs.ItemOctets.{long_length, short_length}
use Rattle.codec_encoding.proofs.put_item.Goals as goal

pub bounds-out-at-then-it : goal.bounds-out-at-then-it
bounds-out-at-then-it c =
    let h = long_length c.args.src.now c.args.con c.args.it c.if-it.true c.requires.fit_item in simp length-set (omega arith)

pub copy-requires : goal.copy-requires
copy-requires c =
    let h = long_length c.args.src.now c.args.con c.args.it c.if-it.true c.requires.fit_item in
    (simp length-set (omega arith), omega (arith, c.requires.fit_item.inside))

pub copy-requires-else-it : goal.copy-requires-else-it
copy-requires-else-it c =
    let h = short_length c.args.src.now c.args.con c.args.it c.if-it.false c.requires.fit_item in
    (simp length-set (omega arith), omega (arith, c.requires.fit_item.inside))
