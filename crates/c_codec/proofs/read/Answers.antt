-- A PDU that isn't sound leaves the words; the store's size is found by the check, so that no proof names the test of it.
use Rattle.std.proofs.Common.{sym, ◌∙◌, arith}
use Rattle.c_codec.proofs.Outcomes.{read_unsound}
use Rattle.c_codec.proofs.read.Goals as goal

pub returns : goal.returns
returns c =
    let o = read_unsound c.args.octets.now c.args.fields.now (omega arith) c.brief-b.result c.brief-b.ensures (sym c.sound.ensures ∙ c.if-sound.false) in
    (c.number_of.ensures ∙ o.0, o.1)
