-- The header, and the pieces of the body after it.
use native.Mathlib.Omega.{arith}
use mathlib.Core.Path.{sym, ◌∙◌}
use lib.ListN.{length-append}
use Rattle.rds_pieces.specs.Octets.{pieces_of}
use Rattle.rds_encoding.specs.Encoding.{head_octets, pieces_octets, octets_of}
use Rattle.rds_encoding.proofs.Stores.{two_stores}
use Rattle.rds_encoding.proofs.put_frame.Goals as goal

pub put_pieces-requires : goal.put_pieces-requires
put_pieces-requires c =
    let h = c.put_head-at in
    (omega (arith, h.ensures.1), omega (arith, c.requires.0), rw c.in_pieces.ensures c.requires.1)

pub returns : goal.returns
unfolding octets_of
returns c =
    let h = c.put_head-at.ensures in
    let p = c.put_pieces.ensures in
    let a = c.args in
    let i = c.in_pieces.ensures in
    let P = pieces_octets a.bytes.now a.f.list (pieces_of a.f.body) in
    let n = rw (i, h.0) at p.0 in
    let e = rw (i, h.2, h.0) at p.1 in (
      n ∙ sym (length-append (head_octets a.f.head a.from_network) P),
      e ∙ two_stores a.out.now (head_octets a.f.head a.from_network) P 0 _ (omega arith),
    )
