-- Header, items and user data, one after the other, are the octets of the PDU.
use Rattle.std.proofs.Common.{◌∙◌, arith}
use Rattle.codec_said.specs.Said.{pdu_said}
use Rattle.codec_encoding.proofs.WholeOctets.{octets_length, octets_stored}
use Rattle.codec_writing.proofs.put_said.Goals as goal

pub put_header-items-requires : goal.put_header-items-requires
unfolding pdu_said
put_header-items-requires c =
    let v = c.requires.writable.0 in
    rw c.requires.in_bounds.1
    (record {
      fit_kind = v.fit.kind_fits;
      tid_in_bounds = omega (arith, octets_length c.args.src.now (pdu_said c.args.words.now) v.few v.fit, v.short, c.requires.writable.1);
    })

pub put_items-user-requires : goal.put_items-user-requires
unfolding pdu_said
put_items-user-requires c =
    let v = c.requires.writable.0 in
    let header = rw c.requires.in_bounds.1 at c.put_header-items.ensures in
    record {
      in_bounds = (c.requires.in_bounds.0, v.few);
      fit_items = v.fit.items_fit;
      words_in_bounds = omega (arith, octets_length c.args.src.now (pdu_said c.args.words.now) v.few v.fit, header.0, v.short, c.requires.writable.1);
    }

pub copy-requires : goal.copy-requires
unfolding pdu_said
copy-requires c =
    let v = c.requires.writable.0 in
    let header = rw c.requires.in_bounds.1 at c.put_header-items.ensures in
    (omega (arith, octets_length c.args.src.now (pdu_said c.args.words.now) v.few v.fit, c.put_items-user.ensures.0, header.0, v.short, c.requires.writable.1), v.fit.user_fits)

pub overflow_add-result : goal.overflow_add-result
unfolding pdu_said
overflow_add-result c =
    let v = c.requires.writable.0 in
    let header = rw c.requires.in_bounds.1 at c.put_header-items.ensures in
    omega (arith, octets_length c.args.src.now (pdu_said c.args.words.now) v.few v.fit, c.put_items-user.ensures.0, header.0, v.short)

pub returns : goal.returns
unfolding pdu_said
returns c =
    let v = c.requires.writable.0 in
    let p = pdu_said c.args.words.now in
    let items = c.put_items-user.ensures in
    let header = rw c.requires.in_bounds.1 at c.put_header-items.ensures in
    (omega (arith, octets_length c.args.src.now p v.few v.fit, items.0, header.0), c.copy.ensures ∙ rw (items.1, header.1, items.0, header.0) (octets_stored c.args.src.now p v.few c.args.out.now))
