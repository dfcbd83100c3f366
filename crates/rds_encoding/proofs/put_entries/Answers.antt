-- One turn stores the octets of one entry more.
use Rattle.std.proofs.Common.{◌≡◌, ◌+◌, ◌≤◌, sym, ap, ◌∙◌, arith, length, take, get_or, add-one}
use Rattle.base_lists.specs.Seq.{put, total}
use Rattle.base_lists.proofs.StoresAndParts.{put_nil}
use Rattle.rds_entries.specs.Entries.{no_entry}
use Rattle.rds_size.specs.Size.{entries_size}
use Rattle.rds_encoding.specs.Encoding.{entries_octets, entry_octets}
use Rattle.rds_encoding.proofs.Stores.{two_stores}
use Rattle.rds_encoding.proofs.Lengths.{next_size, next_held, one_more, length_entries}
use Rattle.rds_encoding.proofs.put_entries.Goals as goal

pub loop-k-init : goal.loop-k-init
unfolding entries_octets entries_size total
loop-k-init c = (omega arith, omega arith, sym (put_nil c.args.out.now c.args.at))

pub put_entry-next-requires : goal.put_entry-next-requires
put_entry-next-requires c =
    let a = c.args in
    let all : a.count ≤ length a.list = omega arith in
    let h = next_held a.bytes.now a.formats a.list a.count c.requires.1 all c.loop-k.k c.loop-k-test.true in
    (h.ends, omega (arith, h.sized, next_size a.bytes.now a.formats a.list a.count c.requires.1 all c.loop-k.k c.loop-k-test.true))

pub loop-k-preserved : goal.loop-k-preserved
unfolding entries_size total
loop-k-preserved c =
    let a = c.args in
    let l = c.loop-k in
    let p = c.put_entry-next.ensures in
    let all : a.count ≤ length a.list = omega arith in
    let below = c.loop-k-test.true in
    let e = get_or a.list l.k no_entry in
    let h = next_held a.bytes.now a.formats a.list a.count c.requires.1 all l.k below in
    let so_far = length_entries a.bytes.now a.formats a.list a.count c.requires.1 all l.k l.invariant.0 in
    let grown = one_more a.bytes.now a.formats a.list a.count c.requires.1 all l.k below in
    let z : l.next ≡ a.at + length (entries_octets a.bytes.now a.formats (take l.k a.list)) = omega (arith, l.invariant.1, so_far) in (
      omega arith,
      p.0 ∙ rw add-one (omega (arith, l.invariant.1, h.sized)),
      rw add-one (p.1 ∙ rw l.invariant.2 (two_stores a.out.now _ (entry_octets a.bytes.now a.formats e) a.at l.next z ∙ ap (put a.out.now a.at) (sym grown))),
    )

pub returns : goal.returns
returns c =
    let all : c.loop-k.k ≡ c.args.count = omega arith in
    rw (← all) (c.loop-k.invariant.1, c.loop-k.invariant.2)
