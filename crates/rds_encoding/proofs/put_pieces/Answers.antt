-- Its four stores are one.
use native.Mathlib.Omega.{arith}
use Prim.Native.Nat.{◌≤◌}
use mathlib.Core.Path.{◌≡◌, ◌∙◌}
use mathlib.Core.List.{◌++◌}
use lib.ListN.{length, take, length-append}
use lib.Seq.{length-take-le}
use Rattle.base_lists.specs.Seq.{part}
use Rattle.base_lists.proofs.StoresAndParts.{length_part}
use Rattle.rds_encoding.specs.Encoding.{pieces_octets, entries_octets}
use Rattle.rds_encoding.proofs.Stores.{four_stores}
use Rattle.rds_encoding.proofs.Lengths.{length_entries}
use Rattle.rds_encoding.proofs.put_pieces.Goals as goal

pub store-requires : goal.store-requires
store-requires c =
    let p = c.args.p in
    omega (arith, c.requires.0, c.requires.1, c.requires.2.fronts_fit, c.requires.2.size_fits, length-take-le p.fronts p.front (omega (arith, c.requires.2.fronts_fit)))

pub store-requires-2 : goal.store-requires-2
store-requires-2 c =
    let p = c.args.p in
    let f = c.requires.2 in
    omega (arith, c.requires.0, c.requires.1, f.tails_fit, f.size_fits, c.put_entries-last.ensures.0, length-take-le p.tails p.tail (omega (arith, f.tails_fit)))

pub overflow_add-result : goal.overflow_add-result
overflow_add-result c =
    omega (arith, c.requires.0, c.requires.2.size_fits, c.put_entries-last.ensures.0)

pub returns : goal.returns
unfolding pieces_octets
returns c =
    let a = c.args in
    let p = a.p in
    let f = c.requires.2 in
    let bytes = a.bytes.now in
    let all : p.count ≤ length a.list = omega (arith, f.count_fits) in
    let lf : length (take p.fronts p.front) ≡ p.fronts = length-take-le p.fronts p.front (omega (arith, f.fronts_fit)) in
    let lp : length (part bytes p.start p.len) ≡ p.len = length_part bytes p.start p.len f.part_fits in
    let le = length_entries bytes p.formats a.list p.count (omega (arith, f.size_fits)) all p.count (omega arith) in
    let lt : length (take p.tails p.tail) ≡ p.tails = length-take-le p.tails p.tail (omega (arith, f.tails_fit)) in
    let E = entries_octets bytes p.formats (take p.count a.list) in
    let e = rw (c.put_entries-last.ensures.1, c.copy.ensures, c.store.ensures, c.put_entries-last.ensures.0) at c.store-2.ensures in (
      omega (arith, c.put_entries-last.ensures.0, lf, lp, le, lt, length-append (take p.fronts p.front) (part bytes p.start p.len ++ (E ++ take p.tails p.tail)), length-append (part bytes p.start p.len) (E ++ take p.tails p.tail), length-append E (take p.tails p.tail)),
      e ∙ four_stores a.out.now _ _ _ _ a.at _ _ _ (omega (arith, lf)) (omega (arith, lp)) (omega (arith, le)),
    )
