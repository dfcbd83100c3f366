-- What was copied out of the book is the Application ID of its place.
use mathlib.Core.Path.{refl, ◌∙◌}
use Prim.Native.Nat.{◌+◌}
use native.Mathlib.Omega.{arith}
use Rattle.base_lists.specs.Seq.{part}
use Rattle.base_lists.proofs.StoresAndParts.{length_part}
use Rattle.rds_book.specs.Book.{place_at_is, app_of_is}
use Rattle.rds_book.proofs.Written.{stored_front, stored_length}
use Rattle.std.proofs.Common.{rules}
use Rattle.rds_book.proofs.carry.Goals as goal

pub keep-requires : goal.keep-requires
keep-requires c =
    let l = c.app_length-n in
    let a = c.args in
    let e = stored_length (part a.book.now (place_at_is a.from + 4) l.result) l.result (length_part a.book.now (place_at_is a.from + 4) l.result (omega arith)) l.ensures.1 in
    (search rules, search rules, rw c.copy.ensures (omega (arith, e)))

pub returns : goal.returns
unfolding app_of_is
returns c =
    let l = c.app_length-n in
    let a = c.args in
    let w = part a.book.now (place_at_is a.from + 4) l.result in
    let s = stored_front w l.result (length_part a.book.now (place_at_is a.from + 4) l.result (omega arith)) l.ensures.1 in
    c.keep.ensures ∙ rw (c.copy.ensures, s, l.ensures.0) refl
