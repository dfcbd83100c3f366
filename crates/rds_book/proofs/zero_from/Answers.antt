-- One turn gathers the bits of one octet more.
use Rattle.std.proofs.Common.{◌≡◌, ◌+◌, ◌-◌, refl, ◌∙◌, arith, get_or, drop, add-one}
use lib.Bits.{or_comm}
use lib.Seq.{get_or-take, get_or-drop}
use Rattle.base_lists.specs.Seq.{every}
use Rattle.base_lists.proofs.StoresAndParts.{length_part}
use Rattle.base_lists.proofs.Every.{or_none}
use Rattle.rds_book.specs.Book.{zeros}
use Rattle.rds_book.proofs.zero_from.Goals as goal

pub loop-x-init : goal.loop-x-init
unfolding zeros every
loop-x-init c = refl

pub loop-x-preserved : goal.loop-x-preserved
unfolding zeros every
loop-x-preserved c =
    let a = c.args in
    let i = c.loop-x.x-index in
    let full = length_part a.book.now a.at (a.at + a.n - a.at) (omega arith) in
    let x = get_or-take (a.at + a.n - a.at) (drop a.at a.book.now) i 0 (omega (arith, full)) ∙ get_or-drop a.at a.book.now i 0 in
    rw (add-one, or_comm, x) (or_none (get_or a.book.now (a.at + i) 0) c.loop-x.bits ∙ rw c.loop-x.invariant refl)

pub returns : goal.returns
returns c =
    let a = c.args in
    let full = length_part a.book.now a.at (a.at + a.n - a.at) (omega arith) in
    let all : c.loop-x.x-index ≡ a.n = omega (arith, full) in
    rw all at c.loop-x.invariant
