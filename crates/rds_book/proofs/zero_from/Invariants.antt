-- The bits gathered are none exactly while every octet was zero.
use Rattle.std.proofs.Common.{◌≡◌}
use lib.Dec.{eqb}
use Rattle.rds_book.specs.Book.{zeros}
use Rattle.rds_book.proofs.zero_from.Given as goal

abbrev pub invariant-loop-x : goal.invariant-loop-x
invariant-loop-x l = eqb l.bits 0 ≡ zeros l.book l.at l.x-index
