-- Three stores are one.
use mathlib.Core.Path.{◌∙◌}
use lib.ListN.{length, drop, replicate}
use Rattle.rds_book.specs.Book.{app_most, place_at_is, place_octets, keep}
use Rattle.rds_book.proofs.Written.{three_stores, rest_zero}
use Rattle.rds_book.proofs.keep.Goals as goal

pub returns : goal.returns
unfolding keep place_octets
returns c =
    let a = c.args in
    let n = length a.app.now in
    c.store-3.ensures
    ∙ rw (c.store-2.ensures, c.store.ensures, rest_zero (length a.app.now) c.requires.2) (three_stores a.book.now (place_at_is a.p) a.x.tag a.x.own a.x.peer a.x.format a.app.now (drop n (replicate app_most 0)))
