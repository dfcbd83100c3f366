-- Each turn passes one place more.
use mathlib.Core.Path.{sym, ◌∙◌}
use Rattle.base_lists.proofs.StoresAndParts.{every_none, every_more, every_fails}
use Rattle.base_lists.proofs.Every.{every_done}
use Rattle.rds_book.specs.Book.{place_ok}
use Rattle.std.proofs.Common.{rules}
use Rattle.rds_book.proofs.places_ok.Goals as goal

pub loop-p-preserved : goal.loop-p-preserved
loop-p-preserved c =
    let l = c.loop-p in
    let a = c.args in
    (search rules, every_more (place_ok a.book.now) l.p (sym c.place_ok.ensures ∙ c.if-not-place_ok.false) l.invariant.1)

pub returns-then-not-place_ok : goal.returns-then-not-place_ok
returns-then-not-place_ok c =
    let l = c.loop-p in
    let a = c.args in
    sym (every_fails (place_ok a.book.now) 16 l.p c.loop-p-test.true (sym c.place_ok.ensures ∙ c.if-not-place_ok.true))

pub returns : goal.returns
returns c =
    let l = c.loop-p in
    let a = c.args in
    sym (every_done (place_ok a.book.now) 16 l.p l.invariant.0 c.loop-p-test.false l.invariant.1)

pub loop-p-init : goal.loop-p-init
loop-p-init c = (search rules, every_none (place_ok c.args.book.now))
