-- After i turns the first i words are the same.
use native.Mathlib.Omega.{arith}
use mathlib.Core.Path.{◌≡◌, sym, ◌∙◌}
use borrow.Author.Tests.{eq-eqb, ne_eqb}
use Rattle.base_lists.proofs.StoresAndParts.{every_none, every_more, every_fails}
use Rattle.rds_words.specs.Words.{words_of}
use Rattle.rds_writing.specs.Write.{same_words}
use Rattle.rds_writing.proofs.Own.{own_words_holds}
use Rattle.rds_writing.proofs.same_words.Invariants.{Same}
use Rattle.rds_writing.proofs.same_words.Goals as goal

pub loop-i-preserved : goal.loop-i-preserved
loop-i-preserved c =
    let l = c.loop-i in
    let w = c.args.words.now in
    (omega arith, every_more (Same c.store_fields.new.fields w) l.i (eq-eqb _ _ c.if-own-i.false) l.invariant.1)

pub returns-then-own-i : goal.returns-then-own-i
unfolding same_words
returns-then-own-i c =
    let w = c.args.words.now in
    let f = c.args.f in
    let is : c.store_fields.new.fields ≡ words_of f = c.store_fields.ensures ∙ own_words_holds f c.requires.1 in
    sym (every_fails (Same (words_of f) w) 100 c.loop-i.i c.loop-i-test.true (rw is at (ne_eqb _ _ c.if-own-i.true)))

pub returns : goal.returns
unfolding same_words
returns c =
    let w = c.args.words.now in
    let f = c.args.f in
    let l = c.loop-i in
    let is : c.store_fields.new.fields ≡ words_of f = c.store_fields.ensures ∙ own_words_holds f c.requires.1 in
    let all : l.i ≡ 100 = omega arith in
    sym (rw (is, all) at l.invariant.1)

pub loop-i-init : goal.loop-i-init
loop-i-init c = (omega arith, every_none (Same c.store_fields.new.fields c.args.words.now))
