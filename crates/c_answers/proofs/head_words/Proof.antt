-- `c_answers::head_words` meets its contract. Assumes nothing.
use native.Mathlib.Omega.{arith}
use mathlib.Core.Path.{refl}
use Rattle.c_answers.proofs.Words.{count_le}
use borrow.Author.Rules.{rules}
use Rattle.c_answers.proofs.head_words.Statement.{statement}
use Rattle.c_answers.proofs.head_words.Tie as tie

add_count : tie.Need-overflow_add-count
add_count c =
    let a = c.before.before.args in
    omega (arith, c.shown_count-2.ensures, c.before.shown_count.ensures, count_le a.first, count_le a.second)

pub head_words_spec : {M : Type 1} → statement M
head_words_spec =
    tie.close (tie.spec
    (λ c κs. search rules) (λ c κs. search rules) add_count (λ c κs. search rules) (λ c κs. search rules)
    (λ c. rw (c.told_fired.ensures, c.before.told_tid.ensures, c.before.before.shown_count-2.ensures, c.before.before.before.shown_count.ensures) refl))
