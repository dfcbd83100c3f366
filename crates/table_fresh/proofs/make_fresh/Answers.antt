-- The answer is that of the test, and the table is what the answer says.
use Rattle.std.proofs.Common.{◌≡◌, ◌∙◌, ℕ, length, sym, arith}
use Rattle.table_fresh.proofs.Sizes.{size_told}
use Rattle.table_fresh.proofs.Ranges.{in_range_holds}
use Rattle.table_fresh.proofs.Answers.{accepted}
use Rattle.table_fresh.proofs.make_fresh.Goals as goal

pub put_fresh-requires : goal.put_fresh-requires
put_fresh-requires c =
    let len : ℕ = length c.args.table.now in
    let g = accepted len c.args.settings.now c.args.first_tid (sym c.fresh_answer.ensures ∙ c.in_ok-fresh_answer.was) in
    let n : length c.args.settings.now ≡ 32 = (in_range_holds c.args.settings.now c.args.first_tid g.1).words_32 in
    ((size_told len g.0).exact, omega arith)
