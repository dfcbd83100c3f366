-- One turn says one entry more.
use Rattle.std.proofs.Common.{◌≡◌, ℕ, refl, sym, ap, ◌∙◌, arith, length}
use lib.ListN.{length-set}
use lib.Seq.{take_all}
use Rattle.base_lists.specs.Seq.{tab}
use Rattle.rds_said.specs.Said.{entry_said, list_said}
use Rattle.rds_said.proofs.Entries.{one_more_said}
use Rattle.rds_said.proofs.list_said.Goals as goal

pub loop-k-init : goal.loop-k-init
unfolding tab
loop-k-init c = (omega arith, ap length c.none-list.ensures, refl)

pub loop-k-preserved : goal.loop-k-preserved
loop-k-preserved c =
    let l = c.loop-k in
    (omega arith, simp length-set (omega arith), one_more_said (entry_said c.args.words.now c.args.formats c.args.count) l.list l.k _ (omega arith) l.invariant.2 c.entry_said.ensures)

pub returns : goal.returns
unfolding list_said
returns c =
    let l = c.loop-k in
    let all : l.k ≡ 15 = omega arith in
    sym (take_all l.k l.list (omega arith)) ∙ l.invariant.2 ∙ ap (λ (n : ℕ). tab (entry_said c.args.words.now c.args.formats c.args.count) n 0) all
