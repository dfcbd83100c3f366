-- `step_sending::put_exit` meets its contract: the octets of the item are those of exit information. Assumes nothing.
use native.Mathlib.Omega.{arith}
use mathlib.Core.Path.{ap}
use lib.ListN.{length}
use Rattle.step_sending.proofs.Octets.{exit_room}
use Rattle.step_sending.proofs.Fits.{exit_fits}
use Rattle.step_sending.proofs.Straight.{exit_octets_holds}
use borrow.Author.Rules.{rules}
use Rattle.step_sending.proofs.put_exit.Statement.{statement}
use Rattle.step_sending.proofs.put_exit.Tie as tie

put_item_requires : tie.Need-put_item-requires
put_item_requires c κs =
    let b = c.before.before.before.before in
    let a = b.args in
    (exit_fits a.src.now a.by.exit_start a.by b.requires.0.0 b.requires.0.1, omega (arith, ap length (exit_octets_holds a.src.now a.by), exit_room a.src.now a.by b.requires.0.0 b.requires.0.1, b.requires.1))

returns : tie.Need-returns
returns c = let a = c.before.before.before.before.before.before.before.args in rw (exit_octets_holds a.src.now a.by) at c.before.before.put_item.ensures

pub put_exit_spec : {M : Type 1} → statement M
put_exit_spec = tie.close (tie.spec put_item_requires (λ c. search rules) returns)
