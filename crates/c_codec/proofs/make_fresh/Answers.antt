-- The answer and the table are those of the fresh-table call.
use Rattle.std.proofs.Common.{refl}
use Rattle.c_codec.proofs.Outcomes.{freshly}
use Rattle.c_codec.proofs.make_fresh.Goals as goal

pub returns-in-Ok : goal.returns-in-Ok
returns-in-Ok c =
    let f = freshly c.args.table.now c.args.settings.now c.args.first_tid _ _ c.make_fresh.ensures in
    rw (f.1, ← f.0, c.in-Ok.is) (refl, refl)

pub returns-in-Err : goal.returns-in-Err
returns-in-Err c =
    let f = freshly c.args.table.now c.args.settings.now c.args.first_tid _ _ c.make_fresh.ensures in
    rw (f.1, ← f.0, c.in-Err.is) (c.from.ensures, refl)
