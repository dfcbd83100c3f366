-- `call_engine::fire_named` meets its contract: judged, and the record at its place fired. Assumes nothing.
use mathlib.Core.List.{[]}
use mathlib.Core.Path.{sym, ◌∙◌}
use Rattle.step_outcome.specs.Carry.{lent}
use Rattle.call_engine.proofs.Carrying.{refused_so}
use Rattle.call_engine.proofs.NamedFiring.{known, ready, so, refuses}
use Rattle.call_engine.proofs.fire_named.Goals as goal

pub fire-requires-clause-ready : goal.fire-requires-clause-ready
fire-requires-clause-ready c =
    ready c.args.table.now c.args.store.now c.args.output.now c.args.time c.args.role c.args.peer c.args.tid _ (sym c.in-Ok.is ∙ c.fire_place.ensures)

pub fire-requires-clause-record_size_in_bounds : goal.fire-requires-clause-record_size_in_bounds
fire-requires-clause-record_size_in_bounds c =
    let k = known c.args.table.now c.args.store.now c.args.output.now c.args.time c.args.role c.args.peer c.args.tid _ (sym c.in-Ok.is ∙ c.fire_place.ensures) in
    (k.0.there, k.0.small, k.0.tid, k.1)

pub returns-in-Err : goal.returns-in-Err
returns-in-Err c =
    let l = lent c.args.table.now c.args.store.now c.args.output.now [] [] in
    refused_so l _ _ _ _ c.from.ensures (refuses c.args.table.now c.args.store.now c.args.output.now c.args.time c.args.role c.args.peer c.args.tid _ (sym c.in-Err.is ∙ c.fire_place.ensures))

pub returns-in-Ok : goal.returns-in-Ok
returns-in-Ok c =
    so c.args.table.now c.args.store.now c.args.output.now c.args.time c.args.role c.args.peer c.args.tid _ (sym c.in-Ok.is ∙ c.fire_place.ensures) _ _ c.fire.ensures
