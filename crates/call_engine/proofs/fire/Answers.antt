-- `call_engine::fire` meets its contract, from its callees' contracts. Assumes nothing.
use mathlib.Core.List.{[]}
use Rattle.step_outcome.specs.Carry.{lent}
use Rattle.call_engine.proofs.Fired.{ready, ranged, so}
use Rattle.call_engine.proofs.fire.Goals as goal

pub carry-requires-clause-ready : goal.carry-requires-clause-ready
carry-requires-clause-ready c =
    let l = lent c.args.table.now c.args.store.now c.args.output.now [] [] in
    ready l _ _ _ _ _ c.fired_row-coming.ensures c.fired_given-g.ensures c.fired_call-c.ensures c.requires.ready

pub carry-requires-clause-in_range : goal.carry-requires-clause-in_range
carry-requires-clause-in_range c =
    let l = lent c.args.table.now c.args.store.now c.args.output.now [] [] in
    let k = c.requires.record_size_in_bounds in
    ranged l _ _ _ _ _ c.fired_row-coming.ensures c.fired_given-g.ensures c.fired_call-c.ensures k.2 k.1 k.3

pub returns : goal.returns
returns c =
    let l = lent c.args.table.now c.args.store.now c.args.output.now [] [] in
    so l _ _ _ _ _ c.fired_row-coming.ensures c.fired_given-g.ensures c.fired_call-c.ensures _ _ c.carry.ensures
