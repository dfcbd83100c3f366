-- `call_engine::primitive` meets its contract: judged, and carried out at its place. Assumes nothing.
use mathlib.Core.Path.{sym, ◌∙◌}
use Rattle.step_outcome.specs.Carry.{lent}
use Rattle.call_primitive.proofs.Placing.{plan_refuses}
use Rattle.call_engine.proofs.Carrying.{refused_so}
use Rattle.call_engine.proofs.Taken.{placing, ready, ranged, so}
use Rattle.call_engine.proofs.primitive.Goals as goal

pub primitive_row-coming-requires : goal.primitive_row-coming-requires
primitive_row-coming-requires c =
    let l = lent c.args.table.now c.args.store.now c.args.output.now c.args.given.now c.args.exit.now in
    (placing l c.args.p _ (sym c.in-Ok.is ∙ c.primitive_place.ensures)).whole.there

pub primitive_given-g-requires : goal.primitive_given-g-requires
primitive_given-g-requires c =
    let l = lent c.args.table.now c.args.store.now c.args.output.now c.args.given.now c.args.exit.now in
    let k = placing l c.args.p _ (sym c.in-Ok.is ∙ c.primitive_place.ensures) in
    (k.message, k.exit)

pub carry-requires-clause-ready : goal.carry-requires-clause-ready
carry-requires-clause-ready c =
    let l = lent c.args.table.now c.args.store.now c.args.output.now c.args.given.now c.args.exit.now in
    ready l c.args.p _ (sym c.in-Ok.is ∙ c.primitive_place.ensures) _ _ _ c.primitive_row-coming.ensures c.primitive_given-g.ensures c.primitive_call-c.ensures c.requires.plan_ready

pub carry-requires-clause-in_range : goal.carry-requires-clause-in_range
carry-requires-clause-in_range c =
    let l = lent c.args.table.now c.args.store.now c.args.output.now c.args.given.now c.args.exit.now in
    ranged l c.args.p _ (sym c.in-Ok.is ∙ c.primitive_place.ensures) _ _ _ c.primitive_row-coming.ensures c.primitive_given-g.ensures c.primitive_call-c.ensures

pub returns-in-Err : goal.returns-in-Err
returns-in-Err c =
    let l = lent c.args.table.now c.args.store.now c.args.output.now c.args.given.now c.args.exit.now in
    refused_so l _ _ _ _ c.from.ensures (plan_refuses _ _ _ c.args.p _ (sym c.in-Err.is ∙ c.primitive_place.ensures))

pub returns-in-Ok : goal.returns-in-Ok
returns-in-Ok c =
    let l = lent c.args.table.now c.args.store.now c.args.output.now c.args.given.now c.args.exit.now in
    so l c.args.p _ (sym c.in-Ok.is ∙ c.primitive_place.ensures) _ _ _ c.primitive_row-coming.ensures c.primitive_given-g.ensures c.primitive_call-c.ensures _ _ c.carry.ensures
