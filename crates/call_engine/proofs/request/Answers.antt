-- `call_engine::request` meets its contract: judged, and carried out at its place. Assumes nothing.
use mathlib.Core.List.{[]}
use mathlib.Core.Path.{refl, sym, ◌∙◌}
use lib.ListN.{length}
use Rattle.step_outcome.specs.Carry.{lent}
use Rattle.call_plans.specs.Calls.{Call, as_request}
use Rattle.call_request.proofs.Staged.{plan_refuses}
use Rattle.law_plans_sound.proofs.CallSound.{call_sound}
use Rattle.call_engine.proofs.Carrying.{refused_so, sound_ready}
use Rattle.call_engine.proofs.Opened.{header, data_fits, ready, ranged, so}
use Rattle.call_engine.proofs.request.Goals as goal

pub request_opens-coming-requires : goal.request_opens-coming-requires
request_opens-coming-requires c =
    let l = lent c.args.table.now c.args.store.now c.args.output.now c.args.user.now [] in
    let q = as_request c.args.time c.args.peer c.args.class c.args.user_ack (length c.args.user.now) in
    header l q _ (sym c.in-Ok.is ∙ c.request_place.ensures)

pub request_given-g-requires : goal.request_given-g-requires
request_given-g-requires c =
    let l = lent c.args.table.now c.args.store.now c.args.output.now c.args.user.now [] in
    let q = as_request c.args.time c.args.peer c.args.class c.args.user_ack (length c.args.user.now) in
    data_fits l q _ (sym c.in-Ok.is ∙ c.request_place.ensures)

pub carry-requires-clause-ready : goal.carry-requires-clause-ready
carry-requires-clause-ready c =
    let l = lent c.args.table.now c.args.store.now c.args.output.now c.args.user.now [] in
    let q = as_request c.args.time c.args.peer c.args.class c.args.user_ack (length c.args.user.now) in
    let sound = call_sound (Call.Request c.args.time c.args.peer c.args.class c.args.user_ack) l refl in
    ready l q _ (sym c.in-Ok.is ∙ c.request_place.ensures) _ _ _ c.request_opens-coming.ensures c.request_given-g.ensures c.request_call-c.ensures (sound_ready _ _ sound)

pub carry-requires-clause-in_range : goal.carry-requires-clause-in_range
carry-requires-clause-in_range c =
    let l = lent c.args.table.now c.args.store.now c.args.output.now c.args.user.now [] in
    let q = as_request c.args.time c.args.peer c.args.class c.args.user_ack (length c.args.user.now) in
    ranged l q _ (sym c.in-Ok.is ∙ c.request_place.ensures) _ _ _ c.request_opens-coming.ensures c.request_given-g.ensures c.request_call-c.ensures

pub returns-in-Err : goal.returns-in-Err
returns-in-Err c =
    let l = lent c.args.table.now c.args.store.now c.args.output.now c.args.user.now [] in
    let q = as_request c.args.time c.args.peer c.args.class c.args.user_ack (length c.args.user.now) in
    refused_so l _ _ _ _ c.from.ensures (plan_refuses _ _ _ q _ (sym c.in-Err.is ∙ c.request_place.ensures))

pub returns-in-Ok : goal.returns-in-Ok
returns-in-Ok c =
    let l = lent c.args.table.now c.args.store.now c.args.output.now c.args.user.now [] in
    let q = as_request c.args.time c.args.peer c.args.class c.args.user_ack (length c.args.user.now) in
    so l q _ (sym c.in-Ok.is ∙ c.request_place.ensures) _ _ _ c.request_opens-coming.ensures c.request_given-g.ensures c.request_call-c.ensures _ _ c.carry.ensures
