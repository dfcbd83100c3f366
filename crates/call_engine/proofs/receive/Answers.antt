-- `call_engine::receive` meets its contract: judged, and the turn carried out that the PDU brings, or the time alone stored. Assumes nothing.
use mathlib.Core.List.{[]}
use mathlib.Core.Path.{refl}
use lib.ListN.{length}
use Rattle.step_outcome.specs.Carry.{lent}
use Rattle.call_plans.specs.Calls.{Call}
use Rattle.call_request.proofs.Passed.{has_header}
use Rattle.law_plans_sound.proofs.CallSound.{call_sound}
use Rattle.call_engine.proofs.Carrying.{goes_ready, refused_so, gone_so, sound_ready}
use Rattle.call_engine.proofs.Idle.{idle_so}
use Rattle.call_engine.proofs.Received.{refuses, enters, rests, turns, ranged}
use Rattle.call_engine.proofs.receive.Goals as goal

pub receive_turn-requires : goal.receive_turn-requires
receive_turn-requires c = (enters c.args.table.now (length c.args.store.now) (length c.args.output.now) c.args.time c.args.peer c.args.octets.now _ c.receive_refusal.ensures c.in-Ok.is).fitting.formed

pub idle-requires : goal.idle-requires
idle-requires c = (has_header _ (enters c.args.table.now (length c.args.store.now) (length c.args.output.now) c.args.time c.args.peer c.args.octets.now _ c.receive_refusal.ensures c.in-Ok.is).fitting.formed, c.requires)

pub carry-requires-clause-ready : goal.carry-requires-clause-ready
carry-requires-clause-ready c =
    let l = lent c.args.table.now c.args.store.now c.args.output.now c.args.octets.now [] in
    let sound = call_sound (Call.Receive c.args.time c.args.peer) l refl in
    goes_ready l _ _ (turns c.args.table.now (length c.args.store.now) (length c.args.output.now) c.args.time c.args.peer c.args.octets.now _ c.receive_refusal.ensures c.in-Ok.is _ c.receive_turn.ensures _ c.in-Some.is) (sound_ready _ _ sound)

pub carry-requires-clause-in_range : goal.carry-requires-clause-in_range
carry-requires-clause-in_range c = ranged c.args.table.now (length c.args.store.now) (length c.args.output.now) c.args.time c.args.peer c.args.octets.now _ c.receive_refusal.ensures c.in-Ok.is _ c.receive_turn.ensures _ c.in-Some.is

pub returns-in-Err : goal.returns-in-Err
returns-in-Err c =
    let l = lent c.args.table.now c.args.store.now c.args.output.now c.args.octets.now [] in
    refused_so l _ _ _ _ c.from.ensures (refuses c.args.table.now (length c.args.store.now) (length c.args.output.now) c.args.time c.args.peer c.args.octets.now _ c.receive_refusal.ensures _ c.in-Err.is)

pub returns-in-None : goal.returns-in-None
returns-in-None c =
    let l = lent c.args.table.now c.args.store.now c.args.output.now c.args.octets.now [] in
    gone_so l _ _ _ _ (rests c.args.table.now (length c.args.store.now) (length c.args.output.now) c.args.time c.args.peer c.args.octets.now _ c.receive_refusal.ensures c.in-Ok.is _ c.receive_turn.ensures c.in-None.is) (idle_so l _ _ _ _ _ c.idle.ensures)

pub returns-in-Some : goal.returns-in-Some
returns-in-Some c =
    let l = lent c.args.table.now c.args.store.now c.args.output.now c.args.octets.now [] in
    gone_so l _ _ _ _ (turns c.args.table.now (length c.args.store.now) (length c.args.output.now) c.args.time c.args.peer c.args.octets.now _ c.receive_refusal.ensures c.in-Ok.is _ c.receive_turn.ensures _ c.in-Some.is) c.carry.ensures
