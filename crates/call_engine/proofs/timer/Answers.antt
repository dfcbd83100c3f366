-- `call_engine::timer` meets its contract: judged, and the due record fired, or the time alone stored. Assumes nothing.
use mathlib.Core.List.{[]}
use mathlib.Core.Path.{refl}
use lib.ListN.{length}
use Rattle.step_outcome.specs.Carry.{lent}
use Rattle.call_plans.specs.Calls.{Call}
use Rattle.call_request.proofs.Passed.{has_header, has_records}
use Rattle.law_plans_sound.proofs.CallSound.{call_sound}
use Rattle.call_engine.proofs.Carrying.{goes_ready, refused_so, gone_so, sound_ready}
use Rattle.call_engine.proofs.Idle.{idle_so}
use Rattle.call_engine.proofs.Fired.{refuses, enters, fires, rests, whole}
use Rattle.call_engine.proofs.timer.Goals as goal

pub records-requires : goal.records-requires
records-requires c = has_header _ (enters c.args.table.now (length c.args.store.now) (length c.args.output.now) c.args.time _ c.entry.ensures c.in-Ok.is).fitting.formed

pub due-requires : goal.due-requires
due-requires c = has_records _ _ (enters c.args.table.now (length c.args.store.now) (length c.args.output.now) c.args.time _ c.entry.ensures c.in-Ok.is).fitting.formed c.records.ensures

pub fire-requires-clause-ready : goal.fire-requires-clause-ready
fire-requires-clause-ready c =
    let l = lent c.args.table.now c.args.store.now c.args.output.now [] [] in
    let sound = call_sound (Call.Timer c.args.time) l (refl, refl) in
    goes_ready l _ _ (fires c.args.table.now (length c.args.store.now) (length c.args.output.now) c.args.time _ c.entry.ensures c.in-Ok.is _ _ c.records.ensures c.due.ensures _ c.in-Some.is) (sound_ready _ _ sound)

pub fire-requires-clause-record_size_in_bounds : goal.fire-requires-clause-record_size_in_bounds
fire-requires-clause-record_size_in_bounds c =
    let w = whole c.args.table.now (length c.args.store.now) (length c.args.output.now) c.args.time _ c.entry.ensures c.in-Ok.is _ _ c.records.ensures c.due.ensures _ c.in-Some.is in
    (w.there, w.small, w.tid, (enters c.args.table.now (length c.args.store.now) (length c.args.output.now) c.args.time _ c.entry.ensures c.in-Ok.is).bounded)

pub idle-requires : goal.idle-requires
idle-requires c = (has_header _ (enters c.args.table.now (length c.args.store.now) (length c.args.output.now) c.args.time _ c.entry.ensures c.in-Ok.is).fitting.formed, c.requires)

pub returns-in-Err : goal.returns-in-Err
returns-in-Err c =
    let l = lent c.args.table.now c.args.store.now c.args.output.now [] [] in
    refused_so l _ _ _ _ c.from.ensures (refuses c.args.table.now (length c.args.store.now) (length c.args.output.now) c.args.time _ c.entry.ensures _ c.in-Err.is)

pub returns-in-Some : goal.returns-in-Some
returns-in-Some c =
    let l = lent c.args.table.now c.args.store.now c.args.output.now [] [] in
    gone_so l _ _ _ _ (fires c.args.table.now (length c.args.store.now) (length c.args.output.now) c.args.time _ c.entry.ensures c.in-Ok.is _ _ c.records.ensures c.due.ensures _ c.in-Some.is) c.fire.ensures

pub returns-in-None : goal.returns-in-None
returns-in-None c =
    let l = lent c.args.table.now c.args.store.now c.args.output.now [] [] in
    gone_so l _ _ _ _ (rests c.args.table.now (length c.args.store.now) (length c.args.output.now) c.args.time _ c.entry.ensures c.in-Ok.is _ _ c.records.ensures c.due.ensures c.in-None.is) (idle_so l _ _ _ _ _ c.idle.ensures)
