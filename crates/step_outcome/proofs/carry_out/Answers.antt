-- `step_outcome::carry_out` meets its contract: table, cell and output, one after the other. Assumes nothing.
use Rattle.step_plan.specs.Steps.{step_of}
use Rattle.step_outcome.proofs.Carried.{sends_still, carried}
use Rattle.step_outcome.proofs.carry_out.Goals as goal

pub send_pdu-requires-clause-fit_out : goal.send_pdu-requires-clause-fit_out
unfolding step_of
send_pdu-requires-clause-fit_out c =
    let a = c.args in
    sends_still _ (step_of a.turn a.changes a.h a.c) _ _ _ c.commit.ensures c.write_cell.ensures c.sender_of-by.ensures c.requires.ready

pub returns : goal.returns
unfolding step_of
returns c =
    let a = c.args in
    carried _ (step_of a.turn a.changes a.h a.c) _ _ _ c.commit.ensures c.write_cell.ensures c.sender_of-by.ensures _ _ c.send_pdu.ensures

pub commit-requires-clause-record_size_in_bounds : goal.commit-requires-clause-record_size_in_bounds
unfolding step_of
commit-requires-clause-record_size_in_bounds c = (c.requires.ready.place, c.requires.ready.peer)

pub write_cell-requires : goal.write_cell-requires
unfolding step_of
write_cell-requires c = c.requires.ready.cell_fits
